-- Cases A and J of 01 (crate programs): what the definition of the walk computes. (Case I is the table's, crate cases; its loop is among walk's own examples.)
use mathlib.Core.Path.{◌≡◌, refl}
use mathlib.Core.Bool.{true}
use mathlib.Core.List.{[], ◌∷◌}
use mathlib.Core.Option.{some, none as nothing}
use Rattle.part.specs.PartReq.{all, exist, none, more}
use Rattle.programs.specs.Programs.{module_a, module_j}
use Rattle.context.specs.RequiredContext.{variable}
use Rattle.walk.specs.Requests.{reported, fresh, requests}
use Rattle.walk.proofs.Compute.{answers}

-- asked: return value all. Every line of the report but `check` is in it.
pub case_a : (requests module_a (fresh module_a) (record { function = 0; retval = some all; globals = none } ∷ [])).0 ≡ (reported (record {
  required = true;
  context = record {
    globals = none;
    locals = more (variable 0) exist none;
    args = more (variable 0) (more 1 all none) none;
    retval = more (variable 0) all none;
  };
  exprs = some (more 1 all none) ∷ (some exist ∷ (some (more 1 all none) ∷ (some all ∷ [])));
  marks = 1 ∷ (1 ∷ (1 ∷ (1 ∷ [])));
  visits = 8;
  bytes = 1 ∷ (1 ∷ (1 ∷ (1 ∷ [])));
}) ∷ [])
unfolding answers
case_a = refl

-- global 0 asked, all: the second mark, of statement 1, is no
pub case_j : (requests module_j (fresh module_j) (record { function = 0; retval = nothing; globals = more (variable 0) all none } ∷ [])).0 ≡ (reported (record {
  required = true;
  context = record { globals = more (variable 0) exist none; locals = none; args = more (variable 1) all (more (variable 2) all none); retval = none };
  exprs = nothing ∷ (some all ∷ (some all ∷ (some exist ∷ [])));
  marks = 1 ∷ (0 ∷ (1 ∷ (1 ∷ [])));
  visits = 7;
  bytes = 1 ∷ (0 ∷ (1 ∷ (1 ∷ [])));
}) ∷ [])
unfolding answers
case_j = refl

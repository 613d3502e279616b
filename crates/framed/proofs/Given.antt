-- What the laws here take for granted of a function: reading guarantees it, and that nothing of it is blamed says that each expression is judged and each statement fits.
use Prim.Native.Nat.{ℕ, ◌+◌, ◌<◌}
use mathlib.Core.Path.{◌≡◌, refl}
use mathlib.Core.Bool.{Bool, true}
use mathlib.Core.List.{List, [], ◌∷◌}
use mathlib.Core.Option.{Option, some, none as nothing}
use lib.ListN.{length, get_or}
use Rattle.part.proofs.Equations.{never}
use Rattle.module.specs.Module.{Statement}
use Rattle.valid.specs.Valid.{FunctionValid, Valid}
use Rattle.clearance.specs.Scope.{Scope, typed}
use Rattle.clearance.specs.Tree.{Tree}
use Rattle.clearance.specs.Judged.{fits_statement, failing, lower, lowest, blamed_expression, blamed_statement}
use Rattle.clearance.proofs.Small.{cases, neither}
use Rattle.clearance.proofs.Lowest.{no_member, fails_failing}
use Rattle.clearance.proofs.JudgedExpressions.{expression_exactly}
use Rattle.clearance.proofs.Blamed.{expressions-exactly}
use Rattle.judge.proofs.Equivalence.{lower_types}
use Rattle.framed.specs.Given.{Read, Judged}

pub read_function : (S : Scope) (entries : List Bool) → Valid S.program → FunctionValid (length S.program.types) (length S.program.globals) entries S.function → Read S
unfolding typed
read_function S entries v f =
    record {
      lower = lower_types S.program v;
      operands = λ e l. (f.parts.each_expression e _ l).operands;
      names = λ e l. (f.parts.each_expression e _ l).names;
    }

pub judged_function : (S : Scope) → blamed_expression S ≡ nothing → Judged S
judged_function S h = record { each = λ e l. (expression_exactly S e).1 ((expressions-exactly S).0 h e l) }

none_blamed : (l : List ℕ) → lowest l ≡ nothing → l ≡ []
unfolding lowest
none_blamed [] h = refl
none_blamed (n ∷ l) h = go (lowest l) h
  where
    go : (o : Option ℕ) → lower n o ≡ nothing → n ∷ l ≡ []
    go nothing h = never (unfold lower in cc)
    go (some m) h = never (unfold lower in cc)

pub statements-fit : (S : Scope) (body : Tree) → blamed_statement S body ≡ nothing → (n : ℕ) (d : Statement) → n < length S.function.statements → fits_statement S (get_or S.function.statements n d) ≡ true
unfolding blamed_statement
statements-fit S body h n d l =
    let e = (neither (failing (λ n x. fits_statement S x) 0 S.function.statements) _ (none_blamed _ h)).0 in
    cases (fits_statement S (get_or S.function.statements n d)) (λ t. t)
    (λ f. no_member (0 + n) _ e (fails_failing (λ n x. fits_statement S x) d 0 S.function.statements n l f))

-- 01's "Cases to prove", a field each, under its letter. A part is written as its entries: `none` is {}, `more 1 all none` is {1:all}. Cases A, I and J begin with the bytes of a file and
-- of a request on it: `report` reads both, one behind the other.
use Rattle.std.specs.Prelude.{ℕ, ◌≤◌, ◌≡◌, true, false, List, [], ◌∷◌, ◌++◌, length, replicate, get_or}
use Rattle.std.proofs.Math.Option.{Option, some, none as nothing}
use Rattle.std.proofs.lemmas.List.Edits.{sets}
use Rattle.field.specs.Limits.{min_report}
use Rattle.part.specs.PartReq.{all, exist, none, more, contains, add, from_indexes}
use Rattle.module.specs.Module.{TypeHandle, TypeInner, Scalar, Vector, Array, Opaque, Module}
use Rattle.module.specs.File.{accepted, read_module}
use Rattle.context.specs.Remove.{left, remove}
use Rattle.context.specs.RequiredContext.{variable}
use Rattle.request.specs.Request.{Request, asking}
use Rattle.programs.specs.Files.{file_a, pointer_file_a, file_i, file_j, return_all, global_all}
use Rattle.programs.specs.Programs.{module_a, function_a, module_j, function_j}
use Rattle.programs.specs.Texts.{lines, text_a, text_i, text_j}
use Rattle.walk.specs.State.{at_statement}
use Rattle.walk.specs.Requests.{Answer, Report, reported, fresh, requests}
use Rattle.pruner.specs.Form.{min_pruner}
use Rattle.requests.specs.Answer.{min_answer}
use Rattle.requests.specs.ReadAnswer.{answered_of, read_answer}
use Rattle.requests.specs.Serve.{visited, refused_at, Lent, serve}
use Rattle.clearance.specs.Verdict as verdict
use Rattle.report_text.specs.Input.{judged_of, report_input}
use Rattle.cases.specs.Buffers.{totals_a, answer_a, totals_j, answer_j}

-- the type t is of this kind
abbrev pub Is : List TypeInner → TypeHandle → TypeInner → Type 0
Is types t inner = get_or types t Opaque ≡ inner

pub data ScalarOrArray : TypeInner → Type 0 where
  scalar : ScalarOrArray Scalar
  array : (base : TypeHandle) (count : ℕ) → ScalarOrArray (Array base count)

-- what one request is answered, with a pruner of its own
abbrev pub answer_of : Module → Request → List Answer
answer_of m q = (requests m (fresh m) (q ∷ [])).0

-- the report of case A
abbrev pub report_a : Report
report_a =
    record {
      required = true;
      context =
          record {
            globals = none;
            locals = more (variable 0) exist none;
            args = more (variable 0) (more 1 all none) none;
            retval = more (variable 0) all none;
          };
      exprs = some (more 1 all none) ∷ some exist ∷ some (more 1 all none) ∷ some all ∷ [];
      marks = 1 ∷ 1 ∷ 1 ∷ 1 ∷ [];
      visits = 8;
      bytes = 1 ∷ 1 ∷ 1 ∷ 1 ∷ [];
    }

-- the report of case J: mark 1 is no
abbrev pub report_j : Report
report_j =
    record {
      required = true;
      context =
          record {
            globals = more (variable 0) exist none;
            locals = none;
            args = more (variable 1) all (more (variable 2) all none);
            retval = none;
          };
      exprs = nothing ∷ some all ∷ some all ∷ some exist ∷ [];
      marks = 1 ∷ 0 ∷ 1 ∷ 1 ∷ [];
      visits = 7;
      bytes = 1 ∷ 0 ∷ 1 ∷ 1 ∷ [];
    }

-- buffers that are long enough, the pruner's with nothing asked yet
pub record Ready (lent : Lent) : Type 0 where
  pub pruner_long : min_pruner ≤ length lent.pruner
  pub report_long : min_report ≤ length lent.report
  pub answer_long : min_answer ≤ length lent.answer
  pub first_zero : get_or lent.pruner 0 0 ≡ 0
  pub second_zero : get_or lent.pruner 1 0 ≡ 0

-- the buffers with these bytes at their front
abbrev pub written : Lent → (totals marks answer : List ℕ) → Lent
written lent totals marks answer =
    record { pruner = sets lent.pruner 0 totals; report = sets lent.report 0 marks; answer = sets lent.answer 0 answer }

pub record Cases : Type 0 where
  -- Asked: return value all. It prints, whole:
  pub A : report_input (file_a ++ return_all) ≡ text_a ++ lines ("check clear" ∷ [])
  -- the same where the file has a pointer to the three-vector.
  pub A_pointer : report_input (pointer_file_a ++ return_all) ≡ text_a ++ lines ("check clear" ∷ [])
  -- The visits, and what is left in the buffers; a caller reads the answer as the report.
  pub A_buffers : (lent : Lent) → Ready lent → serve file_a return_all lent ≡ (visited 8, written lent totals_a (1 ∷ 1 ∷ 1 ∷ 1 ∷ []) answer_a)
  pub A_read : read_answer 4 answer_a ≡ some (answered_of report_a)
  -- Of the module that the file means, and of the report of its walk, the clearance by its definition: clear
  pub A_module : read_module file_a ≡ accepted module_a
  pub A_walk : answer_of module_a (asking 0 (some all) none) ≡ (reported report_a ∷ [])
  pub A_check : verdict.clearance (record { program = module_a; function = function_a 1 }) (record { globals = none; value = all }) (judged_of report_a)
      ≡ verdict.clear
  -- exist does not contain the empty part.
  pub B : contains exist none ≡ false
  -- {0:all} joined with {1:exist} is {0:all,1:exist}.
  pub C : add (more 0 all none) (more 1 exist none) ≡ more 0 all (more 1 exist none)
  -- {1:all} taken from all of a three-vector leaves {0:all,1:exist,2:all};
  pub D : (types : List TypeInner) (t : TypeHandle) → Is types t (Vector 3)
      → remove types all (more 1 all none) (some t) ≡ left (more 0 all (more 1 exist (more 2 all none)))
  -- from a scalar or array, all.
  pub E : (types : List TypeInner) (t : TypeHandle) (inner : TypeInner) → ScalarOrArray inner → Is types t inner
      → remove types all (more 1 all none) (some t) ≡ left all
  -- all taken from {0:all} leaves exist.
  pub F : (types : List TypeInner) (t : Option TypeHandle) → remove types (more 0 all none) all t ≡ left exist
  -- path without index is all.
  pub G : from_indexes [] ≡ all
  -- index 1, then 2, is {1:{2:all}}: a path is followed from its end, so its last index stands first.
  pub H : from_indexes (2 ∷ 1 ∷ []) ≡ more 1 (more 2 all none) none
  -- loop body a=b; b=c, all locals, a returned: refusal 14, at the loop. The buffers stay.
  pub I : report_input (file_i ++ return_all) ≡ text_i
  pub I_buffers : (lent : Lent) → Ready lent → serve file_i return_all lent ≡ (refused_at 14 (at_statement 0 4), lent)
  -- global 0 asked, all: mark 1 is no, not clear at 1.
  pub J : report_input (file_j ++ global_all) ≡ text_j ++ lines ("check stmt 1" ∷ [])
  pub J_buffers : (lent : Lent) → Ready lent → serve file_j global_all lent ≡ (visited 7, written lent totals_j (1 ∷ 0 ∷ 1 ∷ 1 ∷ []) answer_j)
  pub J_read : read_answer 4 answer_j ≡ some (answered_of report_j)
  -- The clearance by its definition: at 1.
  pub J_module : read_module file_j ≡ accepted module_j
  pub J_walk : answer_of module_j (asking 0 nothing (more (variable 0) all none)) ≡ (reported report_j ∷ [])
  pub J_check : verdict.clearance (record { program = module_j; function = function_j }) (record { globals = more (variable 0) all none; value = none })
      (judged_of report_j)
      ≡ verdict.at_statement 1
  -- Zeros are buffers as A, I and J ask for.
  pub zeros : (pruner report answer : ℕ) → min_pruner ≤ pruner → min_report ≤ report → min_answer ≤ answer
      → Ready (record { pruner = replicate pruner 0; report = replicate report 0; answer = replicate answer 0 })

-- Requests over one pruner: what each answers, and the totals that are left.
use Rattle.std.specs.Prelude.{ℕ, suc, ◌+◌, Bool, cond, List, [], ◌∷◌, ◌++◌, ltb, eqb, length, replicate, get_or}
use Rattle.std.proofs.Math.Option.{Option, some, none as nothing}
use Rattle.field.specs.Limits.{max_pieces}
use Rattle.part.specs.PartReq.{PartReq, none, entries}
use Rattle.module.specs.Module.{FunctionHandle, Function, Module}
use Rattle.request.specs.Request.{Request}
use Rattle.context.specs.RequiredContext.{RequiredContext, return_entry}
use Rattle.walk.specs.State.{Records, FunctionReq, State, Place, nowhere, Out, went, halt, Walk, ◌>>=◌, total_pieces}
use Rattle.walk.specs.Marks.{stretch}
use Rattle.walk.specs.Function.{add_function}

-- `Pruner`: the running totals of globals and of each function
pub record Pruner : Type 0 where
  pub globals : PartReq
  pub functions : List (Option FunctionReq)

-- `Pruner::new`
unfoldable pub fresh : Module → Pruner
fresh m = record { globals = none; functions = replicate (length m.functions) nothing }

-- 01 calls it a report. `marks` are the asked function's own; `bytes` those of every function, as they stand in the report buffer.
pub record Report : Type 0 where
  pub required : Bool
  pub context : RequiredContext
  pub exprs : Records
  pub marks : List ℕ
  pub visits : ℕ
  pub bytes : List ℕ

pub data Answer : Type 0 where
  reported : Report → Answer
  refused : ℕ → Place → Answer

-- 16 at the request's end: the totals alone
unfoldable pub end_count : State → ℕ
end_count st = entries st.globals + total_pieces st.functions

unfoldable pub ended : Bool → Walk Bool
ended required st = cond (ltb max_pieces (end_count st)) (halt 16 nowhere) (went st required)

-- the state in which a request begins: no visits yet
unfoldable pub begun : Pruner → State
begun pruner =
    record {
      context = record { globals = none; locals = none; args = none; retval = none };
      exprs = [];
      marks = [];
      globals = pruner.globals;
      functions = pruner.functions;
      visits = 0;
    }

-- `add_function` or `add_entrypoint`
unfoldable pub walk_request : Module → Pruner → Request → Out Bool
walk_request m pruner q =
    add_function m q.function nowhere 0 q.globals (return_entry q.retval) (begun pruner) >>= λ st required. ended required st

unfoldable pub total_marks : Module → FunctionHandle → Option FunctionReq → List ℕ
total_marks m f nothing = replicate (stretch m f) 0
total_marks m f (some total) = total.marks

-- The marks of functions from f on, as many as the list has: the asked function's from this walk, others' totals, else 0.
unfoldable pub bytes_from : Module → (asked : FunctionHandle) → State → (f : FunctionHandle) → List Function → List ℕ
bytes_from m asked st f [] = []
bytes_from m asked st f (x ∷ fs) =
    cond (eqb f asked) st.marks (total_marks m f (get_or st.functions f nothing)) ++ bytes_from m asked st (suc f) fs

-- how many bytes that is
unfoldable pub stretches_from : Module → (f : FunctionHandle) → List Function → ℕ
stretches_from m f [] = 0
stretches_from m f (x ∷ fs) = stretch m f + stretches_from m (suc f) fs

unfoldable pub report_of : Module → FunctionHandle → State → Bool → Report
report_of m f st required =
    record {
      required = required;
      context = st.context;
      exprs = st.exprs;
      marks = st.marks;
      visits = st.visits;
      bytes = bytes_from m f st 0 m.functions;
    }

-- an answer, with the pruner that is left: a refusal leaves it as it was
abbrev pub answered : Module → Pruner → FunctionHandle → Out Bool → Answer × Pruner
answered m pruner f (went st required) =
    (reported (report_of m f st required), record { globals = st.globals; functions = st.functions })
answered m pruner f (halt n at) = (refused n at, pruner)

unfoldable pub request : Module → Pruner → Request → Answer × Pruner
request m pruner q = answered m pruner q.function (walk_request m pruner q)

-- a list of requests, one after the other
unfoldable pub requests : Module → Pruner → List Request → List Answer × Pruner
requests m pruner [] = ([], pruner)
requests m pruner (q ∷ qs) =
    let first = request m pruner q in
    let rest = requests m first.1 qs in
    (first.0 ∷ rest.0, rest.1)

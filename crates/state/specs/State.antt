-- The state of a walk, as memory has it.
use Rattle.std.specs.Prelude.{ℕ, ◌+◌, ◌*◌, List, get_or}
use Rattle.std.proofs.Math.Option.{Option}
use Rattle.field.specs.Limits.{max_functions}
use Rattle.field.specs.declared.refusal.Refusal.{Refusal}
use Rattle.part.specs.PartReq.{PartReq, none, entries}
use Rattle.module.specs.Module.{FunctionHandle}
use Rattle.module.specs.Tables.{row_at, expressions_from, max_items}
use Rattle.walk.specs.State.{Records, FunctionReq, State, Place, at_expression, at_statement, nowhere, record_pieces}
use Rattle.memory.specs.Layout.{globals_slot, exprs_slot, totals_slot, functions_slot}
use Rattle.memory.specs.Memory.{sum_from, records_of, context_at}
use Rattle.state.specs.declared.answer.Halt.{Halt}
use Rattle.state.specs.declared.answer.Place as declared
use Rattle.state.specs.declared.answer.Place.TheVariants as at

-- the records of the function f, whose slots begin at `base`: those of the open functions, or of the totals
abbrev pub records_in : (t : List ℕ) (base : ℕ) → FunctionHandle → List PartReq → Records
records_in t base f ps = records_of ps (base + expressions_from (row_at t f)) (row_at t f).expressions

-- What no walk of an expression looks at: the marks, and of the functions' totals anything but what they count for.
pub record Rest : Type 0 where
  pub marks : List ℕ
  pub functions : List (Option FunctionReq)

-- what the slots of the functions' totals count for
abbrev pub totals_sum : List PartReq → ℕ
totals_sum ps = sum_from ps totals_slot max_items + sum_from ps functions_slot (4 * max_functions)

-- The state in which the function f is open and its current context stands in the slots from `at` on.
abbrev pub state_of : (t : List ℕ) → FunctionHandle → (at : ℕ) → List PartReq → Rest → (visits : ℕ) → State
state_of t f at ps rest visits =
    record {
      context = context_at ps at;
      exprs = records_in t exprs_slot f ps;
      marks = rest.marks;
      globals = get_or ps globals_slot none;
      functions = rest.functions;
      visits = visits;
    }

-- what records and totals count for: `sum_of` of that state
abbrev pub sum_in : (t : List ℕ) → FunctionHandle → List PartReq → ℕ
sum_in t f ps = record_pieces (records_in t exprs_slot f ps) + (entries (get_or ps globals_slot none) + totals_sum ps)

-- the place that the code names
abbrev pub place_of : declared.Place → Place
place_of (at.Expression f e) = at_expression f.0 e.0
place_of (at.Statement f s) = at_statement f.0 s
place_of at.Nowhere = nowhere

-- a refusal that falls at no place
abbrev pub unplaced : Refusal → Halt
unplaced r = record { refusal = r; place = at.Nowhere }

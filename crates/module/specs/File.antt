-- The file form: what the bytes of a module mean, or the number by which they are refused, record by record.
use Rattle.std.specs.Prelude.{ℕ, zero, suc, ◌+◌, Bool, true, false, not, cond, ◌||◌, ◌&&◌, List, [], ◌∷◌, ◌++◌, ltb, leb, eqb, length, get_or}
use Rattle.std.proofs.Math.Option.{Option, some, none as nothing}
use Rattle.field.specs.Field.{field_at}
use Rattle.field.specs.Limits.{max_bytes, max_types, max_globals, max_functions, max_arguments, max_members, max_components, max_locals, max_expressions, max_statements}
use Rattle.module.specs.Module.{Module}
use Rattle.module.specs.declared.record.Mark.{Mark}
use Rattle.module.specs.declared.record.Mark.TheVariants.{TY, GV, FN, AR, LV, EX, BK, ST}
use Rattle.module.specs.Record.{mark_of, length_at, body_at, even}
use Rattle.module.specs.Shape.{type, binding, flag, result, type_shape, expression_shape, statement_shape}
use Rattle.module.specs.Operands.{Scope, operands}
use Rattle.module.specs.Reading.{in_types, in_globals, in_arguments, in_locals, in_expressions, in_blocks, opened, Reading, scope_of, added, closed}
use Rattle.module.specs.Blocks.{block_rule}

-- what comes of a record: what has been read with it, or a refusal
pub data Next : Type 0 where
  go : Reading → Next
  stop : ℕ → Next

abbrev pub ◌>>=◌ : Next → (Reading → Next) → Next
◌>>=◌ (go r) k = k r
◌>>=◌ (stop n) k = stop n

infixl 20 ◌>>=◌
abbrev pub unless : Bool → ℕ → Next → Next
unless true n k = stop n
unless false n k = k

-- 3: whether a mark may stand here
unfoldable pub placed : Mark → ℕ → Bool
placed TY stage = eqb stage in_types
placed GV stage = leb stage in_globals
placed FN stage = true
placed AR stage = eqb stage in_arguments
placed LV stage = leb in_arguments stage && leb stage in_locals
placed EX stage = leb in_arguments stage && leb stage in_expressions
placed BK stage = leb in_arguments stage
placed ST stage = eqb stage in_blocks

-- a count field at j, where the field before the operands gives this kind
abbrev pub count_over : ℕ → ℕ → ℕ → ℕ → List ℕ → Bool
count_over at kind j most fs = eqb (get_or fs at 0) kind && ltb most (get_or fs j 0)

-- 4: whether a limit is passed
unfoldable pub over : Mark → Scope → List ℕ → Bool
over TY s fs = leb max_types s.types || count_over 0 6 1 max_members fs
over GV s fs = leb max_globals s.globals
over FN s fs = leb max_functions s.functions
over AR s fs = leb max_arguments s.arguments
over LV s fs = leb max_locals s.locals
over EX s fs = leb max_expressions s.expressions || count_over 1 8 2 max_components fs
over BK s fs = false
over ST s fs = leb max_statements s.statements || count_over 0 14 2 max_arguments fs

-- 5: whether the values are allowed
unfoldable pub fine : Mark → Scope → List ℕ → Bool
fine TY s [] = false
fine TY s (kind ∷ fs) = operands (type_shape kind) s fs
fine GV s fs = operands (type ∷ []) s fs
fine FN s fs = operands (flag ∷ result ∷ []) s fs
fine AR s fs = operands (type ∷ binding ∷ []) s fs
fine LV s fs = operands (type ∷ []) s fs
fine EX s [] = false
fine EX s (t ∷ []) = false
fine EX s (t ∷ kind ∷ fs) = ltb t s.types && operands (expression_shape kind) s fs
fine BK s fs = operands [] s fs
fine ST s [] = false
fine ST s (kind ∷ fs) = operands (statement_shape kind) s fs

-- The end of a function, the one place for what is checked there: 5, "blocks checked at the function's end".
unfoldable pub ended : Reading → Next
ended r =
    unless (leb in_arguments r.stage && not (block_rule (closed r.open_one))) 5
    (go
    (record {
      stage = r.stage;
      types = r.types;
      globals = r.globals;
      functions = cond (leb in_arguments r.stage) (r.functions ++ (closed r.open_one ∷ [])) r.functions;
      open_one = r.open_one;
    }))

-- a function ends where the next one begins
unfoldable pub ended_at : Mark → Reading → Next
ended_at TY r = go r
ended_at GV r = go r
ended_at FN r = ended r
ended_at AR r = go r
ended_at LV r = go r
ended_at EX r = go r
ended_at BK r = go r
ended_at ST r = go r

-- the body of the record at `at`: 4, then 5
unfoldable pub body_next : List ℕ → ℕ → Mark → Reading → Next
body_next bytes at mark r =
    unless (over mark (scope_of r) (body_at bytes at)) 4
    (unless (not (even bytes at && fine mark (scope_of r) (body_at bytes at))) 5 (go (added mark (body_at bytes at) r)))

unfoldable pub mark_next : List ℕ → ℕ → Option Mark → Reading → Next
mark_next bytes at nothing r = stop 3
mark_next bytes at (some mark) r = unless (not (placed mark r.stage)) 3 (ended_at mark r >>= body_next bytes at mark)

-- One record: 2, then 3, then (where a function ends) 5, then 4, then 5.
unfoldable pub record_next : List ℕ → ℕ → Reading → Next
record_next bytes at r =
    unless (ltb (length bytes) (at + 4)) 2
    (unless (ltb (length bytes) (at + 4 + length_at bytes at)) 2 (mark_next bytes at (mark_of (field_at bytes at)) r))

pub data Answer : Type 0 where
  accepted : Module → Answer
  refused : ℕ → Answer

abbrev pub answer_of : Next → Answer
answer_of (go r) = accepted (record { types = r.types; globals = r.globals; functions = r.functions })
answer_of (stop n) = refused n

abbrev pub onward : Next → (Reading → Answer) → Answer
onward (go r) k = k r
onward (stop n) k = refused n

-- The records from `at` on; `most` is more than there are of them.
unfoldable pub read_from : ℕ → List ℕ → ℕ → Reading → Answer
read_from zero bytes at r = refused 2
read_from (suc most) bytes at r =
    elim (leb (length bytes) at) [
      | true ↦ answer_of (ended r)
      | false ↦ onward (record_next bytes at r) (read_from most bytes (at + 4 + length_at bytes at))
    ]

-- before the first record
unfoldable pub start : Reading
start = record { stage = in_types; types = []; globals = []; functions = []; open_one = opened [] }

-- 1 too long; then by record
unfoldable pub read_module : List ℕ → Answer
read_module bytes =
    elim (ltb max_bytes (length bytes)) [
      | true ↦ refused 1
      | false ↦ read_from (suc (length bytes)) bytes 0 start
    ]

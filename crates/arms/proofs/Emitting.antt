-- The marks of an Emit are those of the definition.
use mathlib.Core.Path.{◌≡◌, refl, sym, ap, ◌∙◌}
use mathlib.Core.Bool.{Bool}
use mathlib.Core.List.{List}
use Prim.Native.Nat.{ℕ, suc, ◌+◌, ◌-◌, ◌<◌, ◌≤◌}
use native.Mathlib.Omega.{arith}
use lib.ListN.{length, get_or}
use Rattle.std.specs.Prelude.{Ok}
use Rattle.module.specs.Module.{Emit, Function}
use Rattle.module.specs.Marks.{mark_count}
use Rattle.module.specs.Decode.{statement_of}
use Rattle.module.specs.Tables.{row_at, module_of}
use Rattle.access.specs.Access.{operand_at, statement_number, expression_number}
use Rattle.access.specs.declared.kinded.Kinded.{Kinded}
use Rattle.access.proofs.Access.{statements-are, expressions-are}
use Rattle.walk.specs.Marks.{write_marks, statement_at}
use Rattle.walk.specs.StatementReq.{StatementReq, any, marks_of, own_marks, required}
use Rattle.walk.specs.Statement.{BlockWalk, FunctionWalk, add_statement, are_recorded}
use Rattle.memory.specs.Layout.{exprs_slot, totals_slot}
use Rattle.memory.specs.Memory.{read}
use Rattle.marks.specs.declared.totals.MarkTotals.{MarkTotals}
use Rattle.marks.specs.Places.{places_of, recorded_in}
use Rattle.marks.proofs.Placed.{at_function}
use Rattle.marks.proofs.Turns.{emit_long}
use Rattle.marks.proofs.Buffers.{own_fits, emit_recorded}
use Rattle.state.specs.State.{records_in}
use Rattle.state.specs.Frame.{frame_of}
use Rattle.state.specs.declared.frame.Frame.{Frame}
use Rattle.statement.proofs.Uses.{arm_statement, arm_uses}
use Rattle.block.specs.Standing.{state_in, Standing}
use Rattle.block.specs.Blocks.{StatementEnded}
use Rattle.block.proofs.Steps.{beside_same, items_within}
use Rattle.arms.specs.Emit.{EmitAsked, EmitEnds}
use Rattle.arms.proofs.Marking.{marked_ended}

module _ {bytes t firsts s rs open_marks : List ℕ} {fr : Frame} {row : Kinded} {sum : ℕ} (A : EmitAsked bytes t firsts s rs open_marks fr row sum) where
  abbrev f : ℕ
  f = fr.function.0

  abbrev o : ℕ → ℕ
  o = operand_at bytes row

  emit_is : statement_of row.kind o ≡ Emit (o 0) (o 1)
  unfolding statement_of
  emit_is = rw A.kind

  -- what is said of it
  abbrev req : StatementReq
  req = StatementReq.Emit (are_recorded (records_in t exprs_slot f (read s rs)) (o 0) (suc (o 1) - o 0))

  -- its expressions are there
  emit_uses : (o 0 ≤ o 1) × (o 1 < (row_at t f).expressions)
  emit_uses =
      let u = arm_uses A.arm (Emit (operand_at bytes row 0) (operand_at bytes row 1)) emit_is in
      let e = ap (λ (x : Function). length x.expressions) (at_function bytes t A.arm.begun.ready.was_read f A.arm.begun.ready.function) in
      (u.0, omega (arith, u.1, e, expressions-are t f (row_at t f) refl bytes))

  emit_count : mark_count (statement_at (module_of bytes t) f fr.statement) ≡ suc (o 1) - o 0
  unfolding mark_count
  emit_count = rw (arm_statement A.arm, emit_is)

  module _ {first last : ℕ} (a : first ≡ operand_at bytes row 0) (b : last ≡ operand_at bytes row 1) where
    pub emit_order : first ≤ last + 1
    emit_order = omega (arith, emit_uses.0)

    pub emit_small : {from : ℕ} → from ≡ expression_number t f first → exprs_slot + from ≤ totals_slot
    emit_small number = omega (arith, emit_uses.0, emit_uses.1, items_within f A.arm.begun.ready.was_read A.arm.begun.ready.function)

    module _ {from place : ℕ} (number : from ≡ expression_number t f first) (at : place ≡ get_or firsts (statement_number t f fr.statement) 0) where
      abbrev n : ℕ
      n = last + 1 - first

      abbrev marks : List ℕ
      marks = marks_of (recorded_in rs (exprs_slot + from) n)

      own : length marks ≡ mark_count (statement_at (module_of bytes t) f fr.statement)
      own = omega (arith, emit_long rs (exprs_slot + from) n, emit_count)

      pub emit_fits : (place + n ≤ length open_marks) × (exprs_slot + from + n ≤ length rs)
      emit_fits = (
        omega (
          arith,
          A.long,
          emit_long rs (exprs_slot + from) n,
          own_fits bytes t (places_of A.starts firsts) A.arm.begun.ready.was_read A.placed open_marks marks f fr.statement place A.arm.begun.ready.function
              (omega (arith, A.arm.begun.statement, statements-are t f (row_at t f) refl bytes)) at own,
        ),
        omega (arith, emit_uses.0, emit_uses.1, items_within f A.arm.begun.ready.was_read A.arm.begun.ready.function, A.arm.begun.ready.memory.slots),
      )

      recorded : recorded_in rs (exprs_slot + from) n ≡ are_recorded (records_in t exprs_slot f (read s rs)) (o 0) (suc (o 1) - o 0)
      recorded =
          let z : last + 1 - first ≡ suc (o 1) - o 0 = omega arith in
          rw (z, number, a)
          (emit_recorded bytes t s rs f (o 0) (suc (o 1) - o 0) A.arm.begun.ready.was_read A.arm.begun.ready.function A.arm.begun.ready.memory (omega (arith, emit_uses.0, emit_uses.1)))

      pub emit_ends : {open_after : List ℕ} {r : Bool} (visits : ℕ) → (open_after ≡ write_marks open_marks place marks) × (r ≡ any (recorded_in rs (exprs_slot + from) n))
          → EmitEnds bytes t firsts s rs open_marks fr row sum visits (Ok (record { tally = (record { visits = visits; sum = sum }); required = r })) open_after
      unfolding own_marks required add_statement
      emit_ends {open_after} {r} visits w = record {
        by = λ types starts totals call block S.
            record {
              by =
                  marked_ended (ended types starts totals call block S) A.arm.begun.statement
                  own_is at (w.0 ∙ ap (write_marks open_marks place) marks-are) (w.1 ∙ answer_is);
            };
      }
        where
          marks-are : marks ≡ own_marks req
          marks-are = ap marks_of recorded

          own_is : length (own_marks req) ≡ mark_count (statement_at (module_of bytes t) f fr.statement)
          own_is = ap length (sym marks-are) ∙ own

          answer_is : any (recorded_in rs (exprs_slot + from) n) ≡ required req
          answer_is = ap any recorded

          ended : (types starts : List ℕ) (totals : MarkTotals) (call : FunctionWalk) (block : BlockWalk) → Standing bytes t types (places_of starts firsts) s rs open_marks totals f fr.at fr.held sum visits
              → StatementEnded bytes t types (places_of starts firsts) s rs open_marks totals fr
              (add_statement (module_of bytes t) call block (frame_of s rs fr) (statement_of row.kind o) (state_in bytes t s rs open_marks totals f fr.at visits))
              (λ c. req) visits sum r s rs open_marks totals
          ended types starts totals call block S = record { is = rw emit_is; standing = S; beside = beside_same refl refl }

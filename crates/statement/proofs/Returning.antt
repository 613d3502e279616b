-- A return: nothing is asked of its value, or what is asked is put into a slot and asked.
use Prim.Native.Nat.{ℕ, ◌+◌, ◌<◌, ◌≤◌}
use native.Mathlib.Omega.{arith}
use mathlib.Core.Path.{◌≡◌, refl, sym, ap, subst, ◌∙◌}
use mathlib.Core.Bool.{true}
use mathlib.Core.List.{List}
use mathlib.Core.Option.{Option, some, none as nothing}
use lib.ListN.{length, get_or, set}
use Rattle.std.specs.Prelude.{Result, Ok}
use Rattle.part.specs.PartReq.{PartReq, entries, Subpart, gone, there, get_subpart, spine}
use Rattle.part.specs.Store.{top, part}
use Rattle.module.specs.Module.{Return}
use Rattle.module.specs.Decode.{option_of, statement_of}
use Rattle.module.specs.Tables.{module_of}
use Rattle.access.specs.Access.{operand_at}
use Rattle.access.specs.declared.kinded.Kinded.{Kinded}
use Rattle.context.specs.RequiredContext.{pieces, variable}
use Rattle.walk.specs.State.{State, went, with_context}
use Rattle.walk.specs.Resolve.{function_at}
use Rattle.walk.specs.Expression.{add_expression}
use Rattle.walk.specs.StatementReq.{StatementReq}
use Rattle.walk.specs.Statement.{add_statement, add_return}
use Rattle.walk.specs.Statement as walk
use Rattle.walk.specs.Proper.{Fine}
use Rattle.walk.proofs.Keeps.{Needs}
use Rattle.walk.proofs.Parts.{variables_subpart}
use Rattle.memory.specs.Layout.{ask}
use Rattle.memory.specs.Memory.{read, context_at}
use Rattle.memory.specs.Stretches.{four_set}
use Rattle.memory.proofs.Slots.{read_at}
use Rattle.state.specs.Frame.{frame_of}
use Rattle.state.specs.declared.frame.Frame.{Frame}
use Rattle.state.specs.declared.answer.Halt.{Halt}
use Rattle.state.specs.declared.answer.Tally.{Tally}
use Rattle.state.specs.declared.answer.Answer.{Answer}
use Rattle.statement.specs.Leaf.{leaf_req, Arm, Leaves}
use Rattle.statement.specs.Asks.{Open, Asked, answer_of}
use Rattle.statement.proofs.Leaving.{leaves}
use Rattle.statement.proofs.Asking.{begins, began, ends}
use Rattle.statement.proofs.Holding.{Holdable, hold_ready, hold_state, hold_totals, hold_apart, hold_part}
use Rattle.statement.proofs.Uses.{arm_uses, sub_few}

-- the definition
module _ (fr : walk.Frame) (m : _) (st : State) where
  return_none : (o : Option ℕ) → add_return m fr o gone st ≡ went (with_context fr.base st) (StatementReq.Return fr.break_required)
  unfolding add_return
  return_none nothing = refl
  return_none (some value) = refl

  return_absent : (p : Subpart) → add_return m fr nothing p st ≡ went (with_context fr.base st) (StatementReq.Return fr.break_required)
  unfolding add_return
  return_absent p = refl

module _ {bytes t s rs : List ℕ} {fr : Frame} {row : Kinded} {sum : ℕ} (a : Arm bytes t s rs fr row sum) (kind : row.kind ≡ 7) (visits : ℕ) where
  abbrev value : ℕ
  value = operand_at bytes row 0

  statement_is : statement_of row.kind (operand_at bytes row) ≡ Return (option_of value)
  unfolding statement_of
  statement_is = rw kind

  retval_inside : fr.at + 3 < length rs
  retval_inside = omega (arith, a.begun.ready.high)

  retval-is : (context_at (read s rs) fr.at).retval ≡ part s (get_or rs (fr.at + 3) 0)
  retval-is = read_at s rs (fr.at + 3) retval_inside

  -- nothing is asked
  module _ {us : List ℕ} (e : us ≡ four_set rs fr.at (get_or rs fr.base 0) (get_or rs (fr.base + 1) 0) (get_or rs (fr.base + 2) 0) (get_or rs (fr.base + 3) 0)) where
    pub return_absent_leaves : option_of value ≡ nothing → Leaves bytes t s rs fr (statement_of row.kind (operand_at bytes row)) visits (Ok (record { tally = (record { visits = visits; sum = sum }); required = fr.break_required })) s us
    unfolding add_statement leaf_req
    return_absent_leaves h =
        rw (statement_is, h)
        (leaves a.begun visits e (Return nothing) (λ call block rest. sym (return_absent (frame_of s rs fr) (module_of bytes t) _ _)))

    pub return_none_leaves : get_subpart (part s (get_or rs (fr.at + 3) 0)) (variable 0) ≡ gone → Leaves bytes t s rs fr (statement_of row.kind (operand_at bytes row)) visits (Ok (record { tally = (record { visits = visits; sum = sum }); required = fr.break_required })) s us
    unfolding add_statement leaf_req
    return_none_leaves h =
        rw statement_is
        (leaves a.begun visits e (Return (option_of value)) (λ call block rest. rw (retval-is, h) (sym (return_none (frame_of s rs fr) (module_of bytes t) _ (option_of value)))))

  -- p is asked
  module _ {n : ℕ} (p : (n < top s) × (get_subpart (part s (get_or rs (fr.at + 3) 0)) (variable 0) ≡ there (part s n))) {v : ℕ} (there_is : option_of value ≡ some v) where
    fine : Fine (part s n)
    fine =
        subst (Needs Fine) (ap (λ (q : PartReq). get_subpart q (variable 0)) retval-is ∙ p.1)
        (variables_subpart 1 spine (variable 0) (context_at (read s rs) fr.at).retval a.begun.fine.retval)

    few : entries (part s n) ≤ entries (context_at (read s rs) fr.at).retval
    few =
        subst (Needs (λ (q : PartReq). entries q ≤ entries (context_at (read s rs) fr.at).retval)) (ap (λ (q : PartReq). get_subpart q (variable 0)) retval-is ∙ p.1)
        (sub_few (context_at (read s rs) fr.at).retval (variable 0))

    holdable : Holdable s ask n
    holdable = record {
      low = omega arith;
      high = omega arith;
      piece = p.0;
      few = omega (arith, few, a.begun.few, retval_few);
      fine = fine.within;
    }
      where
        retval_few : entries (context_at (read s rs) fr.at).retval ≤ pieces (context_at (read s rs) fr.at)
        retval_few = unfold pieces in omega arith

    pub return_there : v < length (function_at (module_of bytes t) fr.function.0).expressions
    return_there = rw there_is at (arm_uses a (Return (option_of value)) statement_is)

    pub return_begins : Open bytes t s (set rs ask n) fr (Ok (record { visits = visits; sum = sum }))
    return_begins = begins (hold_ready a.begun.ready holdable)

    pub return_asks : {r : Result Tally Halt} {b : Result Answer Halt} {u us : List ℕ}
        → Asked bytes t s (set rs ask n) fr (Ok (record { visits = visits; sum = sum })) (add_expression (module_of bytes t) fr.function.0 fr.held v) ask r u us
        → b ≡ answer_of r true → Leaves bytes t s rs fr (statement_of row.kind (operand_at bytes row)) visits b u us
    unfolding add_statement add_return leaf_req
    return_asks {r} {b} {u} {us} x e =
        rw (statement_is, there_is, e)
        (record {
          by = λ call block rest h.
              ends StatementReq.Return true r (hold_apart a.begun.ready holdable)
              (rw (hold_state a.begun.ready holdable rest visits, hold_part a.begun.ready holdable, retval-is, p.1))
              (x.by s (set rs ask n) rest _ (hold_ready a.begun.ready holdable).memory (h ∙ sym (hold_totals a.begun.ready holdable)) (began rest (hold_ready a.begun.ready holdable)));
        })

-- The arms that ask nothing, by kind.
use Prim.Native.Nat.{ℕ, ◌+◌, ◌-◌, ◌<◌}
use native.Mathlib.Omega.{arith}
use mathlib.Core.Path.{◌≡◌, refl, sym, subst}
use mathlib.Core.Bool.{true, false}
use mathlib.Core.List.{List}
use lib.ListN.{get_or}
use Rattle.std.specs.Prelude.{Result, Ok, Err}
use Rattle.field.specs.declared.refusal.Refusal.TheVariants.{Panic}
use Rattle.module.specs.Module.{Break}
use Rattle.module.specs.Decode.{statement_of}
use Rattle.module.proofs.Each.{past}
use Rattle.access.specs.Access.{operand_at}
use Rattle.access.specs.declared.kinded.Kinded.{Kinded}
use Rattle.memory.specs.Stretches.{four_set}
use Rattle.state.specs.declared.answer.Place.TheVariants as place
use Rattle.state.specs.declared.frame.Frame.{Frame}
use Rattle.state.specs.declared.answer.Halt.{Halt}
use Rattle.state.specs.declared.answer.Answer.{Answer}
use Rattle.statement.specs.Leaf.{Arm, Leaves}
use Rattle.statement.proofs.Leaving.{kill_stays, control_stays, memory_stays, image_atomic_halts, break_leaves, continue_leaves}

-- the barriers
pub data BarrierKind (k : ℕ) : Type 0 where
  control : k ≡ 9 → BarrierKind k
  memory : k ≡ 10 → BarrierKind k

-- the kinds that leave the block
pub data LeavesKind (k : ℕ) : Type 0 where
  breaks : k ≡ 5 → LeavesKind k
  continues : k ≡ 6 → LeavesKind k
  past_last : 20 < k → LeavesKind k

other_breaks : (o : ℕ → ℕ) (j : ℕ) → statement_of (past 21 j) o ≡ Break
unfolding statement_of
other_breaks o j = refl

module _ {bytes t s rs : List ℕ} {fr : Frame} {row : Kinded} {sum : ℕ} (a : Arm bytes t s rs fr row sum) (visits : ℕ) where
  abbrev As : ℕ → Result Answer Halt → List ℕ → Type 0
  As k r us = Leaves bytes t s rs fr (statement_of k (operand_at bytes row)) visits r s us

  at_kind : {r : Result Answer Halt} {us : List ℕ} (j : ℕ) → row.kind ≡ j → As j r us → As row.kind r us
  at_kind {r} {us} j e h = subst (λ (k : ℕ). As k r us) (sym e) h

  pub plain_kill : row.kind ≡ 8 → As row.kind (Ok (record { tally = (record { visits = visits; sum = sum }); required = true })) rs
  unfolding statement_of
  plain_kill e = at_kind 8 e (kill_stays a.begun visits)

  pub plain_barrier : BarrierKind row.kind → As row.kind (Ok (record { tally = (record { visits = visits; sum = sum }); required = false })) rs
  unfolding statement_of
  plain_barrier (control e) = at_kind 9 e (control_stays a.begun visits)
  plain_barrier (memory e) = at_kind 10 e (memory_stays a.begun visits)

  pub plain_image : row.kind ≡ 11 → As row.kind (Err (record { refusal = Panic; place = place.Statement fr.function fr.statement })) rs
  unfolding statement_of
  plain_image e = at_kind 11 e (image_atomic_halts a.begun visits)

  module _ {us : List ℕ} (e : us ≡ four_set rs fr.at (get_or rs fr.base 0) (get_or rs (fr.base + 1) 0) (get_or rs (fr.base + 2) 0) (get_or rs (fr.base + 3) 0)) where
    abbrev gone_out : Result Answer Halt
    gone_out = Ok (record { tally = (record { visits = visits; sum = sum }); required = fr.break_required })

    by-break : As 5 gone_out us
    unfolding statement_of
    by-break = break_leaves a.begun visits e

    by-continue : As 6 gone_out us
    unfolding statement_of
    by-continue = continue_leaves a.begun visits e

    by_other : (j : ℕ) → As (past 21 j) gone_out us
    by_other j = rw (other_breaks (operand_at bytes row) j) (break_leaves a.begun visits e)

    -- a break, a continue, and a number past the last
    pub plain_leaves : LeavesKind row.kind → As row.kind gone_out us
    plain_leaves (breaks e) = at_kind 5 e by-break
    plain_leaves (continues e) = at_kind 6 e by-continue
    plain_leaves (past_last l) =
        at_kind (past 21 (row.kind - 21)) (omega arith) (by_other (row.kind - 21))

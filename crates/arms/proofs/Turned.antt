-- The end of a turn: what each step of it asks, and what it leaves.
use Prim.Native.Nat.{ℕ, ◌+◌, ◌≤◌}
use native.Mathlib.Omega.{arith}
use mathlib.Core.Path.{◌≡◌, sym, ap, subst, ◌∙◌}
use mathlib.Core.Bool.{Bool, true, false}
use mathlib.Core.List.{List}
use lib.ListN.{length}
use Rattle.part.specs.PartReq.{PartReq}
use Rattle.context.specs.RequiredContext.{contains_context, pieces}
use Rattle.walk.specs.State.{State, Place, went, limited_context}
use Rattle.memory.specs.Layout.{most}
use Rattle.memory.specs.Memory.{read, counted, context_at, Memory, Tidied}
use Rattle.memory.proofs.Slots.{read-long}
use Rattle.block.specs.Saved.{Popped, Lowered, Dropped, Joined}
use Rattle.block.proofs.Tops.{one_context, one_counted}
use Rattle.block.proofs.Unroll.{limited_within, limited_over}
use Rattle.arms.specs.Loops.{TurnWalked, turn_joint, TurnEnds}
use Rattle.arms.specs.declared.loops.Turn.TheVariants.{Over, Settled, Again}

module _ {s rs : List ℕ} {at : ℕ} (W : TurnWalked s rs at) {b : Bool} {x xs : List ℕ} (J : Joined s rs (at + 4 + 4) b x xs) where
  pub turn_limit : b ≡ true → TurnEnds s rs at Over x xs
  turn_limit o = record { is = λ here st. limited_over here (turn_joint s rs at) st (sym o ∙ J.over); by = tt }

  goes : b ≡ false → (here : Place) (st : State) → went st tt ≡ limited_context here (turn_joint s rs at) st
  goes o here st = limited_within here (turn_joint s rs at) st (sym o ∙ J.over)

  joined_by : (c : Bool) → b ≡ c → Joined s rs (at + 4 + 4) c x xs
  joined_by c e = subst (λ (d : Bool). Joined s rs (at + 4 + 4) d x xs) e J

  module _ {ys : List ℕ} (D : Dropped xs (at + 4) ys) where
    alone : Popped x xs (at + 4) (context_at (read x xs) (at + 4)) x ys
    alone = D.is x J.popped.memory (omega (arith, W.low))

    -- the turn's contexts are gone
    pub turn_tidy : Memory x ys × (counted (read x ys) ≤ most)
    turn_tidy =
        let joint = turn_joint s rs at in
        let high : at + 4 + 4 + 8 ≤ length (read s rs) = omega (arith, W.high, read-long s rs) in
        let long : at + 4 + 8 ≤ length (read x xs) = omega (arith, W.high, J.popped.long, read-long x xs) in
        let joined : context_at (read x xs) (at + 4 + 4) ≡ joint = ap (λ (ps : List PartReq). context_at ps (at + 4 + 4)) J.popped.reads ∙ one_context (read s rs) (at + 4 + 4) joint high in (
          alone.memory,
          omega (
            arith,
            W.few,
            ap counted J.popped.reads,
            one_counted (read s rs) (at + 4 + 4) joint high (omega (arith, W.low)),
            ap counted alone.reads,
            one_counted (read x xs) (at + 4) (context_at (read x xs) (at + 4)) long (omega (arith, W.low)),
            ap pieces joined,
          ),
        )

    module _ (o : b ≡ false) {r : Bool} (is : r ≡ contains_context (context_at (read x xs) (at + 4)) (context_at (read x xs) (at + 4 + 4))) where
      pub turn_contained : r ≡ true → {us : List ℕ} → Lowered ys at us → TurnEnds s rs at Settled x us
      turn_contained e L = record { is = goes o; by = record { between = xs; alone = ys; joined = joined_by false o; contains = sym e ∙ is; dropped = D; lowered = L } }

      pub turn_grown : r ≡ false → {u us : List ℕ} → Tidied x ys u us → TurnEnds s rs at Again u us
      turn_grown e T = record { is = goes o; by = record { store = x; between = xs; alone = ys; joined = joined_by false o; contains = sym e ∙ is; dropped = D; tidied = T } }

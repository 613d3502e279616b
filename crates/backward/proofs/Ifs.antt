-- An if: its second block with the needs after it kept aside, its first with the second's, and both joined.
use Prim.Native.Nat.{ℕ, ◌+◌, ◌-◌, ◌*◌, ◌<◌, ◌≤◌}
use native.Mathlib.Omega.{arith}
use mathlib.Core.Path.{◌≡◌, refl, ap, ◌∙◌}
use mathlib.Core.Bool.{Bool, true, false}
use mathlib.Core.List.{List}
use lib.ListN.{length, get_or, set, length-set}
use Rattle.module.specs.Module.{BlockHandle, Function}
use Rattle.module.specs.Decode.{statement_of}
use Rattle.module.specs.Tables.{function_of}
use Rattle.access.specs.declared.kinded.Kinded.{Kinded}
use Rattle.access.specs.Access.{operand_at}
use Rattle.clearance.specs.Scope.{Scope}
use Rattle.clearance.specs.Tree.{Tree}
use Rattle.judge.specs.Given.{scope_at}
use Rattle.quiet.specs.Places.{tree_of}
use Rattle.strays.specs.Places.{BlockOf}
use Rattle.strays.proofs.Found.{accept_low, reject_low}
use Rattle.standing.specs.Standing.{Walked, Closed, inside, around}
use Rattle.standing.specs.Passing.{Passing}
use Rattle.standing.specs.Exits.{Exits}
use Rattle.standing.proofs.Arms.{ending, exchanged, copied_ready, targets_more, rejected_full, rejected_ready, accepted_full, walked_if, if_full}
use Rattle.ends.specs.Merged.{EndGiven}
use Rattle.backward.specs.Course.{Course, Passes, RowIn, blocks_under, if_tree}
use Rattle.backward.proofs.Course.{block_asks}
use Rattle.backward.proofs.Trees.{lower_is, uses_of}

module _ {bytes t : List ℕ} {f : ℕ} {types alike : List ℕ} {paths : List Bool} {firsts s rs path : List ℕ} {n : ℕ} {x : Exits} {p : Passing} (g : Course bytes t f types alike paths firsts s rs path n x p)
    {b l : ℕ} {row : Kinded} (room : n + (3 * b + 11) ≤ length rs) (r : RowIn bytes t f b l row) (h : row.kind ≡ 2) (marks : List ℕ) where
  abbrev S : Scope
  S = scope_at bytes t f

  abbrev F : Function
  F = function_of bytes t f

  abbrev o : ℕ → ℕ
  o = operand_at bytes row

  abbrev w : BlockHandle → Tree
  w = blocks_under F marks b

  low_a : o 1 < b
  low_a = accept_low r.statement r.is h

  low_b : o 2 < b
  low_b = reject_low r.statement r.is h

  condition_there : o 0 < length F.expressions
  unfolding statement_of
  condition_there = uses_of r 2 h g.world.given.of.read g.world.given.of.there

  pub if_copy : (n - 1 < length rs) × (n < length rs)
  if_copy = (omega arith, omega arith)

  module _ {us : List ℕ} (c : us ≡ set rs n (get_or rs (n - 1) 0)) where
    first_long : length us ≡ length rs
    first_long = ap length c ∙ length-set rs n _

    pub reject_asks : {y : ℕ} → y ≡ o 2 → (y < b) × (Course bytes t f types alike paths firsts s us path (n + 1) x p × (((n + 1) + (3 * y + 12) ≤ length us) × BlockOf bytes t f y))
    reject_asks e =
        block_asks g r 2 e low_b n (omega (arith, first_long)) (omega arith) (rw c (copied_ready g.ready g.targets if_copy.1)) (targets_more g.targets (omega arith)) g.going refl

    module _ {y : ℕ} (e : y ≡ o 2) {t₁ us₁ path₁ : List ℕ} {q₁ : Passing} (first : Passes S (around (tree_of F marks y)) s us (n + 1) x p t₁ us₁ path path₁ q₁) where
      one : Walked S (around (tree_of F marks y)) s (set rs n (get_or rs (n - 1) 0)) (n + 1) x p t₁ us₁ q₁
      one = rw c at first.walked

      same_b : w (o 2) ≡ tree_of F marks y
      same_b = lower_is r marks 2 e low_b

      pub if_rejected : q₁.full ≡ true → Passes S (inside (if_tree w o)) s rs n x p t₁ us₁ path path₁ q₁
      if_rejected i = record { walked = rw same_b (rejected_full g.ready g.targets if_copy.1 (w (o 1)) (tree_of F marks y) (o 0) one i); long = first.long }

      module _ (g₁ : q₁.full ≡ false) where
        slots_one : length us₁ ≡ length rs
        slots_one = first.walked.slots ∙ first_long

        module _ {vs : List ℕ} (d : vs ≡ exchanged us₁ n) where
          second_long : length vs ≡ length rs
          second_long = ap length d ∙ length-set (set us₁ n (get_or us₁ (n - 1) 0)) (n - 1) _ ∙ length-set us₁ n _ ∙ slots_one

          pub accept_asks : {z : ℕ} → z ≡ o 1 → (z < b) × (Course bytes t f types alike paths firsts t₁ vs path₁ (n + 1) x q₁ × (((n + 1) + (3 * z + 12) ≤ length vs) × BlockOf bytes t f z))
          accept_asks i =
              block_asks g r 1 i low_a n (omega (arith, second_long)) (omega arith) (rw d (rejected_ready g.ready g.targets if_copy.1 (w (o 1)) (tree_of F marks y) (o 0) one g₁))
              (targets_more g.targets (omega arith)) g₁ first.long

          module _ {z : ℕ} (i : z ≡ o 1) {t₂ us₂ path₂ : List ℕ} {q₂ : Passing} (second : Passes S (around (tree_of F marks z)) t₁ vs (n + 1) x q₁ t₂ us₂ path₁ path₂ q₂) where
            two : Walked S (around (tree_of F marks z)) t₁ (exchanged us₁ n) (n + 1) x q₁ t₂ us₂ q₂
            two = rw d at second.walked

            same_a : w (o 1) ≡ tree_of F marks z
            same_a = lower_is r marks 1 i low_a

            pub if_accepted : q₂.full ≡ true → Passes S (inside (if_tree w o)) s rs n x p t₂ us₂ path path₂ q₂
            if_accepted j = record {
              walked = rw (same_a, same_b) (accepted_full g.ready g.targets if_copy.1 (tree_of F marks z) (tree_of F marks y) (o 0) one g₁ two j);
              long = second.long ∙ first.long;
            }

            module _ (g₂ : q₂.full ≡ false) {v : ℕ} (j : v ≡ o 0) where
              pub if_end_asks : EndGiven S t₂ us₂ n v
              if_end_asks = record {
                read = g.world.read;
                judged = g.world.judged;
                ready = second.walked.ready g₂;
                high = g.ready.high;
                spare = omega (arith, second.walked.slots, second_long);
                there = rw j condition_there;
              }

              module _ {t₃ us₃ : List ℕ} {k : Bool} (last : Closed S (ending S v) t₂ us₂ n t₃ us₃ k) where
                pub if_ends : k ≡ true → Passes S (inside (if_tree w o)) s rs n x p t₃ us₃ path path₂ q₂
                if_ends m = record {
                  walked = rw (same_a, same_b) (walked_if g.ready g.targets if_copy.1 (tree_of F marks z) (tree_of F marks y) (o 0) one g₁ two g₂ (rw j at last) m);
                  long = second.long ∙ first.long;
                }

                pub if_ends_full : k ≡ false → {q : Passing} → q.full ≡ true → Passes S (inside (if_tree w o)) s rs n x p t₃ us₃ path path₂ q
                if_ends_full m u = record {
                  walked = rw (same_a, same_b) (if_full g.ready g.targets if_copy.1 (tree_of F marks z) (tree_of F marks y) (o 0) one g₁ two g₂ (rw j at last) m u);
                  long = second.long ∙ first.long;
                }

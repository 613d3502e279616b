-- A loop: what stands after its continuing block, that block, then its body, and the needs before the body joined to the new table.
use Prim.Native.Nat.{ℕ, ◌+◌, ◌*◌, ◌<◌, ◌≤◌}
use native.Mathlib.Omega.{arith}
use mathlib.Core.Path.{◌≡◌, refl, ap, ◌∙◌}
use mathlib.Core.Bool.{Bool, true, false}
use mathlib.Core.Option.{Option}
use mathlib.Core.List.{List}
use lib.ListN.{length, get_or, set, length-set}
use Rattle.module.specs.Module.{BlockHandle, Function}
use Rattle.module.specs.Decode.{option_of, statement_of}
use Rattle.module.specs.Tables.{function_of}
use Rattle.access.specs.declared.kinded.Kinded.{Kinded}
use Rattle.access.specs.Access.{operand_at}
use Rattle.valid.specs.Valid.{MaybeBelow}
use Rattle.clearance.specs.Scope.{Scope}
use Rattle.clearance.specs.Tree.{Tree}
use Rattle.judge.specs.Given.{scope_at}
use Rattle.hold.specs.Hold.{Live}
use Rattle.quiet.specs.Places.{tree_of}
use Rattle.strays.specs.Places.{BlockOf}
use Rattle.strays.proofs.Found.{statement_small, body_low, continuing_low}
use Rattle.standing.specs.Slots.{table_size, stack_slot}
use Rattle.standing.specs.Standing.{Walked, Begun, Entered, inside, around}
use Rattle.standing.specs.Passing.{Passing}
use Rattle.standing.specs.Exits.{Exits}
use Rattle.standing.proofs.Cases.{case_exits}
use Rattle.standing.proofs.Loops.{body_exits, begun_full, continuing_targets, continuing_full, body_ready, body_targets, body_full, loop_full, walked_loop}
use Rattle.ends.specs.Merged.{LoopEnds, BeginGiven}
use Rattle.backward.specs.Course.{Course, Passes, RowIn, blocks_under, loop_tree}
use Rattle.backward.proofs.Course.{block_asks}
use Rattle.backward.proofs.Trees.{lower_is, uses_of}

module _ {bytes t : List ℕ} {f : ℕ} {types alike : List ℕ} {paths : List Bool} {firsts s rs path : List ℕ} {n : ℕ} {x : Exits} {p : Passing} (g : Course bytes t f types alike paths firsts s rs path n x p)
    {b l : ℕ} {row : Kinded} (room : n + (3 * b + 11) ≤ length rs) (r : RowIn bytes t f b l row) (h : row.kind ≡ 4) (marks : List ℕ) where
  abbrev S : Scope
  S = scope_at bytes t f

  abbrev F : Function
  F = function_of bytes t f

  abbrev o : ℕ → ℕ
  o = operand_at bytes row

  abbrev w : BlockHandle → Tree
  w = blocks_under F marks b

  small : l < table_size
  small = statement_small r.statement

  low_a : o 0 < b
  low_a = body_low r.statement r.is h

  low_b : o 1 < b
  low_b = continuing_low r.statement r.is h

  test_there : MaybeBelow (length F.expressions) (option_of (o 2))
  unfolding statement_of
  test_there = uses_of r 4 h g.world.given.of.read g.world.given.of.there

  module _ {v : Option ℕ} (j : v ≡ option_of (o 2)) where
    pub begin_asks : BeginGiven S l s rs n v
    begin_asks = record { read = g.world.read; judged = g.world.judged; ready = g.ready; low = small; spare = omega arith; there = rw j test_there }

    module _ {t₀ us₀ : List ℕ} {k : Bool} (begun : Begun S l v s rs n t₀ us₀ k) where
      begun_is : Begun S l (option_of (o 2)) s rs n t₀ us₀ k
      begun_is = rw j at begun

      pub loop_begun_full : k ≡ false → {q : Passing} → q.full ≡ true → Passes S (inside (loop_tree w l o)) s rs n x p t₀ us₀ path path q
      loop_begun_full i u = record { walked = begun_full g.ready g.targets l small (option_of (o 2)) (w (o 0)) (w (o 1)) p begun_is i u; long = refl }

      module _ (i : k ≡ true) {y : Exits} (e : y ≡ case_exits n x) {c : ℕ} (d : c ≡ o 1) where
        slots_begun : length us₀ ≡ length rs
        slots_begun = begun.slots

        pub continuing_asks : (c < b) × (Course bytes t f types alike paths firsts t₀ us₀ path (n + 1) y p × (((n + 1) + (3 * c + 12) ≤ length us₀) × BlockOf bytes t f c))
        continuing_asks =
            block_asks g r 1 d low_b n (omega (arith, slots_begun)) (omega arith) (begun.ready i)
            (rw e (continuing_targets g.ready g.targets l small (option_of (o 2)) (w (o 0)) (w (o 1)) p begun_is i)) g.going refl

        module _ {t₁ us₁ path₁ : List ℕ} {q₁ : Passing} (one : Passes S (around (tree_of F marks c)) t₀ us₀ (n + 1) y p t₁ us₁ path path₁ q₁) where
          walked_one : Walked S (around (w (o 1))) t₀ us₀ (n + 1) (case_exits n x) p t₁ us₁ q₁
          walked_one = rw (lower_is r marks 1 d low_b) (rw e at one.walked)

          pub loop_continuing : q₁.full ≡ true → Passes S (inside (loop_tree w l o)) s rs n x p t₁ us₁ path path₁ q₁
          loop_continuing u = record { walked = continuing_full g.ready g.targets l small (option_of (o 2)) (w (o 0)) (w (o 1)) p begun_is i walked_one u; long = one.long }

          module _ (g₁ : q₁.full ≡ false) where
            slots_one : length us₁ ≡ length rs
            slots_one = one.walked.slots ∙ slots_begun

            pub body_copy : (n < length us₁) × (n + 1 < length us₁)
            body_copy = (omega (arith, slots_one), omega (arith, slots_one))

            module _ {vs : List ℕ} (m : vs ≡ set us₁ (n + 1) (get_or us₁ n 0)) {z : Exits} (a : z ≡ body_exits n x) {c' : ℕ} (d' : c' ≡ o 0) where
              body_long : length vs ≡ length rs
              body_long = ap length m ∙ length-set us₁ (n + 1) _ ∙ slots_one

              pub body_asks : (c' < b) × (Course bytes t f types alike paths firsts t₁ vs path₁ (n + 1 + 1) z q₁ × (((n + 1 + 1) + (3 * c' + 12) ≤ length vs) × BlockOf bytes t f c'))
              body_asks =
                  block_asks g r 0 d' low_a n (omega (arith, body_long)) (omega arith)
                  (rw m (body_ready g.ready g.targets l small (option_of (o 2)) (w (o 0)) (w (o 1)) p begun_is i walked_one g₁ body_copy.1))
                  (rw a (body_targets g.ready g.targets l small (option_of (o 2)) (w (o 0)) (w (o 1)) p begun_is i walked_one g₁ body_copy.1)) g₁ one.long

              module _ {t₂ us₂ path₂ : List ℕ} {q₂ : Passing} (two : Passes S (around (tree_of F marks c')) t₁ vs (n + 1 + 1) z q₁ t₂ us₂ path₁ path₂ q₂) where
                walked_two : Walked S (around (w (o 0))) t₁ (set us₁ (n + 1) (get_or us₁ n 0)) (n + 1 + 1) (body_exits n x) q₁ t₂ us₂ q₂
                walked_two = rw (lower_is r marks 0 d' low_a) (rw (m, a) at two.walked)

                pub loop_body : q₂.full ≡ true → Passes S (inside (loop_tree w l o)) s rs n x p t₂ us₂ path path₂ q₂
                loop_body u = record {
                  walked = body_full g.ready g.targets l small (option_of (o 2)) (w (o 0)) (w (o 1)) p begun_is i walked_one g₁ body_copy.1 walked_two u;
                  long = two.long ∙ one.long;
                }

                module _ (g₂ : q₂.full ≡ false) where
                  pub end_asks : Live t₂ us₂ (n + 1 + 1) × ((stack_slot < n) × (l < table_size))
                  end_asks = ((two.walked.ready g₂).live, (g.ready.high, small))

                  module _ {t₃ us₃ : List ℕ} {q₃ : Passing} (last : LoopEnds l t₂ us₂ n q₂ t₃ us₃ q₃) where
                    entered : Entered S l t₂ us₂ n q₂ t₃ us₃ q₃
                    entered = last.is S (two.walked.ready g₂)

                    by_full : (v : Bool) → q₃.full ≡ v → Walked S (inside (loop_tree w l o)) s rs n x p t₃ us₃ q₃
                    by_full true u = loop_full g.ready g.targets l small (option_of (o 2)) (w (o 0)) (w (o 1)) p begun_is i walked_one g₁ body_copy.1 walked_two g₂ entered u
                    by_full false u = walked_loop g.ready g.targets l small (option_of (o 2)) (w (o 0)) (w (o 1)) p begun_is i walked_one g₁ body_copy.1 walked_two g₂ entered u

                    pub loop_ends : Passes S (inside (loop_tree w l o)) s rs n x p t₃ us₃ path path₂ q₃
                    loop_ends = record { walked = by_full q₃.full refl; long = two.long ∙ one.long }

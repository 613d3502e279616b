-- An if, a switch or a loop with its mark: marked it stands as it is; unmarked and obeying its rule nothing changes; else it is walked with the needs after it kept aside, which it keeps as well, and is blamed.
use Prim.Native.Nat.{ℕ, ◌+◌, ◌-◌, ◌*◌, ◌<◌, ◌≤◌}
use native.Mathlib.Omega.{arith}
use mathlib.Core.Path.{◌≡◌, refl, sym, ◌∙◌}
use mathlib.Core.Bool.{Bool, true, false, cond}
use mathlib.Core.List.{List, ◌∷◌}
use lib.Dec.{eqb}
use lib.ListN.{length, get_or, set}
use Rattle.part.specs.PartReq.{PartReq, add}
use Rattle.module.specs.Module.{BlockHandle, Function}
use Rattle.module.specs.Marks.{marks_before}
use Rattle.module.specs.Tables.{function_of}
use Rattle.access.specs.declared.kinded.Kinded.{Kinded}
use Rattle.access.specs.Access.{operand_at}
use Rattle.clearance.specs.Scope.{Scope}
use Rattle.clearance.specs.Tree.{Tree, mark_at, unmarked}
use Rattle.clearance.specs.Needs.{obeys, kept}
use Rattle.judge.specs.Given.{scope_at}
use Rattle.pass.specs.Pass.{within}
use Rattle.hold.specs.Hold.{in_slot}
use Rattle.quiet.specs.Acts.{Needing}
use Rattle.quiet.specs.Places.{statement_tree, Obeys}
use Rattle.strays.proofs.Found.{in_function}
use Rattle.standing.specs.Standing.{Walked, Closed, Blames, inside}
use Rattle.standing.specs.Passing.{Passing}
use Rattle.standing.specs.Exits.{Exits}
use Rattle.standing.proofs.Taken.{walked_obeys, broken_full, walked_broken, broken_end_full}
use Rattle.ends.specs.Merged.{Merged}
use Rattle.ends.proofs.Merges.{broken_closed}
use Rattle.backward.specs.Course.{Course, Passes, RowIn, blocks_under, if_tree, switch_tree, loop_tree, bare_tree}
use Rattle.backward.proofs.Trees.{if_is, switch_is, loop_is, held_is, marked_is, unmarked-is}

-- what has a mark and holds blocks keeps the needs after it
bare_kept : (w : BlockHandle → Tree) (l k : ℕ) (o : ℕ → ℕ) (m n : PartReq) → kept (bare_tree w l k o) m n ≡ add m n
unfolding bare_tree kept
bare_kept w l k o m n = by_test (eqb k 2) (eqb k 3)
  where
    by_test : (a b : Bool) → kept (cond a (if_tree w o) (cond b (switch_tree w o) (loop_tree w l o))) m n ≡ add m n
    by_test true b = refl
    by_test false true = refl
    by_test false false = refl

module _ {bytes t : List ℕ} {f : ℕ} {types alike : List ℕ} {paths : List Bool} {firsts s rs path : List ℕ} {n : ℕ} {x : Exits} {p : Passing} (g : Course bytes t f types alike paths firsts s rs path n x p)
    {b l : ℕ} {row : Kinded} (r : RowIn bytes t f b l row) (marks : List ℕ) where
  abbrev S : Scope
  S = scope_at bytes t f

  abbrev F : Function
  F = function_of bytes t f

  abbrev o : ℕ → ℕ
  o = operand_at bytes row

  abbrev w : BlockHandle → Tree
  w = blocks_under F marks b

  abbrev bare : Tree
  bare = bare_tree w l row.kind o

  -- By its kind
  module _ {t₁ us₁ path₁ : List ℕ} {q₁ : Passing} where
    pub bare-if : row.kind ≡ 2 → Passes S (inside (if_tree w o)) s rs n x p t₁ us₁ path path₁ q₁ → Passes S (inside bare) s rs n x p t₁ us₁ path path₁ q₁
    bare-if h z = rw (if_is r marks h) z

    pub bare-switch : row.kind ≡ 3 → Passes S (inside (switch_tree w o)) s rs n x p t₁ us₁ path path₁ q₁ → Passes S (inside bare) s rs n x p t₁ us₁ path path₁ q₁
    bare-switch h z = rw (switch_is r marks h) z

    pub bare-loop : (row.kind ≡ 2 → ⊥) → (row.kind ≡ 3 → ⊥) → Passes S (inside (loop_tree w l o)) s rs n x p t₁ us₁ path path₁ q₁ → Passes S (inside bare) s rs n x p t₁ us₁ path path₁ q₁
    bare-loop h i z = rw (loop_is r marks h i) z

  module _ (room : n + (3 * b + 12) ≤ length rs) (h : (1 < row.kind) × (row.kind < 5)) where
    pub first_there : l < length firsts
    first_there = omega (arith, g.begins.long, in_function r.statement)

    module _ {i : ℕ} (d : i ≡ get_or firsts l 0) {m : Bool} (e : m ≡ mark_at marks i) where
      at : i ≡ marks_before F.statements l
      at = d ∙ g.begins.each l (in_function r.statement)

      pub holder_marked : m ≡ true → {t₁ us₁ path₁ : List ℕ} {q₁ : Passing} → Passes S (inside bare) s rs n x p t₁ us₁ path path₁ q₁ →
          Passes S (inside (statement_tree F marks b l)) s rs n x p t₁ us₁ path path₁ q₁
      holder_marked u z = rw (held_is r marks h ∙ marked_is F marks l bare at e u) z

      pub hand_needing : Needing bytes t f types alike paths s (get_or rs (n - 1) 0)
      hand_needing =
          let high = g.ready.high in
          record {
            world = g.world;
            store = g.ready.live.loose.good;
            there = g.ready.live.loose.pieces (n - 1) (omega arith);
            kept = g.ready.needs (n - 1) (omega arith) (λ e. omega arith);
          }

      module _ (u : m ≡ false) where
        tree_is : statement_tree F marks b l ≡ unmarked l (marks_before F.statements l) bare
        tree_is = held_is r marks h ∙ unmarked-is F marks l bare at e u

        module _ {path₀ : List ℕ} {k : Bool} (q : Obeys S (in_slot s rs (n - 1)) b l path path₀ k) where
          obeys-is : obeys S (in_slot s rs (n - 1)) bare ≡ k
          obeys-is = sym (q.is marks bare (held_is r marks h))

          pub holder_obeys : k ≡ true → Passes S (inside (statement_tree F marks b l)) s rs n x p s rs path path₀ p
          holder_obeys v = record { walked = rw tree_is (walked_obeys g.ready g.targets l _ bare g.going (obeys-is ∙ v)); long = q.long }

          pub holder_copy : (n - 1 < length rs) × (n < length rs)
          holder_copy = (omega arith, omega arith)

          module _ (v : k ≡ false) {us : List ℕ} (c : us ≡ set rs n (get_or rs (n - 1) 0)) where
            module _ {t₁ us₁ path₁ : List ℕ} {q₁ : Passing} (one : Passes S (inside bare) s us (n + 1) x p t₁ us₁ path₀ path₁ q₁) where
              walked_one : Walked S (inside bare) s (set rs n (get_or rs (n - 1) 0)) (n + 1) x p t₁ us₁ q₁
              walked_one = rw c at one.walked

              pub holder_full : q₁.full ≡ true → Passes S (inside (statement_tree F marks b l)) s rs n x p t₁ us₁ path path₁ q₁
              holder_full z = record {
                walked = rw tree_is (broken_full g.ready g.targets holder_copy.1 l _ bare (obeys-is ∙ v) walked_one z);
                long = one.long ∙ q.long;
              }

              module _ (g₁ : q₁.full ≡ false) where
                module _ {k' : ℕ} (same : k' ≡ l) {q₂ : Passing} (y : Blames k' q₁ q₂) {t₂ us₂ : List ℕ} {z : Bool} (last : Merged t₁ us₁ n (n - 1) n t₂ us₂ z) where
                  kept-both : Closed S (λ aside m i c. within (m ∷ i ∷ aside) (kept bare m i) c) t₁ us₁ n t₂ us₂ z
                  kept-both = broken_closed (one.walked.ready g₁) g.ready.high bare (bare_kept w l row.kind o) last

                  pub holder_ends_full : z ≡ false → {q₃ : Passing} → q₃.full ≡ true → Passes S (inside (statement_tree F marks b l)) s rs n x p t₂ us₂ path path₁ q₃
                  holder_ends_full a u = record {
                    walked = rw tree_is (broken_end_full g.ready g.targets holder_copy.1 l _ bare (obeys-is ∙ v) walked_one g₁ (rw same at y) kept-both a u);
                    long = one.long ∙ q.long;
                  }

                  pub holder_ends : z ≡ true → Passes S (inside (statement_tree F marks b l)) s rs n x p t₂ us₂ path path₁ q₂
                  holder_ends a = record {
                    walked = rw tree_is (walked_broken g.ready g.targets holder_copy.1 l _ bare (obeys-is ∙ v) walked_one g₁ (rw same at y) kept-both a);
                    long = one.long ∙ q.long;
                  }

-- What a result that is made of parts asks, by number (`letters-each`, `components-each`, `joined_each`).
use Prim.Native.Nat.{ℕ, zero, suc, ◌+◌, ◌<◌}
use native.Mathlib.Omega.{arith}
use mathlib.Core.Path.{◌≡◌, refl, ap, ◌∙◌}
use mathlib.Core.List.{List, [], ◌∷◌, map}
use lib.ListN.{length, get_or, length-map}
use Rattle.part.specs.PartReq.{PartReq, none, more, get_subpart}
use Rattle.module.proofs.Tab.{length-tab, get_d_tab}
use Rattle.clearance.specs.Shape.{or_none}
use Rattle.clearance.specs.Needs.{Ask, of_value, ask_whole, ask_picked, ask_components}
use Rattle.operands.specs.Lists.{letters, components}
use Rattle.operands.proofs.Loops.{Each}

-- Lists by number

abbrev pub letter_ask : (ℕ → ℕ) → ℕ → PartReq → Ask
letter_ask o j a = of_value (o 0) (more (o (2 + j)) (or_none (get_subpart a j)) none)

abbrev pub component_ask : (ℕ → ℕ) → ℕ → PartReq → Ask
component_ask o j a = of_value (o (1 + j)) (or_none (get_subpart a j))

abbrev pub joined_ask : (ℕ → ℕ) → ℕ → PartReq → Ask
joined_ask o j a = ask_whole (o (1 + j))

picked_long : (v : ℕ) (is : List ℕ) (k : ℕ) (a : PartReq) → length (ask_picked v is k a) ≡ length is
unfolding ask_picked
picked_long v [] k a = refl
picked_long v (i ∷ is) k a = ap suc (picked_long v is (suc k) a)

picked_at : (v : ℕ) (is : List ℕ) (k : ℕ) (a : PartReq) (j : ℕ) (d : Ask) → j < length is →
    get_or (ask_picked v is k a) j d ≡ of_value v (more (get_or is j 0) (or_none (get_subpart a (k + j))) none)
unfolding ask_picked
picked_at v [] k a j d l = absurd (omega arith)
picked_at v (i ∷ is) k a zero d l = let e : k + 0 ≡ k = omega arith in rw e
picked_at v (i ∷ is) k a (suc j) d l = let e : k + suc j ≡ suc k + j = omega arith in rw e (picked_at v is (suc k) a j d (omega arith))

parts_long : (cs : List ℕ) (k : ℕ) (a : PartReq) → length (ask_components cs k a) ≡ length cs
unfolding ask_components
parts_long [] k a = refl
parts_long (c ∷ cs) k a = ap suc (parts_long cs (suc k) a)

parts_at : (cs : List ℕ) (k : ℕ) (a : PartReq) (j : ℕ) (d : Ask) → j < length cs → get_or (ask_components cs k a) j d ≡ of_value (get_or cs j 0) (or_none (get_subpart a (k + j)))
unfolding ask_components
parts_at [] k a j d l = absurd (omega arith)
parts_at (c ∷ cs) k a zero d l = let e : k + 0 ≡ k = omega arith in rw e
parts_at (c ∷ cs) k a (suc j) d l = let e : k + suc j ≡ suc k + j = omega arith in rw e (parts_at cs (suc k) a j d (omega arith))

wholes_at : (cs : List ℕ) (j : ℕ) (d : Ask) → j < length cs → get_or (map ask_whole cs) j d ≡ ask_whole (get_or cs j 0)
wholes_at [] j d l = absurd (omega arith)
wholes_at (c ∷ cs) zero d l = refl
wholes_at (c ∷ cs) (suc j) d l = wholes_at cs j d (omega arith)

module _ (o : ℕ → ℕ) (a : PartReq) where
  pub letters-each : Each (ask_picked (o 0) (letters o) 0 a) (letter_ask o) (o 1) a
  letters-each =
      let m = length-tab (o 1) (λ i. o (2 + i)) in
      record {
        long = picked_long (o 0) (letters o) 0 a ∙ m;
        is = λ j d l.
            let e : 0 + j ≡ j = omega arith in
            picked_at (o 0) (letters o) 0 a j d (omega arith) ∙ rw (get_d_tab (o 1) (λ i. o (2 + i)) j 0 l, e);
      }

  pub components-each : Each (ask_components (components o) 0 a) (component_ask o) (o 0) a
  components-each =
      let m = length-tab (o 0) (λ i. o (1 + i)) in
      record {
        long = parts_long (components o) 0 a ∙ m;
        is = λ j d l.
            let e : 0 + j ≡ j = omega arith in
            parts_at (components o) 0 a j d (omega arith) ∙ rw (get_d_tab (o 0) (λ i. o (1 + i)) j 0 l, e);
      }

  pub joined_each : Each (map ask_whole (components o)) (joined_ask o) (o 0) a
  joined_each =
      let m = length-tab (o 0) (λ i. o (1 + i)) in
      record {
        long = length-map (components o) ask_whole ∙ m;
        is = λ j d l. wholes_at (components o) j d (omega arith) ∙ rw (get_d_tab (o 0) (λ i. o (1 + i)) j 0 l);
      }

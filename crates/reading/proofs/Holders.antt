-- All blocks, one by one: what they hold so far, and whether it is below its holders.
use mathlib.Core.Path.{◌≡◌, refl, sym, ◌∙◌}
use mathlib.Core.Bool.{Bool, true, ◌&&◌, and_assoc, and-true}
use mathlib.Core.List.{List, [], ◌∷◌, ◌++◌, append-nil, append_assoc}
use Prim.Native.Nat.{ℕ, suc, ◌+◌, ◌≤◌}
use native.Mathlib.Omega.{arith}
use lib.ListN.{length}
use Rattle.module.specs.Module.{BlockRange, Statement}
use Rattle.module.specs.Decode.{tab}
use Rattle.module.specs.Blocks.{held_in, all_below, holders_above, held_in_all}
use Rattle.module.proofs.Tab.{length-tab}
use Rattle.reading.specs.Holding.{counted}
use Rattle.reading.proofs.Counting.{counted-append}

module _ (sts : List Statement) where
  above_next : (b c : ℕ) (xs : List BlockRange) (x : BlockRange) → c ≡ b + length xs → holders_above sts b (xs ++ (x ∷ [])) ≡ (holders_above sts b xs && all_below c (held_in sts x))
  unfolding holders_above
  above_next b c [] x e =
      let o : c ≡ b = omega arith in
      rw o (and-true (all_below b (held_in sts x)))
  above_next b c (y ∷ ys) x e = rw (above_next (suc b) c ys x (omega arith)) (sym (and_assoc (all_below b (held_in sts y)) (holders_above sts (suc b) ys) (all_below c (held_in sts x))))

  all_next : (xs : List BlockRange) (x : BlockRange) → held_in_all sts (xs ++ (x ∷ [])) ≡ held_in_all sts xs ++ held_in sts x
  unfolding held_in_all
  all_next [] x = append-nil (held_in sts x)
  all_next (y ∷ ys) x = rw (all_next ys x) (sym (append_assoc (held_in sts y) (held_in_all sts ys) (held_in sts x)))

-- after the first blocks
pub record Passed (sts : List Statement) (first seen : List ℕ) (below : Bool) (blocks : List BlockRange) : Type 0 where
  pub words : seen ≡ counted first (held_in_all sts blocks)
  pub answer : below ≡ holders_above sts 0 blocks

pub none_passed : (sts : List Statement) (seen : List ℕ) (f : ℕ → BlockRange) → Passed sts seen seen true (tab 0 f)
unfolding tab counted held_in_all holders_above
none_passed sts seen f = record { words = refl; answer = refl }

pub next_passed : {first seen seen2 : List ℕ} {below here below2 : Bool} (sts : List Statement) (f : ℕ → BlockRange) (b : ℕ) → Passed sts first seen below (tab b f) → (here ≡ all_below b (held_in sts (f b))) × (seen2 ≡ counted seen (held_in sts (f b))) → below2 ≡ (below && here) → Passed sts first seen2 below2 (tab (b + 1) f)
unfolding tab
next_passed {first} sts f b p h e =
    let o : b + 1 ≡ suc b = omega arith in
    let l : b ≡ 0 + length (tab b f) = rw (length-tab b f) (omega arith) in
    rw o
    (record {
      words = h.1 ∙ rw (p.words, all_next sts (tab b f) (f b)) (sym (counted-append first (held_in_all sts (tab b f)) (held_in sts (f b))));
      answer = e ∙ rw (p.answer, h.0) (sym (above_next sts 0 b (tab b f) (f b) l));
    })

pub all_passed : {first seen : List ℕ} {below : Bool} (sts : List Statement) (f : ℕ → BlockRange) (b n : ℕ) → Passed sts first seen below (tab b f) → b ≤ n → n ≤ b → (below ≡ holders_above sts 0 (tab n f)) × (seen ≡ counted first (held_in_all sts (tab n f)))
all_passed sts f b n p a d =
    let o : n ≡ b = omega arith in
    rw o (p.answer, p.words)

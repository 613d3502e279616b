-- What a walk takes from a valid module: a called function is lower and no entry, the blocks that a block's statements hold are lower,
-- and there is a body.
use mathlib.Core.Path.{◌≡◌, refl, sym, ap, ◌∙◌, subst}
use mathlib.Core.Bool.{Bool, true, false, true≢false}
use mathlib.Core.List.{List, [], ◌∷◌, ◌++◌}
use Prim.Native.Nat.{ℕ, zero, suc, ◌+◌, ◌<◌, min}
use native.Mathlib.Nat.{le_of_suc-le-suc}
use native.Mathlib.Omega.{arith}
use lib.Dec.{ltb}
use lib.ListN.{length, get_or, take, length-take, length-map, get_or-map}
use lib.Seq.{get_or-take}
use borrow.Author.Tests.{ltb-true}
use Rattle.module.specs.Module.{BlockHandle, BlockRange, Statement, Break, Function}
use Rattle.module.specs.Blocks.{held, held_from, held_in, all_below, holders_above, block_rule}
use Rattle.valid.specs.Valid.{EachBelow, entries_below}
use Rattle.valid.proofs.Fits.{and_left, and_right}
use Rattle.valid.proofs.Lists.{in_range}

-- a flag that is not the default stands in the list
in_list : (bs : List Bool) (g : ℕ) → get_or bs g true ≡ false → g < length bs
in_list [] g h = absurd (true≢false h)
in_list (b ∷ bs) zero h = omega arith
in_list (b ∷ bs) (suc g) h =
    let l = in_list bs g h in
    omega arith

pub callable : (fs : List Function) (f g : ℕ) (d : Function) → get_or (entries_below f fs) g true ≡ false → (g < f) × ((get_or fs g d).entry ≡ false)
callable fs f g d h =
    let k : g < length (take f fs) = subst (λ (n : ℕ). g < n) (length-map (take f fs) (λ x. x.entry)) (in_list (entries_below f fs) g h) in
    let m : g < min f (length fs) = subst (λ (n : ℕ). g < n) (length-take f fs) k in
    let l : g < f = omega arith in
    (l, ap (λ (x : Function). x.entry) (sym (get_or-take f fs g d l)) ∙ (sym (get_or-map (λ (x : Function). x.entry) (take f fs) g d) ∙ (in_range (entries_below f fs) g d.entry true (in_list (entries_below f fs) g h) ∙ h)))

below_each : (b : ℕ) (hs : List BlockHandle) → all_below b hs ≡ true → EachBelow b hs
unfolding all_below
below_each b [] h i l = absurd (omega arith)
below_each b (x ∷ hs) h zero l = ltb-true x b (and_left (ltb x b) (all_below b hs) h)
below_each b (x ∷ hs) h (suc i) l = below_each b hs (and_right (ltb x b) (all_below b hs) h) i (le_of_suc-le-suc l)

below_left : (b : ℕ) (hs ks : List BlockHandle) → all_below b (hs ++ ks) ≡ true → all_below b hs ≡ true
unfolding all_below
below_left b [] ks h = refl
below_left b (x ∷ hs) ks h =
    rw (and_left (ltb x b) (all_below b (hs ++ ks)) h) (below_left b hs ks (and_right (ltb x b) (all_below b (hs ++ ks)) h))

below_right : (b : ℕ) (hs ks : List BlockHandle) → all_below b (hs ++ ks) ≡ true → all_below b ks ≡ true
unfolding all_below
below_right b [] ks h = h
below_right b (x ∷ hs) ks h = below_right b hs ks (and_right (ltb x b) (all_below b (hs ++ ks)) h)

-- the i-th of n statements from s on
from_below : (b : ℕ) (ss : List Statement) (s n i : ℕ) → all_below b (held_from ss s n) ≡ true → i < n → all_below b (held (get_or ss (s + i) Break)) ≡ true
unfolding held_from
from_below b ss s zero i h l = absurd (omega arith)
from_below b ss s (suc n) zero h l =
    let e : s ≡ s + 0 = omega arith in
    subst (λ (k : ℕ). all_below b (held (get_or ss k Break)) ≡ true) e (below_left b (held (get_or ss s Break)) (held_from ss (suc s) n) h)
from_below b ss s (suc n) (suc i) h l =
    let e : suc s + i ≡ s + suc i = omega arith in
    subst (λ (k : ℕ). all_below b (held (get_or ss k Break)) ≡ true) e
    (from_below b ss (suc s) n i (below_right b (held (get_or ss s Break)) (held_from ss (suc s) n) h) (le_of_suc-le-suc l))

holders : (ss : List Statement) (a : ℕ) (bs : List BlockRange) (b : ℕ) (d : BlockRange) → holders_above ss a bs ≡ true → b < length bs → all_below (a + b) (held_in ss (get_or bs b d)) ≡ true
unfolding holders_above
holders ss a [] b d h l = absurd (omega arith)
holders ss a (x ∷ bs) zero d h l =
    let e : a ≡ a + 0 = omega arith in
    subst (λ (k : ℕ). all_below k (held_in ss x) ≡ true) e (and_left (all_below a (held_in ss x)) (holders_above ss (suc a) bs) h)
holders ss a (x ∷ bs) (suc b) d h l =
    let e : suc a + b ≡ a + suc b = omega arith in
    subst (λ (k : ℕ). all_below k (held_in ss (get_or bs b d)) ≡ true) e
    (holders ss (suc a) bs b d (and_right (all_below a (held_in ss x)) (holders_above ss (suc a) bs) h) (le_of_suc-le-suc l))

module _ (f : Function) (h : block_rule f ≡ true) where
  -- "A block's number is below its holder's": of the i-th statement of the block b
  pub held_below : (b i : ℕ) (d : BlockRange) → b < length f.blocks → i < (get_or f.blocks b d).count → EachBelow b (held (get_or f.statements ((get_or f.blocks b d).first + i) Break))
  unfolding block_rule
  held_below b i d l k =
      let a =
      holders f.statements 0 f.blocks b d
      (and_left (holders_above f.statements 0 f.blocks) _ (and_right (ltb 0 (length f.blocks)) _ h))
      l in
      let e : 0 + b ≡ b = omega arith in
      below_each b _
      (from_below b f.statements (get_or f.blocks b d).first (get_or f.blocks b d).count i
      (subst (λ (n : ℕ). all_below n (held_in f.statements (get_or f.blocks b d)) ≡ true) e a)
      k)

  pub has_body : 0 < length f.blocks
  unfolding block_rule
  has_body = ltb-true 0 (length f.blocks) (and_left (ltb 0 (length f.blocks)) _ h)

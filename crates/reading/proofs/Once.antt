-- The words tell which blocks are held once: a word is the number of times, up to 2.
use mathlib.Core.Path.{◌≡◌, refl, sym, ◌∙◌}
use mathlib.Core.List.{List, [], ◌∷◌}
use Prim.Native.Nat.{ℕ, zero, suc, ◌<◌, ◌≤◌}
use native.Mathlib.Omega.{arith}
use native.Mathlib.Decide.{ℕ_discrete}
use lib.Dec.{eqb}
use lib.ListN.{length, get_or, set, length-set}
use lib.Seq.{get_or-set_same, get_or-set_other}
use borrow.Author.Tests.{eq-eqb, ne_eqb}
use Rattle.module.specs.Module.{BlockHandle}
use Rattle.module.specs.Blocks.{times, each_once}
use Rattle.reading.specs.Holding.{more, counted, cleared, ones}
use Rattle.reading.proofs.Counting.{length-cleared}

-- a count after n more
unfoldable more_by : ℕ → ℕ → ℕ
more_by w zero = w
more_by w (suc n) = more_by (more w) n

word_is : (seen : List ℕ) (hs : List BlockHandle) (h : ℕ) → h < length seen → get_or (counted seen hs) h 0 ≡ more_by (get_or seen h 0) (times h hs)
unfolding counted times more_by
word_is seen [] h l = refl
word_is seen (k ∷ ks) h l =
    let r : get_or (counted (set seen k (more (get_or seen k 0))) ks) h 0 ≡ more_by (get_or (set seen k (more (get_or seen k 0))) h 0) (times h ks) = word_is (set seen k (more (get_or seen k 0))) ks h (rw (length-set seen k (more (get_or seen k 0))) l) in
    elim (ℕ_discrete h k) [
      | yes e ↦ r ∙ rw (eq-eqb h k e, sym e, get_or-set_same seen h (more (get_or seen h 0)) 0 l)
      | no ne ↦ r ∙ rw (ne_eqb h k ne, get_or-set_other seen k h (more (get_or seen k 0)) 0 ne)
    ]

stays : (n : ℕ) → more_by 2 n ≡ 2
unfolding more_by more
stays zero = refl
stays (suc n) = stays n

once : (n : ℕ) → eqb (more_by 0 n) 1 ≡ eqb n 1
unfolding more_by more
once zero = refl
once (suc zero) = refl
once (suc (suc n)) = rw (stays n) (sym (ne_eqb (suc (suc n)) 1 (λ e. omega arith)))

zero_word : (seen : List ℕ) (n h : ℕ) → h < n → n ≤ length seen → get_or (cleared seen n) h 0 ≡ 0
unfolding cleared
zero_word seen zero h l m = absurd (omega arith)
zero_word seen (suc n) h l m =
    elim (ℕ_discrete h n) [
      | yes e ↦ rw e (get_or-set_same (cleared seen n) n 0 0 (rw (length-cleared seen n) (omega arith)))
      | no ne ↦ get_or-set_other (cleared seen n) n h 0 0 ne ∙ zero_word seen n h (omega arith) (omega arith)
    ]

pub ones-once : (seen : List ℕ) (hs : List BlockHandle) (n m : ℕ) → n ≤ m → m ≤ length seen → ones n (counted (cleared seen m) hs) ≡ each_once n hs
unfolding ones each_once
ones-once seen hs zero m a b = refl
ones-once seen hs (suc n) m a b =
    rw (ones-once seen hs n m (omega arith) b, word_is (cleared seen m) hs n (rw (length-cleared seen m) (omega arith)), zero_word seen m n (omega arith) b, once (times n hs))

-- The weight of a need: how many parts of a type it covers. It is at most the type's size, and grows where a need is joined that was
-- not contained.
use Prim.Native.Nat.{ℕ, zero, suc, ◌+◌, ◌-◌, ◌*◌, ◌<◌, ◌≤◌}
use native.Mathlib.Omega.{arith}
use native.Mathlib.Decide.{dec_lt, ℕ_discrete}
use mathlib.Core.Path.{◌≡◌, refl, sym, ◌∙◌}
use mathlib.Core.Bool.{Bool, true, false, ◌&&◌}
use mathlib.Core.List.{List, [], ◌∷◌}
use borrow.Author.Tests.{lt-ltb, le-ltb}
use Rattle.part.specs.PartReq.{PartReq, all, exist, none, more, get_subpart, is_all, add, has, within, contains}
use Rattle.part.specs.Ascending.{From}
use Rattle.part.proofs.Equations.{before as less, after as greater, at as level, way, never}
use Rattle.part.proofs.Ascending.{from_ascending}
use Rattle.clearance.specs.Shape.{Shape, number, void, struct, array, member, is_void, inside, cov, or_none, some, sum, size}
use Rattle.clearance.specs.IsNeed.{IsNeed, Tidy}
use Rattle.clearance.proofs.Small.{cases}
use Rattle.clearance.proofs.Cov.{cov-all, cov-none, cov-or_none, cov-after, cov-before, cov-here, cov-add-left, cov-add-right, within_void}
use Rattle.clearance.proofs.Ascending.{from_top, from_low, tidy_plain}
use Rattle.clearance.proofs.Order.{In}

-- Sums

pub sum_mono : (n : ℕ) (f g : ℕ → ℕ) → ((j : ℕ) → j < n → f j ≤ g j) → sum n f ≤ sum n g
unfolding sum
sum_mono zero f g h = omega arith
sum_mono (suc n) f g h = omega (arith, h n (omega arith), sum_mono n f g (λ j l. h j (omega arith)))

pub sum_more : (n : ℕ) (f g : ℕ → ℕ) → ((j : ℕ) → j < n → f j ≤ g j) → (l : ℕ) → l < n → f l < g l → sum n f < sum n g
unfolding sum
sum_more zero f g h l i e = absurd (omega arith)
sum_more (suc n) f g h l i e =
    elim (ℕ_discrete l n) [
      | yes z ↦ let y : f n < g n = rw z at e in omega (arith, sum_mono n f g (λ j l. h j (omega arith)))
      | no z ↦ omega (arith, h n (omega arith), sum_more n f g (λ j l. h j (omega arith)) l (omega arith) e)
    ]

pub sum_bound : (n top : ℕ) (f : ℕ → ℕ) → ((j : ℕ) → f j ≤ top) → sum n f ≤ n * top
unfolding sum
sum_bound zero top f h = omega arith
sum_bound (suc n) top f h = omega (arith, h n, sum_bound n top f h)

-- Weights

abbrev bit : Bool → ℕ
bit true = 1
bit false = 0

unfoldable pub count : Shape → PartReq → ℕ
count number a = bit (is_all a)
count void a = 0
count (struct b n f) a = bit (is_all a) + sum n (λ j. count (f (b + j)) (or_none (get_subpart a (b + j))))
count (array n t) a = bit (is_all a) + sum n (λ j. count t (or_none (get_subpart a j)))

bit-mono : (b c : Bool) → (b ≡ true → c ≡ true) → bit b ≤ bit c
bit-mono true c h = rw (h refl) (omega arith)
bit-mono false c h = omega arith

bit-bound : (b : Bool) → bit b ≤ 1
bit-bound true = omega arith
bit-bound false = omega arith

pub count-bound : (t : Shape) (a : PartReq) → count t a ≤ size t
unfolding count size
count-bound number a = bit-bound (is_all a)
count-bound void a = omega arith
count-bound (struct b n f) a =
    omega (arith, bit-bound (is_all a), sum_mono n (λ j. count (f (b + j)) (or_none (get_subpart a (b + j)))) (λ j. size (f (b + j))) (λ j l. count-bound (f (b + j)) _))
count-bound (array n t) a =
    omega (arith, bit-bound (is_all a), sum_bound n (size t) (λ j. count t (or_none (get_subpart a j))) (λ j. count-bound t _))

-- the sum is over members, which lie within the type
sub_in : (t : Shape) (a b : PartReq) (j : ℕ) → In t a b → In (member t j) (or_none (get_subpart a j)) (or_none (get_subpart b j))
unfolding inside cov
sub_in t a b j h q w c = cov-or_none (get_subpart b j) q ∙ h (j ∷ q) w (sym (cov-or_none (get_subpart a j) q) ∙ c)

pub struct_at : (b n : ℕ) (f : ℕ → Shape) (j : ℕ) → j < n → member (struct b n f) (b + j) ≡ f (b + j)
unfolding member
struct_at b n f j l =
    let z : b ≤ b + j = omega arith in
    let y : b + j < b + n = omega arith in
    rw (le-ltb (b + j) b z, lt-ltb (b + j) (b + n) y)

array_at : (n : ℕ) (t : Shape) (j : ℕ) → j < n → member (array n t) j ≡ t
unfolding member
array_at n t j l = rw (lt-ltb j n l)

struct-in : (b n : ℕ) (f : ℕ → Shape) (x y : PartReq) → In (struct b n f) x y → (j : ℕ) → j < n →
    In (f (b + j)) (or_none (get_subpart x (b + j))) (or_none (get_subpart y (b + j)))
struct-in b n f x y h j l = rw (struct_at b n f j l) at (sub_in (struct b n f) x y (b + j) h)

array-in : (n : ℕ) (t : Shape) (a b : PartReq) → In (array n t) a b → (j : ℕ) → j < n → In t (or_none (get_subpart a j)) (or_none (get_subpart b j))
array-in n t a b h j l = rw (array_at n t j l) at (sub_in (array n t) a b j h)

top_in : (t : Shape) (a b : PartReq) → is_void t ≡ false → In t a b → is_all a ≡ true → is_all b ≡ true
unfolding inside cov
top_in t a b e h = h [] (rw e)

pub count-mono : (t : Shape) (x y : PartReq) → In t x y → count t x ≤ count t y
unfolding count
count-mono number x y h = bit-mono _ _ (top_in number x y refl h)
count-mono void x y h = omega arith
count-mono (struct b n f) x y h =
    omega (arith, bit-mono _ _ (top_in (struct b n f) x y refl h), sum_mono n (λ j. count (f (b + j)) (or_none (get_subpart x (b + j)))) (λ j. count (f (b + j)) (or_none (get_subpart y (b + j)))) (λ j l. count-mono (f (b + j)) _ _ (struct-in b n f x y h j l)))
count-mono (array n t) x y h =
    omega (arith, bit-mono _ _ (top_in (array n t) x y refl h), sum_mono n (λ j. count t (or_none (get_subpart x j))) (λ j. count t (or_none (get_subpart y j))) (λ j l. count-mono t _ _ (array-in n t x y h j l)))

-- a part that only the second covers
abbrev pub Gap : List ℕ → Type 0
Gap q = (t : Shape) (x y : PartReq) → In t x y → inside t q ≡ true → cov x q ≡ false → cov y q ≡ true → count t x < count t y

bit-gap : (b c : Bool) → b ≡ false → c ≡ true → bit b < bit c
bit-gap b c h g = rw (h, g) (omega arith)

gap_top : Gap []
unfolding cov inside count
gap_top number x y h w c d = bit-gap _ _ c d
gap_top void x y h w c d = never w
gap_top (struct b n f) x y h w c d =
    omega (arith, bit-gap _ _ c d, sum_mono n (λ j. count (f (b + j)) (or_none (get_subpart x (b + j)))) (λ j. count (f (b + j)) (or_none (get_subpart y (b + j)))) (λ j l. count-mono (f (b + j)) _ _ (struct-in b n f x y h j l)))
gap_top (array n t) x y h w c d =
    omega (arith, bit-gap _ _ c d, sum_mono n (λ j. count t (or_none (get_subpart x j))) (λ j. count t (or_none (get_subpart y j))) (λ j l. count-mono t _ _ (array-in n t x y h j l)))

-- where an index is within a struct or an array
pub struct-index : (b n : ℕ) (f : ℕ → Shape) (j : ℕ) (q : List ℕ) → inside (member (struct b n f) j) q ≡ true → (b ≤ j) × (j < b + n)
unfolding member
struct-index b n f j q h =
    elim (dec_lt j b) [
      | yes l ↦ never (sym (within_void q) ∙ (rw (lt-ltb j b l) at h))
      | no l ↦
          let z : b ≤ j = omega arith in
          elim (dec_lt j (b + n)) [
            | yes m ↦ (z, m)
            | no m ↦ let y : b + n ≤ j = omega arith in never (sym (within_void q) ∙ (rw (le-ltb j b z, le-ltb j (b + n) y) at h))
          ]
    ]

array-index : (n : ℕ) (t : Shape) (j : ℕ) (q : List ℕ) → inside (member (array n t) j) q ≡ true → j < n
unfolding member
array-index n t j q h =
    elim (dec_lt j n) [
      | yes l ↦ l
      | no l ↦ let y : n ≤ j = omega arith in never (sym (within_void q) ∙ (rw (le-ltb j n y) at h))
    ]

struct-gap : (b i : ℕ) (q : List ℕ) → Gap q → (n : ℕ) (f : ℕ → Shape) (x y : PartReq) → In (struct b n f) x y → i < n →
    inside (member (struct b n f) (b + i)) q ≡ true → cov x ((b + i) ∷ q) ≡ false → cov y ((b + i) ∷ q) ≡ true → count (struct b n f) x < count (struct b n f) y
unfolding cov count
struct-gap b i q ih n f x y h l w c d =
    let z = ih (f (b + i)) (or_none (get_subpart x (b + i))) (or_none (get_subpart y (b + i))) (struct-in b n f x y h i l) (rw (struct_at b n f i l) at w) (cov-or_none (get_subpart x (b + i)) q ∙ c) (cov-or_none (get_subpart y (b + i)) q ∙ d) in
    omega (arith, bit-mono _ _ (top_in (struct b n f) x y refl h), sum_more n (λ j. count (f (b + j)) (or_none (get_subpart x (b + j)))) (λ j. count (f (b + j)) (or_none (get_subpart y (b + j)))) (λ j l. count-mono (f (b + j)) _ _ (struct-in b n f x y h j l)) i l z)

array-gap : (i : ℕ) (q : List ℕ) → Gap q → (n : ℕ) (t : Shape) (x y : PartReq) → In (array n t) x y → i < n →
    inside (member (array n t) i) q ≡ true → cov x (i ∷ q) ≡ false → cov y (i ∷ q) ≡ true → count (array n t) x < count (array n t) y
unfolding cov count
array-gap i q ih n t x y h l w c d =
    let z = ih t (or_none (get_subpart x i)) (or_none (get_subpart y i)) (array-in n t x y h i l) (rw (array_at n t i l) at w) (cov-or_none (get_subpart x i) q ∙ c) (cov-or_none (get_subpart y i) q ∙ d) in
    omega (arith, bit-mono _ _ (top_in (array n t) x y refl h), sum_more n (λ j. count t (or_none (get_subpart x j))) (λ j. count t (or_none (get_subpart y j))) (λ j l. count-mono t _ _ (array-in n t x y h j l)) i l z)

gap_down : (j : ℕ) (q : List ℕ) → Gap q → Gap (j ∷ q)
unfolding inside
gap_down j q ih number x y h w c d = never (sym (within_void q) ∙ (unfold member in w))
gap_down j q ih void x y h w c d = never (sym (within_void q) ∙ (unfold member in w))
gap_down j q ih (struct b n f) x y h w c d =
    let z = struct-index b n f j q w in
    let e : j ≡ b + (j - b) = omega (arith, z.0) in
    struct-gap b (j - b) q ih n f x y h (omega (arith, z.0, z.1)) (rw e at w) (rw e at c) (rw e at d)
gap_down j q ih (array n t) x y h w c d = array-gap j q ih n t x y h (array-index n t j q w) w c d

pub gap : (q : List ℕ) → Gap q
gap [] = gap_top
gap (j ∷ q) = gap_down j q (gap q)

-- Where one need is not contained in another, a part within the type tells why

Tells : PartReq → Shape → PartReq → Type 0
Tells b t m = (q : List ℕ) × (inside t q ≡ true) × (cov b q ≡ true) × (cov m q ≡ false)

-- what is covered from the index l on, an earlier entry has no say in
tail_off : (l i : ℕ) (b p r : PartReq) (q : List ℕ) → From l b → i < l → cov b q ≡ true → cov (more i p r) q ≡ cov r q
tail_off l i b p r [] f h c = never (sym (from_top l b f) ∙ (unfold cov in c))
tail_off l i b p r (k ∷ q) f h c =
    elim (dec_lt k l) [
      | yes z ↦ never (sym (from_low l k b q f z) ∙ c)
      | no z ↦ cov-after i k p r q (omega arith)
    ]

pub tidy_seen : (p : PartReq) (t : Shape) → Tidy p t → some p ≡ true → (q : List ℕ) × (inside t q ≡ true) × (cov p q ≡ true)
unfolding inside
tidy_seen all t h s = ([], rw h, cov-all [])
tidy_seen exist t h s = never s
tidy_seen none t h s = never s
tidy_seen (more i p r) t h s =
    let z = tidy_seen p (member t i) h.1.0 h.0 in
    (i ∷ z.0, z.1, cov-here i i p r z.0 (omega arith) (omega arith) ∙ z.2)

TellsAll : PartReq → Type 0
TellsAll b = (t : Shape) (m : PartReq) → IsNeed t b → IsNeed t m → within b m ≡ false → Tells b t m

first_need : (t : Shape) (i : ℕ) (p r : PartReq) → IsNeed t (more i p r) → IsNeed (member t i) p
first_need t i p r f = record { ascends = f.ascends.0; tidy = f.tidy.1.0 }

pub later_need : (t : Shape) (i : ℕ) (p r : PartReq) → IsNeed t (more i p r) → IsNeed t r
later_need t i p r f = record { ascends = from_ascending (suc i) r f.ascends.1; tidy = f.tidy.1.1 }

and-false : (a b : Bool) → a && b ≡ false → a ≡ true → b ≡ false
and-false a b h e = rw e at h

missing : (j : ℕ) (p s : PartReq) (t : Shape) (m : PartReq) → IsNeed t (more j p s) → ((q : List ℕ) → cov m (j ∷ q) ≡ false) → Tells (more j p s) t m
unfolding Tells
missing j p s t m f h =
    let z = tidy_seen p (member t j) f.tidy.1.0 f.tidy.0 in
    (j ∷ z.0, (unfold inside in z.1), cov-here j j p s z.0 (omega arith) (omega arith) ∙ z.2, h z.0)

tells_level : (j : ℕ) (p s : PartReq) → TellsAll p → TellsAll s → (p' r : PartReq) (t : Shape) → IsNeed t (more j p s) → IsNeed t (more j p' r) →
    within p p' && within s r ≡ false → Tells (more j p s) t (more j p' r)
unfolding TellsAll Tells
tells_level j p s tp ts p' r t f g h =
    cases (within p p')
    (λ e.
    let z = ts t r (later_need t j p s f) (later_need t j p' r g) (and-false (within p p') _ h e) in
    let o = f.ascends.1 in
    (z.0, z.1, tail_off (suc j) j s p s z.0 o (omega arith) z.2 ∙ z.2, tail_off (suc j) j s p' r z.0 o (omega arith) z.2 ∙ z.3))
    (λ e.
    let z = tp (member t j) p' (first_need t j p s f) (first_need t j p' r g) e in
    (j ∷ z.0, (unfold inside in z.1), cov-here j j p s z.0 (omega arith) (omega arith) ∙ z.2, cov-here j j p' r z.0 (omega arith) (omega arith) ∙ z.3))

tells_cell : (j : ℕ) (p s : PartReq) → TellsAll p → TellsAll s → (m : PartReq) (t : Shape) → IsNeed t (more j p s) → IsNeed t m →
    has j (within p) (within s) m ≡ false → Tells (more j p s) t m
unfolding has Tells
tells_cell j p s tp ts all t f g h = never (sym h)
tells_cell j p s tp ts exist t f g h = absurd g.tidy
tells_cell j p s tp ts none t f g h = missing j p s t none f (λ q. cov-none (j ∷ q))
tells_cell j p s tp ts (more i p' r) t f g h =
    elim (way i j) [
      | less l ↦
          let z : Tells (more j p s) t r = tells_cell j p s tp ts r t f (later_need t i p' r g) (rw (lt-ltb i j l) at h) in
          (z.0, z.1, z.2, tail_off j i (more j p s) p' r z.0 (omega arith, f.ascends) l z.2 ∙ z.3)
      | greater l ↦ missing j p s t (more i p' r) f (λ q. cov-before i j p' r q l)
      | level eq ↦ let l : j ≤ i = omega arith in let m : i ≤ j = omega arith in
          let e : i ≡ j = omega arith in
          rw e (tells_level j p s tp ts p' r t f (rw e at g) (rw (le-ltb i j l, le-ltb j i m) at h))
    ]

tells : (b : PartReq) → TellsAll b
unfolding TellsAll within Tells
tells all t m f g h = ([], (unfold inside in rw f.tidy), cov-all [], unfold cov in h)
tells exist t m f g h = absurd f.tidy
tells none t m f g h = never (sym (rw (tidy_plain m t g.tidy) at h))
tells (more j p s) t m f g h = tells_cell j p s (tells p) (tells s) m t f g h

-- where nothing tells, one need is contained in the other
pub in_contains : (t : Shape) (m n : PartReq) → IsNeed t m → IsNeed t n → In t m n → contains n m ≡ true
unfolding contains TellsAll Tells
in_contains t m n f g h =
    cases (within m n) (λ e. e)
    (λ e. let z = tells m t n f g e in never (sym z.3 ∙ h z.0 z.1 z.2))

-- a need that is not contained makes a heavier one
pub count-grow : (t : Shape) (m n : PartReq) → IsNeed t m → IsNeed t n → contains m n ≡ false → count t m < count t (add n m)
unfolding contains TellsAll Tells
count-grow t m n f g e =
    let z = tells n t m g f e in
    gap z.0 t m (add n m) (λ q w c. cov-add-right n m q c) z.1 z.3 (cov-add-left n m z.0 z.2)

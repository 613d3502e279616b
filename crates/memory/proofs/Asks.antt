-- Parts by value: what `wrap`, `into`, `pop` and a step down do to what is asked. Each law follows the definitions of specs/Want.antt; the bounds on
-- positions and indexes come from a part that passes no limit.
use Prim.Native.Nat.{ℕ, zero, suc, ◌+◌, ◌-◌, ◌<◌, ◌≤◌, max}
use native.Mathlib.Omega.{arith}
use native.Mathlib.Numerals.{add-one}
use mathlib.Core.Path.{◌≡◌, refl, sym, ap, ◌∙◌}
use mathlib.Core.Bool.{Bool, true, false, ◌||◌, ◌&&◌}
use mathlib.Core.List.{List}
use lib.Dec.{ltb, eqb}
use lib.ListN.{length, get_or, set, length-set}
use lib.Seq.{get_or-set_same, get_or-set_other}
use borrow.Author.Tests.{lt-ltb, le-ltb, ltb-false, ne_eqb}
use Rattle.field.specs.Limits.{max_depth, max_entries}
use Rattle.part.specs.PartReq.{PartReq, all, exist, none, more, entries, width, depth, over, spine, is_all, is_exist}
use Rattle.part.specs.Store.{top, part, Good, Made, Seen}
use Rattle.part.proofs.Pieces.{part-0, part-1, part-2, not_all, not_exist}
use Rattle.part.proofs.Write.{stay}
use Rattle.part.proofs.Making.{kept_trans}
use Rattle.memory.specs.Want.{kid, after, tail, downs, wraps, core, asks, wrapped, inside, popped, is_plain, once, Asking, asked, Wants, first, Child}
use Rattle.memory.specs.declared.want.Want.{Want}
use Rattle.std.specs.Prelude.{Option, Some, None, IsSome, IsSomeAnd}

-- the numbers that are no cells
pub kid-low : (s : List ℕ) (n : ℕ) → n ≤ 2 → part s 2 ≡ kid (part s n)
unfolding kid
kid-low s zero h = rw (part-0, part-2)
kid-low s (suc zero) h = rw (part-1, part-2)
kid-low s (suc (suc zero)) h = rw part-2
kid-low s (suc (suc (suc n))) h = absurd (omega arith)

pub after-low : (s : List ℕ) (n : ℕ) → n ≤ 2 → part s 2 ≡ after (part s n)
unfolding after
after-low s zero h = rw (part-0, part-2)
after-low s (suc zero) h = rw (part-1, part-2)
after-low s (suc (suc zero)) h = rw part-2
after-low s (suc (suc (suc n))) h = absurd (omega arith)

pub first-low : (s : List ℕ) (n : ℕ) → n < 3 → None ≡ first (part s n)
first-low s zero h = rw part-0
first-low s (suc zero) h = rw part-1
first-low s (suc (suc zero)) h = rw part-2
first-low s (suc (suc (suc n))) h = absurd (omega arith)

module _ {s : List ℕ} {n i c r : ℕ} (x : Seen s n i c r) where
  pub kid-cell : part s c ≡ kid (part s n)
  unfolding kid
  kid-cell = rw x.is

  pub after-cell : part s r ≡ after (part s n)
  unfolding after
  after-cell = rw x.is

-- the definitions, step by step
pub tail_none : (p : PartReq) → p ≡ tail p 0
unfolding tail
tail_none p = refl

pub tail_more : (p : PartReq) (k : ℕ) → tail p (k + 1) ≡ after (tail p k)
unfolding tail
tail_more p k = rw add-one

pub downs-none : (path : List ℕ) (p : PartReq) → p ≡ downs path 0 p
unfolding downs
downs-none path p = refl

pub downs-more : (path : List ℕ) (k : ℕ) (p : PartReq) → downs path (k + 1) p ≡ kid (tail (downs path k p) (get_or path k 0))
unfolding downs
downs-more path k p = rw add-one

pub wraps-none : (path : List ℕ) (p : PartReq) → p ≡ wraps path 0 p
unfolding wraps
wraps-none path p = refl

pub wraps-more : (path : List ℕ) (k : ℕ) (p : PartReq) → wraps path (k + 1) p ≡ more (get_or path (max_depth + k) 0) (wraps path k p) none
unfolding wraps
wraps-more path k p = rw add-one

-- what a store into the path leaves as it was
downs-set : (path : List ℕ) (j x k : ℕ) (p : PartReq) → k ≤ j → downs (set path j x) k p ≡ downs path k p
unfolding downs
downs-set path j x zero p h = refl
downs-set path j x (suc k) p h =
    let ne : k ≡ j → ⊥ = omega arith in
    rw (downs-set path j x k p (omega arith), get_or-set_other path j k x 0 ne)

wraps-set : (path : List ℕ) (j x k : ℕ) (p : PartReq) → max_depth + k ≤ j → wraps (set path j x) k p ≡ wraps path k p
unfolding wraps
wraps-set path j x zero p h = refl
wraps-set path j x (suc k) p h =
    let ne : max_depth + k ≡ j → ⊥ = omega arith in
    rw (wraps-set path j x k p (omega arith), get_or-set_other path j (max_depth + k) x 0 ne)

-- sizes
depth-wraps : (path : List ℕ) (k : ℕ) (p : PartReq) → depth (wraps path k p) ≡ k + depth p
unfolding wraps depth
depth-wraps path zero p = omega arith
depth-wraps path (suc k) p = let h = depth-wraps path k p in omega arith

entries-kid : (p : PartReq) → entries (kid p) ≤ entries p
unfolding entries kid
entries-kid all = omega arith
entries-kid exist = omega arith
entries-kid none = omega arith
entries-kid (more i c r) = omega arith

entries-after : (p : PartReq) → entries (after p) ≤ entries p
unfolding entries after
entries-after all = omega arith
entries-after exist = omega arith
entries-after none = omega arith
entries-after (more i c r) = omega arith

entries-tail : (p : PartReq) (k : ℕ) → entries (tail p k) ≤ entries p
unfolding tail
entries-tail p zero = omega arith
entries-tail p (suc k) = omega (arith, entries-after (tail p k), entries-tail p k)

entries-downs : (path : List ℕ) (k : ℕ) (p : PartReq) → entries (downs path k p) ≤ entries p
unfolding downs
entries-downs path zero p = omega arith
entries-downs path (suc k) p =
    omega (arith, entries-kid (tail (downs path k p) (get_or path k 0)), entries-tail (downs path k p) (get_or path k 0), entries-downs path k p)

entries-wraps : (path : List ℕ) (k : ℕ) (p : PartReq) → entries (wraps path k p) ≡ k + entries p
unfolding wraps entries
entries-wraps path zero p = omega arith
entries-wraps path (suc k) p = let h = entries-wraps path k p in omega arith

pub entries_asks : (w : Want) (p : PartReq) → entries (asks w p) ≤ w.up + entries p
unfolding asks
entries_asks w p = omega (arith, entries-wraps w.path w.up (core w p), entries-downs w.path w.down p)

once-some : (n d : ℕ) → 0 < n → once n d ≡ d
once-some zero d h = absurd (omega arith)
once-some (suc n) d h = refl

once-most : (n d : ℕ) → once n d ≤ d
once-most zero d = omega arith
once-most (suc n) d = omega arith

-- what passes no limit
or-none : (a b : Bool) → a || b ≡ false → (a ≡ false) × (b ≡ false)
or-none true b h = (h, let z : ◌≡◌ {A = ℕ} 0 1 = cc in absurd (omega arith))
or-none false b h = (refl, h)

module _ (i : ℕ) (p r : PartReq) (h : over (more i p r) ≡ false) where
  split_over : over p || (over r || (ltb i spine && (ltb max_depth (depth (more i p r)) || ltb max_entries (width (more i p r))))) ≡ false
  unfolding over
  split_over = h

  pub kid_fine : over p ≡ false
  kid_fine = (or-none (over p) _ split_over).0

  pub rest_fine : over r ≡ false
  rest_fine = (or-none (over r) _ (or-none (over p) _ split_over).1).0

  limit : i < spine → ltb max_depth (depth (more i p r)) ≡ false
  limit l = (or-none (ltb max_depth (depth (more i p r))) _ (rw (lt-ltb i spine l) at (or-none (over r) _ (or-none (over p) _ split_over).1).1)).0

  pub deep_fine : i < spine → depth (more i p r) ≤ max_depth
  deep_fine l = omega (arith, ltb-false, limit l)

tail-fine : (p : PartReq) (k : ℕ) → over p ≡ false → over (tail p k) ≡ false
unfolding tail
tail-fine p zero h = h
tail-fine p (suc k) h = after-fine (tail p k) (tail-fine p k h)
  where
    after-fine : (q : PartReq) → over q ≡ false → over (after q) ≡ false
    after-fine all h = unfold after over in refl
    after-fine exist h = unfold after over in refl
    after-fine none h = unfold after over in refl
    after-fine (more i c r) h = unfold after in rest_fine i c r h

-- an entry that is there: past the last one nothing is said, since `none` is deeper than `all`
after_there : (p : PartReq) → IsSome (first (after p)) → IsSome (first p) × (depth (after p) ≤ depth p)
unfolding after depth
after_there all h = let z : ◌≡◌ {A = ℕ} 0 1 = cc in absurd (omega arith)
after_there exist h = let z : ◌≡◌ {A = ℕ} 0 1 = cc in absurd (omega arith)
after_there none h = let z : ◌≡◌ {A = ℕ} 0 1 = cc in absurd (omega arith)
after_there (more i q r) h = (refl, omega arith)

depth-tail : (p : PartReq) (k : ℕ) → IsSome (first (tail p k)) → depth (tail p k) ≤ depth p
unfolding tail
depth-tail p zero h = omega arith
depth-tail p (suc k) h = let a = after_there (tail p k) h in omega (arith, a.1, depth-tail p k a.0)

some_there : (o : Option ℕ) → IsSomeAnd o (λ i. i < spine) → IsSome o
some_there None l = absurd l
some_there (Some i) l = refl

-- the requirement of an entry that is there, in a requirement that passes no limit
pub record Entry (p : PartReq) : Type 0 where
  pub low : suc (depth (kid p)) ≤ depth p
  pub deep : depth p ≤ max_depth
  pub fine : over (kid p) ≡ false

entry_at : (p : PartReq) → IsSomeAnd (first p) (λ i. i < spine) → over p ≡ false → Entry p
unfolding kid depth
entry_at all l o = absurd l
entry_at exist l o = absurd l
entry_at none l o = absurd l
entry_at (more i q r) l o = record { low = omega arith; deep = deep_fine i q r o l; fine = kid_fine i q r o }

-- what a part by value asks
module _ (w : Want) (p : PartReq) where
  pub asks-depth : depth (asks w p) ≡ w.up + depth (core w p)
  unfolding asks
  asks-depth = depth-wraps w.path w.up (core w p)

  pub asks_core : w.up ≤ 0 → asks w p ≡ core w p
  unfolding asks wraps
  asks_core h = let z : w.up ≡ 0 = omega arith in rw z

  module _ (q : Asking w p) where
    core-wrapped : (i : ℕ) → core (wrapped w i) p ≡ core w p
    core-wrapped i = downs-set w.path (max_depth + w.up) i w.down p (omega (arith, q.deep))

    pub asks-wrapped : (i : ℕ) → w.up < max_depth → asks (wrapped w i) p ≡ more i (asks w p) none
    unfolding asks
    asks-wrapped i h =
        let l : max_depth + w.up < length w.path = omega (arith, q.long) in
        rw (wraps-more, core-wrapped i, wraps-set w.path (max_depth + w.up) i w.up (core w p) (omega arith), get_or-set_same w.path (max_depth + w.up) i 0 l)

    -- {i: what w asks} passes no limit: so there is room for i
    module _ (i : ℕ) (l : i < spine) (o : over (more i (asks w p) none) ≡ false) where
      wrap_deep : suc (w.up + depth (core w p)) ≤ max_depth
      unfolding depth
      wrap_deep = omega (arith, deep_fine i (asks w p) none o l, asks-depth)

      pub wrap_low : w.up < max_depth
      wrap_low = omega (arith, wrap_deep)

      pub asking_wrapped : Asking (wrapped w i) p
      asking_wrapped =
          let e = core-wrapped i in
          record {
            long = length-set w.path (max_depth + w.up) i ∙ q.long;
            slot = q.slot;
            deep = rw e q.deep;
            high = rw e (omega (arith, wrap_deep, once-most (w.up + 1) (depth (core w p))));
            fine = rw (asks-wrapped i wrap_low) o;
          }

    pub asks_popped : 0 < w.up → asks w p ≡ more (get_or w.path (max_depth + (w.up - 1)) 0) (asks (popped w) p) none
    unfolding asks
    asks_popped h = let e : w.up ≡ (w.up - 1) + 1 = omega arith in ap (λ n. wraps w.path n (core w p)) e ∙ wraps-more w.path (w.up - 1) (core w p)

    asking_popped : 0 < w.up → Asking (popped w) p
    asking_popped h = record {
      long = q.long;
      slot = q.slot;
      deep = q.deep;
      high = omega (arith, q.high, once-some w.up (depth (core w p)) h, once-most (w.up - 1) (depth (core w p)));
      fine = kid_fine (get_or w.path (max_depth + (w.up - 1)) 0) (asks (popped w) p) none (rw (asks_popped h) at q.fine);
    }

    core-inside : (k : ℕ) → w.down < max_depth → core (inside w k) p ≡ kid (tail (core w p) k)
    core-inside k h =
        let l : w.down < length w.path = omega (arith, q.long) in
        rw (downs-more, downs-set w.path w.down k w.down p (omega arith), get_or-set_same w.path w.down k 0 l)

    asks_inside : (k : ℕ) → w.down < max_depth → w.up ≤ 0 → asks (inside w k) p ≡ kid (tail (core w p) k)
    unfolding asks wraps
    asks_inside k h z = let e : w.up ≡ 0 = omega arith in rw e (core-inside k h)

-- `entry`
tail-single : (i : ℕ) (q : PartReq) (k : ℕ) → tail (more i q none) (suc k) ≡ none
unfolding tail after
tail-single i q zero = refl
tail-single i q (suc k) = rw (tail-single i q k)

module _ (w : Want) (p : PartReq) (q : Asking w p) (k : ℕ) where
  pub entry_wrapped : 0 < w.up → k ≡ 0 → Some (get_or w.path (max_depth + (w.up - 1)) 0) ≡ first (tail (asks w p) k)
  unfolding tail
  entry_wrapped h e = rw (asks_popped w p q h, e)

  pub entry_after : 0 < w.up → (k ≡ 0 → ⊥) → None ≡ first (tail (asks w p) k)
  entry_after h ne = let z : k ≡ suc (k - 1) = omega arith in rw (asks_popped w p q h, z, tail-single)

  module _ (s : List ℕ) (m : ℕ) (up : w.up ≤ 0) (e : part s m ≡ core w p) (t : ℕ) (d : part s t ≡ tail (part s m) k) where
    entry_is : tail (asks w p) k ≡ part s t
    entry_is = rw (asks_core w p up, ← e) (sym d)

    pub entry_none : t < 3 → None ≡ first (tail (asks w p) k)
    entry_none h = rw entry_is (first-low s t h)

    pub entry_there : {i c r : ℕ} → Seen s t i c r → Some i ≡ first (tail (asks w p) k)
    entry_there x = rw (entry_is, x.is)

-- `child`
module _ (s rs : List ℕ) (w : Want) (q : Wants s rs w) (k : ℕ) (h : IsSomeAnd (first (tail (asked s rs w) k)) (λ i. i < spine)) where
  pub child_popped : {u : Want} → 0 < w.up → u ≡ popped w → Child s rs w k u
  child_popped up e = rw e (record { wants = asking_popped w (part s (get_or rs w.slot 0)) q up; is = go k h })
    where
      go : (k : ℕ) → IsSomeAnd (first (tail (asked s rs w) k)) (λ i. i < spine) → asks (popped w) (part s (get_or rs w.slot 0)) ≡ kid (tail (asked s rs w) k)
      go zero h = rw (asks_popped w (part s (get_or rs w.slot 0)) q up) (unfold tail kid in refl)
      go (suc k) h =
          let z : tail (asked s rs w) (suc k) ≡ none = rw (asks_popped w (part s (get_or rs w.slot 0)) q up) (tail-single _ _ k) in
          absurd (rw z at h)

  module _ (up : w.up ≤ 0) where
    core_is : asked s rs w ≡ core w (part s (get_or rs w.slot 0))
    core_is = asks_core w (part s (get_or rs w.slot 0)) up

    there_entry : Entry (tail (core w (part s (get_or rs w.slot 0))) k)
    there_entry =
        entry_at (tail (core w (part s (get_or rs w.slot 0))) k) (rw core_is at h)
        (tail-fine (core w (part s (get_or rs w.slot 0))) k (rw core_is at q.fine))

    deep : (w.down + 1) + depth (kid (tail (core w (part s (get_or rs w.slot 0))) k)) ≤ max_depth
    deep = go w.down q.deep
      where
        go : (n : ℕ) → n + once n (depth (core w (part s (get_or rs w.slot 0)))) ≤ max_depth → (n + 1) + depth (kid (tail (core w (part s (get_or rs w.slot 0))) k)) ≤ max_depth
        go zero b = omega (arith, there_entry.low, there_entry.deep)
        go (suc n) b = omega (arith, there_entry.low, depth-tail (core w (part s (get_or rs w.slot 0))) k (some_there _ (rw core_is at h)))

    pub child_low : w.down < max_depth
    child_low = omega (arith, deep)

    pub child_inside : {u : Want} → u ≡ inside w k → Child s rs w k u
    child_inside g =
        let c = core-inside w (part s (get_or rs w.slot 0)) q k child_low in
        let a = asks_inside w (part s (get_or rs w.slot 0)) q k child_low up in
        rw g
        (record {
          wants = record {
            long = length-set w.path w.down k ∙ q.long;
            slot = q.slot;
            deep = rw c (omega (arith, deep, once-most (w.down + 1) (depth (kid (tail (core w (part s (get_or rs w.slot 0))) k)))));
            high = rw c (nothing_up _ up);
            fine = rw a there_entry.fine;
          };
          is = a ∙ rw core_is;
        })
      where
        nothing_up : (d : ℕ) → w.up ≤ 0 → w.up + once w.up d ≤ max_depth
        nothing_up d z = let e : w.up ≡ 0 = omega arith in rw e (omega arith)

-- `wrap_over`
over-single : (i : ℕ) (p : PartReq) → i < spine → over p ≡ false → over (more i p none) ≡ (ltb max_depth (suc (depth p)) || ltb max_entries 1)
unfolding over depth width
over-single i p l o =
    let e : max (suc (depth p)) 1 ≡ suc (depth p) = omega arith in
    rw (o, lt-ltb i spine l, e)

module _ (w : Want) (p : PartReq) (q : Asking w p) (i : ℕ) (l : i < spine) (d : ℕ) (e : d ≡ depth (core w p)) where
  pub over-deep : max_depth ≤ d + w.up → true ≡ over (more i (asks w p) none)
  over-deep h =
      let b : max_depth < suc (depth (asks w p)) = omega (arith, asks-depth w p) in
      rw (over-single i (asks w p) l q.fine, lt-ltb max_depth (suc (depth (asks w p))) b)

  pub over-wide : d + w.up < max_depth → ltb max_entries 1 ≡ over (more i (asks w p) none)
  over-wide h =
      let b : suc (depth (asks w p)) ≤ max_depth = omega (arith, asks-depth w p) in
      rw (over-single i (asks w p) l q.fine, le-ltb max_depth (suc (depth (asks w p))) b)

-- `is_all`, `is_exist`
is-all : (s : List ℕ) (n : ℕ) → eqb n 0 ≡ is_all (part s n)
is-all s zero = rw part-0
is-all s (suc n) = rw (not_all s (suc n) (omega arith)) (ne_eqb (suc n) 0 (omega arith))

is-exist : (s : List ℕ) (n : ℕ) → eqb n 1 ≡ is_exist (part s n)
is-exist s zero = rw (not_exist s 0 (omega arith))
is-exist s (suc zero) = rw part-1
is-exist s (suc (suc n)) = rw (not_exist s (suc (suc n)) (omega arith)) (ne_eqb (suc (suc n)) 1 (omega arith))

module _ (w : Want) (p : PartReq) (q : Asking w p) where
  pub plain_wrapped : (k : ℕ) → 0 < w.up → false ≡ is_plain k (asks w p)
  plain_wrapped zero h = rw (asks_popped w p q h)
  plain_wrapped (suc k) h = rw (asks_popped w p q h)

  pub plain_core : (s : List ℕ) (n : ℕ) (k : ℕ) → w.up ≤ 0 → part s n ≡ core w p → k < 2 → eqb n k ≡ is_plain k (asks w p)
  plain_core s n zero up e h = rw (asks_core w p up, ← e) (is-all s n)
  plain_core s n (suc zero) up e h = rw (asks_core w p up, ← e) (is-exist s n)
  plain_core s n (suc (suc k)) up e h = absurd (omega arith)

-- a turn of `piece`
pub made_as : {s t : List ℕ} {p q : PartReq} {k r : ℕ} → Made s t p k r → p ≡ q → Made s t q k r
made_as m e = rw (← e) m

pub made_within : {s t : List ℕ} {p : PartReq} {k l r : ℕ} → Made s t p k r → k ≤ l → Made s t p l r
made_within m h = record { kept = m.kept; piece = m.piece; is = m.is; cost = omega (arith, m.cost) }

pub wrap_start : (s path : List ℕ) (q : PartReq) (m : ℕ) → Good s → m < top s → part s m ≡ q → Made s s (wraps path 0 q) 0 m
wrap_start s path q m g h e = stay s (wraps path 0 q) 0 m g h (e ∙ wraps-none path q)

pub wrap_more : (path : List ℕ) (q : PartReq) {s t u : List ℕ} (k : ℕ) {n m i : ℕ} → i ≡ get_or path (max_depth + k) 0 → Made s t (wraps path k q) k n
    → Made t u (more i (part t n) (part t 2)) 1 m → Made s u (wraps path (k + 1) q) (k + 1) m
wrap_more path q k e a b = record {
  kept = kept_trans a.kept b.kept;
  piece = b.piece;
  is = b.is ∙ rw (wraps-more, a.is, part-2, e);
  cost = omega (arith, a.cost, b.cost);
}

pub pieced : (w : Want) {s t : List ℕ} (p : PartReq) (m k : ℕ) {r : ℕ} → Made s t (wraps w.path k (part s m)) k r → k ≡ w.up → w.up ≤ max_depth
    → part s m ≡ core w p → Made s t (asks w p) max_depth r
unfolding asks
pieced w p m k x e l h = made_within (made_as x (rw (h, e))) (omega arith)

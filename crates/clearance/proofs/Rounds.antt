-- The rounds end: each that is not the last makes some loop's needs heavier, and their weight has a bound. What they come to is the
-- smallest: whatever re-entry needs hold contain it.
use Prim.Native.Nat.{ℕ, zero, suc, ◌+◌, ◌*◌, ◌<◌, ◌≤◌, max}
use native.Mathlib.Omega.{arith}
use mathlib.Core.Path.{◌≡◌, refl, sym, subst}
use mathlib.Core.Bool.{Bool, true, false, cond, ◌&&◌}
use mathlib.Core.List.{[], ◌∷◌}
use mathlib.Core.Option.{some as present}
use lib.Dec.{eqb}
use lib.ListN.{length}
use borrow.Author.Tests.{eq-eqb}
use Rattle.part.specs.PartReq.{PartReq, add, contains}
use Rattle.part.specs.Ascending.{Ascending}
use Rattle.part.proofs.Equations.{never}
use Rattle.clearance.specs.Shape.{Shape, sum, size}
use Rattle.clearance.specs.Scope.{Scope, frame, variable}
use Rattle.clearance.specs.Tree.{Tree, nop, seq, act, branch, switch, loop, break, continue, return, unmarked}
use Rattle.clearance.specs.Needs.{Exit, next, upon, of_case, each, through, most, obeys, after_continuing, Setting, walk, after_body, stable, loops, Table, reentry, round, settle, enough, smallest}
use Rattle.clearance.specs.Rules.{Contained}
use Rattle.clearance.specs.Verdict.{Request, Report, ending, setting, body, start_needs}
use Rattle.clearance.specs.IsNeed.{AscendingRequest, IsNeed}
use Rattle.clearance.proofs.Small.{cases}
use Rattle.clearance.proofs.Entry.{entry, round-at}
use Rattle.clearance.proofs.Ascending.{under-ok, none-need, trim-need}
use Rattle.clearance.proofs.Order.{Le, le_self, add_right, add-mono}
use Rattle.clearance.proofs.Count.{sum_more, sum_bound, count, count-bound, count-mono, count-grow, in_contains}
use Rattle.clearance.proofs.Smallest.{into_cond, through_more, case_mono, Self, settled_need, continuing_le, body_le, walk-self, seq_self, entry_more, round-need, smallest-least, needs_least}

most-at : (n : ℕ) (f : ℕ → ℕ) (i : ℕ) → i < n → f i ≤ most n f
unfolding most
most-at zero f i l = absurd (omega arith)
most-at (suc n) f i l = go (most-at n f i)
  where
    go : (i < n → f i ≤ most n f) → f i ≤ max (f n) (most n f)
    go h = elim (native.Mathlib.Decide.dec_lt i n) [ yes e ↦ omega (arith, h e) | no e ↦ let z : i ≡ n = omega arith in rw z (omega arith) ]

module _ (W : Setting) (fine : Ascending W.asked) (bound : ℕ) (r : ℕ → PartReq) (self : (j : ℕ) → Le (frame W.scope) (r j) (r j)) where
  abbrev S : Scope
  S = W.scope

  abbrev F : Shape
  F = frame W.scope

  weigh : PartReq → ℕ
  weigh n = count F n

  weigh-mono : (m n : PartReq) → Le F m n → weigh m ≤ weigh n
  unfolding weigh
  weigh-mono m n h = count-mono F m n h.covered

  -- some loop's needs get heavier by f
  Grows : (ℕ → PartReq → PartReq) → Type 0
  Grows f = (l : ℕ) × (l < bound) × ((n : PartReq) → Le F (r l) n → weigh (r l) < weigh (f l n))

  -- and then still by g after f, and by f after g, where both only add
  Adds : (ℕ → PartReq → PartReq) → Type 0
  Adds f = (l : ℕ) (m n : PartReq) → Le F m n → Le F m (f l n)

  grows_first : (f g : ℕ → PartReq → PartReq) → Adds g → Grows f → Grows (λ l n. f l (g l n))
  unfolding Grows Adds
  grows_first f g h z = (z.0, z.1, λ n e. z.2 (g z.0 n) (h z.0 (r z.0) n e))

  grows_second : (f g : ℕ → PartReq → PartReq) → Adds f → Adds g → Grows g → Grows (λ l n. f l (g l n))
  unfolding Grows Adds
  grows_second f g h i z = (
    z.0,
    z.1,
    λ n e.
        let x = i z.0 (r z.0) n e in
        omega (arith, z.2 n e, weigh-mono _ _ (h z.0 _ _ (le_self F _ x.high))),
  )

  through-adds : (n : ℕ) (f : ℕ → ℕ → PartReq → PartReq) → ((i : ℕ) → Adds (f i)) → Adds (λ l m. through n (λ i. f i l) m)
  unfolding Adds
  through-adds n f h l m o e = through_more S n (λ i. f i l) m o (λ i x g. h i l m x g) e

  grows_through : (n : ℕ) (t : ℕ → Bool) (f : ℕ → ℕ → PartReq → PartReq) → ((i : ℕ) → Adds (f i)) → ((i : ℕ) → i < n → t i ≡ false → Grows (f i)) →
      each n t ≡ false → Grows (λ l m. through n (λ i. f i l) m)
  unfolding each through
  grows_through zero t f a h e = never (sym e)
  grows_through (suc n) t f a h e =
      cases (t n)
      (λ z. grows_second (f n) (λ l m. through n (λ i. f i l) m) (a n) (through-adds n f a) (grows_through n t f a (λ i l. h i (omega arith)) (rw z at e)))
      (λ z. grows_first (f n) (λ l m. through n (λ i. f i l) m) (through-adds n f a) (h n (omega arith) z))

  adds : (a : Tree) (k : Exit → PartReq) → Self W fine k → Adds (entry W r a k)
  unfolding Adds
  adds a k s l m n h = entry_more W fine r self a k l m n s h

  -- a loop's own part of a round, after that of its blocks
  own : ℕ → PartReq → ℕ → PartReq → PartReq
  own l w j m = cond (eqb l j) (add w m) m

  own-adds : (l : ℕ) (w : PartReq) → IsNeed F w → Adds (own l w)
  unfolding Adds own
  own-adds l w f j m n h = into_cond S (eqb l j) m _ _ (add_right F m n w h f) h

  own-grows : (l : ℕ) (w : PartReq) → IsNeed F w → l < bound → contains (r l) w ≡ false → Grows (own l w)
  unfolding Grows own weigh
  own-grows l w f i e = (
    l,
    i,
    λ n h.
        rw (eq-eqb l l refl)
        (omega (arith, count-grow F (r l) w (self l).low f e, count-mono F (add w (r l)) (add w n) (add-mono F w (r l) w n (le_self F w f) h).covered)),
  )

  grown_loop : (l : ℕ) (w : PartReq) (f g : ℕ → PartReq → PartReq) (x y : Bool) → IsNeed F w → l < bound → Adds f → Adds g →
      (x ≡ false → Grows f) → (y ≡ false → Grows g) → contains (r l) w && (x && y) ≡ false → Grows (λ j m. own l w j (f j (g j m)))
  unfolding Adds
  grown_loop l w f g x y n i p q h k e =
      cases (contains (r l) w)
      (λ z.
      grows_second (own l w) (λ j m. f j (g j m)) (own-adds l w n) (λ j m o d. p j m _ (q j m o d))
      (cases x (λ v. grows_second f g p q (k (rw (z, v) at e))) (λ v. grows_first f g q (h v))))
      (λ z. grows_first (own l w) (λ j m. f j (g j m)) (λ j m o d. p j m _ (q j m o d)) (own-grows l w n i z))

  grown : (a : Tree) (k : Exit → PartReq) → Self W fine k → loops a ≤ bound → stable W r a k ≡ false → Grows (entry W r a k)
  unfolding stable loops entry own
  grown nop k s i h = never (sym h)
  grown (seq a b) k s i h =
      let u = seq_self W fine r self b k s in
      cases (stable W r a (upon (walk W r b k) k))
      (λ e. grows_second _ _ (adds a _ u) (adds b k s) (grown b k s (omega arith) (rw e at h)))
      (λ e. grows_first _ _ (adds b k s) (grown a _ u (omega arith) e))
  grown (act x) k s i h = never (sym h)
  grown (branch c a b) k s i h =
      cases (stable W r a k)
      (λ e. grows_second _ _ (adds a k s) (adds b k s) (grown b k s (omega arith) (rw e at h)))
      (λ e. grows_first _ _ (adds b k s) (grown a k s (omega arith) e))
  grown (switch c vs f) k s i h =
      let u = case_mono S k k s in
      grows_through (length vs) (λ j. stable W r (f j) (of_case k)) (λ j. entry W r (f j) (of_case k)) (λ j. adds (f j) (of_case k) u)
      (λ j l e. grown (f j) (of_case k) u (omega (arith, most-at (length vs) (λ i. loops (f i)) j l)) e) h
  grown (loop l a b c) k s i h =
      let u = body_le W fine r r self l b c k k s in
      let v = continuing_le W fine r r self l c k k s in
      grown_loop l (walk W r a (after_body W r l b c k)) (entry W r a (after_body W r l b c k)) (entry W r b (after_continuing S (r l) c k)) _ _
      (walk-self W fine r self a (after_body W r l b c k) u).high (omega arith) (adds a _ u) (adds b _ v)
      (λ e. grown a (after_body W r l b c k) u (omega arith) e) (λ e. grown b (after_continuing S (r l) c k) v (omega arith) e) h
  grown (break l) k s i h = never (sym h)
  grown (continue l) k s i h = never (sym h)
  grown (return l v) k s i h = never (sym h)
  grown (unmarked l mark a) k s i h =
      cases (obeys S (k next) a) (λ e. never (sym (rw e at h)))
      (λ e. subst (λ b. Grows (λ x m. cond b m (entry W r a k x m))) (sym e) (grown a k s i (rw e at h)))

module _ (W : Setting) (fine : Ascending W.asked) (a : Tree) (k : Exit → PartReq) (ends : Self W fine k) where
  abbrev G : Shape
  G = frame W.scope

  abbrev top : ℕ
  top = loops a * size (frame W.scope)

  -- the weight of all loops' re-entry needs
  total : Table → ℕ
  total t = sum (loops a) (λ j. count G (reentry t j))

  total-bound : (t : Table) → total t ≤ top
  unfolding total
  total-bound t = sum_bound (loops a) (size G) (λ j. count G (reentry t j)) (λ j. count-bound G (reentry t j))

  round_up : (t : Table) → ((j : ℕ) → IsNeed G (reentry t j)) → (j : ℕ) → j < loops a → Le G (reentry t j) (reentry (round W a k t) j)
  round_up t h j l =
      rw (round-at W a k t j) (entry_more W fine (reentry t) (λ i. le_self G _ (h i)) a k j _ _ ends (le_self G _ (h j)))

  heavier : (t : Table) → ((j : ℕ) → IsNeed G (reentry t j)) → stable W (reentry t) a k ≡ false → total t < total (round W a k t)
  unfolding total Grows weigh
  heavier t h e =
      let z = grown W fine (loops a) (reentry t) (λ i. le_self G _ (h i)) a k ends (omega arith) e in
      let l = z.0 in
      let y : count G (reentry t l) < count G (reentry (round W a k t) l) = rw (round-at W a k t l) (z.2 (reentry t l) (le_self G _ (h l))) in
      sum_more (loops a) (λ j. count G (reentry t j)) (λ j. count G (reentry (round W a k t) j)) (λ j i. count-mono G _ _ (round_up t h j i).covered) l z.1 y

  settles : (n : ℕ) (t : Table) → ((j : ℕ) → IsNeed G (reentry t j)) → top < n + total t → (u : Table) × (settle W a k n t ≡ present u)
  unfolding settle
  settles zero t h e = absurd (omega (arith, total-bound t))
  settles (suc n) t h e =
      cases (stable W (reentry t) a k)
      (λ s. (t, rw (s, settle)))
      (λ s. let z = settles n (round W a k t) (round-need W fine a k ends t h) (omega (arith, heavier t h s)) in (z.0, rw (s, settle) z.1))

  empty_need : (j : ℕ) → IsNeed G (reentry [] j)
  unfolding reentry
  empty_need j = none-need G

  pub settles_at_last : (u : Table) × (smallest W a k ≡ present u)
  unfolding smallest enough
  settles_at_last = settles (1 + top) [] empty_need (omega arith)

module _ (S : Scope) (R : Request) (P : Report) (o : AscendingRequest R) where
  ending-need : (x : Exit) → IsNeed (frame S) (ending S R x)
  unfolding ending
  ending-need x = trim-need (frame S) _ (under-ok (variable 0 ∷ []) _ o.globals)

  ends : Self (setting S R) o.value (ending S R)
  ends x = le_self (frame S) _ (ending-need x)

  -- The rounds end.
  pub rounds_end : (t : Table) × (smallest (setting S R) (body S P) (ending S R) ≡ present t)
  rounds_end = settles_at_last (setting S R) o.value (body S P) (ending S R) ends

  -- what they come to are needs, and so are those at the start
  pub settled_needs : (t : Table) → smallest (setting S R) (body S P) (ending S R) ≡ present t → (j : ℕ) → IsNeed (frame S) (reentry t j)
  settled_needs t e j = settled_need (setting S R) o.value (body S P) (ending S R) ends t e j

  pub start_need : (t : Table) → smallest (setting S R) (body S P) (ending S R) ≡ present t → IsNeed (frame S) (start_needs S R P t)
  unfolding start_needs
  start_need t e =
      (walk-self (setting S R) o.value (reentry t) (λ j. le_self (frame S) _ (settled_needs t e j)) (body S P) (ending S R) ends).high

  -- And they come to the smallest needs.
  pub rounds_smallest : (t : Table) → smallest (setting S R) (body S P) (ending S R) ≡ present t →
      (r : ℕ → PartReq) → ((j : ℕ) → IsNeed (frame S) (r j)) → stable (setting S R) r (body S P) (ending S R) ≡ true → Contained S R P t r
  unfolding start_needs
  rounds_smallest t e r f h =
      let z = smallest-least (setting S R) o.value (body S P) (ending S R) ends r f h t e in
      let y = needs_least (setting S R) o.value (body S P) (ending S R) ends r f h t e in
      record {
        loops = λ j. in_contains (frame S) _ _ (z j).low (z j).high (z j).covered;
        start = in_contains (frame S) _ _ y.low y.high y.covered;
      }

-- The walk is monotone, and the rounds stay below any re-entry needs that hold: so what they come to is the smallest.
use Prim.Native.Nat.{ℕ, zero, suc, ◌<◌}
use native.Mathlib.Omega.{arith}
use mathlib.Core.Path.{◌≡◌, refl, sym, subst}
use mathlib.Core.Bool.{Bool, true, false, cond, ◌&&◌}
use mathlib.Core.List.{[]}
use mathlib.Core.Option.{Option, some as present, none as nothing}
use lib.Dec.{eqb}
use lib.ListN.{length}
use borrow.Author.Tests.{eqb-true}
use Rattle.part.specs.PartReq.{PartReq, none, contains}
use Rattle.part.specs.Ascending.{Ascending}
use Rattle.part.proofs.Equations.{never}
use Rattle.module.specs.Module.{ExpressionHandle}
use Rattle.clearance.specs.Shape.{Shape}
use Rattle.clearance.specs.Scope.{Scope, frame}
use Rattle.clearance.specs.Tree.{Tree, nop, seq, act, branch, switch, loop, break, continue, return, unmarked}
use Rattle.clearance.specs.Needs.{Exit, next, broke, continued, returned, upon, out_break, out_continue, of_case, of_continuing, of_body, each, union, through}
use Rattle.clearance.specs.Needs.{quiet, only_next, obeys, kept, after_continuing, Setting, walk, after_body, stable}
use Rattle.clearance.specs.Needs.{Table, reentry, round, settle, smallest, enough}
use Rattle.clearance.specs.IsNeed.{IsNeed}
use Rattle.clearance.proofs.Small.{cases, both_true, each_at}
use Rattle.clearance.proofs.Entry.{entry, round-at}
use Rattle.clearance.proofs.Cov.{cov-contains}
use Rattle.clearance.proofs.Ascending.{none-need}
use Rattle.clearance.proofs.Order.{Le, le_self, le_chain, none-le, add_left, add_right, add-least, add-mono, wholly-mono, before-mono, idle-less, before-idle, turning-mono, valued-mono}

both_in : (a b c d : Bool) → (a ≡ true → c ≡ true) → (b ≡ true → d ≡ true) → a && b ≡ true → c && d ≡ true
both_in a b c d f g h = let z = both_true a b h in rw (f z.0) (g z.1)

pub each_in : (n : ℕ) (f g : ℕ → Bool) → ((i : ℕ) → i < n → f i ≡ true → g i ≡ true) → each n f ≡ true → each n g ≡ true
unfolding each
each_in zero f g h e = refl
each_in (suc n) f g h e = both_in _ _ _ _ (h n (omega arith)) (each_in n f g (λ i l. h i (omega arith))) e

module _ (S : Scope) where
  abbrev T : Shape
  T = frame S

  -- by cases of two tests of which the first holds where the second does
  cond-mono : (b c : Bool) (x y z w : PartReq) → (c ≡ true → b ≡ true) → Le T x z → (b ≡ true → Le T x w) → Le T y w → Le T (cond b x y) (cond c z w)
  cond-mono true true x y z w h f g i = f
  cond-mono true false x y z w h f g i = g refl
  cond-mono false true x y z w h f g i = never (h refl)
  cond-mono false false x y z w h f g i = i

  cond_same : (b : Bool) (x y z w : PartReq) → Le T x z → Le T y w → Le T (cond b x y) (cond b z w)
  cond_same true x y z w f g = f
  cond_same false x y z w f g = g

  pub into_cond : (b : Bool) (m x y : PartReq) → Le T m x → Le T m y → Le T m (cond b x y)
  into_cond true m x y f g = f
  into_cond false m x y f g = g

  abbrev pub Below : (Exit → PartReq) → (Exit → PartReq) → Type 0
  Below k l = (x : Exit) → Le (frame S) (k x) (l x)

  pub upon-mono : (m n : PartReq) (k l : Exit → PartReq) → Le T m n → Below k l → Below (upon m k) (upon n l)
  unfolding upon
  upon-mono m n k l h g next = h
  upon-mono m n k l h g broke = g broke
  upon-mono m n k l h g continued = g continued
  upon-mono m n k l h g returned = g returned

  pub case_mono : (k l : Exit → PartReq) → Below k l → Below (of_case k) (of_case l)
  unfolding of_case
  case_mono k l h x = h (out_break x)

  body_mono : (m n : PartReq) (k l : Exit → PartReq) → Le T m n → Below k l → Below (of_body m k) (of_body n l)
  unfolding of_body of_continuing
  body_mono m n k l h g x = upon-mono m n (of_case k) (of_case l) h (case_mono k l g) (out_continue x)

  continuing_mono : (i j : PartReq) (c : Option ExpressionHandle) (k l : Exit → PartReq) → Le T i j → Below k l →
      Below (after_continuing S i c k) (after_continuing S j c l)
  unfolding after_continuing of_continuing
  continuing_mono i j c k l h g = upon-mono _ _ (of_case k) (of_case l) (turning-mono S c i j _ _ h (g next)) (case_mono k l g)

  union-mono : (n : ℕ) (f g : ℕ → PartReq) → ((i : ℕ) → Le T (f i) (g i)) → Le T (union n f) (union n g)
  unfolding union
  union-mono zero f g h = le_self T none (none-need T)
  union-mono (suc n) f g h = add-mono T _ _ _ _ (h n) (union-mono n f g h)

  pub through_more : (l : ℕ) (f : ℕ → PartReq → PartReq) (m n : PartReq) → ((i : ℕ) (x : PartReq) → Le T m x → Le T m (f i x)) → Le T m n → Le T m (through l f n)
  unfolding through
  through_more zero f m n h g = g
  through_more (suc l) f m n h g = h l _ (through_more l f m n h g)

  through-mono : (l : ℕ) (f g : ℕ → PartReq → PartReq) (m n : PartReq) → ((i : ℕ) (x y : PartReq) → Le T x y → Le T (f i x) (g i y)) → Le T m n →
      Le T (through l f m) (through l g n)
  unfolding through
  through-mono zero f g m n h e = e
  through-mono (suc l) f g m n h e = h l _ _ (through-mono l f g m n h e)

  through-least : (l : ℕ) (f : ℕ → PartReq → PartReq) (m o : PartReq) → ((i : ℕ) → i < l → (x : PartReq) → Le T x o → Le T (f i x) o) → Le T m o →
      Le T (through l f m) o
  unfolding through
  through-least zero f m o h g = g
  through-least (suc l) f m o h g = h l (omega arith) _ (through-least l f m o (λ i e. h i (omega arith)) g)

  quiet-less : (m n : PartReq) (a : Tree) (e : Exit → Bool) → Le T m n → quiet S n a e ≡ true → quiet S m a e ≡ true
  unfolding quiet
  quiet-less m n nop e h q = q
  quiet-less m n (seq a b) e h q = both_in _ _ _ _ (quiet-less m n a e h) (quiet-less m n b e h) q
  quiet-less m n (act x) e h q = idle-less S x m n h q
  quiet-less m n (branch c a b) e h q = both_in _ _ _ _ (quiet-less m n a e h) (quiet-less m n b e h) q
  quiet-less m n (switch c vs f) e h q = each_in (length vs) _ _ (λ i l. quiet-less m n (f i) (of_case e) h) q
  quiet-less m n (loop j a b c) e h q = both_in _ _ _ _ (quiet-less m n a _ h) (quiet-less m n b _ h) q
  quiet-less m n (break j) e h q = q
  quiet-less m n (continue j) e h q = q
  quiet-less m n (return j v) e h q = q
  quiet-less m n (unmarked j mark a) e h q = quiet-less m n a e h q

  obeys-less : (m n : PartReq) (a : Tree) → Le T m n → obeys S n a ≡ true → obeys S m a ≡ true
  unfolding obeys
  obeys-less m n a h q = quiet-less m n a only_next h q

  kept-mono : (a : Tree) (m n o p : PartReq) → Le T m n → Le T o p → Le T (kept a m o) (kept a n p)
  unfolding kept
  kept-mono nop m n o p h g = add-mono T m o n p h g
  kept-mono (seq a b) m n o p h g = add-mono T m o n p h g
  kept-mono (act x) m n o p h g = g
  kept-mono (branch c a b) m n o p h g = add-mono T m o n p h g
  kept-mono (switch c vs f) m n o p h g = add-mono T m o n p h g
  kept-mono (loop j a b c) m n o p h g = add-mono T m o n p h g
  kept-mono (break j) m n o p h g = add-mono T m o n p h g
  kept-mono (continue j) m n o p h g = add-mono T m o n p h g
  kept-mono (return j v) m n o p h g = add-mono T m o n p h g
  kept-mono (unmarked j mark a) m n o p h g = add-mono T m o n p h g

module _ (W : Setting) (fine : Ascending W.asked) where
  abbrev S : Scope
  S = W.scope

  abbrev F : Shape
  F = frame W.scope

  -- what an unmarked statement keeps that breaks its rule has all that it would pass on if it obeyed
  kept_more : (r : ℕ → PartReq) (a : Tree) (m : PartReq) (k : Exit → PartReq) →
      obeys S m a ≡ true → Le F m (k next) → Le F (walk W r a k) (walk W r a k) → Le F m (kept a (k next) (walk W r a k))
  unfolding kept
  kept_more r nop m k q h w = add_left F m _ _ h w.high
  kept_more r (seq a b) m k q h w = add_left F m _ _ h w.high
  kept_more r (act x) m k q h w =
      unfold walk in le_chain F _ _ _ (before-idle S x m h.low (unfold obeys quiet in q)) (before-mono S x m (k next) h)
  kept_more r (branch c a b) m k q h w = add_left F m _ _ h w.high
  kept_more r (switch c vs f) m k q h w = add_left F m _ _ h w.high
  kept_more r (loop j a b c) m k q h w = add_left F m _ _ h w.high
  kept_more r (break j) m k q h w = add_left F m _ _ h w.high
  kept_more r (continue j) m k q h w = add_left F m _ _ h w.high
  kept_more r (return j v) m k q h w = add_left F m _ _ h w.high
  kept_more r (unmarked j mark a) m k q h w = add_left F m _ _ h w.high

  abbrev pub Self : (Exit → PartReq) → Type 0
  Self k = (x : Exit) → Le (frame W.scope) (k x) (k x)

  module _ (r t : ℕ → PartReq) (under : (j : ℕ) → Le F (r j) (t j)) where
    pub walk-mono : (a : Tree) (k l : Exit → PartReq) → Below S k l → Le F (walk W r a k) (walk W t a l)
    unfolding walk
    walk-mono nop k l h = h next
    walk-mono (seq a b) k l h = walk-mono a _ _ (upon-mono S _ _ k l (walk-mono b k l h) h)
    walk-mono (act x) k l h = before-mono S x _ _ (h next)
    walk-mono (branch c a b) k l h = wholly-mono S c _ _ (add-mono F _ _ _ _ (walk-mono a k l h) (walk-mono b k l h))
    walk-mono (switch c vs f) k l h = wholly-mono S c _ _ (union-mono S (length vs) _ _ (λ i. walk-mono (f i) _ _ (case_mono S k l h)))
    walk-mono (loop j a b c) k l h =
        walk-mono a _ _ (body_mono S _ _ k l (walk-mono b _ _ (continuing_mono S (r j) (t j) c k l (under j) h)) h)
    walk-mono (break j) k l h = h broke
    walk-mono (continue j) k l h = h continued
    walk-mono (return j v) k l h = valued-mono S W.asked fine v _ _ (h returned)
    walk-mono (unmarked j mark a) k l h =
        let w = walk-mono a k l h in
        cond-mono S _ _ _ _ _ _ (obeys-less S _ _ a (h next)) (h next) (λ q. kept_more t a (k next) l q (h next) (le_self F _ w.high))
        (kept-mono S a _ _ _ _ (h next) w)

    pub continuing_le : (j : ℕ) (c : Option ExpressionHandle) (k l : Exit → PartReq) → Below S k l →
        Below S (after_continuing S (r j) c k) (after_continuing S (t j) c l)
    continuing_le j c k l h = continuing_mono S (r j) (t j) c k l (under j) h

    pub body_le : (j : ℕ) (b : Tree) (c : Option ExpressionHandle) (k l : Exit → PartReq) → Below S k l → Below S (after_body W r j b c k) (after_body W t j b c l)
    unfolding after_body
    body_le j b c k l h = body_mono S _ _ k l (walk-mono b _ _ (continuing_le j c k l h)) h

  module _ (t : ℕ → PartReq) (self : (j : ℕ) → Le F (t j) (t j)) where
    pub walk-self : (a : Tree) (k : Exit → PartReq) → Self k → Le F (walk W t a k) (walk W t a k)
    walk-self a k h = walk-mono t t self a k k h

    pub seq_self : (b : Tree) (k : Exit → PartReq) → Self k → Self (upon (walk W t b k) k)
    seq_self b k s = upon-mono S _ _ k k (walk-self b k s) s

    -- a round only adds
    pub entry_more : (a : Tree) (k : Exit → PartReq) (j : ℕ) (m n : PartReq) → Self k → Le F m n → Le F m (entry W t a k j n)
    unfolding entry
    entry_more nop k j m n s h = h
    entry_more (seq a b) k j m n s h = entry_more a _ j m _ (seq_self b k s) (entry_more b k j m n s h)
    entry_more (act x) k j m n s h = h
    entry_more (branch c a b) k j m n s h = entry_more a k j m _ s (entry_more b k j m n s h)
    entry_more (switch c vs f) k j m n s h =
        through_more S (length vs) _ m n (λ i x g. entry_more (f i) (of_case k) j m x (case_mono S k k s) g) h
    entry_more (loop i a b c) k j m n s h =
        let u = body_le t t self i b c k k s in
        let z = entry_more a _ j m _ u (entry_more b _ j m n (continuing_le t t self i c k k s) h) in
        into_cond S (eqb i j) m _ _ (add_right F m _ _ z (walk-self a _ u).high) z
    entry_more (break i) k j m n s h = h
    entry_more (continue i) k j m n s h = h
    entry_more (return i v) k j m n s h = h
    entry_more (unmarked i mark a) k j m n s h = into_cond S (obeys S (k next) a) m _ _ h (entry_more a k j m n s h)

  module _ (r t : ℕ → PartReq) (under : (j : ℕ) → Le F (r j) (t j)) where
    entry-mono : (a : Tree) (k l : Exit → PartReq) (j : ℕ) (m n : PartReq) → Below S k l → Le F m n → Le F (entry W r a k j m) (entry W t a l j n)
    unfolding entry
    entry-mono nop k l j m n h g = g
    entry-mono (seq a b) k l j m n h g = entry-mono a _ _ j _ _ (upon-mono S _ _ k l (walk-mono r t under b k l h) h) (entry-mono b k l j m n h g)
    entry-mono (act x) k l j m n h g = g
    entry-mono (branch c a b) k l j m n h g = entry-mono a k l j _ _ h (entry-mono b k l j m n h g)
    entry-mono (switch c vs f) k l j m n h g =
        through-mono S (length vs) _ _ m n (λ i x y e. entry-mono (f i) (of_case k) (of_case l) j x y (case_mono S k l h) e) g
    entry-mono (loop i a b c) k l j m n h g =
        let u = body_le r t under i b c k l h in
        let z = entry-mono a _ _ j _ _ u (entry-mono b _ _ j m n (continuing_le r t under i c k l h) g) in
        cond_same S (eqb i j) _ _ _ _ (add-mono F _ _ _ _ (walk-mono r t under a _ _ u) z) z
    entry-mono (break i) k l j m n h g = g
    entry-mono (continue i) k l j m n h g = g
    entry-mono (return i v) k l j m n h g = g
    entry-mono (unmarked i mark a) k l j m n h g =
        cond-mono S _ _ _ _ _ _ (obeys-less S _ _ a (h next)) g
        (λ q. entry_more t (λ j. le_self F _ (under j).high) a l j m n (λ x. le_self F _ (h x).high) g) (entry-mono a k l j m n h g)

  -- where the re-entry needs hold, a round adds nothing to them
  module _ (r : ℕ → PartReq) (self : (j : ℕ) → Le F (r j) (r j)) where
    holds_le : (j : ℕ) (n : PartReq) → IsNeed F n → contains (r j) n ≡ true → Le F n (r j)
    holds_le j n f h = record { low = f; high = (self j).high; covered = λ q w c. cov-contains (r j) n q h c }

    stable-entry : (a : Tree) (k : Exit → PartReq) (j : ℕ) (n : PartReq) → Self k → stable W r a k ≡ true → Le F n (r j) → Le F (entry W r a k j n) (r j)
    unfolding entry stable
    stable-entry nop k j n s h g = g
    stable-entry (seq a b) k j n s h g =
        let q = both_true _ _ h in
        stable-entry a _ j _ (seq_self r self b k s) q.0 (stable-entry b k j n s q.1 g)
    stable-entry (act x) k j n s h g = g
    stable-entry (branch c a b) k j n s h g = let q = both_true _ _ h in stable-entry a k j _ s q.0 (stable-entry b k j n s q.1 g)
    stable-entry (switch c vs f) k j n s h g =
        through-least S (length vs) _ n (r j)
        (λ i l x e. stable-entry (f i) (of_case k) j x (case_mono S k k s) (each_at (length vs) (λ i. stable W r (f i) (of_case k)) h i l) e) g
    stable-entry (loop i a b c) k j n s h g =
        let q = both_true _ _ h in
        let p = both_true _ _ q.1 in
        let u = body_le r r self i b c k k s in
        let z = stable-entry a _ j _ u p.0 (stable-entry b _ j n (continuing_le r r self i c k k s) p.1 g) in
        cases (eqb i j)
        (λ e. rw e (add-least F _ _ _ (subst (λ x. Le F (walk W r a (after_body W r i b c k)) (r x)) (eqb-true i j e) (holds_le i _ (walk-self r self a _ u).high q.0)) z))
        (λ e. rw e z)
    stable-entry (break i) k j n s h g = g
    stable-entry (continue i) k j n s h g = g
    stable-entry (return i v) k j n s h g = g
    stable-entry (unmarked i mark a) k j n s h g =
        cases (obeys S (k next) a) (λ e. rw e g) (λ e. rw e (stable-entry a k j n s (rw e at h) g))

nothing-some : {A : Type 0} {t : Table} → nothing ≡ present t → A
nothing-some e = never cc

module _ (W : Setting) (fine : Ascending W.asked) (a : Tree) (k : Exit → PartReq) (ends : Self W fine k) where
  abbrev G : Shape
  G = frame W.scope

  pub round-need : (t : Table) → ((j : ℕ) → IsNeed G (reentry t j)) → (j : ℕ) → IsNeed G (reentry (round W a k t) j)
  round-need t h j =
      subst (IsNeed G) (sym (round-at W a k t j))
      (entry_more W fine (reentry t) (λ i. le_self G _ (h i)) a k j _ _ ends (le_self G _ (h j))).high

  empty_need : (j : ℕ) → IsNeed G (reentry [] j)
  unfolding reentry
  empty_need j = none-need G

  settle-need : (n : ℕ) (t u : Table) → ((j : ℕ) → IsNeed G (reentry t j)) → settle W a k n t ≡ present u → (j : ℕ) → IsNeed G (reentry u j)
  unfolding settle
  settle-need zero t u g e j = nothing-some e
  settle-need (suc n) t u g e j =
      cases (stable W (reentry t) a k)
      (λ s. let z : t ≡ u = cc (rw (s, settle) at e) in subst (λ v. IsNeed G (reentry v j)) z (g j))
      (λ s. settle-need n (round W a k t) u (round-need t g) (rw (s, settle) at e) j)

  pub settled_need : (u : Table) → smallest W a k ≡ present u → (j : ℕ) → IsNeed G (reentry u j)
  unfolding smallest
  settled_need u e j = settle-need (enough W a) [] u empty_need e j

  module _ (r : ℕ → PartReq) (self : (j : ℕ) → IsNeed G (r j)) (h : stable W r a k ≡ true) where
    round-least : (t : Table) → ((j : ℕ) → Le G (reentry t j) (r j)) → (j : ℕ) → Le G (reentry (round W a k t) j) (r j)
    round-least t g j =
        subst (λ n. Le G n (r j)) (sym (round-at W a k t j))
        (le_chain G _ _ _ (entry-mono W fine (reentry t) r g a k k j _ _ ends (g j))
        (stable-entry W fine r (λ i. le_self G _ (self i)) a k j (r j) ends h (le_self G _ (self j))))

    settle-least : (n : ℕ) (t u : Table) → ((j : ℕ) → Le G (reentry t j) (r j)) → settle W a k n t ≡ present u → (j : ℕ) → Le G (reentry u j) (r j)
    unfolding settle
    settle-least zero t u g e j = nothing-some e
    settle-least (suc n) t u g e j =
        cases (stable W (reentry t) a k)
        (λ s. let z : t ≡ u = cc (rw (s, settle) at e) in rw z at (g j))
        (λ s. settle-least n (round W a k t) u (round-least t g) (rw (s, settle) at e) j)

    empty_least : (j : ℕ) → Le G (reentry [] j) (r j)
    unfolding reentry
    empty_least j = none-le G _ (self j)

    -- whatever re-entry needs hold, they have all that the smallest have
    pub smallest-least : (u : Table) → smallest W a k ≡ present u → (j : ℕ) → Le G (reentry u j) (r j)
    unfolding smallest
    smallest-least u e j = settle-least (enough W a) [] u empty_least e j

    -- and so have the needs that come of them
    pub needs_least : (u : Table) → smallest W a k ≡ present u → Le G (walk W (reentry u) a k) (walk W r a k)
    needs_least u e = walk-mono W fine (reentry u) r (smallest-least u e) a k k ends

-- The tests of 15 and 16 look at exactly the points of the walk: by induction over the body, and over the point.
use Prim.Native.Nat.{ℕ, zero, suc, ◌<◌}
use native.Mathlib.Omega.{arith}
use mathlib.Core.Path.{◌≡◌, refl, sym, ◌∙◌}
use mathlib.Core.Bool.{Bool, true, false, not, ◌||◌}
use mathlib.Core.Logic.{◌↔◌}
use lib.ListN.{length}
use borrow.Author.Tests.{not-true}
use Rattle.part.specs.PartReq.{PartReq}
use Rattle.part.proofs.Equations.{never}
use Rattle.clearance.specs.Tree.{Tree, nop, seq, act, branch, switch, loop, break, continue, return, unmarked}
use Rattle.clearance.specs.Needs.{Exit, next, upon, of_case, each, obeys, after_continuing, around, Setting, walk, after_body, amid, somewhere}
use Rattle.clearance.specs.Answered.{Point, after, before, inside, Inside, between, in_first, in_second, in_accept, in_reject, in_case, in_body, in_continuing, in_broken}
use Rattle.clearance.proofs.Small.{cases, each_at}
use Rattle.clearance.proofs.Exactly.{obeys-exactly, disobeys}
use Rattle.clearance.proofs.Relations.{impossible, either_left, either_right}

some_of : (n : ℕ) (f : ℕ → Bool) → not (each n (λ i. not (f i))) ≡ true → (i : ℕ) × (i < n) × (f i ≡ true)
unfolding each
some_of zero f h = never h
some_of (suc n) f h =
    cases (f n) (λ e. (n, omega arith, e)) (λ e. let z = some_of n f (rw e at h) in (z.0, omega (arith, z.1), z.2))

of_some : (n : ℕ) (f : ℕ → Bool) (i : ℕ) → i < n → f i ≡ true → not (each n (λ i. not (f i))) ≡ true
of_some n f i l h =
    cases (each n (λ i. not (f i))) (λ e. never (sym (not-true _ (each_at n (λ i. not (f i)) e i l)) ∙ h)) (λ e. rw e)

either : {A : Type 0} (a b : Bool) → a || b ≡ true → (a ≡ true → A) → (b ≡ true → A) → A
either true b h f g = f refl
either false b h f g = g h

module _ (W : Setting) (r : ℕ → PartReq) (test : PartReq → Bool) where
  abbrev PointOf : Tree → (Exit → PartReq) → Type 0
  PointOf a k = (m : PartReq) × Point W r m a k × (test m ≡ true)

  abbrev InsideOf : Tree → (Exit → PartReq) → Type 0
  InsideOf a k = (m : PartReq) × Inside W r m a k × (test m ≡ true)

  point_by : (a : Tree) (k : Exit → PartReq) → (amid W r test a k ≡ true → InsideOf a k) → around test (k next) (walk W r a k) (amid W r test a k) ≡ true → PointOf a k
  unfolding around
  point_by a k f h =
      either (test (k next)) _ h
      (λ e. (k next, after refl, e))
      (λ g. either (test (walk W r a k)) _ g (λ e. (walk W r a k, before refl, e)) (λ e. let z = f e in (z.0, inside z.1, z.2)))

  inside_of : (a : Tree) (k : Exit → PartReq) → amid W r test a k ≡ true → InsideOf a k
  unfolding amid
  inside_of nop k h = never h
  inside_of (seq a b) k h =
      either (test (walk W r b k)) _ h
      (λ e. (walk W r b k, between refl, e))
      (λ g.
      either (amid W r test a (upon (walk W r b k) k)) _ g
      (λ e. let z = inside_of a (upon (walk W r b k) k) e in (z.0, in_first z.1, z.2))
      (λ e. let z = inside_of b k e in (z.0, in_second z.1, z.2)))
  inside_of (act x) k h = never h
  inside_of (branch c a b) k h =
      either (around test (k next) (walk W r a k) (amid W r test a k)) _ h
      (λ e. let z = point_by a k (inside_of a k) e in (z.0, in_accept z.1, z.2))
      (λ e. let z = point_by b k (inside_of b k) e in (z.0, in_reject z.1, z.2))
  inside_of (switch c vs f) k h =
      let y = some_of (length vs) (λ i. around test (of_case k next) (walk W r (f i) (of_case k)) (amid W r test (f i) (of_case k))) h in
      let z = point_by (f y.0) (of_case k) (inside_of (f y.0) (of_case k)) y.2 in
      (z.0, in_case y.0 y.1 z.1, z.2)
  inside_of (loop n a b c) k h =
      let l = after_body W r n b c k in
      let m = after_continuing W.scope (r n) c k in
      either (around test (l next) (walk W r a l) (amid W r test a l)) _ h
      (λ e. let z = point_by a l (inside_of a l) e in (z.0, in_body z.1, z.2))
      (λ e. let z = point_by b m (inside_of b m) e in (z.0, in_continuing z.1, z.2))
  inside_of (break n) k h = never h
  inside_of (continue n) k h = never h
  inside_of (return n v) k h = never h
  inside_of (unmarked n mark a) k h =
      cases (obeys W.scope (k next) a)
      (λ e. never (rw e at h))
      (λ e.
      let z = inside_of a k (rw e at h) in
      (z.0, in_broken (λ g. impossible (sym e ∙ (obeys-exactly W.scope (k next) a).1 g)) z.1, z.2))

  module _ (m : PartReq) (t : test m ≡ true) where
    mutual
      unfolding around amid

      of_point : (a : Tree) (k : Exit → PartReq) → Point W r m a k → around test (k next) (walk W r a k) (amid W r test a k) ≡ true
      of_point a k (after e) = either_left _ _ (rw e at t)
      of_point a k (before e) = either_right (test (k next)) _ (either_left _ _ (rw e at t))
      of_point a k (inside h) = either_right (test (k next)) _ (either_right (test (walk W r a k)) _ (of_inside a k h))

      of_inside : (a : Tree) (k : Exit → PartReq) → Inside W r m a k → amid W r test a k ≡ true
      of_inside a k (between e) = either_left _ _ (rw e at t)
      of_inside a k (in_first {b = b} h) = either_right (test (walk W r b k)) _ (either_left _ _ (of_inside _ _ h))
      of_inside a k (in_second {a = x} {b = b} h) =
          either_right (test (walk W r b k)) _ (either_right (amid W r test x (upon (walk W r b k) k)) _ (of_inside _ _ h))
      of_inside a k (in_accept h) = either_left _ _ (of_point _ _ h)
      of_inside a k (in_reject {a = x} h) = either_right (around test (k next) (walk W r x k) (amid W r test x k)) _ (of_point _ _ h)
      of_inside a k (in_case {vs = vs} {f = f} i l h) =
          of_some (length vs) (λ i. around test (of_case k next) (walk W r (f i) (of_case k)) (amid W r test (f i) (of_case k))) i l (of_point _ _ h)
      of_inside a k (in_body h) = either_left _ _ (of_point _ _ h)
      of_inside a k (in_continuing {n = n} {a = x} {b = b} {c = c} h) =
          either_right (around test (after_body W r n b c k next) (walk W r x (after_body W r n b c k)) (amid W r test x (after_body W r n b c k))) _ (of_point _ _ h)
      of_inside a k (in_broken {a = x} o h) = rw (disobeys W.scope (k next) x o) (of_inside _ _ h)

  -- the test holds somewhere exactly where it holds of the needs at some point
  pub points_exactly : (a : Tree) (k : Exit → PartReq) → (somewhere W r test a k ≡ true) ↔ PointOf a k
  unfolding somewhere
  points_exactly a k = (point_by a k (inside_of a k), (λ z. of_point z.0 z.2 a k z.1))

  -- and nowhere exactly where it holds at none
  pub nowhere_exactly : (a : Tree) (k : Exit → PartReq) → (somewhere W r test a k ≡ false) ↔ ((m : PartReq) → Point W r m a k → test m ≡ false)
  nowhere_exactly a k = (
    (λ h m p. cases (test m) (λ e. never (sym h ∙ (points_exactly a k).1 (m, p, e))) (λ e. e)),
    (λ f. cases (somewhere W r test a k) (λ e. let z = (points_exactly a k).0 e in never (sym (f z.0 z.1) ∙ z.2)) (λ e. e)),
  )

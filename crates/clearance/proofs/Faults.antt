-- The faults of the walk are exactly the statements that break their rule, and the missing marks those whose lack breaks one.
use Prim.Native.Nat.{ℕ, zero, suc, ◌<◌}
use native.Mathlib.Omega.{arith}
use native.Mathlib.Decide.{dec_lt}
use mathlib.Core.Path.{◌≡◌, refl, sym, subst, ◌∙◌}
use mathlib.Core.Bool.{Bool, true, false, cond}
use mathlib.Core.List.{List, [], ◌∷◌, ◌++◌}
use mathlib.Core.Logic.{◌↔◌}
use lib.ListN.{length}
use Rattle.part.specs.PartReq.{PartReq}
use Rattle.part.proofs.Equations.{never}
use Rattle.clearance.specs.Tree.{Tree, nop, seq, act, branch, switch, loop, break, continue, return, unmarked}
use Rattle.clearance.specs.Needs.{Exit, next, upon, of_case, concat, obeys, by_statement, by_position, Setting, walk, after_body, lacking, broken, missing}
use Rattle.clearance.specs.Rules.{Obeys, Breaks, breaks_first, breaks_second, breaks_accept, breaks_reject, breaks_case, breaks_body, breaks_continuing, breaks_itself, breaks_inside, Member, here, later}
use Rattle.clearance.proofs.Exactly.{obeys-exactly, disobeys}
use Rattle.clearance.proofs.Lowest.{no_member, first_or_later}

-- Lists

pub either_list : {A : Type 0} (n : ℕ) (a b : List ℕ) → Member n (a ++ b) → (Member n a → A) → (Member n b → A) → A
either_list n [] b h f g = g h
either_list n (x ∷ a) b h f g =
    first_or_later x n (a ++ b) h (λ e. f (subst (λ y. Member n (y ∷ a)) e here)) (λ m. either_list n a b m (λ i. f (later i)) g)

pub in_left : (n : ℕ) (a b : List ℕ) → Member n a → Member n (a ++ b)
in_left n a b here = here
in_left n a b (later h) = later (in_left n _ b h)

pub in_right : (n : ℕ) (a b : List ℕ) → Member n b → Member n (a ++ b)
in_right n [] b h = h
in_right n (x ∷ a) b h = later (in_right n a b h)

pub in_concat : (n k : ℕ) (f : ℕ → List ℕ) (i : ℕ) → i < k → Member n (f i) → Member n (concat k f)
unfolding concat
in_concat n zero f i l h = absurd (omega arith)
in_concat n (suc k) f i l h =
    elim (dec_lt i k) [
      | yes e ↦ in_right n (f k) _ (in_concat n k f i e h)
      | no e ↦ let y : i ≡ k = omega arith in in_left n (f k) _ (rw y at h)
    ]

pub of_concat : (n k : ℕ) (f : ℕ → List ℕ) → Member n (concat k f) → (i : ℕ) × (i < k) × Member n (f i)
unfolding concat
of_concat n zero f h = no_member n [] refl h
of_concat n (suc k) f h =
    either_list n (f k) (concat k f) h (λ m. (k, omega arith, m)) (λ m. let z = of_concat n k f m in (z.0, omega (arith, z.1), z.2))

-- The walk

module _ (W : Setting) (r : ℕ → PartReq) (name : ℕ → ℕ → ℕ) (n : ℕ) where
  breaks_rule : (m mark : ℕ) (a : Tree) (k : Exit → PartReq) (q : Bool) → obeys W.scope (k next) a ≡ q → (Member n (lacking W r name a k) → Breaks W r name n a k) →
      Member n (cond q [] (name m mark ∷ lacking W r name a k)) → Breaks W r name n (unmarked m mark a) k
  breaks_rule m mark a k true e f h = no_member n [] refl h
  breaks_rule m mark a k false e f h =
      let o : Obeys W.scope (k next) a → ⊥ = λ z. never (sym e ∙ (obeys-exactly W.scope (k next) a).1 z) in
      first_or_later (name m mark) n (lacking W r name a k) h (λ z. breaks_itself z o) (λ z. breaks_inside o (f z))

  breaks_of : (a : Tree) (k : Exit → PartReq) → Member n (lacking W r name a k) → Breaks W r name n a k
  unfolding lacking
  breaks_of nop k h = no_member n [] refl h
  breaks_of (seq a b) k h = either_list n _ (lacking W r name b k) h (λ m. breaks_first (breaks_of a _ m)) (λ m. breaks_second (breaks_of b k m))
  breaks_of (act x) k h = no_member n [] refl h
  breaks_of (branch c a b) k h = either_list n (lacking W r name a k) _ h (λ m. breaks_accept (breaks_of a k m)) (λ m. breaks_reject (breaks_of b k m))
  breaks_of (switch c vs f) k h =
      let z = of_concat n (length vs) (λ i. lacking W r name (f i) (of_case k)) h in
      breaks_case z.0 z.1 (breaks_of (f z.0) (of_case k) z.2)
  breaks_of (loop m a b c) k h = either_list n _ (lacking W r name b _) h (λ i. breaks_body (breaks_of a _ i)) (λ i. breaks_continuing (breaks_of b _ i))
  breaks_of (break m) k h = no_member n [] refl h
  breaks_of (continue m) k h = no_member n [] refl h
  breaks_of (return m v) k h = no_member n [] refl h
  breaks_of (unmarked m mark a) k h = breaks_rule m mark a k (obeys W.scope (k next) a) refl (breaks_of a k) h

  broken_of : (a : Tree) (k : Exit → PartReq) → Breaks W r name n a k → Member n (lacking W r name a k)
  unfolding lacking
  broken_of a k (breaks_first h) = in_left n _ _ (broken_of _ _ h)
  broken_of a k (breaks_second {a = x} {b = y} h) = in_right n (lacking W r name x (upon (walk W r y k) k)) _ (broken_of _ k h)
  broken_of a k (breaks_accept h) = in_left n _ _ (broken_of _ k h)
  broken_of a k (breaks_reject {a = x} h) = in_right n (lacking W r name x k) _ (broken_of _ k h)
  broken_of a k (breaks_case {vs = vs} {f = f} i l h) = in_concat n (length vs) (λ i. lacking W r name (f i) (of_case k)) i l (broken_of _ _ h)
  broken_of a k (breaks_body h) = in_left n _ _ (broken_of _ _ h)
  broken_of a k (breaks_continuing {m = m} {a = x} {b = y} {c = c} h) = in_right n (lacking W r name x (after_body W r m y c k)) _ (broken_of _ _ h)
  broken_of a k (breaks_itself {a = x} e o) = rw (disobeys W.scope (k next) x o) (subst (λ y. Member n (y ∷ lacking W r name x k)) e here)
  broken_of a k (breaks_inside {a = x} o h) = rw (disobeys W.scope (k next) x o) (later (broken_of _ k h))

  lacking-exactly : (a : Tree) (k : Exit → PartReq) → Member n (lacking W r name a k) ↔ Breaks W r name n a k
  lacking-exactly a k = (breaks_of a k, broken_of a k)

module _ (W : Setting) (r : ℕ → PartReq) (n : ℕ) where
  pub faults_exactly : (a : Tree) (k : Exit → PartReq) → Member n (broken W r a k) ↔ Breaks W r by_statement n a k
  faults_exactly = lacking-exactly W r by_statement n

  pub missing-exactly : (a : Tree) (k : Exit → PartReq) → Member n (missing W r a k) ↔ Breaks W r by_position n a k
  missing-exactly = lacking-exactly W r by_position n

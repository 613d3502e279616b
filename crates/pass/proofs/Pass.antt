-- A pass whose bound is not passed has the needs of `walk`, and what it carries on is what `sweep`, `broken`, `stable` and `somewhere` say: by
-- recursion over the tree, each clause as the passes that it is bound together from.
use Prim.Native.Nat.{ℕ, zero, suc}
use mathlib.Core.Path.{◌≡◌, refl, sym, ap}
use mathlib.Core.Bool.{Bool, true, false, cond}
use mathlib.Core.List.{List, [], ◌∷◌}
use mathlib.Core.Option.{Option, some as present, none as absent}
use mathlib.Core.Logic.{◌⊎◌, inl, inr}
use lib.ListN.{length}
use Rattle.part.specs.PartReq.{PartReq, add}
use Rattle.part.proofs.Equations.{never}
use Rattle.module.specs.Module.{ExpressionHandle}
use Rattle.clearance.specs.Shape.{some}
use Rattle.clearance.specs.Scope.{Scope, Path, path_of, indexes}
use Rattle.clearance.specs.Tree.{Act, emit, store, Tree, nop, seq, act, branch, switch, loop, break, continue, return, unmarked}
use Rattle.clearance.specs.Needs.{Ask, need, needs, overlap, storing, giving, before, wholly, turning, valued}
use Rattle.clearance.specs.Needs.{Exit, next, returned, upon, of_case, union, through, obeys, after_continuing, Setting, walk, after_body}
use Rattle.pass.specs.Pass.{Carried, Passed, on, full, ◌>>=◌, point, enter, pointed, too_large, within, joining, asking, asking_all, store_asks, store_leaves, act_asks, act_leaves}
use Rattle.pass.specs.Pass.{acting, turning_on, valuing, entering, pass_cases, pass_inside, pass, PassIs}
use Rattle.pass.proofs.Carry.{carry}
use Rattle.pass.proofs.After.{inner, after, after_is, inner-nop, inner-seq, inner-act, inner-branch, inner-switch, inner-loop, inner-break, inner-continue, inner-return, inner-unmarked}

-- the bound is passed, or c is carried on with the needs n
abbrev pub Says : Passed → Carried → PartReq → Type 0
Says p c n = (p ≡ full) ⊎ (p ≡ on c n)

pub says_then : {p : Passed} (f : Carried → PartReq → Passed) {c d : Carried} {n m : PartReq} → Says p c n → Says (f c n) d m → Says (p >>= f) d m
says_then f (inl e) s = inl (ap (λ q. q >>= f) e)
says_then f (inr e) s = rw e s

says_cond : {p p' : Passed} {c c' : Carried} {n n' : PartReq} (q : Bool) → Says p c n → Says p' c' n' → Says (cond q p p') (cond q c c') (cond q n n')
says_cond true s t = s
says_cond false s t = t

pub says_within : (aside : List PartReq) (n : PartReq) (c : Carried) → Says (within aside n c) c n
unfolding within
says_within aside n c = go (too_large aside n c)
  where
    go : (q : Bool) → Says (cond q full (on c n)) c n
    go true = inl refl
    go false = inr refl

-- sums and asks
says_joining : (aside : List PartReq) (m n : PartReq) (c : Carried) → Says (joining aside m n c) c (add m n)
unfolding joining
says_joining aside m n c = says_within _ (add m n) c

module _ (S : Scope) (aside : List PartReq) where
  says_asking : (x : Ask) (n : PartReq) (c : Carried) → Says (asking S aside x n c) c (need S x n)
  unfolding asking
  says_asking x n c = says_within _ (need S x n) c

  says_asks : (xs : List Ask) (n : PartReq) (c : Carried) → Says (asking_all S aside xs n c) c (needs S xs n)
  unfolding asking_all needs
  says_asks [] n c = inr refl
  says_asks (x ∷ xs) n c = says_then _ (says_asks xs n c) (says_asking x (needs S xs n) c)

  pub says_turning : (again : PartReq) (x : Option ExpressionHandle) (exit : PartReq) (c : Carried) → Says (turning_on S aside again x exit c) c (turning S again x exit)
  unfolding turning_on turning wholly needs
  says_turning again absent exit c = says_within aside again c
  says_turning again (present x) exit c = says_then _ (says_joining aside exit again c) (says_asking _ (add exit again) c)

  says_valuing : (asked : PartReq) (v : Option ExpressionHandle) (n : PartReq) (c : Carried) → Says (valuing S aside asked v n c) c (valued S asked v n)
  unfolding valuing valued needs
  says_valuing asked absent n c = says_within aside n c
  says_valuing asked (present v) n c = says_asking _ n c

-- an act
storing-is : (S : Scope) (p : Path) (is : List ExpressionHandle) (v : ExpressionHandle) (a n : PartReq) → storing S p is v a n ≡ needs S (store_asks is v a) (store_leaves S p is n)
unfolding storing store_asks store_leaves
storing-is S p [] v a n = refl
storing-is S p (i ∷ is) v a n = refl

giving-is : (S : Scope) (x : Act) (a n : PartReq) → giving S x a n ≡ needs S (act_asks S x a) (act_leaves S x n)
unfolding giving act_asks act_leaves
giving-is S (emit e) a n = refl
giving-is S (store p v) a n = storing-is S (path_of S p) (indexes (path_of S p).steps) v a n

says_needs : {p : Passed} {c : Carried} {m n : PartReq} → m ≡ n → Says p c m → Says p c n
says_needs e s = rw e at s

pub says_acting : (S : Scope) (aside : List PartReq) (x : Act) (n : PartReq) (c : Carried) → Says (acting S aside x n c) c (before S x n)
unfolding acting before
says_acting S aside x n c = go (some (overlap S x n))
  where
    go : (q : Bool) →
        Says (cond q (within (n ∷ aside) (act_leaves S x n) c >>= λ d m. asking_all S (n ∷ aside) (act_asks S x (overlap S x n)) m d) (on c n)) c
        (cond q (giving S x (overlap S x n) n) n)
    go true =
        says_needs (sym (giving-is S x (overlap S x n) n)) (says_then _ (says_within (n ∷ aside) (act_leaves S x n) c) (says_asks S (n ∷ aside) _ (act_leaves S x n) c))
    go false = inr refl

says_entering : (aside : List PartReq) (n : ℕ) (again w : PartReq) (c : Carried) → Says (entering aside n again w c) (enter n again w c) w
unfolding entering
says_entering aside n again w c = says_then _ (says_within _ w c) (inr refl)

says_carried : {p : Passed} {c d : Carried} {n : PartReq} → c ≡ d → Says p c n → Says p d n
says_carried e s = rw e at s

-- the cases of a switch
says_cases : (f : ℕ → List PartReq → Carried → Passed) (g : ℕ → Carried → Carried) (w : ℕ → PartReq) →
    ((i : ℕ) (aside : List PartReq) (c : Carried) → Says (f i aside c) (g i c) (w i)) → (n : ℕ) (aside : List PartReq) (c : Carried) →
    Says (pass_cases n f aside c) (through n g c) (union n w)
unfolding pass_cases through union
says_cases f g w h zero aside c = inr refl
says_cases f g w h (suc n) aside c =
    says_then _ (says_cases f g w h n aside c)
    (says_then _ (h n (union n w ∷ aside) (through n g c)) (says_joining aside (w n) (union n w) _))

module _ (W : Setting) (r : ℕ → PartReq) where
  -- with the points before and after a statement
  says_pointed : (a : Tree) (k : Exit → PartReq) (f : Carried → Passed) (c : Carried) → Says (f (point (k next) c)) (inner W r a k (point (k next) c)) (walk W r a k) →
      Says (pointed (k next) f c) (after W r a k c) (walk W r a k)
  unfolding pointed
  says_pointed a k f c s = says_carried (after_is W r a k c) (says_then _ s (inr refl))

  inside_says : (a : Tree) (aside : List PartReq) (k : Exit → PartReq) (c : Carried) → Says (pass_inside W r a aside k c) (inner W r a k c) (walk W r a k)
  unfolding pass_inside walk after_body wholly needs
  inside_says nop aside k c = says_carried (inner-nop W r k c) (inr refl)
  inside_says (seq a b) aside k c =
      says_carried (inner-seq W r a b k c)
      (says_then _ (inside_says b aside k c) (inside_says a aside (upon (walk W r b k) k) (point (walk W r b k) (inner W r b k c))))
  inside_says (act x) aside k c = says_carried (inner-act W r x k c) (says_acting W.scope aside x (k next) c)
  inside_says (branch x a b) aside k c =
      says_carried (inner-branch W r x a b k c)
      (says_then _ (says_pointed b k _ _ (inside_says b _ k _))
      (says_then _ (says_pointed a k _ _ (inside_says a _ k _)) (says_then _ (says_joining aside _ _ _) (says_asking W.scope aside _ _ _))))
  inside_says (switch x vs f) aside k c =
      says_carried (inner-switch W r x vs f k c)
      (says_then _
      (says_cases _ (λ i. after W r (f i) (of_case k)) (λ i. walk W r (f i) (of_case k))
      (λ i aside' d. says_pointed (f i) (of_case k) _ d (inside_says (f i) aside' (of_case k) _)) (length vs) _ _)
      (says_asking W.scope aside _ _ _))
  inside_says (loop n a b x) aside k c =
      let l = after_continuing W.scope (r n) x k in
      let m = after_body W r n b x k in
      says_carried (inner-loop W r n a b x k c)
      (says_then _ (says_turning W.scope _ (r n) x (k next) c)
      (says_then _ (says_pointed b l _ _ (inside_says b _ l _)) (says_then _ (says_pointed a m _ _ (inside_says a _ m _)) (says_entering aside n (r n) _ _))))
  inside_says (break n) aside k c = says_carried (inner-break W r n k c) (says_within aside _ _)
  inside_says (continue n) aside k c = says_carried (inner-continue W r n k c) (says_within aside _ _)
  inside_says (return n v) aside k c = says_carried (inner-return W r n v k c) (says_valuing W.scope aside W.asked v (k returned) c)
  inside_says (unmarked n mark a) aside k c =
      says_carried (inner-unmarked W r n mark a k c)
      (says_cond (obeys W.scope (k next) a) (inr refl) (says_then _ (inside_says a _ k _) (says_within _ _ _)))

  pub pass-says : (a : Tree) (aside : List PartReq) (k : Exit → PartReq) (c : Carried) → Says (pass W r a aside k c) (after W r a k c) (walk W r a k)
  unfolding pass
  pass-says a aside k c = says_pointed a k _ c (inside_says a aside k _)

  -- what a pass comes to
  is_of : (p : Passed) (a : Tree) (k : Exit → PartReq) (c d : Carried) (m : PartReq) → Says p (after W r a k c) (walk W r a k) → p ≡ on d m → PassIs W r a k c d m
  unfolding after carry
  is_of p a k c d m (inl e) h = never cc
  is_of p a k c d m (inr e) h =
      let z : d ≡ after W r a k c = cc in
      record {
        needs = cc;
        table = ap (λ x. x.table) z;
        fault = ap (λ x. x.fault) z;
        held = ap (λ x. x.held) z;
        deep = ap (λ x. x.deep) z;
        wide = ap (λ x. x.wide) z;
      }

  pub pass_is : (a : Tree) (aside : List PartReq) (k : Exit → PartReq) (c d : Carried) (m : PartReq) → pass W r a aside k c ≡ on d m → PassIs W r a k c d m
  pass_is a aside k c d m h = is_of _ a k c d m (pass-says a aside k c) h

-- The bound goes through a pass: where the cells of what is kept aside, of the needs at hand and of the new table are within it before a statement, they
-- are after it. By recursion over the tree; each clause but three ends in the test itself, with more kept than stays.
use Prim.Native.Nat.{ℕ, zero, suc, ◌≤◌}
use native.Mathlib.Omega.{arith}
use mathlib.Core.Path.{◌≡◌, refl}
use mathlib.Core.Bool.{Bool, true, false, cond}
use mathlib.Core.List.{List, [], ◌∷◌, ◌++◌, flat_map}
use mathlib.Core.Option.{Option, some as present, none as absent}
use lib.ListN.{length}
use borrow.Author.Tests.{ltb-false}
use Rattle.part.specs.PartReq.{PartReq, add}
use Rattle.part.specs.Count.{among}
use Rattle.part.specs.Collect.{cells_in, reached, cells_of}
use Rattle.part.proofs.Equations.{never}
use Rattle.part.proofs.Distinct.{among-left, among-right, among_cases, Among, once_monotone}
use Rattle.module.specs.Module.{ExpressionHandle}
use Rattle.clearance.specs.Shape.{some}
use Rattle.clearance.specs.Scope.{Scope}
use Rattle.clearance.specs.Tree.{Act, Tree, nop, seq, act, branch, switch, loop, break, continue, return, unmarked}
use Rattle.clearance.specs.Needs.{Ask, overlap, Exit, next, returned, upon, of_case, of_body, obeys, after_continuing, Setting, Table, reentry, join_at}
use Rattle.pass.specs.Pass.{work_bound, Carried, Passed, on, full, ◌>>=◌, point, enter, pointed, too_large, within, joining, asking, asking_all, act_asks, act_leaves}
use Rattle.pass.specs.Pass.{acting, turning_on, valuing, entering, pass_cases, pass_inside, pass}

-- what is carried on, with the needs, is within the bound
abbrev pub Fits : List PartReq → Passed → Type 0
Fits aside p = (d : Carried) (m : PartReq) → p ≡ on d m → cells_of (m ∷ (aside ++ d.table)) ≤ work_bound

fits_on : (aside : List PartReq) (n : PartReq) (c : Carried) → cells_of (n ∷ (aside ++ c.table)) ≤ work_bound → Fits aside (on c n)
fits_on aside n c h d m e =
    let x : c ≡ d = cc in
    let y : n ≡ m = cc in
    rw (← x, ← y) h

fits_then : (aside : List PartReq) (p : Passed) (f : Carried → PartReq → Passed) → ((c : Carried) (n : PartReq) → p ≡ on c n → Fits aside (f c n)) → Fits aside (p >>= f)
fits_then aside (on c n) f h d m e = h c n refl d m e
fits_then aside full f h d m e = never cc

fits_cond : (aside : List PartReq) (q : Bool) (p p' : Passed) → Fits aside p → Fits aside p' → Fits aside (cond q p p')
fits_cond aside true p p' h g = h
fits_cond aside false p p' h g = g

fits_within : (aside : List PartReq) (n : PartReq) (c : Carried) → Fits aside (within aside n c)
unfolding within too_large
fits_within aside n c = go (too_large aside n c) (ltb-false _ _)
  where
    go : (q : Bool) → (q ≡ false → cells_of (n ∷ (aside ++ c.table)) ≤ work_bound) → Fits aside (cond q full (on c n))
    go true h d m e = never cc
    go false h d m e = fits_on aside n c (h refl) d m e

within-keeps : (aside : List PartReq) (n : PartReq) (c d : Carried) (m : PartReq) → within aside n c ≡ on d m → (c ≡ d) × (n ≡ m)
unfolding within
within-keeps aside n c d m = go (too_large aside n c)
  where
    go : (q : Bool) → cond q full (on c n) ≡ on d m → (c ≡ d) × (n ≡ m)
    go true e = never cc
    go false e = (cc, cc)

-- with less kept
under_one : (p : PartReq) (l m : List PartReq) → Among (reached l) (reached m) → Among (reached (p ∷ l)) (reached (p ∷ m))
unfolding flat_map
under_one p l m h q e =
    among_cases (among q (cells_in p ++ reached m) ≡ true) q (cells_in p) (reached l) e
    (λ z. among-left q (cells_in p) (reached m) z) (λ z. among-right q (cells_in p) (reached m) (h q z))

past_one : (p : PartReq) (l : List PartReq) → Among (reached l) (reached (p ∷ l))
unfolding flat_map
past_one p l q e = among-right q (cells_in p) (reached l) e

fits_less : (x : PartReq) (aside : List PartReq) (p : Passed) → Fits (x ∷ aside) p → Fits aside p
fits_less x aside p h d m e =
    let z = once_monotone (λ o. 1) (reached (m ∷ (aside ++ d.table))) (reached (m ∷ (x ∷ (aside ++ d.table)))) (under_one m _ _ (past_one x (aside ++ d.table))) in
    omega (arith, h d m e)

-- a loop's needs in the table become their sum with m
joined_reached : (n : ℕ) (m : PartReq) (t : Table) → Among (reached (join_at n m t)) (reached (add m (reentry t n) ∷ t))
unfolding flat_map join_at reentry
joined_reached zero m [] q e = e
joined_reached (suc n) m [] q e = joined_reached n m [] q (unfold cells_in in e)
joined_reached zero m (x ∷ t) q e = under_one (add m x) t (x ∷ t) (past_one x t) q e
joined_reached (suc n) m (x ∷ t) q e =
    let s = add m (reentry t n) in
    among_cases (among q (cells_in s ++ (cells_in x ++ reached t)) ≡ true) q (cells_in x) (reached (join_at n m t)) e
    (λ z. among-right q (cells_in s) (cells_in x ++ reached t) (among-left q (cells_in x) (reached t) z))
    (λ z. under_one s t (x ∷ t) (past_one x t) q (joined_reached n m t q z))

beside : (aside t u : List PartReq) (s : PartReq) → Among (reached u) (reached (s ∷ t)) → Among (reached (aside ++ u)) (reached (s ∷ (aside ++ t)))
unfolding flat_map
beside [] t u s h q e = h q e
beside (x ∷ aside) t u s h q e =
    among_cases (among q (cells_in s ++ (cells_in x ++ reached (aside ++ t))) ≡ true) q (cells_in x) (reached (aside ++ u)) e
    (λ z. among-right q (cells_in s) (cells_in x ++ reached (aside ++ t)) (among-left q (cells_in x) (reached (aside ++ t)) z))
    (λ z. under_one s (aside ++ t) (x ∷ (aside ++ t)) (past_one x (aside ++ t)) q (beside aside t u s h q z))

fits_entering : (aside : List PartReq) (n : ℕ) (again w : PartReq) (c : Carried) → Fits aside (entering aside n again w c)
unfolding entering enter
fits_entering aside n again w c =
    fits_then aside (within (add w (reentry c.table n) ∷ aside) w c) _
    (λ d m e.
    let h = fits_within (add w (reentry c.table n) ∷ aside) w c d m e in
    let same = within-keeps (add w (reentry c.table n) ∷ aside) w c d m e in
    fits_on aside m (enter n again m d)
    (let z =
    once_monotone (λ o. 1) (reached (m ∷ (aside ++ join_at n m d.table))) (reached (m ∷ (add m (reentry d.table n) ∷ (aside ++ d.table))))
    (under_one m _ _ (beside aside d.table (join_at n m d.table) (add m (reentry d.table n)) (joined_reached n m d.table))) in
    let y : cells_of (m ∷ (add m (reentry d.table n) ∷ (aside ++ d.table))) ≤ work_bound = rw (same.0, same.1) at h in
    omega arith))

fits_pointed : (aside : List PartReq) (n : PartReq) (f : Carried → Passed) (c : Carried) → Fits aside (f (point n c)) → Fits aside (pointed n f c)
unfolding pointed point
fits_pointed aside n f c h = fits_then aside (f (point n c)) _ (λ d m e. fits_on aside m (point m d) (h d m e))

module _ (S : Scope) (aside : List PartReq) where
  fits_asking : (x : Ask) (n : PartReq) (c : Carried) → Fits aside (asking S aside x n c)
  unfolding asking
  fits_asking x n c = fits_less n aside _ (fits_less _ (n ∷ aside) _ (fits_within _ _ c))

  fits_asks : (xs : List Ask) (n : PartReq) (c : Carried) → cells_of (n ∷ (aside ++ c.table)) ≤ work_bound → Fits aside (asking_all S aside xs n c)
  unfolding asking_all
  fits_asks [] n c h = fits_on aside n c h
  fits_asks (x ∷ xs) n c h = fits_then aside (asking_all S aside xs n c) _ (λ d m e. fits_asking x m d)

  fits_valuing : (asked : PartReq) (v : Option ExpressionHandle) (n : PartReq) (c : Carried) → Fits aside (valuing S aside asked v n c)
  unfolding valuing
  fits_valuing asked absent n c = fits_within aside n c
  fits_valuing asked (present v) n c = fits_asking _ n c

fits_acting : (S : Scope) (aside : List PartReq) (x : Act) (n : PartReq) (c : Carried) → cells_of (n ∷ (aside ++ c.table)) ≤ work_bound → Fits aside (acting S aside x n c)
unfolding acting
fits_acting S aside x n c h =
    fits_cond aside (some (overlap S x n)) _ _
    (fits_less n aside _
    (fits_then (n ∷ aside) (within (n ∷ aside) (act_leaves S x n) c) _
    (λ d m e. fits_asks S (n ∷ aside) (act_asks S x (overlap S x n)) m d (fits_within (n ∷ aside) (act_leaves S x n) c d m e))))
    (fits_on aside n c h)

module _ (W : Setting) (r : ℕ → PartReq) where
  inside_fits : (a : Tree) (aside : List PartReq) (k : Exit → PartReq) (c : Carried) → cells_of (k next ∷ (aside ++ c.table)) ≤ work_bound →
      Fits aside (pass_inside W r a aside k c)
  unfolding pass_inside point upon
  inside_fits nop aside k c h = fits_on aside (k next) c h
  inside_fits (seq a b) aside k c h = fits_then aside _ _ (λ d m e. inside_fits a aside (upon m k) (point m d) (inside_fits b aside k c h d m e))
  inside_fits (act x) aside k c h = fits_acting W.scope aside x (k next) c h
  inside_fits (branch x a b) aside k c h =
      fits_then aside (pointed (k next) (pass_inside W r b (k next ∷ aside) k) c) _
      (λ d m _.
      fits_then aside (pointed (k next) (pass_inside W r a (m ∷ aside) k) d) _ (λ e n _. fits_then aside (joining aside n m e) _ (λ g u _. fits_asking W.scope aside _ u g)))
  inside_fits (switch x vs f) aside k c h =
      fits_then aside (pass_cases (length vs) (λ i aside'. pointed (of_case k next) (pass_inside W r (f i) aside' (of_case k))) (k next ∷ aside) c) _
      (λ e u _. fits_asking W.scope aside _ u e)
  inside_fits (loop n a b x) aside k c h =
      let l = after_continuing W.scope (r n) x k in
      fits_then aside (turning_on W.scope (k next ∷ aside) (r n) x (k next) c) _
      (λ c' _ _.
      fits_then aside (pointed (l next) (pass_inside W r b (k next ∷ aside) l) c') _
      (λ d m _. fits_then aside (pointed (of_body m k next) (pass_inside W r a (m ∷ k next ∷ aside) (of_body m k)) d) _ (λ e w _. fits_entering aside n (r n) w e)))
  inside_fits (break n) aside k c h = fits_within aside _ _
  inside_fits (continue n) aside k c h = fits_within aside _ _
  inside_fits (return n v) aside k c h = fits_valuing W.scope aside W.asked v (k returned) c
  inside_fits (unmarked n mark a) aside k c h =
      fits_cond aside (obeys W.scope (k next) a) _ _ (fits_on aside (k next) c h)
      (fits_then aside (pass_inside W r a (k next ∷ aside) k c) _
      (λ d m _. fits_less m aside _ (fits_less (k next) (m ∷ aside) _ (fits_within (k next ∷ m ∷ aside) _ _))))

  pub pass_fits : (a : Tree) (aside : List PartReq) (k : Exit → PartReq) (c : Carried) → cells_of (k next ∷ (aside ++ c.table)) ≤ work_bound →
      Fits aside (pass W r a aside k c)
  unfolding pass point
  pass_fits a aside k c h = fits_pointed aside (k next) _ c (inside_fits a aside k (point (k next) c) h)

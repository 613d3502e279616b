-- Asks and acts keep needs what they are: what is asked of a value stands in a slot, what is asked of a place below a variable, and so does a whole walk. By cases of the
-- expression, then along the tree.
use Prim.Native.Nat.{ℕ, zero, suc}
use native.Mathlib.Omega.{arith}
use mathlib.Core.Path.{◌≡◌}
use mathlib.Core.Bool.{Bool, true, false, cond}
use mathlib.Core.List.{List, [], ◌∷◌, ◌++◌, map}
use mathlib.Core.Option.{Option, some as present, none as nothing}
use lib.ListN.{length}
use Rattle.part.specs.PartReq.{PartReq, none, more, is_all, add}
use Rattle.part.specs.Ascending.{Ascending}
use Rattle.module.specs.Module.{ExpressionHandle, Expression}
use Rattle.module.proofs.Knot.{knot-all}
use Rattle.clearance.specs.Shape.{under, some, trim, hit}
use Rattle.module.specs.Way.{Way, constantly, dynamically, to_global, to_local, no_way, way_of}
use Rattle.clearance.specs.Scope.{Scope, variable, slot, typed, Path, nowhere, further, step_way, step_from, path_of, front, indexes, target, frame, evaluated, Operand, whole, same}
use Rattle.clearance.specs.Scope.{Arm, fixed, argued, pointing, operator, access_index, access, swizzle, compose, joined, load, unjudged, arm, Source, given, from, source_of, source}
use Rattle.clearance.specs.Tree.{Act, emit, store, Tree, nop, seq, act, branch, switch, loop, break, continue, return, unmarked}
use Rattle.clearance.specs.Needs.{Ask, of_value, of_place, ask_operand, ask_whole, ask_picked, ask_components, ask_steps, asks, gives, need_at, need_from, need, needs, overlap, without, storing, giving, before, wholly}
use Rattle.clearance.specs.Needs.{Exit, next, broke, continued, returned, upon, out_break, out_continue, of_case, of_continuing, of_body, union, obeys, kept, turning, valued, after_continuing, Setting, walk}
use Rattle.clearance.specs.Verdict.{Request, ending}
use Rattle.clearance.specs.IsNeed.{AscendingRequest}
use Rattle.clearance.proofs.Ascending.{under-ok, sub_ok, below-ok, trim-ok, out_ok, add-need, trim-need, none-need}
use Rattle.framed.specs.Kept.{Kept, Deep, AskFine, AsksFine}
use Rattle.framed.proofs.Framed.{add-framed, trim-framed, under-framed, without-framed}

-- Places

abbrev DeepRoot : Path → Type 0
DeepRoot p = (xs : List ℕ) → Deep (p.root ++ xs)

nowhere-deep : DeepRoot nowhere
nowhere-deep [] = omega arith
nowhere-deep (x ∷ xs) = tt

way_deep : (path : ExpressionHandle → Path) (w : Way) → ((e : ExpressionHandle) → DeepRoot (path e)) → DeepRoot (step_way path w)
unfolding further slot
way_deep path (constantly base index) h = h base
way_deep path (dynamically base index) h = h base
way_deep path (to_global g) h = λ xs. tt
way_deep path (to_local l) h = λ xs. tt
way_deep path no_way h = nowhere-deep

step_deep : (path : ExpressionHandle → Path) (x : Expression) → ((e : ExpressionHandle) → DeepRoot (path e)) → DeepRoot (step_from path x)
unfolding step_from
step_deep path x h = way_deep path (way_of x) h

pub target-deep : (S : Scope) (e : ExpressionHandle) → Deep (target (path_of S e))
unfolding path_of target
target-deep S e =
    knot-all (λ e p. DeepRoot p) (λ path h. step_from path (typed S h).expression) nowhere (λ e. nowhere-deep) (λ path e h. step_deep path (typed S e).expression h) e
    (front (path_of S e).steps)

abbrev DeepSource : Source → Type 0
DeepSource given = Unit {0}
DeepSource (from p) = Deep p

source_deep : (e : ExpressionHandle) (x : Arm) → DeepSource (source_of e x)
unfolding source_of slot
source_deep e fixed = tt
source_deep e (argued a) = tt
source_deep e pointing = tt
source_deep e (operator xs) = tt
source_deep e (access_index base i) = tt
source_deep e (access base i) = tt
source_deep e (swizzle v pattern) = tt
source_deep e (compose cs) = tt
source_deep e (joined cs) = tt
source_deep e (load p) = tt
source_deep e unjudged = tt

-- Asks

whole_fine : (xs : List ExpressionHandle) → AsksFine (map ask_whole xs)
whole_fine [] = tt
whole_fine (x ∷ xs) = (tt, whole_fine xs)

operand_fine : (a : PartReq) (x : Operand) → Ascending a → AskFine (ask_operand a x)
unfolding ask_operand
operand_fine a (whole x) f = tt
operand_fine a (same x) f = f

operands_fine : (a : PartReq) (xs : List Operand) → Ascending a → AsksFine (map (ask_operand a) xs)
operands_fine a [] f = tt
operands_fine a (x ∷ xs) f = (operand_fine a x f, operands_fine a xs f)

picked_fine : (v : ExpressionHandle) (is : List ℕ) (k : ℕ) (a : PartReq) → Ascending a → AsksFine (ask_picked v is k a)
unfolding ask_picked
picked_fine v [] k a f = tt
picked_fine v (i ∷ is) k a f = ((sub_ok a k f, tt), picked_fine v is (suc k) a f)

components_fine : (cs : List ExpressionHandle) (k : ℕ) (a : PartReq) → Ascending a → AsksFine (ask_components cs k a)
unfolding ask_components
components_fine [] k a f = tt
components_fine (c ∷ cs) k a f = (sub_ok a k f, components_fine cs (suc k) a f)

steps_fine : (p : Path) (is : List ExpressionHandle) (a : PartReq) → Deep (target p) → Ascending a → AsksFine (ask_steps p is a)
unfolding ask_steps
steps_fine p [] a d f = ((d, f), tt)
steps_fine p (i ∷ is) a d f = ((d, tt), (tt, whole_fine is))

pub asks-fine : (S : Scope) (x : Arm) (a : PartReq) → Ascending a → AsksFine (asks S x a)
unfolding asks
asks-fine S fixed a f = tt
asks-fine S (argued i) a f = tt
asks-fine S pointing a f = tt
asks-fine S (operator xs) a f = operands_fine a xs f
asks-fine S (access_index base i) a f = ((f, tt), tt)
asks-fine S (access base i) a f = (tt, (tt, tt))
asks-fine S (swizzle v pattern) a f = picked_fine v pattern 0 a f
asks-fine S (compose cs) a f = components_fine cs 0 a f
asks-fine S (joined cs) a f = whole_fine cs
asks-fine S (load p) a f = steps_fine (path_of S p) (indexes (path_of S p).steps) a (target-deep S p) f
asks-fine S unjudged a f = tt

module _ (S : Scope) where
  pub kept_none : Kept S none
  kept_none = record { need = none-need (frame S); framed = tt }

  pub kept_add : (m n : PartReq) → Kept S m → Kept S n → Kept S (add m n)
  kept_add m n f g = record { need = add-need (frame S) m n f.need g.need; framed = add-framed m n f.framed g.framed }

  pub kept_under : (q : List ℕ) (a : PartReq) → Deep q → Ascending a → Kept S (trim (under q a) (frame S))
  kept_under q a d f = record { need = trim-need (frame S) (under q a) (under-ok q a f); framed = under-framed S q a d }

  pub kept_without : (q : List ℕ) (n : PartReq) → Kept S n → Kept S (without S q n)
  kept_without q n f = record {
    need = unfold without in trim-need (frame S) _ (out_ok q (frame S) n f.need.ascends);
    framed = without-framed S q n f.need.ascends f.framed;
  }

  kept_at : (q : List ℕ) (a n : PartReq) → Deep q → Ascending a → Kept S n → Kept S (need_at S q a n)
  unfolding need_at
  kept_at q a n d f g = kept_add _ n (kept_under q a d f) g

  kept_from : (x : Source) (a n : PartReq) → DeepSource x → Ascending a → Kept S n → Kept S (need_from S x a n)
  unfolding need_from
  kept_from given a n d f g = g
  kept_from (from p) a n d f g = kept_at p a n d f g

  pub kept_need : (x : Ask) (n : PartReq) → AskFine x → Kept S n → Kept S (need S x n)
  unfolding need source
  kept_need (of_value e a) n f g = kept_from (source_of e (arm S e)) a n (source_deep e (arm S e)) f g
  kept_need (of_place p a) n f g = kept_at p a n f.0 f.1 g

  pub kept_needs : (xs : List Ask) (n : PartReq) → AsksFine xs → Kept S n → Kept S (needs S xs n)
  unfolding needs
  kept_needs [] n f g = g
  kept_needs (x ∷ xs) n f g = kept_need x (needs S xs n) f.0 (kept_needs xs n f.1 g)

  pub kept_wholly : (e : ExpressionHandle) (n : PartReq) → Kept S n → Kept S (wholly S e n)
  unfolding wholly
  kept_wholly e n g = kept_needs (ask_whole e ∷ []) n (tt, tt) g

  -- Acts

  hit-ascends : (n : PartReq) (q : List ℕ) → Ascending n → Ascending (hit (frame S) n q)
  unfolding hit
  hit-ascends n q f = trim-ok _ _ (below-ok n q f)

  pub overlap-ascends : (x : Act) (n : PartReq) → Ascending n → Ascending (overlap S x n)
  unfolding overlap
  overlap-ascends (emit e) n f = go (gives (arm S e))
    where
      go : (b : Bool) → Ascending (cond b (hit (frame S) n (slot (evaluated e))) none)
      go true = hit-ascends n _ f
      go false = tt
  overlap-ascends (store p v) n f = hit-ascends n _ f

  kept_storing : (p : Path) (is : List ExpressionHandle) (v : ExpressionHandle) (a n : PartReq) → Ascending a → Kept S n → Kept S (storing S p is v a n)
  unfolding storing
  kept_storing p [] v a n f g = kept_needs _ _ (f, tt) (kept_without (target p) n g)
  kept_storing p (i ∷ is) v a n f g = kept_needs _ n (tt, (tt, whole_fine is)) g

  kept_giving : (x : Act) (a n : PartReq) → Ascending a → Kept S n → Kept S (giving S x a n)
  unfolding giving
  kept_giving (emit e) a n f g = kept_needs _ _ (asks-fine S (arm S e) a f) (kept_without (slot (evaluated e)) n g)
  kept_giving (store p v) a n f g = kept_storing (path_of S p) (indexes (path_of S p).steps) v a n f g

  either_kept : (b : Bool) (m n : PartReq) → Kept S m → Kept S n → Kept S (cond b m n)
  either_kept true m n f g = f
  either_kept false m n f g = g

  pub kept_before : (x : Act) (n : PartReq) → Kept S n → Kept S (before S x n)
  unfolding before
  kept_before x n g = either_kept (some (overlap S x n)) _ n (kept_giving x _ n (overlap-ascends x n g.need.ascends) g) g

  -- Statements
  pub kept_union : (n : ℕ) (f : ℕ → PartReq) → ((i : ℕ) → Kept S (f i)) → Kept S (union n f)
  unfolding union
  kept_union zero f h = kept_none
  kept_union (suc n) f h = kept_add (f n) (union n f) (h n) (kept_union n f h)

  pub kept_turning : (again : PartReq) (c : Option ExpressionHandle) (exit : PartReq) → Kept S again → Kept S exit → Kept S (turning S again c exit)
  unfolding turning
  kept_turning again nothing exit f g = f
  kept_turning again (present c) exit f g = kept_wholly c (add exit again) (kept_add exit again g f)

  pub kept_valued : (asked : PartReq) (v : Option ExpressionHandle) (n : PartReq) → Ascending asked → Kept S n → Kept S (valued S asked v n)
  unfolding valued
  kept_valued asked nothing n f g = g
  kept_valued asked (present v) n f g = kept_needs _ n (f, tt) g

  abbrev pub AllKept : (Exit → PartReq) → Type 0
  AllKept k = (x : Exit) → Kept S (k x)

  pub kept_upon : (m : PartReq) (k : Exit → PartReq) → Kept S m → AllKept k → AllKept (upon m k)
  unfolding upon
  kept_upon m k f g next = f
  kept_upon m k f g broke = g broke
  kept_upon m k f g continued = g continued
  kept_upon m k f g returned = g returned

  pub kept_case : (k : Exit → PartReq) → AllKept k → AllKept (of_case k)
  unfolding of_case
  kept_case k g x = g (out_break x)

  pub kept_continuing : (again : PartReq) (c : Option ExpressionHandle) (k : Exit → PartReq) → Kept S again → AllKept k → AllKept (after_continuing S again c k)
  unfolding after_continuing of_continuing
  kept_continuing again c k f g = kept_upon _ (of_case k) (kept_turning again c (k next) f (g next)) (kept_case k g)

  pub kept_body : (m : PartReq) (k : Exit → PartReq) → Kept S m → AllKept k → AllKept (of_body m k)
  unfolding of_body of_continuing
  kept_body m k f g x = kept_upon m (of_case k) f (kept_case k g) (out_continue x)

  pub kept-kept : (a : Tree) (m n : PartReq) → Kept S m → Kept S n → Kept S (kept a m n)
  unfolding kept
  kept-kept nop m n f g = kept_add m n f g
  kept-kept (seq a b) m n f g = kept_add m n f g
  kept-kept (act x) m n f g = g
  kept-kept (branch c a b) m n f g = kept_add m n f g
  kept-kept (switch c vs h) m n f g = kept_add m n f g
  kept-kept (loop l a b c) m n f g = kept_add m n f g
  kept-kept (break l) m n f g = kept_add m n f g
  kept-kept (continue l) m n f g = kept_add m n f g
  kept-kept (return l v) m n f g = kept_add m n f g
  kept-kept (unmarked l mark a) m n f g = kept_add m n f g

  -- at the end, and where a pass begins: of a request whose globals are a map
  pub kept_ending : (R : Request) (x : Exit) → is_all R.globals ≡ false → AscendingRequest R → Kept S (ending S R x)
  unfolding ending under
  kept_ending R x h o = record {
    need = trim-need (frame S) _ (under-ok (variable 0 ∷ []) R.globals o.globals);
    framed = trim-framed (more (variable 0) R.globals none) (frame S) (o.globals, tt) (h, tt);
  }
  -- Tables

module _ (W : Setting) (fine : Ascending W.asked) (r : ℕ → PartReq) (again : (j : ℕ) → Kept W.scope (r j)) where
  pub kept_walk : (a : Tree) (k : Exit → PartReq) → AllKept W.scope k → Kept W.scope (walk W r a k)
  unfolding walk
  kept_walk nop k h = h next
  kept_walk (seq a b) k h = kept_walk a _ (kept_upon W.scope _ k (kept_walk b k h) h)
  kept_walk (act x) k h = kept_before W.scope x (k next) (h next)
  kept_walk (branch c a b) k h = kept_wholly W.scope c _ (kept_add W.scope _ _ (kept_walk a k h) (kept_walk b k h))
  kept_walk (switch c vs f) k h =
      kept_wholly W.scope c _ (kept_union W.scope (length vs) _ (λ i. kept_walk (f i) (of_case k) (kept_case W.scope k h)))
  kept_walk (loop n a b c) k h =
      kept_walk a _ (kept_body W.scope _ k (kept_walk b _ (kept_continuing W.scope (r n) c k (again n) h)) h)
  kept_walk (break n) k h = h broke
  kept_walk (continue n) k h = h continued
  kept_walk (return n v) k h = kept_valued W.scope W.asked v (k returned) fine (h returned)
  kept_walk (unmarked n mark a) k h =
      either_kept W.scope (obeys W.scope (k next) a) (k next) _ (h next) (kept-kept W.scope a (k next) _ (h next) (kept_walk a k h))

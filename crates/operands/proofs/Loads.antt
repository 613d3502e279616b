-- A load: the dynamic indexes from last to first, as they are found from the pointer down (`Left`), and then what stands at its place.
use Prim.Native.Nat.{ℕ, ◌-◌}
use native.Mathlib.Omega.{arith}
use mathlib.Core.Path.{◌≡◌, refl, sym, ap, subst, ◌∙◌}
use mathlib.Core.Bool.{Bool, true, false, cond}
use mathlib.Core.List.{List, [], ◌∷◌, ◌++◌, map, append-nil, append_assoc, map-append}
use lib.ListN.{get_or}
use Rattle.part.specs.PartReq.{PartReq, all}
use Rattle.part.specs.Store.{part as meaning}
use Rattle.part.proofs.Pieces.{part-0}
use Rattle.module.specs.declared.handles.ExpressionHandle.{ExpressionHandle}
use Rattle.clearance.specs.Scope.{Scope, Path, path_of, indexes, target}
use Rattle.clearance.specs.Needs.{Ask, of_place, ask_whole, ask_steps}
use Rattle.place.specs.declared.pointer.PointerExpression.{PointerExpression}
use Rattle.place.specs.declared.target.Target.{Target}
use Rattle.place.specs.declared.steps.Step.{Step}
use Rattle.place.specs.declared.steps.Step.TheVariants.{Constant, Dynamic}
use Rattle.place.specs.Target.{any, part, TargetFound}
use Rattle.place.specs.Steps.{scope_in, indexes_in, StepDown}
use Rattle.asking.specs.Asks.{AsksAt}
use Rattle.asking.proofs.Values.{place_adds}
use Rattle.operands.specs.AsksAll.{wanted_in, ListGiven, AsksAll}
use Rattle.operands.specs.Lists.{load_of}
use Rattle.operands.proofs.Lists.{given_right, given_next, list_next, list_then, all_none, all_one, all_full, all_then}

-- Of the pointer p the indexes after those of h are asked.
pub record Left (p h : PointerExpression) (s rs : List ℕ) (n : ℕ) (u us : List ℕ) : Type 0 where
  pub done : List ℕ
  pub is : indexes_in p ≡ indexes_in h ++ done
  pub asked : AsksAll (scope_in p) (map ask_whole done) s rs n u us true

module _ (p : PointerExpression) {s rs : List ℕ} {n : ℕ} (g : ListGiven (scope_in p) (map ask_whole (indexes_in p)) s rs n) where
  abbrev S : Scope
  S = scope_in p

  abbrev ix : PointerExpression → List ℕ
  ix = indexes_in

  pub left_start : Left p p s rs n s rs
  left_start = record { done = []; is = sym (append-nil (ix p)); asked = all_none g }

  module _ {h : PointerExpression} {u us : List ℕ} (l : Left p h s rs n u us) {x : Step} (d : StepDown h x) where
    pub left_constant : {base : PointerExpression} {i : ℕ} → x ≡ Constant base i → Left p base s rs n u us
    left_constant e =
        let z = rw e at d in
        record { done = l.done; is = l.is ∙ ap (λ (xs : List ℕ). xs ++ l.done) z.indexes; asked = l.asked }

    module _ {base : PointerExpression} {index : ExpressionHandle} (e : x ≡ Dynamic base index) where
      one_more : ix p ≡ ix base ++ (index.0 ∷ l.done)
      one_more = l.is ∙ ap (λ (xs : List ℕ). xs ++ l.done) (rw e at d).indexes ∙ append_assoc (ix base) (index.0 ∷ []) l.done

      asks_more : map ask_whole (ix p) ≡ map ask_whole (ix base) ++ (ask_whole index.0 ∷ map ask_whole l.done)
      asks_more = ap (map ask_whole) one_more ∙ map-append ask_whole (ix base) (index.0 ∷ l.done)

      pub left_given : ListGiven S (ask_whole index.0 ∷ []) u us n
      left_given = list_next l.asked refl (map ask_whole (ix base)) (subst (λ (xs : List Ask). ListGiven S xs s rs n) asks_more g)

      module _ {v vs : List ℕ} {r : Bool} (b : AsksAll S (ask_whole index.0 ∷ []) u us n v vs r) where
        both : AsksAll S (ask_whole index.0 ∷ map ask_whole l.done) s rs n v vs r
        both = list_then l.asked refl g b

        pub left_full : r ≡ false → AsksAll S (map ask_whole (ix p)) s rs n v vs false
        left_full i = subst (λ (xs : List Ask). AsksAll S xs s rs n v vs false) (sym asks_more) (all_full both (map ask_whole (ix base)) i)

        pub left_dynamic : r ≡ true → Left p base s rs n v vs
        left_dynamic i =
            record { done = index.0 ∷ l.done; is = one_more; asked = subst (λ (b : Bool). AsksAll S (ask_whole index.0 ∷ map ask_whole l.done) s rs n v vs b) i both }

-- all, if there is a dynamic index
steps_are : (p : Path) (is : List ℕ) (a : PartReq) → ask_steps p is a ≡ of_place (target p) (cond (any is) all a) ∷ map ask_whole is
unfolding ask_steps
steps_are p [] a = refl
steps_are p (i ∷ is) a = refl

-- one place
module _ {S : Scope} {s rs : List ℕ} {n : ℕ} {q : List ℕ} {o : PartReq} (g : ListGiven S (of_place q o ∷ []) s rs n) {path : List ℕ} (is : path ≡ q) where
  place_all : {t us : List ℕ} {r : Bool} → AsksAt path o s rs n t us r → AsksAll S (of_place q o ∷ []) s rs n t us r
  place_all d =
      all_one g
      ((rw is at d).each S (of_place q o) (place_adds S g.read g.judged q o (g.within.each 0 (of_place q o) (omega arith)) g.fine.0.0 g.fine.0.1) g.need)

module _ {S : Scope} (p : ℕ) {s rs : List ℕ} {n : ℕ} (g : ListGiven S (load_of S p (wanted_in s rs n)) s rs n) where
  abbrev is : List ℕ
  is = indexes (path_of S p).steps

  abbrev here : PartReq → List Ask
  here a = of_place (target (path_of S p)) (cond (any is) all a) ∷ []

  asks_are : load_of S p (wanted_in s rs n) ≡ here (wanted_in s rs n) ++ map ask_whole is
  asks_are = steps_are (path_of S p) is (wanted_in s rs n)

  given_all : ListGiven S (here (wanted_in s rs n) ++ map ask_whole is) s rs n
  given_all = subst (λ (xs : List Ask). ListGiven S xs s rs n) asks_are g

  pub load_first : ListGiven S (map ask_whole is) s rs n
  load_first = given_right (here (wanted_in s rs n)) given_all

  module _ {t us : List ℕ} {r : Bool} (a : AsksAll S (map ask_whole is) s rs n t us r) where
    pub load_full : r ≡ false → AsksAll S (load_of S p (wanted_in s rs n)) s rs n t us false
    load_full e = subst (λ (xs : List Ask). AsksAll S xs s rs n t us false) (sym asks_are) (all_full a (here (wanted_in s rs n)) e)

    module _ (e : r ≡ true) where
      given_here : ListGiven S (here (wanted_in t us n)) t us n
      given_here = given_next a e here [] given_all

      module _ {before after : List ℕ} {found : Target} (d : TargetFound S p before after found) {k : ℕ} (m : k ≡ cond found.dynamic 0 (get_or us (n - 2) 0)) where
        by_dynamic : (P : Bool → ℕ → Type 0) → P true 0 → P false (get_or us (n - 2) 0) → P found.dynamic k
        by_dynamic P x y = rw m (go found.dynamic)
          where
            go : (b : Bool) → P b (cond b 0 (get_or us (n - 2) 0))
            go true = x
            go false = y

        means : meaning t k ≡ cond (any is) all (wanted_in t us n)
        means = rw (← d.dynamic) (by_dynamic (λ b k. meaning t k ≡ cond b all (wanted_in t us n)) (part-0 t) refl)

        pub load_all : {v vs : List ℕ} {q : Bool} → AsksAt (part after found.from found.to) (meaning t k) t us n v vs q → AsksAll S (load_of S p (wanted_in s rs n)) s rs n v vs q
        load_all {v} {vs} {q} h =
            let b : AsksAll S (here (wanted_in t us n)) t us n v vs q = place_all given_here d.is (rw means at h) in
            subst (λ (xs : List Ask). AsksAll S xs s rs n v vs q) (sym asks_are) (all_then a e here g.two (omega (arith, g.spare)) b)

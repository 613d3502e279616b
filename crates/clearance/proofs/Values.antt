-- One lemma by kind of expression: where what is asked of the operands is the same, the needed part of the result is the same.
use Prim.Native.Nat.{ℕ, zero, suc, ◌+◌}
use native.Mathlib.Omega.{arith}
use mathlib.Core.Path.{◌≡◌, refl, sym, ap, ap₂, subst, ◌∙◌, fun_ext}
use mathlib.Core.Bool.{true}
use mathlib.Core.List.{List, [], ◌∷◌, ◌++◌, map}
use mathlib.Core.Option.{Option, some, none as nothing}
use Rattle.part.specs.PartReq.{PartReq, all, none, get_subpart}
use Rattle.module.specs.Module.{ExpressionHandle}
use Rattle.clearance.specs.Shape.{Shape, member, extent, cov}
use Rattle.clearance.specs.Scope.{Scope, shape_of, type_of, inner_of, Operand, whole, same, Arm, fixed, argued, pointing, operator, access_index, access}
use Rattle.clearance.specs.Scope.{swizzle, compose, joined, load, unjudged, arm, Step, at, by, Path, path_of, front, indexes, target}
use Rattle.clearance.specs.Needs.{Ask, of_place, ask_operand, ask_whole, ask_picked, ask_components, ask_steps, asks}
use Rattle.clearance.proofs.Cov.{cov-all, cov-here, cov-or_none, cov-extend}
use Rattle.clearance.specs.Run.{Value, State, Operators, onward, element, number_in, value, number_of, element_by, value_operand, part_of, picked, composed, concatenated, follow, place, loaded, evaluate}
use Rattle.clearance.specs.Claim.{SameOperands, no_operands, same_whole, same_part, ByComponent}
use Rattle.clearance.proofs.Agree.{Met, AllMet, met_whole}

pub nil_right : (q : List ℕ) → q ++ [] ≡ q
nil_right [] = refl
nil_right (j ∷ q) = ap (◌∷◌ j) (nil_right q)

pub regroup : (p q r : List ℕ) → (p ++ q) ++ r ≡ p ++ (q ++ r)
regroup [] q r = refl
regroup (j ∷ p) q r = ap (◌∷◌ j) (regroup p q r)

-- whatever a path leads to is below f
unfoldable pub Below : List ℕ → Option (List ℕ) → Type 0
Below f nothing = Unit
Below f (some p) = (r : List ℕ) × (p ≡ f ++ r)

below_onward : (i : ℕ) (f : List ℕ) (o : Option (List ℕ)) → Below f o → Below (i ∷ f) (onward o (λ q. some (i ∷ q)))
unfolding Below onward
below_onward i f nothing h = tt
below_onward i f (some p) h = (h.0, ap (◌∷◌ i) h.1)

below_any : (o : Option (List ℕ)) → Below [] o
unfolding Below
below_any nothing = tt
below_any (some p) = (p, refl)

module _ (S : Scope) (ops : Operators) (s u : State) where
  abbrev Same : List Ask → Type 0
  Same xs = AllMet S ops s u xs

  operands_same : (q : List ℕ) (a : PartReq) → cov a q ≡ true → (xs : List Operand) → Same (map (ask_operand a) xs) →
      SameOperands q xs (map (value_operand S ops s) xs) (map (value_operand S ops u) xs)
  unfolding AllMet ask_operand value_operand
  operands_same q a c [] h = no_operands
  operands_same q a c (whole x ∷ xs) h =
      subst (λ w. SameOperands q (whole x ∷ xs) (map (value_operand S ops s) (whole x ∷ xs)) (w ∷ map (value_operand S ops u) xs))
      (met_whole S ops s u x h.0) (same_whole (value S ops s x) (operands_same q a c xs h.1))
  operands_same q a c (same x ∷ xs) h =
      same_part (value S ops s x) (value S ops u x) (λ r. h.0 (q ++ r) (cov-extend a q r c)) (operands_same q a c xs h.1)

  picked_same : (v : ExpressionHandle) (is : List ℕ) (k : ℕ) (a : PartReq) → Same (ask_picked v is k a) → (j : ℕ) (q : List ℕ) → cov a ((k + j) ∷ q) ≡ true →
      picked (value S ops s v) is (j ∷ q) ≡ picked (value S ops u v) is (j ∷ q)
  unfolding AllMet ask_picked picked cov
  picked_same v [] k a h j q c = refl
  picked_same v (i ∷ is) k a h zero q c =
      let z : k + zero ≡ k = omega arith in
      h.0 (i ∷ q) (cov-here i i _ none q (omega arith) (omega arith) ∙ cov-or_none (get_subpart a k) q ∙ (rw z at c))
  picked_same v (i ∷ is) k a h (suc j) q c =
      let z : k + suc j ≡ suc k + j = omega arith in
      picked_same v is (suc k) a h.1 j q (rw z at c)

  picked-top : (v w : Value) (is : List ℕ) → picked v is [] ≡ picked w is []
  unfolding picked
  picked-top v w [] = refl
  picked-top v w (i ∷ is) = refl

  composed-same : (cs : List ExpressionHandle) (k : ℕ) (a : PartReq) → Same (ask_components cs k a) → (j : ℕ) (q : List ℕ) → cov a ((k + j) ∷ q) ≡ true →
      composed S ops s cs (j ∷ q) ≡ composed S ops u cs (j ∷ q)
  unfolding AllMet ask_components composed cov
  composed-same [] k a h j q c = refl
  composed-same (x ∷ cs) k a h zero q c =
      let z : k + zero ≡ k = omega arith in
      h.0 q (cov-or_none (get_subpart a k) q ∙ (rw z at c))
  composed-same (x ∷ cs) k a h (suc j) q c =
      let z : k + suc j ≡ suc k + j = omega arith in
      composed-same cs (suc k) a h.1 j q (rw z at c)

  composed-top : (cs : List ExpressionHandle) → composed S ops s cs [] ≡ composed S ops u cs []
  unfolding composed
  composed-top [] = refl
  composed-top (x ∷ cs) = refl

  concatenated-same : (cs : List ExpressionHandle) → Same (map ask_whole cs) → (q : List ℕ) → concatenated S ops s cs q ≡ concatenated S ops u cs q
  unfolding AllMet concatenated
  concatenated-same [] h q = refl
  concatenated-same (x ∷ cs) h [] = refl
  concatenated-same (x ∷ cs) h (k ∷ q) =
      rw (met_whole S ops s u x h.0, concatenated-same cs h.1 _)

  -- a path without a dynamic index leads to its front; every path leads below it
  pub follow-static : (xs : List Step) → indexes xs ≡ [] → (w : State) (t : Shape) → follow S ops w t xs ≡ some (front xs)
  unfolding indexes follow front onward
  follow-static [] h w t = refl
  follow-static (at i ∷ xs) h w t = rw (follow-static xs h w (member t i))
  follow-static (by e ∷ xs) h w t = cc

  pub follow-front : (xs : List Step) (w : State) (t : Shape) → Below (front xs) (follow S ops w t xs)
  unfolding follow front
  follow-front [] w t = unfold Below in ([], refl)
  follow-front (at i ∷ xs) w t = below_onward i (front xs) (follow S ops w (member t i) xs) (follow-front xs w (member t i))
  follow-front (by e ∷ xs) w t = below_any _

  pub follow-same : (xs : List Step) → Same (map ask_whole (indexes xs)) → (t : Shape) → follow S ops s t xs ≡ follow S ops u t xs
  unfolding AllMet indexes follow number_of element_by
  follow-same [] h t = refl
  follow-same (at i ∷ xs) h t = rw (follow-same xs h (member t i))
  follow-same (by e ∷ xs) h t =
      let z : ◌≡◌ {A = ℕ → Option (List ℕ)} (λ i. onward (follow S ops s (member t i) xs) (λ q. some (i ∷ q))) (λ i. onward (follow S ops u (member t i) xs) (λ q. some (i ∷ q)))
      = fun_ext (λ i. ap (λ o. onward o (λ q. some (i ∷ q))) (follow-same xs h.1 (member t i))) in
      ap₂ (λ (v : Value) f. onward (onward (number_in (inner_of S e) v) (element (extent t))) f) (met_whole S ops s u e h.0) z

  pub place_same : (p : Path) → Same (map ask_whole (indexes p.steps)) → place S ops s p ≡ place S ops u p
  unfolding place
  place_same p h = follow-same p.steps h _

  -- wherever a path leads, it is below its front
  pub place-front : (p : Path) (w : State) → Below (front p.steps) (place S ops w p)
  unfolding place
  place-front p w = follow-front p.steps w _

  pub place-static : (p : Path) → indexes p.steps ≡ [] → (w : State) → place S ops w p ≡ some (front p.steps)
  unfolding place
  place-static p e w = follow-static p.steps e w _

  loaded-below : (root f : List ℕ) (o : Option (List ℕ)) → Below f o → Met S ops s u (of_place (root ++ f) all) → (q : List ℕ) →
      loaded S ops s root o q ≡ loaded S ops u root o q
  unfolding loaded Below
  loaded-below root f nothing b h q = refl
  loaded-below root f (some p) b h q =
      let z : (root ++ f) ++ (b.0 ++ q) ≡ root ++ (p ++ q) = regroup root f (b.0 ++ q) ∙ ap (◌++◌ root) (sym (regroup f b.0 q) ∙ ap (λ x. x ++ q) (sym b.1)) in
      rw z at (h (b.0 ++ q) (cov-all (b.0 ++ q)))

  loaded-same : (p : Path) (is : List ExpressionHandle) (a : PartReq) → indexes p.steps ≡ is → Same (ask_steps p is a) → (q : List ℕ) → cov a q ≡ true →
      loaded S ops s p.root (place S ops s p) q ≡ loaded S ops u p.root (place S ops u p) q
  unfolding AllMet ask_steps target loaded
  loaded-same p [] a e h q c =
      let z = regroup p.root (front p.steps) q in
      rw (place-static p e s, place-static p e u) (rw z at (h.0 q c))
  loaded-same p (i ∷ is) a e h q c =
      let z = place_same p (rw e h.1) in
      rw (sym z) (loaded-below p.root (front p.steps) _ (place-front p s) h.0 q)

  pub evaluate-same : ByComponent S ops → (e : ExpressionHandle) (x : Arm) → arm S e ≡ x → (a : PartReq) → Same (asks S x a) →
      (q : List ℕ) → cov a q ≡ true → evaluate S ops s e x q ≡ evaluate S ops u e x q
  unfolding asks evaluate AllMet number_of element_by
  evaluate-same B e fixed i a h q c = refl
  evaluate-same B e (argued n) i a h q c = refl
  evaluate-same B e pointing i a h q c = refl
  evaluate-same B e (operator xs) i a h q c =
      rw (nil_right q) at (B.parts e xs i q _ _ (operands_same q a c xs h) [])
  evaluate-same B e (access_index base n) i a h q c = h.0 (n ∷ q) (cov-here n n a none q (omega arith) (omega arith) ∙ c)
  evaluate-same B e (access base index) i a h q c =
      ap₂ (λ (v w : Value). part_of v (onward (number_in (inner_of S index) w) (element (extent (shape_of S (type_of S base))))) q)
      (met_whole S ops s u base h.0) (met_whole S ops s u index h.1.0)
  evaluate-same B e (swizzle v pattern) i a h [] c = picked-top _ _ pattern
  evaluate-same B e (swizzle v pattern) i a h (j ∷ q) c = let z : 0 + j ≡ j = omega arith in picked_same v pattern 0 a h j q (rw z c)
  evaluate-same B e (compose cs) i a h [] c = composed-top cs
  evaluate-same B e (compose cs) i a h (j ∷ q) c = let z : 0 + j ≡ j = omega arith in composed-same cs 0 a h j q (rw z c)
  evaluate-same B e (joined cs) i a h q c = concatenated-same cs h q
  evaluate-same B e (load p) i a h q c = loaded-same (path_of S p) _ a refl h q c
  evaluate-same B e unjudged i a h q c = refl

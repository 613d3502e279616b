-- Two states agree on needs: what that says of the values that are asked for. Everything rests on paths that a need covers.
use Prim.Native.Nat.{ℕ}
use mathlib.Core.Path.{◌≡◌, refl, ap, ◌∙◌, fun_ext}
use mathlib.Core.Bool.{true}
use mathlib.Core.List.{List, [], ◌∷◌, ◌++◌}
use Rattle.part.specs.PartReq.{PartReq}
use Rattle.module.specs.Module.{ExpressionHandle}
use Rattle.clearance.specs.Shape.{leaf, cov, under}
use Rattle.clearance.specs.Scope.{Scope, Place, shape_of, type_of, inner_of, frame, Source, given, from, source}
use Rattle.clearance.specs.Needs.{Ask, of_value, of_place, ask_whole, need_at, need_from, need, needs, wholly}
use Rattle.clearance.proofs.Small.{cases}
use Rattle.clearance.proofs.Cov.{cov-all, cov-under, cov-add-left, cov-add-right, cov-trim, within_leaf}
use Rattle.clearance.specs.Run.{State, Operators, look, zero_in, number_in, value_from, value, is_zero, number_of}

module _ (S : Scope) where
  -- two states have the same wherever the need covers
  abbrev pub Agree : PartReq → State → State → Type 0
  Agree n s u = (q : Place) → cov n q ≡ true → look S s q ≡ look S u q

  pub look-leaf : (s : State) (q : Place) → leaf (frame S) q ≡ true → look S s q ≡ s q
  unfolding look
  look-leaf s q h = rw h

  pub look-by : (s u : State) (q : Place) → (leaf (frame S) q ≡ true → look S s q ≡ look S u q) → look S s q ≡ look S u q
  look-by s u q h = cases (leaf (frame S) q) h (λ e. unfold look in rw e)

  module _ (ops : Operators) (s u : State) where
    -- what an ask has met: the same wherever it covers
    abbrev pub Met : Ask → Type 0
    Met (of_value e a) = (q : List ℕ) → cov a q ≡ true → value S ops s e q ≡ value S ops u e q
    Met (of_place p a) = (q : List ℕ) → cov a q ≡ true → look S s (p ++ q) ≡ look S u (p ++ q)

    unfoldable pub AllMet : List Ask → Type 0
    AllMet [] = Unit
    AllMet (x ∷ xs) = Met x × AllMet xs

    at_rest : (p : Place) (a n : PartReq) → Agree (need_at S p a n) s u → Agree n s u
    unfolding need_at
    at_rest p a n g q c = g q (cov-add-right _ n q c)

    at_part : (p : Place) (a n : PartReq) → Agree (need_at S p a n) s u → (q : List ℕ) → cov a q ≡ true → look S s (p ++ q) ≡ look S u (p ++ q)
    unfolding need_at
    at_part p a n g q c =
        look-by s u (p ++ q)
        (λ l. g (p ++ q) (cov-add-left _ n (p ++ q) (cov-trim (under p a) (frame S) (p ++ q) (within_leaf (frame S) (p ++ q) l) (cov-under a p q ∙ c))))

    from_rest : (x : Source) (a n : PartReq) → Agree (need_from S x a n) s u → Agree n s u
    unfolding need_from
    from_rest given a n g = g
    from_rest (from p) a n g = at_rest p a n g

    from_part : (e : ExpressionHandle) (x : Source) (a n : PartReq) → Agree (need_from S x a n) s u → (q : List ℕ) → cov a q ≡ true →
        value_from S ops s e x q ≡ value_from S ops u e x q
    unfolding need_from value_from
    from_part e given a n g q c = refl
    from_part e (from p) a n g q c = at_part p a n g q c

    need-rest : (x : Ask) (n : PartReq) → Agree (need S x n) s u → Agree n s u
    unfolding need
    need-rest (of_value e a) n g = from_rest (source S e) a n g
    need-rest (of_place p a) n g = at_rest p a n g

    need-met : (x : Ask) (n : PartReq) → Agree (need S x n) s u → Met x
    unfolding need value
    need-met (of_value e a) n g = from_part e (source S e) a n g
    need-met (of_place p a) n g = at_part p a n g

    pub needs-rest : (xs : List Ask) (n : PartReq) → Agree (needs S xs n) s u → Agree n s u
    unfolding needs
    needs-rest [] n g = g
    needs-rest (x ∷ xs) n g = needs-rest xs n (need-rest x _ g)

    pub needs-met : (xs : List Ask) (n : PartReq) → Agree (needs S xs n) s u → AllMet xs
    unfolding needs AllMet
    needs-met [] n g = tt
    needs-met (x ∷ xs) n g = (need-met x _ g, needs-met xs n (need-rest x _ g))

    -- all of a value
    pub met_whole : (e : ExpressionHandle) → Met (ask_whole e) → value S ops s e ≡ value S ops u e
    met_whole e h = fun_ext (λ q. h q (cov-all q))

    pub wholly-rest : (e : ExpressionHandle) (n : PartReq) → Agree (wholly S e n) s u → Agree n s u
    unfolding wholly
    wholly-rest e n g = needs-rest (ask_whole e ∷ []) n g

    wholly-value : (e : ExpressionHandle) (n : PartReq) → Agree (wholly S e n) s u → value S ops s e ≡ value S ops u e
    unfolding wholly AllMet
    wholly-value e n g = met_whole e (needs-met (ask_whole e ∷ []) n g).0

    pub wholly-zero : (e : ExpressionHandle) (n : PartReq) → Agree (wholly S e n) s u → is_zero S ops s e ≡ is_zero S ops u e
    unfolding is_zero
    wholly-zero e n g = ap (zero_in (shape_of S (type_of S e))) (wholly-value e n g)

    pub wholly-number : (e : ExpressionHandle) (n : PartReq) → Agree (wholly S e n) s u → number_of S ops s e ≡ number_of S ops u e
    unfolding number_of
    wholly-number e n g = ap (number_in (inner_of S e)) (wholly-value e n g)

-- One ask of a pass: one for nothing changes nothing; what a return asks of its value may be trimmed to the result's type before, as the code keeps it.
use Prim.Native.Nat.{◌<◌, ◌≤◌}
use native.Mathlib.Omega.{arith}
use mathlib.Core.Path.{◌≡◌, refl, sym, ap, ◌∙◌}
use mathlib.Core.Bool.{Bool, true, false, cond}
use mathlib.Core.List.{List, ◌∷◌, ◌++◌, flat_map}
use mathlib.Core.Option.{Option, some as present, none as absent}
use lib.ListN.{length}
use borrow.Author.Tests.{ltb-false, le-ltb}
use Rattle.part.specs.PartReq.{PartReq, none, is_exist, add}
use Rattle.part.specs.Count.{among}
use Rattle.part.specs.Collect.{cells_in, reached, cells_of}
use Rattle.part.proofs.Equations.{never, none-add}
use Rattle.part.proofs.Distinct.{among-left, among_cases, Among, once_monotone}
use Rattle.module.specs.Module.{ExpressionHandle, FunctionResult, Return}
use Rattle.clearance.specs.Shape.{Shape, some, under, trim}
use Rattle.clearance.specs.Scope.{Scope, shape_of, result_shape, expressions_of, type_of, frame}
use Rattle.clearance.specs.Scope.{Source, given, from, source}
use Rattle.clearance.specs.Needs.{Ask, of_value, of_place, need_at, need_from, need, Setting}
use Rattle.clearance.specs.Judged.{is_value, presently, fits_return, fits_statement}
use Rattle.clearance.specs.IsNeed.{Tidy}
use Rattle.clearance.proofs.Small.{both_true}
use Rattle.clearance.proofs.Ascending.{trim-tidy}
use Rattle.pass.specs.Pass.{work_bound, Carried, on, too_large, within, part_from, part_of, asking}
use Rattle.pass.specs.Checked.{asked_of}
use Rattle.framed.specs.Given.{Read, Judged}
use Rattle.framed.specs.Same.{SameShape}
use Rattle.framed.proofs.Same.{same_sym, same_trans, same_tidy, same_trim, alike-shape}
use Rattle.asked.specs.Within.{wanted, Within, placed, plain_part}
use Rattle.asked.proofs.Asks.{part_asked}
use Rattle.asked.proofs.Plain.{trim-under, tidy_wanted, nowhere, source-shape, part_plain}

-- An ask for nothing

pub need-is : (S : Scope) (x : Ask) (n : PartReq) → is_exist n ≡ false → need S x n ≡ add (part_of S x) n
unfolding need need_at part_of part_from
need-is S (of_place q p) n h = refl
need-is S (of_value v p) n h = go (source S v)
  where
    go : (s : Source) → need_from S s p n ≡ add (part_from S s p) n
    go given = unfold need_from in sym (none-add n h)
    go (from q) = unfold need_from need_at in refl

twice : (n : PartReq) (l : List PartReq) → Among (reached (n ∷ none ∷ n ∷ l)) (reached (n ∷ l))
unfolding flat_map cells_in
twice n l q e =
    among_cases (among q (cells_in n ++ reached l) ≡ true) q (cells_in n) (cells_in n ++ reached l) e (λ z. among-left q (cells_in n) (reached l) z) (λ z. z)

still_room : (aside : List PartReq) (n : PartReq) (c : Carried) → too_large aside n c ≡ false → too_large (none ∷ n ∷ aside) n c ≡ false
unfolding too_large
still_room aside n c t =
    let l = aside ++ c.table in
    let a : cells_of (n ∷ l) ≤ work_bound = ltb-false work_bound (cells_of (n ∷ l)) t in
    let b : cells_of (n ∷ none ∷ n ∷ l) ≤ cells_of (n ∷ l) = once_monotone (λ o. 1) (reached (n ∷ none ∷ n ∷ l)) (reached (n ∷ l)) (twice n l) in
    le-ltb work_bound (cells_of (n ∷ none ∷ n ∷ l)) (omega arith)

pub asks_nothing : (S : Scope) (aside : List PartReq) (x : Ask) (n : PartReq) (c : Carried) → part_of S x ≡ none → is_exist n ≡ false → too_large aside n c ≡ false → asking S aside x n c ≡ on c n
unfolding asking within
asks_nothing S aside x n c h i t =
    let e : need S x n ≡ n = need-is S x n i ∙ (ap (λ (p : PartReq). add p n) h ∙ none-add n i) in
    rw (h, e, still_room aside n c t)

-- A return: what is asked of the value is kept trimmed to the result's type.

module _ (W : Setting) (R : Read W.scope) (J : Judged W.scope) (v : ExpressionHandle) (l : v < length (expressions_of W.scope))
    (h : fits_statement W.scope (Return (present v)) ≡ true) where
  result_same : SameShape (result_shape W.scope W.scope.function.result) (shape_of W.scope (type_of W.scope v))
  unfolding fits_statement presently
  result_same = go W.scope.function.result (both_true (is_value W.scope v) _ h).1
    where
      go : (r : Option FunctionResult) → fits_return W.scope r v ≡ true → SameShape (result_shape W.scope r) (shape_of W.scope (type_of W.scope v))
      go absent h = never (unfold fits_return in h)
      go (present r) h = unfold result_shape in alike-shape W.scope R.lower r.type (type_of W.scope v) (unfold fits_return in h)

  result-tidy : Tidy (asked_of W) (result_shape W.scope W.scope.function.result)
  unfolding asked_of
  result-tidy = trim-tidy W.asked _

  pub return_within : Within W.scope (of_value v (asked_of W))
  return_within = (l, part_asked (asked_of W) _ (same_tidy (asked_of W) result_same result-tidy))

  pub return_part : part_of W.scope (of_value v W.asked) ≡ plain_part W.scope (of_value v (asked_of W))
  unfolding part_of part_from plain_part placed
  return_part = go (source W.scope v) refl
    where
      is_asked : (t : Shape) → SameShape t (result_shape W.scope W.scope.function.result) → trim W.asked t ≡ asked_of W
      is_asked t s = unfold asked_of in same_trim W.asked s

      go : (s : Source) → source W.scope v ≡ s → part_from W.scope s W.asked ≡ cond (wanted (asked_of W)) (placed s (asked_of W)) none
      go given e = nowhere (wanted (asked_of W))
      go (from q) e =
          trim-under q W.asked (frame W.scope)
          ∙ (ap (λ (b : PartReq). cond (some b) (under q b) none) (is_asked _ (same_trans (source-shape W.scope R J v l q e) (same_sym result_same)))
          ∙ ap (λ (b : Bool). cond b (under q (asked_of W)) none) (sym (tidy_wanted (asked_of W) _ result-tidy)))

  pub return_asking : (aside : List PartReq) (n : PartReq) (c : Carried) → is_exist n ≡ false →
      asking W.scope aside (of_value v W.asked) n c ≡ asking W.scope aside (of_value v (asked_of W)) n c
  unfolding asking
  return_asking aside n c i =
      let e = return_part ∙ sym (part_plain W.scope R J (of_value v (asked_of W)) return_within) in
      let f = need-is W.scope (of_value v W.asked) n i ∙ (ap (λ (p : PartReq). add p n) e ∙ sym (need-is W.scope (of_value v (asked_of W)) n i)) in
      rw (e, f)

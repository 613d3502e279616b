-- The list of a set as it is written: binding by binding, each that is in the set at the next place.
use Prim.Native.Nat.{ℕ, suc, ◌+◌, ◌<◌, ◌≤◌}
use native.Mathlib.Omega.{arith}
use native.Mathlib.Numerals.{add-one}
use mathlib.Core.Path.{◌≡◌, refl, sym, ap, ◌∙◌}
use mathlib.Core.Bool.{true, false}
use mathlib.Core.List.{List, [], ◌∷◌, ◌++◌, append_assoc}
use lib.ListN.{length, get_or, drop, set, length-append}
use lib.Seq.{drop-cons, set_at}
use Rattle.module.specs.Operands.{bindings}
use Rattle.bindings.specs.Bindings.{Bindings, contains, list_below}

pub record Writing (s : Bindings) (old out : List ℕ) (b k : ℕ) : Type 0 where
  pub low : b ≤ bindings
  pub few : k ≤ b
  pub count : k ≡ length (list_below b s)
  pub is : out ≡ list_below b s ++ drop k old

module _ (s : Bindings) (old : List ℕ) where
  pub writing_none : Writing s old old 0 0
  unfolding list_below
  writing_none = record { low = omega arith; few = omega arith; count = refl; is = refl }

  module _ {out : List ℕ} {b k : ℕ} (W : Writing s old out b k) (h : b < bindings) where
    pub writing_not : contains s b ≡ false → Writing s old out (b + 1) k
    writing_not e =
        let few : k ≤ b = W.few in
        let same : list_below (b + 1) s ≡ list_below b s = rw (add-one b) (unfold list_below in (rw e)) in
        record { low = omega arith; few = omega arith; count = W.count ∙ rw same; is = W.is ∙ rw same }

    pub writing_in : bindings ≤ length old → contains s b ≡ true → Writing s old (set out k b) (b + 1) (k + 1)
    writing_in room e =
        let few : k ≤ b = W.few in
        let same : list_below (b + 1) s ≡ list_below b s ++ (b ∷ []) = rw (add-one b) (unfold list_below in (rw e)) in
        let long : length (list_below b s) ≡ k = sym W.count in
        let here : out ≡ list_below b s ++ (get_or old k 0 ∷ drop (suc k) old) = W.is ∙ rw (drop-cons old k 0 (omega arith)) in
        record {
          low = omega arith;
          few = omega arith;
          count = rw (same, length-append (list_below b s) (b ∷ []), long);
          is =
              ap (λ (l : List ℕ). set l k b) here
              ∙ set_at (list_below b s) (get_or old k 0) (drop (suc k) old) b k long
              ∙ rw (same, add-one k) (sym (append_assoc (list_below b s) (b ∷ []) (drop (suc k) old)));
        }

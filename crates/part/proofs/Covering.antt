-- One requirement contains another exactly where it is their sum. So a remembered sum tells `covers`, and what `covers` finds can be remembered as one;
-- each turn of its loop keeps the answer, as in `contains`.
use Prim.Native.Nat.{ℕ, ◌<◌, ◌≤◌}
use native.Mathlib.Omega.{arith}
use mathlib.Core.Path.{◌≡◌, refl, sym, ap, ◌∙◌}
use mathlib.Core.Bool.{Bool, true, false}
use mathlib.Core.List.{List}
use lib.Dec.{eqb}
use borrow.Author.Tests.{eq-eqb, ne_eqb}
use Rattle.part.specs.PartReq.{PartReq, add, contains}
use Rattle.std.specs.Prelude.{Option, Some}
use Rattle.part.specs.Store.{top, part, Good, Known, Seen, distinct_in}
use Rattle.part.specs.Summed.{Recalled, Remembered, Covered}
use Rattle.part.proofs.Once.{formed, same_number}
use Rattle.part.proofs.Order.{reflexive}
use Rattle.part.proofs.Sum.{add-contained, sum_right}
use Rattle.part.proofs.Write.{kept_self}
use Rattle.part.proofs.Making.{kept_trans}
use Rattle.part.proofs.Reading.{Along, along_gt, along_not, along_both, along_next}
use Rattle.part.proofs.Counting.{by_bool}
use Rattle.part.proofs.Distinct.{untrue}

-- a contains b exactly where adding b changes nothing
pub contains-add : (a b : PartReq) → (contains a b ≡ true → add a b ≡ a) × (add a b ≡ a → contains a b ≡ true)
contains-add a b = (add-contained a b, λ e. rw e at (sum_right a b))

-- the same by numbers, where n is the sum of a and b
sum_is : {s : List ℕ} {a b n : ℕ} → Good s → Known s a b n → (contains (part s a) (part s b) ≡ true → n ≡ a) × (n ≡ a → contains (part s a) (part s b) ≡ true)
sum_is {s} {a} {b} {n} g k =
    let d = contains-add (part s a) (part s b) in (
      λ e. same_number (formed g) (distinct_in g.unique) n a k.piece k.left (k.is ∙ d.0 e),
      λ e. d.1 (sym k.is ∙ ap (part s) e),
    )

-- where `covers` stands along both lists
pub record Covering (s t : List ℕ) (a b m n : ℕ) : Type 0 where
  pub remembered : Remembered s t
  pub along : Along t a b m n

remembered_self : {s : List ℕ} → Good s → Remembered s s
remembered_self g = record { kept = kept_self g; tops = refl }

remembered_trans : {s t u : List ℕ} → Remembered s t → Remembered t u → Remembered s u
remembered_trans a b = record { kept = kept_trans a.kept b.kept; tops = b.tops ∙ a.tops }

module _ {s : List ℕ} {a b : ℕ} (P : Good s × ((a < top s) × (b < top s))) where
  pub covered_same : a ≡ b → Covered s s a b true
  covered_same e = record { remembered = remembered_self P.0; is = sym (rw e (reflexive (part s b))) }

  pub covered_plain : {r : Bool} → r ≡ contains (part s a) (part s b) → Covered s s a b r
  covered_plain e = record { remembered = remembered_self P.0; is = e }

  pub covered_known : {o : Option ℕ} {n : ℕ} → Recalled s a b o → o ≡ Some n → Covered s s a b (eqb n a)
  covered_known {n = n} x e =
      let d = sum_is P.0 (x.is n e) in
      covered_plain
      (by_bool (λ c. contains (part s a) (part s b) ≡ c → eqb n a ≡ c) (contains (part s a) (part s b))
      (λ e q. eq-eqb n a (d.0 e))
      (λ e q. ne_eqb n a (λ z. untrue (sym e ∙ d.1 z)))
      refl)

  module _ {t : List ℕ} {m n : ℕ} (w : Covering s t a b m n) where
    good_t : Good t
    good_t = w.remembered.kept.good

    whole : contains (part t a) (part t b) ≡ contains (part s a) (part s b)
    whole = rw (w.remembered.kept.same a P.1.0, w.remembered.kept.same b P.1.1)

    -- where the answer is found
    pub covered : {r : Bool} → r ≡ contains (part t a) (part t b) → Covered s t a b r
    covered e = record { remembered = w.remembered; is = e ∙ whole }

    -- it is remembered where it is yes
    pub known_asks : contains (part t m) (part t n) ≡ true → Good t × Known t a b a
    known_asks e = (
      good_t,
      record {
        left = omega (arith, P.1.0, w.remembered.tops);
        right = omega (arith, P.1.1, w.remembered.tops);
        piece = omega (arith, P.1.0, w.remembered.tops);
        is = sym (add-contained (part t a) (part t b) (sym w.along.is ∙ e));
      },
    )

    pub covered_yes : {u : List ℕ} → contains (part t m) (part t n) ≡ true → Remembered t u → Covered s u a b true
    covered_yes e x = record { remembered = remembered_trans w.remembered x; is = sym (sym whole ∙ sym w.along.is ∙ e) }

    pub equal_yes : m ≡ n → contains (part t m) (part t n) ≡ true
    equal_yes e = rw e (reflexive (part t n))

    -- both have an entry
    module _ {i c r j d q : ℕ} (x : Seen t m i c r) (y : Seen t n j d q) where
      pub covered_gt : j < i → Covered s t a b false
      covered_gt l = covered (along_gt w.along x y l)

      pub covering_next : i ≤ j → (i ≡ j → ⊥) → Covering s t a b r n
      covering_next l ne = record { remembered = w.remembered; along = along_next w.along x y l ne }

      module _ {u : List ℕ} {v : Bool} (e : i ≡ j) (o : Covered t u c d v) where
        pub covered_not : v ≡ false → Covered s u a b false
        covered_not z = record {
          remembered = remembered_trans w.remembered o.remembered;
          is = along_not w.along x y e (sym o.is ∙ z) ∙ whole;
        }

        pub covering_both : v ≡ true → Covering s u a b r q
        covering_both z =
            let k = o.remembered in
            let g = along_both w.along x y e (sym o.is ∙ z) in
            record {
              remembered = remembered_trans w.remembered k;
              along = record {
                left_in = omega (arith, g.left_in, k.tops);
                right_in = omega (arith, g.right_in, k.tops);
                low = g.low;
                is =
                    rw (
                      k.kept.same r g.left_in,
                      k.kept.same q g.right_in,
                      k.kept.same a (omega (arith, P.1.0, w.remembered.tops)),
                      k.kept.same b (omega (arith, P.1.1, w.remembered.tops)),
                    )
                    g.is;
              };
            }

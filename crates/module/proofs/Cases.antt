-- A switch's values: a stamp stands at each value that was there, and what is left of the scan gives the whole.
use mathlib.Core.Path.{◌≡◌, refl, sym, ap, ◌∙◌}
use mathlib.Core.Bool.{true, false, not}
use mathlib.Core.List.{List, [], ◌∷◌}
use mathlib.Core.Option.{some, none as nothing}
use Prim.Native.Nat.{ℕ, suc, ◌-◌, ◌<◌, ◌≤◌}
use native.Mathlib.Omega.{arith}
use native.Mathlib.Decide.{ℕ_discrete}
use lib.Dec.{eqb}
use lib.ListN.{length, get_or, set, length-set}
use lib.Seq.{get_or-set_same, get_or-set_other}
use borrow.Author.Tests.{eq-eqb, ne_eqb}
use Rattle.field.specs.Limits.{absent}
use Rattle.module.specs.Operands.{Left, cases_after, elem, given}
use Rattle.module.specs.Scan.{Fresh, Stamped, values}

-- `earlier` are the values that were there, and `xs` the fields that are left
pub record Cases (stamp : ℕ) (first : List ℕ) (whole : Left) (seen xs : List ℕ) (more : ℕ) : Type 0 where
  pub stamped : Stamped first seen stamp
  pub earlier : List ℕ
  pub marks : (v : ℕ) → v < values → eqb (get_or seen v 0) stamp ≡ elem v earlier
  pub rest : cases_after earlier more xs ≡ whole

pub cases_first : (stamp : ℕ) (seen xs : List ℕ) (more : ℕ) → Fresh seen stamp → Cases stamp seen (cases_after [] more xs) seen xs more
unfolding elem
cases_first stamp seen xs more f =
    record {
      stamped = record { same = refl; low = λ v. omega (arith, f.low v) };
      earlier = [];
      marks = λ v h. ne_eqb (get_or seen v 0) stamp (λ e. omega (arith, f.low v));
      rest = refl;
    }

mark_more : (seen earlier : List ℕ) (stamp value : ℕ) → value < length seen → ((v : ℕ) → v < values → eqb (get_or seen v 0) stamp ≡ elem v earlier) → (v : ℕ) → v < values → eqb (get_or (set seen value stamp) v 0) stamp ≡ elem v (value ∷ earlier)
unfolding elem
mark_more seen earlier stamp value h m v l =
    elim (ℕ_discrete v value) [
      | yes e ↦ rw (e, get_or-set_same seen value stamp 0 h, eq-eqb stamp stamp refl, eq-eqb value value refl)
      | no ne ↦ rw (get_or-set_other seen value v stamp 0 ne, ne_eqb v value ne) (m v l)
    ]

stamp-more : (first seen : List ℕ) (stamp value : ℕ) → value < length seen → Stamped first seen stamp → Stamped first (set seen value stamp) stamp
stamp-more first seen stamp value h s =
    record {
      same = length-set seen value stamp ∙ s.same;
      low = λ v.
          elim (ℕ_discrete v value) [
            | yes e ↦ rw (e, get_or-set_same seen value stamp 0 h) (omega arith)
            | no ne ↦ rw (get_or-set_other seen value v stamp 0 ne) (s.low v)
          ];
    }

module _ {stamp : ℕ} {first : List ℕ} {whole : Left} {seen xs : List ℕ} {more : ℕ} (s : Cases stamp first whole seen xs more) where
  one_more : 0 < more → cases_after s.earlier (suc (more - 1)) xs ≡ whole
  one_more h =
      let e : suc (more - 1) ≡ more = omega arith in
      ap (λ (k : ℕ). cases_after s.earlier k xs) e ∙ s.rest

  pub cases_none : 0 < more → xs ≡ [] → nothing ≡ whole
  unfolding cases_after
  cases_none h e = rw e at (one_more h)

  pub cases_short : {ys : List ℕ} {value : ℕ} → 0 < more → xs ≡ value ∷ ys → ys ≡ [] → nothing ≡ whole
  unfolding cases_after
  cases_short h e f = rw (e, f) at (one_more h)

  module _ {ys zs : List ℕ} {value block : ℕ} (small : value < values) (h : 0 < more) (e : xs ≡ value ∷ ys) (f : ys ≡ block ∷ zs) where
    step : given (not (elem value s.earlier)) (cases_after (value ∷ s.earlier) (more - 1) zs) ≡ whole
    unfolding cases_after
    step = rw (e, f) at (one_more h)

    pub cases_twice : get_or seen value 0 ≡ stamp → nothing ≡ whole
    cases_twice again =
        let q : elem value s.earlier ≡ true = sym (s.marks value small) ∙ eq-eqb _ _ again in
        rw q at step

    pub cases_again : values ≤ length first → (get_or seen value 0 ≡ stamp → ⊥) → Cases stamp first whole (set seen value stamp) zs (more - 1)
    cases_again room ne =
        let q : elem value s.earlier ≡ false = sym (s.marks value small) ∙ ne_eqb _ _ ne in
        let i : value < length seen = omega (arith, s.stamped.same) in
        record {
          stamped = stamp-more first seen stamp value i s.stamped;
          earlier = value ∷ s.earlier;
          marks = mark_more seen s.earlier stamp value i s.marks;
          rest = rw q at step;
        }

  end_of : more ≤ 0 → given (elem absent s.earlier) (some xs) ≡ whole
  unfolding cases_after
  end_of h =
      let e : 0 ≡ more = omega arith in
      ap (λ (k : ℕ). cases_after s.earlier k xs) e ∙ s.rest

  pub cases_done : more ≤ 0 → get_or seen absent 0 ≡ stamp → some xs ≡ whole
  cases_done h e =
      let q : elem absent s.earlier ≡ true = sym (s.marks absent (omega arith)) ∙ eq-eqb _ _ e in
      rw q at (end_of h)

  pub cases_no_default : more ≤ 0 → (get_or seen absent 0 ≡ stamp → ⊥) → nothing ≡ whole
  cases_no_default h ne =
      let q : elem absent s.earlier ≡ false = sym (s.marks absent (omega arith)) ∙ ne_eqb _ _ ne in
      rw q at (end_of h)

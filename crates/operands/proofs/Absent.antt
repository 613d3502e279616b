-- Operands that may be absent: by whether an operand is there, and one after another as Math has them.
use Prim.Native.Nat.{ℕ}
use mathlib.Core.Path.{◌≡◌, refl}
use mathlib.Core.Bool.{Bool, true, false, cond}
use mathlib.Core.List.{List, [], ◌∷◌, ◌++◌}
use lib.Dec.{eqb}
use borrow.Author.Tests.{ne_eqb}
use Rattle.std.proofs.Common.{None, Some}
use Rattle.field.specs.Limits.{absent}
use Rattle.module.specs.Decode.{option_of}
use Rattle.module.specs.declared.handles.ExpressionHandle.{ExpressionHandle}
use Rattle.access.specs.Access.{handle_in}
use Rattle.access.proofs.Optional.{absent_of, given_of}
use Rattle.clearance.specs.Scope.{Scope}
use Rattle.clearance.specs.Needs.{ask_whole}
use Rattle.operands.specs.AsksAll.{ListGiven, AsksAll}
use Rattle.operands.specs.Lists.{whole_of, present_of, math_of}
use Rattle.operands.proofs.Lists.{given_right, all_none, all_full, list_next, list_then}

-- the operand v is not there
pub present_none : {S : Scope} {s rs : List ℕ} {n : ℕ} (v : ℕ) → handle_in None ≡ option_of v → ListGiven S (cond (eqb v absent) [] (ask_whole v ∷ [])) s rs n →
    AsksAll S (cond (eqb v absent) [] (ask_whole v ∷ [])) s rs n s rs true
unfolding handle_in
present_none v h g = rw (absent_of v h) (all_none g)

-- it is the expression e
module _ (e : ExpressionHandle) {v : ℕ} (h : handle_in (Some e) ≡ option_of v) where
  pub present_is : e.0 ≡ v
  unfolding handle_in
  present_is = (given_of v h).0

  pub present_whole : cond (eqb v absent) [] (ask_whole v ∷ []) ≡ ask_whole v ∷ []
  unfolding handle_in
  present_whole = rw (ne_eqb v absent (given_of v h).1)

module _ {S : Scope} {s rs : List ℕ} {n : ℕ} (o : ℕ → ℕ) where
  module _ (g : ListGiven S (math_of o) s rs n) where
    pub math_first : ListGiven S (present_of o 3) s rs n
    math_first = given_right (present_of o 2) (given_right (present_of o 1) (given_right (whole_of o 0) g))

    module _ {t us : List ℕ} {r : Bool} (a : AsksAll S (present_of o 3) s rs n t us r) where
      pub math_full : r ≡ false → AsksAll S (math_of o) s rs n t us false
      math_full e = all_full (all_full (all_full a (present_of o 2) e) (present_of o 1) refl) (whole_of o 0) refl

      module _ (e : r ≡ true) where
        pub math_second : ListGiven S (present_of o 2) t us n
        math_second = list_next a e (present_of o 1) (given_right (whole_of o 0) g)

        pub math_two : {v vs : List ℕ} {q : Bool} → AsksAll S (present_of o 2) t us n v vs q → AsksAll S (present_of o 2 ++ present_of o 3) s rs n v vs q
        math_two b = list_then a e g b

    module _ {t us : List ℕ} {r : Bool} (a : AsksAll S (present_of o 2 ++ present_of o 3) s rs n t us r) where
      pub math_full_2 : r ≡ false → AsksAll S (math_of o) s rs n t us false
      math_full_2 e = all_full (all_full a (present_of o 1) e) (whole_of o 0) refl

      module _ (e : r ≡ true) where
        pub math_third : ListGiven S (present_of o 1) t us n
        math_third = list_next a e (whole_of o 0) g

        pub math_three : {v vs : List ℕ} {q : Bool} → AsksAll S (present_of o 1) t us n v vs q → AsksAll S (present_of o 1 ++ (present_of o 2 ++ present_of o 3)) s rs n v vs q
        math_three b = list_then a e g b

    module _ {t us : List ℕ} {r : Bool} (a : AsksAll S (present_of o 1 ++ (present_of o 2 ++ present_of o 3)) s rs n t us r) where
      pub math_full_3 : r ≡ false → AsksAll S (math_of o) s rs n t us false
      math_full_3 e = all_full a (whole_of o 0) e

      module _ (e : r ≡ true) where
        pub math_last : ListGiven S (whole_of o 0) t us n
        math_last = list_next a e [] g

        pub math_all : {v vs : List ℕ} {q : Bool} → AsksAll S (whole_of o 0) t us n v vs q → AsksAll S (math_of o) s rs n v vs q
        math_all b = list_then a e g b

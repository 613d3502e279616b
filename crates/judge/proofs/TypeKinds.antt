-- A type's kind and its number: what tests and arms say of the number.
use Prim.Native.Nat.{◌<◌, ◌≤◌}
use native.Mathlib.Omega.{arith}
use mathlib.Core.Path.{◌≡◌, refl, sym, ◌∙◌}
use mathlib.Core.Logic.{◌⊎◌, inl, inr}
use mathlib.Core.Bool.{Bool, true, false}
use lib.Dec.{eqb}
use borrow.Author.Tests.{eqb-true, eqb-false}
use denote.Enum.Bare.{sameb, tag_one}
use denote.Enum.Declared.{tag_of}
use Rattle.module.specs.contracts.kinds.TypeKind.{the_type}
use Rattle.module.specs.declared.kinds.TypeKind.{TypeKind}
use Rattle.module.specs.declared.kinds.TypeKind.TheVariants.{Scalar, Vector, Matrix, Atomic, Pointer, Array, Struct, BindingArray, Opaque}
use Rattle.module.specs.KindNumbers.{type_number}

tag_is : (k : TypeKind) → tag_of the_type k ≡ type_number k
tag_is Scalar = refl
tag_is Vector = refl
tag_is Matrix = refl
tag_is Atomic = refl
tag_is Pointer = refl
tag_is Array = refl
tag_is Struct = refl
tag_is BindingArray = refl
tag_is Opaque = refl

-- another kind has another number
pub is_not : (l : TypeKind) {k : TypeKind} → (k ≡ l → ⊥) → type_number k ≡ type_number l → ⊥
is_not l {k} n e = n (tag_one the_type tt k l (tag_is k ∙ (e ∙ sym (tag_is l))))

-- what `==` and `!=` say
module _ (k l : TypeKind) {r : Bool} where
  pub test : r ≡ sameb the_type k l → r ≡ eqb (type_number k) (type_number l)
  test h = h ∙ rw (tag_is k, tag_is l)

  pub equal : r ≡ sameb the_type k l → r ≡ true → type_number k ≡ type_number l
  equal h e = eqb-true _ _ (sym (test h) ∙ e)

  pub unequal : r ≡ sameb the_type k l → r ≡ false → type_number k ≡ type_number l → ⊥
  unequal h e = eqb-false _ _ (sym (test h) ∙ e)

-- a scalar or a vector
pub simple : {k : TypeKind} → (k ≡ Scalar) ⊎ (k ≡ Vector) → type_number k ≤ 1
simple (inl e) = rw e (omega arith)
simple (inr e) = rw e (omega arith)

pub not_simple : (k : TypeKind) → (k ≡ Scalar → ⊥) → (k ≡ Vector → ⊥) → 1 < type_number k
not_simple k a b = omega (arith, is_not Scalar a, is_not Vector b)

-- A type's kind as an enum, and its number: two kinds have two numbers, and a number below the last kind's is that of the row.
use Prim.Native.Nat.{ℕ, ◌<◌, min}
use native.Mathlib.Omega.{arith}
use mathlib.Core.Path.{◌≡◌, refl, sym, ap, ◌∙◌}
use mathlib.Core.List.{[], ◌∷◌}
use lib.ListN.{get_or}
use Rattle.module.specs.KindNumbers.{type_number}
use Rattle.module.specs.declared.kinds.TypeKind.{TypeKind}
use Rattle.module.specs.declared.kinds.TypeKind.TheVariants.{Scalar, Vector, Matrix, Atomic, Pointer, Array, Struct, BindingArray, Opaque}

kind_back : ℕ → TypeKind
kind_back n = get_or (Scalar ∷ Vector ∷ Matrix ∷ Atomic ∷ Pointer ∷ Array ∷ Struct ∷ BindingArray ∷ []) n Opaque

back_is : (k : TypeKind) → kind_back (type_number k) ≡ k
unfolding kind_back
back_is Scalar = refl
back_is Vector = refl
back_is Matrix = refl
back_is Atomic = refl
back_is Pointer = refl
back_is Array = refl
back_is Struct = refl
back_is BindingArray = refl
back_is Opaque = refl

-- what an arm says of the row's number
module _ {n : ℕ} {k : TypeKind} (e : type_number k ≡ min n 8) (l : TypeKind) (low : type_number l < 8) where
  pub kind_known : k ≡ l → type_number l ≡ n
  kind_known h = let z : type_number k ≡ type_number l = ap type_number h in omega arith

  pub kind_other : (k ≡ l → ⊥) → n ≡ type_number l → ⊥
  kind_other other h =
      let z : type_number k ≡ type_number l = omega arith in
      other (sym (back_is k) ∙ (ap kind_back z ∙ back_is l))

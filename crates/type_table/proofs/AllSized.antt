-- The types of a valid module are of the sizes that a file may have.
use mathlib.Core.Path.{sym, subst}
use Prim.Native.Nat.{ℕ}
use native.Mathlib.Decide.{dec_lt}
use native.Mathlib.Omega.{arith}
use lib.ListN.{length, get_or, get_or-eq_default}
use Rattle.module.specs.Module.{TypeInner, Scalar, Vector, Matrix, Atomic, Pointer, Array, Struct, BindingArray, Opaque, Module}
use Rattle.context.specs.Types.{Sized, AllSized}
use Rattle.valid.specs.Valid.{TypeFine, MembersWithin, Valid}

sized : (n : ℕ) (x : TypeInner) → TypeFine n x → MembersWithin x → Sized x
sized n Scalar f m = tt
sized n (Vector size) f m = f.1
sized n (Matrix columns rows) f m = (f.0.1, f.1.1)
sized n Atomic f m = tt
sized n (Pointer base) f m = tt
sized n (Array base count) f m = tt
sized n (Struct members) f m = m
sized n (BindingArray base) f m = tt
sized n Opaque f m = tt

pub all_sized : (m : Module) → Valid m → AllSized m.types
all_sized m v =
    record {
      each = λ h. each_sized h;
    }
  where
    each_sized : (h : ℕ) → Sized (get_or m.types h Opaque)
    each_sized h =
        elim (dec_lt h (length m.types)) [
          | yes l ↦
              let t = v.types h Opaque l in
              sized h (get_or m.types h Opaque) t.fine t.few
          | no l ↦ subst Sized (sym (get_or-eq_default m.types Opaque {n = h} (omega arith))) tt
        ]

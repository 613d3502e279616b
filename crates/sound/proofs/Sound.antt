-- A valid module is what the walk's laws ask as `Sound`: each number that an expression names is there, and indexes are a file's.
use mathlib.Core.Path.{subst}
use mathlib.Core.List.{List}
use Prim.Native.Nat.{ℕ, zero, suc, ◌+◌, ◌<◌, ◌≤◌}
use native.Mathlib.Decide.{dec_lt}
use native.Mathlib.Omega.{arith}
use lib.ListN.{length, get_or, get_or-eq_default}
use Rattle.field.specs.Limits.{absent}
use Rattle.part.specs.PartReq.{PartReq, all}
use Rattle.part.specs.Limited.{Plain}
use Rattle.module.specs.Module.{FunctionHandle, TypeHandle, Expression, TypeInner, Scalar, Vector, Matrix, Atomic, Pointer, Array, Struct, BindingArray, Opaque, Module}
use Rattle.context.specs.Remove.{each, type_to_parts}
use Rattle.valid.specs.Valid.{EachBelow, OperandsBelow, NamesBelow, TypeValid, Valid}
use Rattle.walk.specs.Proper.{Sound}
use Rattle.walk.specs.Resolve.{function_at}
use Rattle.sound.proofs.There.{operands_below, names_below}

-- a letter, and what is given past the last of them
letter_below : (pattern : List ℕ) (k : ℕ) → EachBelow 4 pattern → get_or pattern k 0 < 4
letter_below pattern k h =
    elim (dec_lt k (length pattern)) [
      | yes l ↦ omega (arith, h k l)
      | no l ↦
          let past : length pattern ≤ k = omega arith in
          rw (get_or-eq_default pattern 0 past) (omega arith)
    ]

each-plain : (k n : ℕ) (p : PartReq) → k + n ≤ absent → Plain p → Plain (each k n p)
unfolding each
each-plain k zero p l h = tt
each-plain k (suc n) p l h = (omega arith, (h, each-plain (suc k) n p (omega arith) h))

parts_plain : (n : ℕ) (t : TypeInner) → TypeValid n t → Plain (type_to_parts t)
unfolding type_to_parts
parts_plain n Scalar v = tt
parts_plain n (Vector size) v = each-plain 0 size all (omega (arith, v.fine)) tt
parts_plain n (Matrix columns rows) v =
    each-plain 0 columns (each 0 rows all) (omega (arith, v.fine.0)) (each-plain 0 rows all (omega (arith, v.fine.1)) tt)
parts_plain n Atomic v = tt
parts_plain n (Pointer base) v = tt
parts_plain n (Array base count) v = tt
parts_plain n (Struct members) v = each-plain 0 (length members) all (omega (arith, v.few)) tt
parts_plain n (BindingArray base) v = tt
parts_plain n Opaque v = tt

module _ (m : Module) (v : Valid m) where
  -- the parts of a type, and of what is given where there is none
  type_plain : (t : TypeHandle) → Plain (type_to_parts (get_or m.types t Opaque))
  unfolding type_to_parts
  type_plain t =
      elim (dec_lt t (length m.types)) [
        | yes l ↦ parts_plain t (get_or m.types t Opaque) (v.types t Opaque l)
        | no l ↦
            let past : length m.types ≤ t = omega arith in
            rw (get_or-eq_default m.types Opaque past) tt
      ]

  -- the variable that an expression names is there
  abbrev Named : FunctionHandle → Expression → Type 0
  Named f x = NamesBelow (length m.globals) (length (function_at m f).arguments) (length (function_at m f).locals) x

  pub sound : Sound m
  sound =
      record {
        index = λ f e base i is. omega (arith, (subst (OperandsBelow e) is (operands_below m v f e)).1);
        letter = λ f e vector pattern k is. omega (arith, letter_below pattern k (subst (OperandsBelow e) is (operands_below m v f e)).2);
        argument = λ f e i is. subst (Named f) is (names_below m v f e);
        global = λ f e g is. subst (Named f) is (names_below m v f e);
        local = λ f e l is. subst (Named f) is (names_below m v f e);
        parts = type_plain;
      }

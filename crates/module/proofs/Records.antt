-- The values of a record: what the code asks in turn is what the definition asks of the fields.
use mathlib.Core.Path.{◌≡◌, refl, sym, ap, ◌∙◌}
use mathlib.Core.Bool.{Bool, true, false, ◌&&◌}
use mathlib.Core.List.{List, [], ◌∷◌}
use Prim.Native.Nat.{ℕ, zero, suc, ◌+◌, ◌*◌, ◌-◌, ◌/◌, ◌%◌, ◌<◌, ◌≤◌}
use native.Mathlib.Omega.{arith}
use native.Mathlib.Nat.{le_of_suc-le-suc}
use lib.ListN.{length, drop}
use borrow.Author.Tests.{eq-eqb, ne_eqb}
use Rattle.module.specs.declared.record.Mark.{Mark}
use Rattle.module.specs.declared.record.Mark.TheVariants.{TY, GV, FN, AR, LV, EX, BK, ST}
use Rattle.module.specs.Record.{fields_to, body_at, length_at, count_at, end_at, even}
use Rattle.module.specs.Packed.{unpack, classes}
use Rattle.module.specs.Operands.{Scope, operands}
use Rattle.module.specs.File.{fine}
use Rattle.module.specs.Checks.{before_of, shape_in, typed_in}
use Rattle.module.proofs.Fields.{length-fields_to}

fine-is : (mark : Mark) (s : Scope) (fs : List ℕ) → before_of mark ≤ length fs → fine mark s fs ≡ (typed_in mark s.types fs && operands (shape_in mark fs) s (drop (before_of mark) fs))
unfolding fine before_of shape_in typed_in
fine-is TY s [] h = absurd (omega arith)
fine-is TY s (k ∷ fs) h = refl
fine-is GV s fs h = refl
fine-is FN s fs h = refl
fine-is AR s fs h = refl
fine-is LV s fs h = refl
fine-is EX s [] h = absurd (omega arith)
fine-is EX s (t ∷ []) h = absurd (omega arith)
fine-is EX s (t ∷ k ∷ fs) h = refl
fine-is BK s fs h = refl
fine-is ST s [] h = absurd (omega arith)
fine-is ST s (k ∷ fs) h = refl

fine-short : (mark : Mark) (s : Scope) (fs : List ℕ) → length fs < before_of mark → fine mark s fs ≡ false
unfolding fine before_of
fine-short TY s [] h = refl
fine-short TY s (k ∷ fs) h = absurd (omega arith)
fine-short GV s fs h = absurd (omega arith)
fine-short FN s fs h = absurd (omega arith)
fine-short AR s fs h = absurd (omega arith)
fine-short LV s fs h = absurd (omega arith)
fine-short EX s [] h = refl
fine-short EX s (t ∷ []) h = refl
fine-short EX s (t ∷ k ∷ fs) h = absurd (omega arith)
fine-short BK s fs h = absurd (omega arith)
fine-short ST s [] h = refl
fine-short ST s (k ∷ fs) h = absurd (omega arith)

drop-fields : (bytes : List ℕ) (end n k : ℕ) → k ≤ n → drop k (fields_to bytes end n) ≡ fields_to bytes end (n - k)
unfolding fields_to
drop-fields bytes end n zero h =
    let e : n ≡ n - 0 = omega arith in
    ap (fields_to bytes end) e
drop-fields bytes end zero (suc k) h = absurd (omega arith)
drop-fields bytes end (suc n) (suc k) h =
    let e : n - k ≡ suc n - suc k = omega arith in
    drop-fields bytes end n k (le_of_suc-le-suc h) ∙ ap (fields_to bytes end) e

module _ (bytes : List ℕ) (at : ℕ) (mark : Mark) (s : Scope) where
  pub body_short : count_at bytes at < before_of mark → fine mark s (body_at bytes at) ≡ false
  unfolding body_at
  body_short h = fine-short mark s (fields_to bytes (end_at bytes at) (count_at bytes at)) (rw length-fields_to h)

  pub body_fine : before_of mark ≤ count_at bytes at → fine mark s (body_at bytes at) ≡ (typed_in mark s.types (body_at bytes at) && operands (shape_in mark (body_at bytes at)) s (fields_to bytes (end_at bytes at) (count_at bytes at - before_of mark)))
  unfolding body_at
  body_fine h =
      fine-is mark s (fields_to bytes (end_at bytes at) (count_at bytes at)) (rw length-fields_to h)
      ∙ rw (drop-fields bytes (end_at bytes at) (count_at bytes at) (before_of mark) h)

  -- as the code goes about it: the length, the fields before the operands, the type, the operands
  module _ (len skip : ℕ) (is-len : len ≡ length_at bytes at) where
    pub fine-odd : (len % 2 ≡ 0 → ⊥) → false ≡ (even bytes at && fine mark s (body_at bytes at))
    fine-odd h = rw (← is-len, ne_eqb (len % 2) 0 h)

    module _ (is-even : len % 2 ≡ 0) (is-skip : skip ≡ before_of mark) where
      whole : even bytes at ≡ true
      whole = rw (← is-len) (eq-eqb (len % 2) 0 is-even)

      pub fine-cut : len / 2 < skip → false ≡ (even bytes at && fine mark s (body_at bytes at))
      fine-cut h = rw whole (sym (body_short (rw (is-len, is-skip) at h)))

      module _ (long : skip ≤ len / 2) (v : Bool) (is-typed : v ≡ typed_in mark s.types (body_at bytes at)) where
        pub fine-untyped : v ≡ false → false ≡ (even bytes at && fine mark s (body_at bytes at))
        fine-untyped e = rw whole (sym (body_fine (rw (is-len, is-skip) at long) ∙ rw (sym is-typed ∙ e)))

        pub fine-operands : (shape : ℕ) (r : Bool) → v ≡ true → unpack classes shape ≡ shape_in mark (body_at bytes at) → r ≡ operands (unpack classes shape) s (fields_to bytes (at + 4 + 2 * (len / 2)) (len / 2 - skip)) → r ≡ (even bytes at && fine mark s (body_at bytes at))
        fine-operands shape r e f h =
            rw whole (sym (body_fine (rw (is-len, is-skip) at long) ∙ rw (sym is-typed ∙ e) (sym (rw (f, is-len, is-skip) at h))))

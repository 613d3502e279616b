-- The operands of a shape in turn: what is left of the classes and of the fields gives the whole.
use mathlib.Core.Path.{◌≡◌, refl, sym, ap, ◌∙◌}
use mathlib.Core.Bool.{Bool, true, false}
use mathlib.Core.List.{List}
use Prim.Native.Nat.{ℕ, zero, suc, ◌+◌, ◌-◌, ◌/◌, ◌%◌, ◌<◌, ◌≤◌}
use native.Mathlib.Omega.{arith}
use lib.Dec.{eqb}
use lib.ListN.{length}
use borrow.Author.Tests.{ne_eqb}
use Rattle.std.specs.Prelude as rattle
use Rattle.std.specs.Prelude.{Some, None, option_map}
use Rattle.std.proofs.lemmas.Option.{none-some, same_Some}
use Rattle.module.specs.declared.record.Fields.{Fields}
use Rattle.module.specs.declared.shape.Class.{Class}
use Rattle.module.specs.Record.{fields_to}
use Rattle.module.specs.Shape.{Operand}
use Rattle.module.specs.Packed.{meant, class_at, class_then, unpack}
use Rattle.module.specs.Operands.{Scope, operands, on_left, is_nil}
use Rattle.module.specs.Scan.{fields_in, left_in, Fresh, Stamped, class_taken}

by_class : (bits : ℕ) (class : rattle.Option Class) (shape : List Operand) (s : Scope) (xs : List ℕ) (b : Bool) → eqb bits 0 ≡ b → option_map meant class ≡ class_at bits → operands (class_then bits shape) s xs ≡ on_left (class_taken class s xs) (operands shape s)
unfolding class_taken class_then operands
by_class bits None shape s xs true e is = rw e
by_class bits None shape s xs false e is = absurd (none-some _ (rw e at is))
by_class bits (Some c) shape s xs true e is = absurd (none-some _ (sym (rw e at is)))
by_class bits (Some c) shape s xs false e is = rw (e, same_Some _ _ (rw e at is))

nil : (bytes : List ℕ) (end left : ℕ) → eqb left 0 ≡ is_nil (fields_to bytes end left)
unfolding fields_to
nil bytes end zero = refl
nil bytes end (suc left) = ne_eqb (suc left) 0 (λ e. omega arith)

-- after k classes, where `xs` are the fields that are left
pub record Shaped (s : Scope) (first : List ℕ) (stamp : ℕ) (whole : Bool) (seen : List ℕ) (packed k : ℕ) (xs : List ℕ) : Type 0 where
  pub few : k ≤ 6
  pub same : length seen ≡ length first
  pub fresh : Fresh seen (stamp + k)
  pub rest : operands (unpack (6 - k) packed) s xs ≡ whole

pub stamped_on : {first : List ℕ} {stamp later : ℕ} → Fresh first stamp → stamp ≤ later → Stamped first first later
stamped_on f l = record { same = refl; low = λ v. omega (arith, f.low v) }

pub stamped_later : {first seen : List ℕ} {stamp later : ℕ} → Stamped first seen stamp → stamp ≤ later → Stamped first seen later
stamped_later s l = record { same = s.same; low = λ v. omega (arith, s.low v) }

module _ {s : Scope} {first : List ℕ} {stamp : ℕ} {whole : Bool} {seen : List ℕ} {packed k : ℕ} {xs : List ℕ} (i : Shaped s first stamp whole seen packed k xs) where
  module _ (bytes : List ℕ) (class : rattle.Option Class) (r : rattle.Option Fields) {after : List ℕ} (h : k < 6) (is : option_map meant class ≡ class_at (packed % 32)) (t : left_in bytes r ≡ class_taken class s xs) (u : Stamped seen after (stamp + k)) where
    step : on_left (left_in bytes r) (operands (unpack (6 - (k + 1)) (packed / 32)) s) ≡ whole
    unfolding unpack
    step =
        let e : suc (6 - (k + 1)) ≡ 6 - k = omega arith in
        rw (sym t) at (sym (by_class (packed % 32) class (unpack (6 - (k + 1)) (packed / 32)) s xs (eqb (packed % 32) 0) refl is) ∙ ap (λ (n : ℕ). operands (unpack n packed) s xs) e ∙ i.rest)

    pub shape_again : {f : Fields} → r ≡ Some f → Shaped s first stamp whole after (packed / 32) (k + 1) (fields_in bytes f)
    shape_again {f} e =
        record {
          few = omega arith;
          same = u.same ∙ i.same;
          fresh = record { room = omega (arith, u.same, i.fresh.room); low = λ v. omega (arith, u.low v) };
          rest = rw e at step;
        }

    pub shape_stops : r ≡ None → (false ≡ whole) × Stamped first after (stamp + 6)
    shape_stops e = (rw e at step, record { same = u.same ∙ i.same; low = λ v. omega (arith, u.low v) })

  last : 6 ≤ k → is_nil xs ≡ whole
  unfolding unpack operands
  last h =
      let e : 0 ≡ 6 - k = omega arith in
      ap (λ (n : ℕ). operands (unpack n packed) s xs) e ∙ i.rest

  pub shape_done : (bytes : List ℕ) (f : Fields) → xs ≡ fields_in bytes f → 6 ≤ k → (eqb f.left 0 ≡ whole) × Stamped first seen (stamp + 6)
  shape_done bytes f e h =
      (nil bytes f.end f.left ∙ sym (ap is_nil e) ∙ last h, record { same = i.same; low = λ v. omega (arith, i.fresh.low v, i.few) })

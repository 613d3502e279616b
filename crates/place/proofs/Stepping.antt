-- One step down a pointer's operands, from its row.
use Prim.Native.Nat.{ℕ, ◌<◌}
use native.Mathlib.Omega.{arith}
use native.Mathlib.Decide.{ℕ_discrete}
use mathlib.Core.Path.{◌≡◌, refl, sym, ap, ◌∙◌}
use mathlib.Core.List.{List, [], ◌∷◌, ◌++◌}
use Rattle.access.specs.declared.kinded.Kinded.{Kinded}
use Rattle.access.specs.Access.{operand_at, expression_row}
use Rattle.clearance.specs.Scope.{Scope, Place, Path, global, local, slot, path_of, indexes, is_path}
use Rattle.place.specs.declared.pointer.PointerExpression.{PointerExpression}
use Rattle.place.specs.Target.{At, Pointer}
use Rattle.place.specs.Steps.{scope_in, indexes_in, VariableStep, ConstantStep, DynamicStep}
use Rattle.place.proofs.Paths.{alone, constant_lower, dynamic_lower, path_constant, path_dynamic, path_global, path_local, no_other, base_constant, base_dynamic, indexes-of_constant, indexes-of_dynamic}

module _ (p : PointerExpression) {row : Kinded} (is : row ≡ expression_row p.file.now.bytes p.file.now.t p.f.0 p.e.0) where
  abbrev o : ℕ → ℕ
  o = operand_at p.file.now.bytes row

  abbrev R : At p.file.now.bytes p.file.now.t p.f.0 p.e.0 row
  R = record { read = p.pointer.read; function = p.pointer.function; there = p.pointer.there; is = is }

  variable : {place : Place} → path_of (scope_in p) p.e.0 ≡ alone place → VariableStep p place
  unfolding indexes
  variable q = record { root = ap (λ (x : Path). x.root) q; alone = ap (λ (x : Path). x.steps) q; indexes = ap (λ (x : Path). indexes x.steps) q }

  pub step_local : {l : ℕ} → l ≡ o 0 → row.kind ≡ 11 → VariableStep p (slot (local l))
  step_local q k = variable (path_local R k ∙ ap (λ (n : ℕ). alone (slot (local n))) (rw q refl))

  pub step_global : {g : ℕ} → g ≡ o 0 → (row.kind ≡ 3 → ⊥) → (row.kind ≡ 4 → ⊥) → (row.kind ≡ 11 → ⊥) → VariableStep p (slot (global g))
  step_global q a b d =
      elim (ℕ_discrete row.kind 10) [
        | yes k ↦ variable (path_global R k ∙ ap (λ (n : ℕ). alone (slot (global n))) (rw q refl))
        | no k ↦ absurd (no_other R p.pointer.path a b k d)
      ]

  lower_is : {b : ℕ} → b < p.e.0 → is_path (scope_in p) b ≡ is_path (scope_in p) p.e.0 → Pointer p.file.now.bytes p.file.now.t p.f.0 b
  lower_is l q = record { read = p.pointer.read; function = p.pointer.function; there = omega (arith, p.pointer.there); path = q ∙ p.pointer.path }

  module _ {b : ℕ} (base : b ≡ o 0) where
    pub constant_base : row.kind ≡ 3 → Pointer p.file.now.bytes p.file.now.t p.f.0 b
    constant_base k = lower_is (omega (arith, constant_lower R k)) (rw base (base_constant R k))

    pub dynamic_base : row.kind ≡ 4 → Pointer p.file.now.bytes p.file.now.t p.f.0 b
    dynamic_base k = lower_is (omega (arith, (dynamic_lower R k).0)) (rw base (base_dynamic R k))

  module _ (b : PointerExpression) (same : scope_in b ≡ scope_in p) (base : b.e.0 ≡ o 0) {i : ℕ} (second : i ≡ o 1) where
    here : indexes (path_of (scope_in p) b.e.0).steps ≡ indexes_in b
    here = ap (λ (S : Scope). indexes (path_of S b.e.0).steps) (sym same)

    pub step_constant : row.kind ≡ 3 → ConstantStep p b i
    step_constant k =
        record {
          below = record { scope = same; lower = omega (arith, constant_lower R k) };
          path = rw (base, second) (path_constant R k);
          indexes = rw base (indexes-of_constant R k) ∙ here;
        }

    pub step_dynamic : row.kind ≡ 4 → DynamicStep p b i
    step_dynamic k =
        record {
          below = record { scope = same; lower = omega (arith, (dynamic_lower R k).0) };
          index_lower = omega (arith, (dynamic_lower R k).1);
          path = rw (base, second) (path_dynamic R k);
          indexes = rw (base, second) (indexes-of_dynamic R k) ∙ ap (λ (xs : List ℕ). xs ++ (i ∷ [])) here;
        }

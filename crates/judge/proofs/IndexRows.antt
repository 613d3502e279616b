-- An index fits its base: by what the path leads to, or by the value.
use Prim.Native.Nat.{ℕ, ◌<◌, ◌≤◌}
use native.Mathlib.Omega.{arith}
use native.Mathlib.Decide.{ℕ_discrete}
use mathlib.Core.Path.{◌≡◌, ◌∙◌}
use mathlib.Core.Bool.{Bool, true, false, ◌&&◌}
use mathlib.Core.List.{List}
use lib.ListN.{length}
use borrow.Author.Tests.{eq-eqb, ne_eqb}
use Rattle.module.specs.Module.{TypeInner}
use Rattle.module.specs.Decode.{expression_of}
use Rattle.access.specs.declared.kinded.Kinded.{Kinded}
use Rattle.context.specs.Types.{types_of}
use Rattle.clearance.specs.Scope.{Scope, inner, type_of, inner_of, is_path}
use Rattle.clearance.specs.Judged.{part_type, element_type, pointee, same_part, is_value, fits_index, fits_expression}
use Rattle.judge.specs.Shapes.{Pointee, indexed}
use Rattle.judge.specs.Given.{Row, Fits, fits_base}
use Rattle.judge.proofs.Operands.{S, type_low, G, o, operands, by-kind}

module _ (S : Scope) (kind i : ℕ) (x y : TypeInner) {r : Bool} where
  pub index_dynamic : kind ≡ 4 → r ≡ same_part S (element_type S x) y → r ≡ same_part S (indexed S kind i x) y
  unfolding indexed
  index_dynamic h q = rw (eq-eqb kind 4 h) q

  pub index_constant : (kind ≡ 4 → ⊥) → r ≡ same_part S (part_type S x i) y → r ≡ same_part S (indexed S kind i x) y
  unfolding indexed
  index_constant h q = rw (ne_eqb kind 4 h) q

module _ {bytes t : List ℕ} {f : ℕ} {types alike : List ℕ} {paths : List Bool} {e : ℕ} {row : Kinded} (R : Row bytes t f types alike paths e row) (low : 3 ≤ row.kind) (high : row.kind ≤ 4) where
  base_below : o R 0 < e
  unfolding expression_of
  base_below =
      elim (ℕ_discrete row.kind 3) [
        | yes h ↦ (operands R 3 h).0
        | no h ↦ (operands R 4 (omega arith)).0
      ]

  module _ {x i a b : ℕ} (at : x ≡ o R 0) (by : i ≡ o R 1) (ta : a ≡ type_of (S (G R)) x) (tb : b ≡ type_of (S (G R)) e) where
    pub types-low : (a < length (types_of types)) × (b < length (types_of types))
    types-low =
        (omega (arith, ta, type_low (G R) x (omega (arith, at, base_below, R.there))), omega (arith, tb, type_low (G R) e R.there))

    module _ {w : Bool} (path : w ≡ is_path (S (G R)) x) where
      pub led_low : {c d : ℕ} → Pointee types a c → Pointee types b d → (c < length (types_of types)) × (d < length (types_of types))
      led_low P Q = (omega (arith, P.low, types-low.0), omega (arith, Q.low, types-low.1))

      pub base_path : {c d : ℕ} {r : Bool} → w ≡ true → Pointee types a c → Pointee types b d → r ≡ same_part (S (G R)) (indexed (S (G R)) row.kind i (inner (S (G R)) c)) (inner (S (G R)) d) → r ≡ fits_base (S (G R)) bytes row e
      unfolding fits_index pointee inner_of
      base_path h P Q q =
          let p = R.given.values.same in
          q ∙ rw (P.is (S (G R)) p, Q.is (S (G R)) p, ta, tb, ← at, ← by, ← path, h)

      pub base_value : {r : Bool} → w ≡ false → r ≡ is_value (S (G R)) x && (is_value (S (G R)) e && same_part (S (G R)) (indexed (S (G R)) row.kind i (inner (S (G R)) a)) (inner (S (G R)) b)) → r ≡ fits_base (S (G R)) bytes row e
      unfolding fits_index inner_of
      base_value h q = q ∙ rw (ta, tb, ← at, ← by, ← path, h)

  pub fits_access : {s r : Bool} → row.kind ≡ 4 → s ≡ fits_base (S (G R)) bytes row e → r ≡ is_value (S (G R)) (o R 1) && s → Fits bytes t f e r
  unfolding expression_of fits_expression indexed
  fits_access h s q = by-kind R 4 h (q ∙ rw (s, h))

  pub fits_constant : {r : Bool} → (row.kind ≡ 4 → ⊥) → r ≡ fits_base (S (G R)) bytes row e → Fits bytes t f e r
  unfolding expression_of fits_expression indexed
  fits_constant n q = let h : row.kind ≡ 3 = omega arith in by-kind R 3 h (q ∙ rw h)

-- What a statement's row says by its kind: its operands are there, and so the tables decide whether it fits.
use Prim.Native.Nat.{ℕ, zero, suc, ◌-◌, ◌<◌, ◌≤◌}
use native.Mathlib.Omega.{arith}
use mathlib.Core.Path.{◌≡◌, refl, sym, ap, subst, ◌∙◌}
use mathlib.Core.Logic.{◌⊎◌, inl, inr}
use mathlib.Core.Bool.{Bool, true, false, ◌&&◌, and-false}
use mathlib.Core.List.{List}
use mathlib.Core.Option.{Option, some, none as nothing}
use lib.ListN.{length}
use Rattle.module.specs.Module.{Kill, FunctionResult}
use Rattle.module.specs.Decode.{option_of, statement_of}
use Rattle.module.specs.Tables.{function_of, module_of}
use Rattle.access.specs.declared.kinded.Kinded.{Kinded}
use Rattle.access.specs.declared.whole.Bound.{Bound}
use Rattle.std.specs.Prelude.{Option as Optional, Some, None}
use Rattle.access.specs.Access.{operand_at, statement_row, result_from}
use Rattle.access.proofs.Access.{statement_is, statement-of}
use Rattle.valid.specs.Valid.{MaybeBelow, UsesBelow, ResultBelow, entries_below}
use Rattle.context.specs.Types.{types_of}
use Rattle.clearance.specs.Scope.{Scope, alike as alike_in, type_of}
use Rattle.clearance.specs.Judged.{is_value, fits_return, fits_statement}
use Rattle.judge.specs.Alike.{by_table}
use Rattle.judge.specs.Given.{Given, FitsStatement}
use Rattle.module.proofs.Each.{past}
use Rattle.judge.proofs.PathSteps.{function_valid}
use Rattle.judge.proofs.Operands.{S, F, n, type_low}

-- by the declared result
module _ (S : Scope) (declared : Option FunctionResult) (v : ℕ) where
  none_declared : nothing ≡ declared → fits_return S declared v ≡ false
  unfolding fits_return
  none_declared q = rw (← q) refl

  some-declared : {x : FunctionResult} → some x ≡ declared → fits_return S declared v ≡ alike_in S x.type (type_of S v)
  unfolding fits_return
  some-declared q = rw (← q) refl

result_low : (n : ℕ) (declared : Option FunctionResult) {x : FunctionResult} → some x ≡ declared → ResultBelow n declared → x.type < n
result_low n declared q l = let z = rw (← q) at l in z.0

module _ {bytes t : List ℕ} {f : ℕ} {types alike : List ℕ} {paths : List Bool} (given : Given bytes t f types alike paths) where
  abbrev T : Scope
  T = S given

  -- a returned value, by the declared result
  module _ (v : ℕ) {o : Optional Bound} (declared : result_from o ≡ (function_of bytes t f).result) where
    pub return_none : o ≡ None → false ≡ is_value T v && fits_return T (function_of bytes t f).result v
    return_none d = sym (rw (none_declared T (function_of bytes t f).result v (rw d at declared)) (and-false (is_value T v)))

    pub return_some : (b : Bound) {r : Bool} → o ≡ Some b → v < n given → r ≡ is_value T v && by_table alike b.ty.0 (type_of T v) → r ≡ is_value T v && fits_return T (function_of bytes t f).result v
    return_some b d there q =
        let some_is = rw d at declared in
        let ty : b.ty.0 < length (types_of types) =
        rw (← given.values.same) (result_low (length (module_of bytes t).types) (function_of bytes t f).result some_is (function_valid bytes t f given.of.read given.of.there).result) in
        let likes = given.shapes.table.is T given.values.same b.ty.0 (type_of T v) ty (type_low given v there) in
        q ∙ rw (some-declared T (function_of bytes t f).result v some_is, likes)

  module _ (s : ℕ) (there : s < length (F given).statements) {row : Kinded} (is : row ≡ statement_row bytes t f s) where
    abbrev o : ℕ → ℕ
    o = operand_at bytes row

    pub by-kind : {r : Bool} (k : ℕ) → row.kind ≡ k → r ≡ fits_statement T (statement_of k o) → FitsStatement bytes t f s r
    by-kind k h q = q ∙ ap (fits_statement T) (sym (statement-of bytes t f s k row is h))

    uses : (k : ℕ) → row.kind ≡ k → UsesBelow (n given) (entries_below f (module_of bytes t).functions) (statement_of k o)
    uses k h =
        subst (UsesBelow (n given) (entries_below f (module_of bytes t).functions)) (statement_is bytes t f s Kill there ∙ statement-of bytes t f s k row is h)
        ((function_valid bytes t f given.of.read given.of.there).parts.each_statement s Kill there).uses

    last_kinds : (j : ℕ) → true ≡ fits_statement T (statement_of (past 21 j) o)
    unfolding statement_of fits_statement
    last_kinds j = refl

    pub fits_last : 20 < row.kind → FitsStatement bytes t f s true
    fits_last h = by-kind (past 21 (row.kind - 21)) (omega arith) (last_kinds (row.kind - 21))

    unjudged : (j : ℕ) → j ≤ 12 → (j ≡ 4 → ⊥) → false ≡ fits_statement T (statement_of (past 8 j) o)
    unfolding statement_of fits_statement
    unjudged zero l h = refl
    unjudged (suc zero) l h = refl
    unjudged (suc (suc zero)) l h = refl
    unjudged (suc (suc (suc zero))) l h = refl
    unjudged (suc (suc (suc (suc zero)))) l h = absurd (h refl)
    unjudged (suc (suc (suc (suc (suc zero))))) l h = refl
    unjudged (suc (suc (suc (suc (suc (suc zero)))))) l h = refl
    unjudged (suc (suc (suc (suc (suc (suc (suc zero))))))) l h = refl
    unjudged (suc (suc (suc (suc (suc (suc (suc (suc zero)))))))) l h = refl
    unjudged (suc (suc (suc (suc (suc (suc (suc (suc (suc zero))))))))) l h = refl
    unjudged (suc (suc (suc (suc (suc (suc (suc (suc (suc (suc zero)))))))))) l h = refl
    unjudged (suc (suc (suc (suc (suc (suc (suc (suc (suc (suc (suc zero))))))))))) l h = refl
    unjudged (suc (suc (suc (suc (suc (suc (suc (suc (suc (suc (suc (suc zero)))))))))))) l h = refl
    unjudged (suc (suc (suc (suc (suc (suc (suc (suc (suc (suc (suc (suc (suc j))))))))))))) l h = absurd (omega arith)

    pub fits_unjudged : 7 < row.kind → row.kind ≤ 20 → (row.kind ≡ 12 → ⊥) → FitsStatement bytes t f s false
    fits_unjudged h l m = by-kind (past 8 (row.kind - 8)) (omega arith) (unjudged (row.kind - 8) (omega arith) (λ q. m (omega arith)))

    module _ {x : ℕ} (at : x ≡ o 0) where
      pub store_low : {y : ℕ} → row.kind ≡ 12 → y ≡ o 1 → (x < n given) × (y < n given)
      unfolding statement_of
      store_low h z = let u = uses 12 h in (rw at u.0, rw z u.1)

      pub fits_value : {v : Bool} → (row.kind ≡ 2) ⊎ (row.kind ≡ 3) → v ≡ is_value T x → FitsStatement bytes t f s v
      unfolding statement_of fits_statement
      fits_value (inl h) q = by-kind 2 h (q ∙ ap (is_value T) at)
      fits_value (inr h) q = by-kind 3 h (q ∙ ap (is_value T) at)

    pub return_low : {v : Option ℕ} → row.kind ≡ 7 → v ≡ option_of (o 0) → MaybeBelow (n given) v
    unfolding statement_of
    return_low h q = rw q (uses 7 h)

    -- what goes on, or to the end of a block
    pub fits_going : (row.kind ≡ 0) ⊎ ((row.kind ≡ 1) ⊎ ((row.kind ≡ 5) ⊎ (row.kind ≡ 6))) → FitsStatement bytes t f s true
    unfolding statement_of fits_statement
    fits_going (inl h) = by-kind 0 h refl
    fits_going (inr (inl h)) = by-kind 1 h refl
    fits_going (inr (inr (inl h))) = by-kind 5 h refl
    fits_going (inr (inr (inr h))) = by-kind 6 h refl

-- What an expression's row says by its kind: its operands are lower, what it names is there, and so the tables decide whether it fits.
use Prim.Native.Nat.{ℕ, zero, suc, ◌+◌, ◌<◌, ◌≤◌}
use native.Mathlib.Omega.{arith}
use mathlib.Core.Path.{◌≡◌, refl, sym, ap, subst, ◌∙◌}
use mathlib.Core.Logic.{◌⊎◌, inl, inr}
use mathlib.Core.Bool.{Bool, false, not, ◌&&◌}
use mathlib.Core.List.{List, [], ◌∷◌}
use lib.ListN.{length, get_or}
use borrow.Author.Tests.{ne_eqb}
use Rattle.module.specs.Module.{Typed, FunctionArg, Function, Opaque}
use Rattle.module.specs.Decode.{expression_of}
use Rattle.module.specs.Tables.{function_of, module_of}
use Rattle.access.specs.declared.kinded.Kinded.{Kinded}
use Rattle.access.specs.declared.whole.Bound.{Bound}
use Rattle.access.specs.Access.{operand_at, global_at, local_at, argument_at, arg_from}
use Rattle.access.proofs.Access.{typed_is, global_is, local_is, argument_is, expression-of}
use Rattle.valid.specs.Valid.{OperandsBelow, NamesBelow, ExpressionValid}
use Rattle.valid.proofs.Accepted.{valid}
use Rattle.context.specs.Types.{types_of}
use Rattle.clearance.specs.Scope.{Scope, inner, is_kind, is_pointer, alike as alike_in, no_expression, typed, type_of, inner_of, argument_type, is_path}
use Rattle.clearance.specs.Judged.{pointee_type, pointee, same, is_value, fits_variable, fits_expression}
use Rattle.judge.specs.Alike.{by_table}
use Rattle.judge.specs.Shapes.{Shapes, Pointee}
use Rattle.judge.specs.Given.{scope_at, Given, Row, Fits}
use Rattle.judge.proofs.PathSteps.{function_valid}
use Rattle.judge.proofs.TypeRows.{number}
use Rattle.judge.proofs.ShapeRows.{number_is, same-table}

-- a variable, by whether its type is a pointer's
module _ (types : List ℕ) (S : Scope) (p : S.program.types ≡ types_of types) (a b : ℕ) {k : ℕ} (e : k ≡ number (get_or (types_of types) a Opaque)) where
  abbrev said : Bool
  said = not (is_pointer (inner S a)) && same S (inner S a) (pointee_type S (inner S b))

  pub variable_pointer : k ≡ 4 → false ≡ said
  unfolding is_kind
  variable_pointer h = rw (← number_is types S p a e, h)

  pub variable_same : {alike : List ℕ} {c : ℕ} {r : Bool} → Shapes types alike → a < length (types_of types) → b < length (types_of types) → (k ≡ 4 → ⊥) → Pointee types b c → r ≡ by_table alike a c → r ≡ said
  unfolding is_kind
  variable_same {c = c} H l m h P q =
      rw (← number_is types S p a e, ne_eqb k 4 h, ← P.is S p) (same-table types S p a c H l (omega (arith, P.low)) q)

argument-type : (xs : List FunctionArg) (d : FunctionArg) (i : ℕ) → i < length xs → argument_type xs i ≡ (get_or xs i d).type
unfolding argument_type
argument-type [] d i l = absurd (omega arith)
argument-type (x ∷ xs) d zero l = refl
argument-type (x ∷ xs) d (suc i) l = argument-type xs d i (omega arith)

module _ {bytes t : List ℕ} {f : ℕ} {types alike : List ℕ} {paths : List Bool} (G : Given bytes t f types alike paths) where
  abbrev pub S : Scope
  S = scope_at bytes t f

  abbrev pub F : Function
  F = function_of bytes t f

  abbrev pub n : ℕ
  n = length F.expressions

  pub type_low : (x : ℕ) → x < n → type_of S x < length (types_of types)
  unfolding type_of typed
  type_low x l =
      rw (← G.values.same) ((function_valid bytes t f G.of.read G.of.there).parts.each_expression x no_expression l).type

  pub alike-types : (x y : ℕ) {a b : ℕ} {r : Bool} → x < n → y < n → a ≡ type_of S x → b ≡ type_of S y → r ≡ by_table alike a b → r ≡ alike_in S (type_of S x) (type_of S y)
  alike-types x y l m h k q =
      q ∙ (rw (h, k) (G.shapes.table.is S G.values.same (type_of S x) (type_of S y) (type_low x l) (type_low y m)))

  pub alike_of : (x y : ℕ) → x < n → y < n → by_table alike (type_of S x) (type_of S y) ≡ alike_in S (type_of S x) (type_of S y)
  alike_of x y l m = alike-types x y l m refl refl refl

  -- a path and what it leads to
  pub leads : (p v : ℕ) {a b c : ℕ} {w s r : Bool} → p < n → v < n → a ≡ type_of S p → Pointee types a c → w ≡ is_path S p → b ≡ type_of S v → s ≡ by_table alike c b → r ≡ w && s → r ≡ is_path S p && same S (pointee S p) (inner_of S v)
  unfolding pointee inner_of
  leads p v {a} {b} {c} l m h P w k s q =
      q ∙ rw (
        w,
        ← h,
        ← k,
        ← P.is S G.values.same,
        same-table types S G.values.same c b G.shapes (omega (arith, P.low, h, type_low p l)) (omega (arith, k, type_low v m)) s,
      )

module _ {bytes t : List ℕ} {f : ℕ} {types alike : List ℕ} {paths : List Bool} {e : ℕ} {row : Kinded} (R : Row bytes t f types alike paths e row) where
  abbrev pub G : Given bytes t f types alike paths
  G = R.given

  abbrev pub o : ℕ → ℕ
  o = operand_at bytes row

  abbrev valid_here : ExpressionValid (length (module_of bytes t).types) (length (module_of bytes t).globals) (length (F G).arguments) (length (F G).locals) e (get_or (F G).expressions e no_expression)
  valid_here = (function_valid bytes t f G.of.read G.of.there).parts.each_expression e no_expression R.there

  row_is : (k : ℕ) → row.kind ≡ k → (get_or (F G).expressions e no_expression).expression ≡ expression_of k o
  row_is k h = ap (λ (x : Typed). x.expression) (typed_is bytes t f e no_expression R.there) ∙ expression-of bytes t f e k row R.is h

  pub operands : (k : ℕ) → row.kind ≡ k → OperandsBelow e (expression_of k o)
  operands k h = subst (OperandsBelow e) (row_is k h) valid_here.operands

  names : (k : ℕ) → row.kind ≡ k → NamesBelow (length (module_of bytes t).globals) (length (F G).arguments) (length (F G).locals) (expression_of k o)
  names k h = subst (NamesBelow (length (module_of bytes t).globals) (length (F G).arguments) (length (F G).locals)) (row_is k h) valid_here.names

  pub by-kind : {r : Bool} (k : ℕ) → row.kind ≡ k → r ≡ fits_expression (S G) e (expression_of k o) → Fits bytes t f e r
  by-kind k h q = q ∙ ap (fits_expression (S G) e) (sym (expression-of bytes t f e k row R.is h))

  -- a unary operator or a conversion: what is compared by the table
  pub unary_fits : {r : Bool} → (row.kind ≡ 16) ⊎ (row.kind ≡ 22) → (by_table alike (type_of (S G) (o 0)) (type_of (S G) e) ≡ alike_in (S G) (type_of (S G) (o 0)) (type_of (S G) e) → r ≡ is_value (S G) e && (is_value (S G) (o 0) && alike_in (S G) (type_of (S G) (o 0)) (type_of (S G) e))) → Fits bytes t f e r
  unfolding expression_of fits_expression
  unary_fits (inl h) q = by-kind 16 h (q (alike_of G (o 0) e (omega (arith, R.there, operands 16 h)) R.there))
  unary_fits (inr h) q = by-kind 22 h (q (alike_of G (o 0) e (omega (arith, R.there, operands 22 h)) R.there))

  -- of a select both values, by the table, and of an operator the one
  pub select_likes : row.kind ≡ 18 → (by_table alike (type_of (S G) (o 1)) (type_of (S G) e) ≡ alike_in (S G) (type_of (S G) (o 1)) (type_of (S G) e)) × (by_table alike (type_of (S G) (o 2)) (type_of (S G) e) ≡ alike_in (S G) (type_of (S G) (o 2)) (type_of (S G) e))
  unfolding expression_of
  select_likes h =
      let below = operands 18 h in
      (alike_of G (o 1) e (omega (arith, R.there, below.1)) R.there, alike_of G (o 2) e (omega (arith, R.there, below.2)) R.there)

  -- what is named
  module _ {a : ℕ} (own : a ≡ type_of (S G) e) {x : ℕ} (at : x ≡ o 0) where
    own_low : a < length (types_of types)
    own_low = omega (arith, own, type_low G e R.there)

    module _ {g : ℕ} (h : row.kind ≡ 10) (q : g ≡ global_at bytes t x) where
      abbrev there_global : o 0 < length (module_of bytes t).globals
      there_global = unfold expression_of in names 10 h

      pub global_low : (g < length (types_of types)) × (a < length (types_of types))
      global_low =
          (rw (q, at, ← global_is bytes t (o 0) 0 there_global, ← G.values.same) ((valid bytes (module_of bytes t) G.of.read).globals (o 0) 0 there_global), own_low)

      pub fits_global : {r : Bool} → r ≡ not (is_pointer (inner (S G) g)) && same (S G) (inner (S G) g) (pointee_type (S G) (inner (S G) a)) → Fits bytes t f e r
      unfolding expression_of fits_expression fits_variable pointee inner_of
      fits_global p = by-kind 10 h (p ∙ rw (q, at, own, global_is bytes t (o 0) 0 there_global))

    module _ {g : ℕ} (h : row.kind ≡ 11) (q : g ≡ local_at bytes t f x) where
      abbrev there_local : o 0 < length (F G).locals
      there_local = unfold expression_of in names 11 h

      pub local_low : (g < length (types_of types)) × (a < length (types_of types))
      local_low =
          (rw (q, at, ← local_is bytes t f (o 0) 0 there_local, ← G.values.same) ((function_valid bytes t f G.of.read G.of.there).parts.each_local (o 0) 0 there_local), own_low)

      pub fits_local : {r : Bool} → r ≡ not (is_pointer (inner (S G) g)) && same (S G) (inner (S G) g) (pointee_type (S G) (inner (S G) a)) → Fits bytes t f e r
      unfolding expression_of fits_expression fits_variable pointee inner_of
      fits_local p = by-kind 11 h (p ∙ rw (q, at, own, local_is bytes t f (o 0) 0 there_local))

    pub fits_argument : (b : Bound) {r : Bool} → row.kind ≡ 9 → arg_from b ≡ argument_at bytes t f x → r ≡ is_value (S G) e && by_table alike b.ty.0 a → Fits bytes t f e r
    unfolding expression_of fits_expression
    fits_argument b h p q =
        let there : o 0 < length (F G).arguments = names 9 h in
        let d = arg_from b in
        let is : get_or (F G).arguments (o 0) d ≡ d = argument_is bytes t f (o 0) d there ∙ sym (p ∙ ap (argument_at bytes t f) at) in
        let ty : argument_type (F G).arguments (o 0) ≡ b.ty.0 = argument-type (F G).arguments d (o 0) there ∙ ap (λ (y : FunctionArg). y.type) is in
        let low : b.ty.0 < length (types_of types) =
        rw (← ap (λ (y : FunctionArg). y.type) is, ← G.values.same) ((function_valid bytes t f G.of.read G.of.there).parts.each_argument (o 0) d there).0 in
        by-kind 9 h (q ∙ rw (G.shapes.table.is (S G) G.values.same b.ty.0 a low own_low, ty, own))

    pub load_low : row.kind ≡ 12 → (x < n G) × (e < n G)
    unfolding expression_of
    load_low h = (omega (arith, at, operands 12 h, R.there), R.there)

    pub fits_load : {r : Bool} → row.kind ≡ 12 → r ≡ is_value (S G) e && (is_path (S G) x && same (S G) (pointee (S G) x) (inner_of (S G) e)) → Fits bytes t f e r
    unfolding expression_of fits_expression
    fits_load h q = by-kind 12 h (q ∙ rw at)

-- the last kind of a group
pub step : {k : ℕ} (n : ℕ) → n ≤ k → (k ≡ n → ⊥) → n + 1 ≤ k
step n l h = omega arith

pub between : {k : ℕ} (n : ℕ) → n ≤ k → k ≤ n → k ≡ n
between n l m = omega arith

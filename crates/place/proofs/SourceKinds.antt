-- The source of an expression's value, and whether an emit gives one, kind by kind.
use Prim.Native.Nat.{ℕ, ◌+◌, ◌<◌, ◌≤◌}
use native.Mathlib.Omega.{arith}
use mathlib.Core.Path.{◌≡◌, refl, sym, ap, ◌∙◌}
use mathlib.Core.Logic.{◌⊎◌, inl, inr}
use mathlib.Core.Bool.{Bool, true, false, cond, not, ◌&&◌}
use mathlib.Core.List.{List}
use lib.Dec.{ltb, eqb}
use lib.ListN.{length, get_or-eq_default}
use borrow.Author.Tests.{lt-ltb, le-ltb, ne_eqb}
use Rattle.module.specs.Module.{Typed}
use Rattle.module.specs.Decode.{tab, expression_of}
use Rattle.module.specs.Tables.{function_of}
use Rattle.module.proofs.Each.{past, each}
use Rattle.access.specs.declared.kinded.Kinded.{Kinded}
use Rattle.access.specs.Access.{operand_at, expression_row}
use Rattle.access.proofs.Access.{typed_is, expression-of}
use Rattle.clearance.specs.Scope.{Scope, no_expression, typed, inner_of, is_vector, any_vector, is_path, Arm, pointing, access_index, access, compose, joined, arm_of, arm}
use Rattle.clearance.specs.Scope.{Source, given, from, slot, argument, evaluated, source_of, source}
use Rattle.clearance.specs.Needs.{gives}
use Rattle.judge.specs.Given.{scope_at}
use Rattle.place.specs.Sources.{gives_kind}

module _ (S : Scope) (e : ℕ) (o : ℕ → ℕ) where
  abbrev by_kind : ℕ → Arm
  by_kind k = arm_of S e (expression_of k o)

  abbrev components : List ℕ
  components = tab (o 0) (λ i. o (1 + i))

  -- where both arms are said alike
  either : {s : Source} (b : Bool) (x y : Arm) → source_of e x ≡ s → source_of e y ≡ s → source_of e (cond b x y) ≡ s
  either true x y p q = p
  either false x y p q = q

  gives-either : {s : Bool} (b : Bool) (x y : Arm) → gives x ≡ s → gives y ≡ s → gives (cond b x y) ≡ s
  gives-either true x y p q = p
  gives-either false x y p q = q

  -- literals, zero values and constants
  abbrev fixed : ℕ → Bool
  fixed k = cond (ltb k 2) true (cond (eqb k 5) true (ltb 31 k))

  abbrev said : ℕ → Source
  said k = cond (fixed k) given (from (slot (evaluated e)))

  said-last : (k : ℕ) → given ≡ said (past 32 k)
  said-last k = rw (le-ltb (past 32 k) 2 (omega arith), ne_eqb (past 32 k) 5 (omega arith), lt-ltb 31 (past 32 k) (omega arith))

  gives_last : (k : ℕ) → false ≡ gives_kind (past 32 k)
  gives_last k =
      rw (
        le-ltb (past 32 k) 9 (omega arith),
        ne_eqb (past 32 k) 12 (omega arith),
        le-ltb (past 32 k) 16 (omega arith),
        ne_eqb (past 32 k) 19 (omega arith),
        le-ltb (past 32 k) 23 (omega arith),
      )

  sources : (k : ℕ) → (k ≡ 9 → ⊥) → source_of e (by_kind k) ≡ said k
  unfolding expression_of arm_of source_of
  sources =
      each (λ k. (k ≡ 9 → ⊥) → source_of e (by_kind k) ≡ said k) 32
      (λ h. refl, (λ h. refl, (λ h. refl, (λ h. either (is_path S e) pointing (access_index (o 0) (o 1)) refl refl, (λ h. either (is_path S e) pointing (access (o 0) (o 1)) refl refl, (λ h. refl, (λ h. refl, (λ h. refl, (λ h. either (is_vector (inner_of S e) && any_vector S components) (joined components) (compose components) refl refl, (λ h. absurd (h refl), (λ h. refl, (λ h. refl, (λ h. refl, (λ h. refl, (λ h. refl, (λ h. refl, (λ h. refl, (λ h. refl, (λ h. refl, (λ h. refl, (λ h. refl, (λ h. refl, (λ h. refl, (λ h. refl, (λ h. refl, (λ h. refl, (λ h. refl, (λ h. refl, (λ h. refl, (λ h. refl, (λ h. refl, (λ h. refl, tt))))))))))))))))))))))))))))))))
      (λ k h. said-last k)

  gives-by : (k : ℕ) → (k ≡ 3 → ⊥) → (k ≡ 4 → ⊥) → gives (by_kind k) ≡ gives_kind k
  unfolding expression_of arm_of gives
  gives-by =
      each (λ k. (k ≡ 3 → ⊥) → (k ≡ 4 → ⊥) → gives (by_kind k) ≡ gives_kind k) 32
      (λ a b. refl, (λ a b. refl, (λ a b. refl, (λ a b. absurd (a refl), (λ a b. absurd (b refl), (λ a b. refl, (λ a b. refl, (λ a b. refl, (λ a b. gives-either (is_vector (inner_of S e) && any_vector S components) (joined components) (compose components) refl refl, (λ a b. refl, (λ a b. refl, (λ a b. refl, (λ a b. refl, (λ a b. refl, (λ a b. refl, (λ a b. refl, (λ a b. refl, (λ a b. refl, (λ a b. refl, (λ a b. refl, (λ a b. refl, (λ a b. refl, (λ a b. refl, (λ a b. refl, (λ a b. refl, (λ a b. refl, (λ a b. refl, (λ a b. refl, (λ a b. refl, (λ a b. refl, (λ a b. refl, (λ a b. refl, tt))))))))))))))))))))))))))))))))
      (λ k a b. gives_last k)

pointing-not : (b : Bool) (y : Arm) → gives y ≡ true → gives (cond b pointing y) ≡ not b
unfolding gives
pointing-not true y q = refl
pointing-not false y q = q

module _ (bytes t : List ℕ) (f e : ℕ) {n : ℕ} (count : n ≡ length (function_of bytes t f).expressions) where
  abbrev S : Scope
  S = scope_at bytes t f

  -- an expression that is not there
  arm-none : n ≤ e → arm S e ≡ arm_of S e no_expression.expression
  unfolding arm typed
  arm-none l =
      ap (λ (x : Typed). arm_of S e x.expression) (get_or-eq_default (function_of bytes t f).expressions no_expression {n = e} (omega arith))

  pub source-none : n ≤ e → given ≡ source S e
  unfolding source source_of arm_of
  source-none l = sym (ap (source_of e) (arm-none l))

  pub gives_none : n ≤ e → false ≡ gives (arm S e)
  unfolding gives arm_of
  gives_none l = sym (ap gives (arm-none l))

  module _ (there : e < n) {row : Kinded} (is : row ≡ expression_row bytes t f e) where
    abbrev o : ℕ → ℕ
    o = operand_at bytes row

    arm_is : (k : ℕ) → row.kind ≡ k → arm S e ≡ arm_of S e (expression_of k o)
    unfolding arm typed
    arm_is k h =
        ap (λ (x : Typed). arm_of S e x.expression) (typed_is bytes t f e no_expression (omega arith))
        ∙ ap (arm_of S e) (expression-of bytes t f e k row is h)

    pub source-argument : {a : ℕ} → a ≡ o 0 → row.kind ≡ 9 → from (slot (argument a)) ≡ source S e
    unfolding source source_of arm_of expression_of
    source-argument q h = rw q (sym (ap (source_of e) (arm_is 9 h)))

    source_is : (row.kind ≡ 9 → ⊥) → said S e o row.kind ≡ source S e
    unfolding source
    source_is other = sym (ap (source_of e) (arm_is row.kind refl) ∙ sources S e o row.kind other)

    pub source-fixed : (row.kind ≡ 0) ⊎ ((row.kind ≡ 1) ⊎ (row.kind ≡ 5)) → given ≡ source S e
    source-fixed (inl h) = rw h at source_is (λ q. omega arith)
    source-fixed (inr (inl h)) = rw h at source_is (λ q. omega arith)
    source-fixed (inr (inr h)) = rw h at source_is (λ q. omega arith)

    pub source-last : 31 < row.kind → given ≡ source S e
    source-last h =
        rw (le-ltb row.kind 2 (omega arith), ne_eqb row.kind 5 (omega arith), lt-ltb 31 row.kind h) at source_is (λ q. omega arith)

    pub source-evaluated : (row.kind ≡ 9 → ⊥) → 1 < row.kind → (row.kind ≡ 5 → ⊥) → row.kind ≤ 31 → from (slot (evaluated e)) ≡ source S e
    source-evaluated other a b c = rw (le-ltb row.kind 2 (omega arith), ne_eqb row.kind 5 b, le-ltb 31 row.kind c) at source_is other

    module _ {x : Bool} (path : x ≡ is_path S e) where
      -- an index, constant or dynamic
      pub gives-index : (row.kind ≡ 3) ⊎ (row.kind ≡ 4) → not x ≡ gives (arm S e)
      unfolding arm_of expression_of gives
      gives-index (inl h) = rw path (sym (ap gives (arm_is 3 h) ∙ pointing-not (is_path S e) (access_index (o 0) (o 1)) refl))
      gives-index (inr h) = rw path (sym (ap gives (arm_is 4 h) ∙ pointing-not (is_path S e) (access (o 0) (o 1)) refl))

    pub gives_other : {x : Bool} → x ≡ gives_kind row.kind → (row.kind ≡ 3 → ⊥) → (row.kind ≡ 4 → ⊥) → x ≡ gives (arm S e)
    gives_other q a b = q ∙ sym (ap gives (arm_is row.kind refl) ∙ gives-by S e o row.kind a b)

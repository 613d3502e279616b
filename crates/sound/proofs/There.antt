-- What a module has at each number: what is given for a function, an expression or a statement that is not there has and names nothing, and those of a valid
-- module are valid where they are there.
use mathlib.Core.Path.{◌≡◌, sym, ap, subst}
use Prim.Native.Nat.{ℕ, ◌<◌, ◌≤◌}
use native.Mathlib.Decide.{dec_lt}
use native.Mathlib.Omega.{arith}
use lib.ListN.{length, get_or-eq_default}
use Rattle.module.specs.Module.{ExpressionHandle, FunctionHandle, BlockHandle, BlockRange, Expression, Literal, Typed, Statement, Kill, Function, Module}
use Rattle.valid.specs.Valid.{OperandsBelow, NamesBelow, UsesBelow, FunctionValid, entries_below, Valid}
use Rattle.walk.specs.Resolve.{function_at, expression_at}
use Rattle.walk.specs.Marks.{statement_at, block_at}

module _ (m : Module) (f : FunctionHandle) where
  -- a function that has something is there
  function_has : (n : Function → ℕ) (i : ℕ) → (length m.functions ≤ f → n (function_at m f) ≡ 0) → i < n (function_at m f) → f < length m.functions
  function_has n i h l =
      elim (dec_lt f (length m.functions)) [
        | yes k ↦ k
        | no k ↦
            let nothing_there : n (function_at m f) ≡ 0 = h (omega arith) in
            absurd (omega arith)
      ]

  pub has_expressions : (e : ExpressionHandle) → e < length (function_at m f).expressions → f < length m.functions
  unfolding function_at
  has_expressions e =
      function_has (λ x. length x.expressions) e (λ k. ap (λ (x : Function). length x.expressions) (get_or-eq_default m.functions _ k))

  pub has_statements : (s : ℕ) → s < length (function_at m f).statements → f < length m.functions
  unfolding function_at
  has_statements s =
      function_has (λ x. length x.statements) s (λ k. ap (λ (x : Function). length x.statements) (get_or-eq_default m.functions _ k))

  pub has_blocks : (b : BlockHandle) → b < length (function_at m f).blocks → f < length m.functions
  unfolding function_at
  has_blocks b =
      function_has (λ x. length x.blocks) b (λ k. ap (λ (x : Function). length x.blocks) (get_or-eq_default m.functions _ k))

  -- a block that has a statement is there
  pub block_there : (b : BlockHandle) (k : ℕ) → k < (block_at m f b).count → b < length (function_at m f).blocks
  unfolding block_at
  block_there b k l =
      elim (dec_lt b (length (function_at m f).blocks)) [
        | yes h ↦ h
        | no h ↦
            let past : length (function_at m f).blocks ≤ b = omega arith in
            let none_there = get_or-eq_default (function_at m f).blocks (record { first = 0; count = 0 }) past in
            absurd (omega (arith, subst (λ (x : BlockRange). k < x.count) none_there l))
      ]

  -- where P holds of what is given where there is none, and of those that are there
  expression_all : (P : Expression → Type 0) (e : ExpressionHandle) → P Literal → (e < length (function_at m f).expressions → P (expression_at m f e)) → P (expression_at m f e)
  unfolding expression_at
  expression_all P e z h =
      elim (dec_lt e (length (function_at m f).expressions)) [
        | yes l ↦ h l
        | no l ↦
            let past : length (function_at m f).expressions ≤ e = omega arith in
            subst (λ (x : Typed). P x.expression) (sym (get_or-eq_default (function_at m f).expressions (record { type = 0; expression = Literal }) past)) z
      ]

  statement_all : (P : Statement → Type 0) (s : ℕ) → P Kill → (s < length (function_at m f).statements → P (statement_at m f s)) → P (statement_at m f s)
  unfolding statement_at
  statement_all P s z h =
      elim (dec_lt s (length (function_at m f).statements)) [
        | yes l ↦ h l
        | no l ↦
            let past : length (function_at m f).statements ≤ s = omega arith in
            subst P (sym (get_or-eq_default (function_at m f).statements Kill past)) z
      ]

module _ (m : Module) (v : Valid m) (f : FunctionHandle) where
  pub function_valid : f < length m.functions → FunctionValid (length m.types) (length m.globals) (entries_below f m.functions) (function_at m f)
  unfolding function_at
  function_valid l = v.functions f _ l

  pub operands_below : (e : ExpressionHandle) → OperandsBelow e (expression_at m f e)
  unfolding expression_at
  operands_below e =
      expression_all m f (OperandsBelow e) e tt (λ l. ((function_valid (has_expressions m f e l)).parts.each_expression e _ l).operands)

  pub names_below : (e : ExpressionHandle) → NamesBelow (length m.globals) (length (function_at m f).arguments) (length (function_at m f).locals) (expression_at m f e)
  unfolding expression_at
  names_below e =
      expression_all m f (NamesBelow (length m.globals) (length (function_at m f).arguments) (length (function_at m f).locals)) e tt
      (λ l. ((function_valid (has_expressions m f e l)).parts.each_expression e _ l).names)

  pub uses_below : (s : ℕ) → UsesBelow (length (function_at m f).expressions) (entries_below f m.functions) (statement_at m f s)
  unfolding statement_at
  uses_below s =
      statement_all m f (UsesBelow (length (function_at m f).expressions) (entries_below f m.functions)) s tt
      (λ l. ((function_valid (has_statements m f s l)).parts.each_statement s Kill l).uses)

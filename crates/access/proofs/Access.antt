-- What stands at a handle by the tables is what the module has there: its lists are given by number (`tab`), so that a number in
-- range gives its element; then what each accessor has read, put together.
use mathlib.Core.Path.{◌≡◌, sym, ap, ◌∙◌}
use mathlib.Core.List.{List}
use mathlib.Core.Option.{Option, some, none as nothing}
use Prim.Native.Nat.{ℕ, ◌+◌, ◌<◌}
use lib.ListN.{length, get_or}
use Rattle.field.specs.Limits.{absent}
use Rattle.module.specs.declared.tables.Row.{Row}
use Rattle.module.specs.Module.{Statement, Typed, BlockRange, FunctionArg, FunctionResult, Function}
use Rattle.module.specs.Access.{RangeIs}
use Rattle.module.specs.Record.{body_at}
use Rattle.module.specs.Decode.{option_of, expression_of, statement_of, result_of, arg_of, typed_of, st_of}
use Rattle.module.specs.Reading.{range_of, closed}
use Rattle.module.specs.Tables.{word, row_at, head_at, items_at, starts_of, locals_from, expressions_from, open_of, function_of, module_of}
use Rattle.module.proofs.Tab.{length-tab, get_d_tab}
use Rattle.access.specs.declared.kinded.Kinded.{Kinded}
use Rattle.std.specs.Prelude.{Option as Optional}
use Rattle.std.proofs.lemmas.Bool.{ne_eqb}
use borrow.Author.Tests.{eq-eqb}
use Rattle.access.specs.Access.{global_at, argument_at, local_at, typed_at, statement_at, range_at, operand_at, number_in, expression_row, statement_row}
use Rattle.access.proofs.Optional.{absent_of, given_of}

module _ (bytes t : List ℕ) where
  pub global_is : (g d : ℕ) → g < length (module_of bytes t).globals → get_or (module_of bytes t).globals g d ≡ global_at bytes t g
  unfolding module_of global_at
  global_is g d l = get_d_tab _ _ g d (rw length-tab at l)

  pub function_is : (f : ℕ) (d : Function) → f < length (module_of bytes t).functions → get_or (module_of bytes t).functions f d ≡ function_of bytes t f
  unfolding module_of
  function_is f d l = get_d_tab _ _ f d (rw length-tab at l)

  pub argument_is : (f i : ℕ) (d : FunctionArg) → i < length (function_of bytes t f).arguments → get_or (function_of bytes t f).arguments i d ≡ argument_at bytes t f i
  unfolding function_of closed open_of argument_at
  argument_is f i d l = get_d_tab _ _ i d (rw length-tab at l)

  pub local_is : (f i d : ℕ) → i < length (function_of bytes t f).locals → get_or (function_of bytes t f).locals i d ≡ local_at bytes t f i
  unfolding function_of closed open_of local_at
  local_is f i d l = get_d_tab _ _ i d (rw length-tab at l)

  pub typed_is : (f e : ℕ) (d : Typed) → e < length (function_of bytes t f).expressions → get_or (function_of bytes t f).expressions e d ≡ typed_at bytes t f e
  unfolding function_of closed open_of typed_at
  typed_is f e d l = get_d_tab _ _ e d (rw length-tab at l)

  pub statement_is : (f s : ℕ) (d : Statement) → s < length (function_of bytes t f).statements → get_or (function_of bytes t f).statements s d ≡ statement_at bytes t f s
  unfolding function_of closed open_of statement_at
  statement_is f s d l = get_d_tab _ _ s d (rw length-tab at l)

  pub range_is : (f b : ℕ) (d : BlockRange) → b < length (function_of bytes t f).blocks → get_or (function_of bytes t f).blocks b d ≡ range_at t f b
  unfolding function_of closed open_of range_at
  range_is f b d l =
      get_d_tab _ _ b d (rw length-tab at l)
      ∙ ap (λ (n : ℕ). range_of (starts_of t (row_at t f)) n b) (length-tab (row_at t f).statements _)

  -- In an arm of a kind the record's row gives the constructor: `expression_of` computes at a numeral.
  pub expression-of : (f e k : ℕ) (r : Kinded) → r ≡ expression_row bytes t f e → r.kind ≡ k → (typed_at bytes t f e).expression ≡ expression_of k (operand_at bytes r)
  unfolding typed_at typed_of expression_row
  expression-of f e k r q p = rw (← p, q)

  pub statement-of : (f s k : ℕ) (r : Kinded) → r ≡ statement_row bytes t f s → r.kind ≡ k → statement_at bytes t f s ≡ statement_of k (operand_at bytes r)
  unfolding statement_at st_of statement_row
  statement-of f s k r e q = rw (← q, e)

  -- the same of the module, whatever stands for what it does not have
  pub expression-at : (f e k : ℕ) (r : Kinded) (d : Function) (x : Typed) → f < length (module_of bytes t).functions → e < length (function_of bytes t f).expressions → r ≡ expression_row bytes t f e → r.kind ≡ k → (get_or (get_or (module_of bytes t).functions f d).expressions e x).expression ≡ expression_of k (operand_at bytes r)
  expression-at f e k r d x hf he hr hk =
      rw (function_is f d hf) (ap (λ (y : Typed). y.expression) (typed_is f e x he) ∙ expression-of f e k r hr hk)

  pub statement-at : (f s k : ℕ) (r : Kinded) (d : Function) (x : Statement) → f < length (module_of bytes t).functions → s < length (function_of bytes t f).statements → r ≡ statement_row bytes t f s → r.kind ≡ k → get_or (get_or (module_of bytes t).functions f d).statements s x ≡ statement_of k (operand_at bytes r)
  statement-at f s k r d x hf hs hr hk =
      rw (function_is f d hf) (statement_is f s x hs ∙ statement-of f s k r hr hk)

-- What the accessors read. First the counts, which no byte decides.
module _ (t : List ℕ) where
  pub types_are : (bytes : List ℕ) → word t head_at ≡ length (module_of bytes t).types
  unfolding module_of
  types_are bytes = sym (length-tab (word t head_at) _)

  pub globals_are : (bytes : List ℕ) → word t (head_at + 1) ≡ length (module_of bytes t).globals
  unfolding module_of
  globals_are bytes = sym (length-tab (word t (head_at + 1)) _)

  pub functions_are : (bytes : List ℕ) → word t (head_at + 2) ≡ length (module_of bytes t).functions
  unfolding module_of
  functions_are bytes = sym (length-tab (word t (head_at + 2)) _)

module _ (t : List ℕ) (f : ℕ) (r : Row) (h : r ≡ row_at t f) where
  pub arguments-are : (bytes : List ℕ) → r.arguments ≡ length (function_of bytes t f).arguments
  unfolding function_of closed open_of
  arguments-are bytes = ap (λ (x : Row). x.arguments) h ∙ sym (length-tab (row_at t f).arguments _)

  pub locals_are : (bytes : List ℕ) → r.locals ≡ length (function_of bytes t f).locals
  unfolding function_of closed open_of
  locals_are bytes = ap (λ (x : Row). x.locals) h ∙ sym (length-tab (row_at t f).locals _)

  pub expressions-are : (bytes : List ℕ) → r.expressions ≡ length (function_of bytes t f).expressions
  unfolding function_of closed open_of
  expressions-are bytes = ap (λ (x : Row). x.expressions) h ∙ sym (length-tab (row_at t f).expressions _)

  pub statements-are : (bytes : List ℕ) → r.statements ≡ length (function_of bytes t f).statements
  unfolding function_of closed open_of
  statements-are bytes = ap (λ (x : Row). x.statements) h ∙ sym (length-tab (row_at t f).statements _)

  pub blocks-are : (bytes : List ℕ) → r.blocks ≡ length (function_of bytes t f).blocks
  unfolding function_of closed open_of
  blocks-are bytes =
      ap (λ (x : Row). x.blocks) h
      ∙ sym (length-tab (length (starts_of t (row_at t f))) _ ∙ length-tab (row_at t f).blocks _)

  pub block_read : (b first count : ℕ) → RangeIs (range_of (starts_of t r) r.statements b) first count → ◌≡◌ {A = BlockRange} (record { first = first; count = count }) (range_at t f b)
  unfolding range_at
  block_read b first count is = rw (is.is_first, is.is_count, h)

  pub result_none : (bytes : List ℕ) (a : ℕ) → a ≡ get_or (body_at bytes r.offset) 1 0 → ◌≡◌ {A = Option ℕ} nothing (option_of a) → nothing ≡ (function_of bytes t f).result
  unfolding function_of closed open_of result_of
  result_none bytes a p e = let z : a ≡ absent = absent_of a e in rw (← h, ← p, eq-eqb a absent z)

  pub result_some : (bytes : List ℕ) (a b : ℕ) (o : Optional ℕ) {k : ℕ} → a ≡ get_or (body_at bytes r.offset) 1 0 → ◌≡◌ {A = Option ℕ} (some k) (option_of a) → b ≡ get_or (body_at bytes r.offset) 2 0 → number_in o ≡ option_of b → ◌≡◌ {A = Option FunctionResult} (some (record { type = k; binding = number_in o })) (function_of bytes t f).result
  unfolding function_of closed open_of result_of
  result_some bytes a b o p e q n =
      let z = given_of a e in
      rw (← h, ← p, ne_eqb a absent z.1, z.0, n, q)

  pub argument_read : (bytes : List ℕ) (i at a b : ℕ) (o : Optional ℕ) → at ≡ word t (items_at + (r.items + i)) → a ≡ get_or (body_at bytes at) 0 0 → b ≡ get_or (body_at bytes at) 1 0 → number_in o ≡ option_of b → ◌≡◌ {A = FunctionArg} (record { type = a; binding = number_in o }) (argument_at bytes t f i)
  unfolding argument_at arg_of
  argument_read bytes i at a b o p q s n = rw (n, q, s, p, h)

  pub local_read : (bytes : List ℕ) (l o a : ℕ) → o ≡ word t (items_at + (locals_from r + l)) → a ≡ get_or (body_at bytes o) 0 0 → a ≡ local_at bytes t f l
  unfolding local_at
  local_read bytes l o a p q = rw (q, p, h)

  pub expression_type_read : (bytes : List ℕ) (e o a : ℕ) → o ≡ word t (items_at + (expressions_from r + e)) → a ≡ get_or (body_at bytes o) 0 0 → a ≡ (typed_at bytes t f e).type
  unfolding typed_at typed_of
  expression_type_read bytes e o a p q = rw (q, p, h)

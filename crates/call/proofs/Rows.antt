-- The row of a call: the statement that it is, the expressions that it names are there, and the arguments are few.
use Prim.Native.Nat.{ℕ, ◌+◌, ◌<◌, ◌≤◌}
use native.Mathlib.Omega.{arith}
use mathlib.Core.Path.{◌≡◌, ap, subst, ◌∙◌}
use mathlib.Core.List.{List}
use lib.ListN.{length}
use Rattle.field.specs.Limits.{max_arguments}
use Rattle.module.specs.Module.{Module, Call, Kill}
use Rattle.module.specs.Decode.{option_of, statement_of}
use Rattle.module.specs.Tables.{module_of, row_at}
use Rattle.module.proofs.Tab.{length-tab, get_d_tab}
use Rattle.access.specs.Access.{operand_at, statement_row}
use Rattle.access.specs.declared.kinded.Kinded.{Kinded}
use Rattle.access.proofs.Access.{function_is}
use Rattle.valid.specs.Valid.{MaybeBelow, StatementValid, entries_below}
use Rattle.walk.specs.Resolve.{function_at}
use Rattle.walk.specs.Marks.{statement_at}
use Rattle.sound.proofs.Walks.{module_valid}
use Rattle.access.specs.Laid.{WasRead}
use Rattle.state.specs.declared.frame.Frame.{Frame}
use Rattle.statement.proofs.Uses.{in_function, row-statement}
use Rattle.call.specs.Calls.{arguments_of, Calling}

-- the statement s of f is a call, and has this row
pub record CallRow (bytes t : List ℕ) (f s : ℕ) (row : Kinded) : Type 0 where
  pub was_read : WasRead bytes t
  pub function : f < length (module_of bytes t).functions
  pub statement : s < (row_at t f).statements
  pub is : row ≡ statement_row bytes t f s
  pub kind : row.kind ≡ 14

pub call_row : {bytes t s rs : List ℕ} {fr : Frame} {row : Kinded} {sum : ℕ} → Calling bytes t s rs fr row sum → CallRow bytes t fr.function.0 fr.statement row
call_row a = record { was_read = a.ready.was_read; function = a.ready.function; statement = a.statement; is = a.is; kind = a.kind }

module _ {bytes t : List ℕ} {f s : ℕ} {row : Kinded} (R : CallRow bytes t f s row) where
  abbrev m : Module
  m = module_of bytes t

  abbrev expressions : ℕ
  expressions = length (function_at m f).expressions

  abbrev o : ℕ → ℕ
  o = operand_at bytes row

  pub call_is : statement_at m f s ≡ Call (o 0) (arguments_of bytes row (o 1)) (option_of (o (2 + o 1)))
  unfolding statement_of
  call_is = row-statement R.was_read R.function R.statement row R.is ∙ ap (λ (k : ℕ). statement_of k o) R.kind

  call_valid : StatementValid expressions (entries_below f m.functions) (Call (o 0) (arguments_of bytes row (o 1)) (option_of (o (2 + o 1))))
  unfolding statement_at function_at
  call_valid =
      subst (StatementValid expressions (entries_below f m.functions)) call_is
      (((module_valid bytes m R.was_read.module_is).functions f _ R.function).parts.each_statement s Kill
      (rw (function_is bytes t f _ R.function) (in_function R.was_read R.function R.statement)))

  pub few_arguments : o 1 ≤ max_arguments
  few_arguments = omega (arith, call_valid.arguments, length-tab (o 1) (λ i. o (2 + i)))

  pub argument_there : (i : ℕ) → i < o 1 → o (2 + i) < expressions
  argument_there i l =
      let h : i < length (arguments_of bytes row (o 1)) = omega (arith, length-tab (o 1) (λ j. o (2 + j))) in
      omega (arith, call_valid.uses.1 i h, get_d_tab (o 1) (λ j. o (2 + j)) i 0 l)

  pub result_there : MaybeBelow expressions (option_of (o (2 + o 1)))
  result_there = call_valid.uses.2

-- The answer of a block's walk, taken apart: what it leaves where it went, and the definition's refusal where it did not. A block begins from its base, whatever the current context is.
use Prim.Native.Nat.{ℕ, ◌<◌}
use native.Mathlib.Omega.{arith}
use mathlib.Core.Path.{◌≡◌, refl, sym, ap, ◌∙◌, subst}
use mathlib.Core.Bool.{Bool}
use mathlib.Core.List.{List}
use lib.ListN.{length}
use Rattle.std.specs.Prelude.{Result, Ok, Err}
use Rattle.field.specs.Refusal.{number}
use Rattle.module.specs.Module.{FunctionHandle, BlockHandle, Function}
use Rattle.module.specs.Tables.{max_items, row_at, module_of}
use Rattle.access.proofs.Access.{blocks-are}
use Rattle.context.specs.RequiredContext.{RequiredContext}
use Rattle.walk.specs.State.{State, Out, halt, with_context}
use Rattle.walk.specs.Resolve.{function_at}
use Rattle.walk.specs.Statement.{step_block}
use Rattle.walk.specs.Function.{add_function}
use Rattle.sound.proofs.Walks.{block_is}
use Rattle.sound.proofs.Blocks.{record_within}
use Rattle.marks.proofs.Placed.{at_function}
use Rattle.marks.specs.declared.places.MarkPlaces.{MarkPlaces}
use Rattle.marks.specs.declared.totals.MarkTotals.{MarkTotals}
use Rattle.state.specs.State.{place_of}
use Rattle.access.specs.Laid.{WasRead}
use Rattle.state.specs.declared.answer.Tally.{Tally}
use Rattle.state.specs.declared.answer.Halt.{Halt}
use Rattle.state.specs.declared.answer.Answer.{Answer}
use Rattle.block.specs.Blocks.{BlockEnded, BlockEnding, BlockEnds}
use Rattle.block.specs.Visiting.{block_in}
use Rattle.block.specs.Pairing.{add_pair}

module _ {bytes t types : List ℕ} {places : MarkPlaces} {s rs open_marks : List ℕ} {totals : MarkTotals} {f : FunctionHandle} {base at held own sum : ℕ} {total : Out Bool} {r : Result Answer Halt} {u us open_after : List ℕ} {totals-after : MarkTotals}
    (E : BlockEnds bytes t types places s rs open_marks totals f base at held own sum total r u us open_after totals-after) where
  pub block_went : {tally : Tally} {b : Bool} → r ≡ Ok (record { tally = tally; required = b })
      → BlockEnded bytes t types places s rs open_marks totals f base at held own sum total tally.visits tally.sum b u us open_after totals-after
  block_went e = subst (λ (x : Result Answer Halt). BlockEnding bytes t types places s rs open_marks totals f base at held own sum total x u us open_after totals-after) e E.by

  pub block_halt : {stop : Halt} → r ≡ Err stop → halt (number stop.refusal) (place_of stop.place) ≡ total
  block_halt e = subst (λ (x : Result Answer Halt). BlockEnding bytes t types places s rs open_marks totals f base at held own sum total x u us open_after totals-after) e E.by

module _ {bytes t : List ℕ} (w : WasRead bytes t) (f : FunctionHandle) where
  -- from any context
  pub block_anywhere : (b : BlockHandle) (held : ℕ) (base c : RequiredContext) (r : Bool) (st : State)
      → block_in bytes t f b held base r (with_context c st) ≡ block_in bytes t f b held base r st
  unfolding step_block
  block_anywhere b held base c r st =
      block_is bytes (module_of bytes t) w.module_is (add_function (module_of bytes t)) f b held base r (with_context c st)
      ∙ sym (block_is bytes (module_of bytes t) w.module_is (add_function (module_of bytes t)) f b held base r st)

  pub pair_anywhere : (first second : BlockHandle) (held : ℕ) (base c : RequiredContext) (r : Bool) (st : State)
      → add_pair (block_in bytes t f) first second held base r (with_context c st) ≡ add_pair (block_in bytes t f) first second held base r st
  unfolding add_pair
  pair_anywhere first second held base c r st = rw (block_anywhere first held base c r st)

  -- the blocks of f, by its row
  pub blocks-there : f < length (module_of bytes t).functions → (row_at t f).blocks ≡ length (function_at (module_of bytes t) f).blocks
  blocks-there l = blocks-are t f (row_at t f) refl bytes ∙ ap (λ (x : Function). length x.blocks) (sym (at_function bytes t w f l))

  pub block_low : (b : BlockHandle) → f < length (module_of bytes t).functions → b < (row_at t f).blocks → b < max_items
  block_low b l h = omega (arith, record_within bytes (module_of bytes t) w.module_is f b (omega (arith, blocks-there l)))

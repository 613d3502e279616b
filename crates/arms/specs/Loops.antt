-- A loop beside the walks of its blocks: the end of its first pass, the end of a turn, and what its turns ask.
use Rattle.std.specs.Prelude.{◌≡◌, true, false, List, ℕ, ◌+◌, ◌*◌, ◌<◌, ◌≤◌, length, Result, Ok, Err}
use Rattle.std.proofs.Math.Option.{Option}
use Rattle.field.specs.Limits.{max_pieces, max_turns}
use Rattle.field.specs.Refusal.{number}
use Rattle.part.specs.PartReq.{all}
use Rattle.part.specs.Store.{Room}
use Rattle.module.specs.Module.{Module, ExpressionHandle, BlockHandle}
use Rattle.module.specs.Tables.{row_at, module_of}
use Rattle.context.specs.RequiredContext.{RequiredContext, merge_context, contains_context, pieces}
use Rattle.valid.specs.Valid.{MaybeBelow}
use Rattle.walk.specs.State.{State, Place, Out, went, halt, Walk, ◌>>◌, with_context, limited_context}
use Rattle.walk.specs.StatementReq.{StatementReq}
use Rattle.walk.specs.Resolve.{function_at}
use Rattle.walk.specs.Statement.{holding, ask_optional, merged, turns}
use Rattle.walk.specs.Statement as walk
use Rattle.memory.specs.Layout.{stack_slot, most, room}
use Rattle.memory.specs.Memory.{read, counted, context_at, Memory, Tidied}
use Rattle.marks.specs.declared.places.MarkPlaces.{MarkPlaces}
use Rattle.marks.specs.declared.totals.MarkTotals.{MarkTotals}
use Rattle.state.specs.State.{place_of}
use Rattle.state.specs.Frame.{frame_of}
use Rattle.state.specs.declared.frame.Frame.{Frame}
use Rattle.state.specs.declared.answer.Halt.{Halt}
use Rattle.state.specs.declared.answer.Tally.{Tally}
use Rattle.block.specs.Standing.{state_in, Standing}
use Rattle.block.specs.Saved.{Lowered, Dropped, Joined}
use Rattle.block.specs.Blocks.{context_in, Deep, Beside}
use Rattle.block.specs.Visiting.{block_in}
use Rattle.block.specs.Pairing.{Branched}
use Rattle.arms.specs.declared.loops.Turn.{Turn}
use Rattle.arms.specs.declared.loops.Turn.TheVariants.{Over, Settled, Again}
use Rattle.block.specs.declared.world.World.{World}
use Rattle.block.specs.declared.workspace.Workspace.{Workspace}

-- The end of a first pass that is required. It leaves the join of both blocks' contexts, and answers the context that `break_if` was asked in.
unfoldable pub end_pass : Module → walk.Frame → Option ExpressionHandle → (before walked : RequiredContext) → Walk RequiredContext
end_pass m fr break_if before walked st =
    ask_optional m (holding (pieces walked + pieces st.context) fr) break_if all (with_context before st) >> λ asked.
    merged fr walked st.context asked >> λ joined. went joined asked.context

-- what it asks of the memory, for some types, places, marks and totals
pub record Passing (bytes t s rs : List ℕ) (fr : Frame) (break_if : Option ExpressionHandle) (sum visits : ℕ) : Type 0 where
  pub types : List ℕ
  pub places : MarkPlaces
  pub open_marks : List ℕ
  pub totals : MarkTotals
  pub branched : Branched bytes t types places s rs open_marks totals fr sum visits
  pub there : MaybeBelow (length (function_at (module_of bytes t) fr.function.0).expressions) break_if

-- `break_if` was asked as `total` says: the contexts of both blocks are as they were
pub record BreakEnded (bytes t types : List ℕ) (places : MarkPlaces) (s rs open_marks : List ℕ) (totals : MarkTotals) (fr : Frame) (total : Out (Unit {0})) (visits sum : ℕ) (u us : List ℕ) : Type 0 where
  pub is : went (state_in bytes t u us open_marks totals fr.function.0 fr.at visits) tt ≡ total
  pub branched : Branched bytes t types places u us open_marks totals fr sum visits
  pub first : context_at (read u us) (fr.at + 4) ≡ context_at (read s rs) (fr.at + 4)
  pub second : context_at (read u us) (fr.at + 4 + 4) ≡ context_at (read s rs) (fr.at + 4 + 4)
  pub beside : Beside bytes t fr.function.0 fr.at s rs open_marks u us open_marks

abbrev pub BreakEnding : (bytes t types : List ℕ) (places : MarkPlaces) (s rs open_marks : List ℕ) (totals : MarkTotals) → Frame → Out (Unit {0}) → Result Tally Halt → (u us : List ℕ) → Type 0
BreakEnding bytes t types places s rs open_marks totals fr total (Ok tally) u us =
    BreakEnded bytes t types places s rs open_marks totals fr total tally.visits tally.sum u us
BreakEnding bytes t types places s rs open_marks totals fr total (Err h) u us = halt (number h.refusal) (place_of h.place) ≡ total

pub record BreakEnds (bytes t s rs : List ℕ) (fr : Frame) (break_if : Option ExpressionHandle) (sum visits : ℕ) (r : Result Tally Halt) (u us : List ℕ) : Type 0 where
  pub by : (types : List ℕ) (places : MarkPlaces) (open_marks : List ℕ) (totals : MarkTotals) → Branched bytes t types places s rs open_marks totals fr sum visits
      → BreakEnding bytes t types places s rs open_marks totals fr
      (ask_optional (module_of bytes t) (holding (context_in s rs (fr.at + 4) + context_in s rs (fr.at + 4 + 4)) (frame_of s rs fr)) break_if all
      (state_in bytes t s rs open_marks totals fr.function.0 fr.at visits))
      r u us

-- the first pass ended as `total` says: the working context stands above the statement's
pub record PassEnded (bytes t types : List ℕ) (places : MarkPlaces) (s rs open_marks : List ℕ) (totals : MarkTotals) (fr : Frame) (total : Out RequiredContext) (visits sum : ℕ) (u us : List ℕ) : Type 0 where
  pub is : went (state_in bytes t u us open_marks totals fr.function.0 (fr.at + 4) visits) (context_at (read u us) fr.at) ≡ total
  pub standing : Standing bytes t types places u us open_marks totals fr.function.0 (fr.at + 4) (fr.held + context_in u us fr.at) sum visits
  pub working_few : context_in u us (fr.at + 4) ≤ 2 * max_pieces
  pub few : fr.held + (context_in u us fr.at + sum) ≤ max_pieces
  pub roomy : Room u room
  pub beside : Beside bytes t fr.function.0 fr.at s rs open_marks u us open_marks

abbrev pub PassEnding : (bytes t types : List ℕ) (places : MarkPlaces) (s rs open_marks : List ℕ) (totals : MarkTotals) → Frame → Out RequiredContext → Result Tally Halt → (u us : List ℕ) → Type 0
PassEnding bytes t types places s rs open_marks totals fr total (Ok tally) u us =
    PassEnded bytes t types places s rs open_marks totals fr total tally.visits tally.sum u us
PassEnding bytes t types places s rs open_marks totals fr total (Err h) u us = halt (number h.refusal) (place_of h.place) ≡ total

pub record PassEnds (bytes t s rs : List ℕ) (fr : Frame) (break_if : Option ExpressionHandle) (sum visits : ℕ) (r : Result Tally Halt) (u us : List ℕ) : Type 0 where
  pub by : (types : List ℕ) (places : MarkPlaces) (open_marks : List ℕ) (totals : MarkTotals) → Branched bytes t types places s rs open_marks totals fr sum visits
      → PassEnding bytes t types places s rs open_marks totals fr
      (end_pass (module_of bytes t) (frame_of s rs fr) break_if (context_at (read s rs) fr.at) (context_at (read s rs) (fr.at + 4))
      (state_in bytes t s rs open_marks totals fr.function.0 (fr.at + 4 + 4) visits))
      r u us

-- What the turns ask: the statement's context at `at`, the working one above it. A statement of the block b holds body and continuing.
pub record Turning (bytes t types : List ℕ) (places : MarkPlaces) (s rs open_marks : List ℕ) (totals : MarkTotals) (fr : Frame) (b body continuing : BlockHandle) (sum visits : ℕ) : Type 0 where
  pub standing : Standing bytes t types places s rs open_marks totals fr.function.0 (fr.at + 4) (fr.held + context_in s rs fr.at) sum visits
  pub low : stack_slot ≤ fr.at
  pub block : b < (row_at t fr.function.0).blocks
  pub body_lower : body < b
  pub continuing_lower : continuing < b
  pub working_few : context_in s rs (fr.at + 4) ≤ 2 * max_pieces
  pub few : fr.held + (context_in s rs fr.at + sum) ≤ max_pieces
  pub body_deep : Deep bytes t rs fr.function.0 body (fr.at + 8)
  pub continuing_deep : Deep bytes t rs fr.function.0 continuing (fr.at + 12)
  pub roomy : Room s room

abbrev pub TurningOf : World → Workspace → Frame → BlockHandle → BlockHandle → BlockHandle → ℕ → ℕ → Type 0
TurningOf w m fr b body continuing sum visits = Turning w.typed.now.file.now.bytes w.typed.now.file.now.t w.typed.now.types.now w.places.now m.parts.cells m.parts.slots m.open m.totals fr b body continuing sum visits

-- the turns from the memory s rs on, at most n, where the state is st
abbrev pub turns_in : (bytes t s rs : List ℕ) → Frame → (body continuing : BlockHandle) → (n : ℕ) → Walk StatementReq
turns_in bytes t s rs fr body continuing n =
    turns (block_in bytes t fr.function.0) (frame_of s rs fr) (fr.held + context_in s rs fr.at + context_in s rs (fr.at + 4)) body continuing (context_at (read s rs) (fr.at + 4)) n

-- Turns that began in s rs have come to u us, where at most n are left, and these give the whole. Both contexts are as they were.
pub record TurnsLeft (bytes t types : List ℕ) (places : MarkPlaces) (s rs open_marks : List ℕ) (totals : MarkTotals) (fr : Frame) (b body continuing : BlockHandle) (begun n visits sum : ℕ) (u us open_after : List ℕ) (totals-after : MarkTotals) : Type 0 where
  pub turning : Turning bytes t types places u us open_after totals-after fr b body continuing sum visits
  pub beside : Beside bytes t fr.function.0 (fr.at + 4 + 4) s rs open_marks u us open_after
  pub rest : turns_in bytes t s rs fr body continuing n (state_in bytes t u us open_after totals-after fr.function.0 (fr.at + 4) visits)
      ≡ turns_in bytes t s rs fr body continuing max_turns (state_in bytes t s rs open_marks totals fr.function.0 (fr.at + 4) begun)

-- what the end of a turn asks: its two contexts stand above the working one
pub record TurnWalked (s rs : List ℕ) (at : ℕ) : Type 0 where
  pub memory : Memory s rs
  pub low : stack_slot ≤ at
  pub high : at + 16 ≤ length rs
  pub roomy : Room s (context_in s rs (at + 4 + 4) + context_in s rs (at + 4 + 4 + 4))
  pub few : counted (read s rs) ≤ most + (context_in s rs (at + 4 + 4) + context_in s rs (at + 4 + 4 + 4))

-- the working context contains their join, and takes the place of the statement's
pub record TurnSettled (s rs : List ℕ) (at : ℕ) (u us : List ℕ) : Type 0 where
  pub between : List ℕ
  pub alone : List ℕ
  pub joined : Joined s rs (at + 4 + 4) false u between
  pub contains : true ≡ contains_context (context_at (read u between) (at + 4)) (context_at (read u between) (at + 4 + 4))
  pub dropped : Dropped between (at + 4) alone
  pub lowered : Lowered alone at us

-- it does not, and the join is forgotten
pub record TurnAgain (s rs : List ℕ) (at : ℕ) (u us : List ℕ) : Type 0 where
  pub store : List ℕ
  pub between : List ℕ
  pub alone : List ℕ
  pub joined : Joined s rs (at + 4 + 4) false store between
  pub contains : false ≡ contains_context (context_at (read store between) (at + 4)) (context_at (read store between) (at + 4 + 4))
  pub dropped : Dropped between (at + 4) alone
  pub tidied : Tidied store alone u us

-- the join of the turn's two contexts
abbrev pub turn_joint : (s rs : List ℕ) (at : ℕ) → RequiredContext
turn_joint s rs at = merge_context (context_at (read s rs) (at + 4 + 4)) (context_at (read s rs) (at + 4 + 4 + 4))

-- the answer as the walk has it: 15, or it goes on
abbrev pub turn_out : Turn → Place → State → Out (Unit {0})
turn_out Over here st = halt 15 here
turn_out Settled here st = went st tt
turn_out Again here st = went st tt

abbrev pub TurnEnding : (s rs : List ℕ) (at : ℕ) → Turn → (u us : List ℕ) → Type 0
TurnEnding s rs at Over u us = Unit {0}
TurnEnding s rs at Settled u us = TurnSettled s rs at u us
TurnEnding s rs at Again u us = TurnAgain s rs at u us

pub record TurnEnds (s rs : List ℕ) (at : ℕ) (r : Turn) (u us : List ℕ) : Type 0 where
  pub is : (here : Place) (st : State) → turn_out r here st ≡ limited_context here (turn_joint s rs at) st
  pub by : TurnEnding s rs at r u us

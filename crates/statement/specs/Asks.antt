-- Asks of a statement, one after the other: what each finds, and what the walk so far has come to.
use Rattle.std.specs.Prelude.{◌≡◌, Bool, List, ℕ, get_or, Result, Ok, Err}
use Rattle.std.proofs.Math.Option.{Option, some, none as nothing}
use Rattle.field.specs.Refusal.{number}
use Rattle.part.specs.PartReq.{PartReq}
use Rattle.part.specs.Store.{part}
use Rattle.module.specs.Module.{Module, FunctionHandle, ExpressionHandle}
use Rattle.walk.specs.State.{Out, went, halt, Walk, ◌>>◌, total_pieces}
use Rattle.walk.specs.Expression.{add_expression}
use Rattle.memory.specs.Memory.{read, Memory}
use Rattle.state.specs.State.{Rest, state_of, totals_sum, place_of}
use Rattle.state.specs.Ready.{Ready, Others}
use Rattle.state.specs.declared.frame.Frame.{Frame}
use Rattle.state.specs.declared.answer.Halt.{Halt}
use Rattle.state.specs.declared.answer.Tally.{Tally}
use Rattle.state.specs.declared.answer.Answer.{Answer}

-- where the walk so far went, the function is open
abbrev pub Opening : (bytes t s rs : List ℕ) → Frame → Result Tally Halt → Type 0
Opening bytes t s rs fr (Ok tally) = Ready bytes t s rs fr.function.0 fr.at fr.held tally.sum
Opening bytes t s rs fr (Err h) = Unit {0}

pub record Open (bytes t s rs : List ℕ) (fr : Frame) (r : Result Tally Halt) : Type 0 where
  pub by : Opening bytes t s rs fr r

-- the walk so far went as `total` says, from s rs to u us
pub record Gone (bytes t s rs : List ℕ) (fr : Frame) (rest : Rest) (total : Out (Unit {0})) (visits sum : ℕ) (u us : List ℕ) : Type 0 where
  pub is : went (state_of t fr.function.0 fr.at (read u us) rest visits) tt ≡ total
  pub ready : Ready bytes t u us fr.function.0 fr.at fr.held sum
  pub others : Others t fr.function.0 fr.at s rs u us

abbrev pub Going : (bytes t s rs : List ℕ) → Frame → Rest → Out (Unit {0}) → Result Tally Halt → (u us : List ℕ) → Type 0
Going bytes t s rs fr rest total (Ok tally) u us = Gone bytes t s rs fr rest total tally.visits tally.sum u us
Going bytes t s rs fr rest total (Err h) u us = halt (number h.refusal) (place_of h.place) ≡ total

pub record Goes (bytes t s rs : List ℕ) (fr : Frame) (rest : Rest) (total : Out (Unit {0})) (r : Result Tally Halt) (u us : List ℕ) : Type 0 where
  pub by : Going bytes t s rs fr rest total r u us

-- After `before`, which left s rs, comes `walk`, asked the part of the slot k: the walk that began in any z zs goes on with that.
pub record Asked (bytes t s rs : List ℕ) (fr : Frame) (before : Result Tally Halt) (walk : PartReq → Walk (Unit {0})) (k : ℕ) (r : Result Tally Halt) (u us : List ℕ) : Type 0 where
  pub opens : Open bytes t u us fr r
  pub by : (z zs : List ℕ) (rest : Rest) (total : Out (Unit {0})) → Memory z zs → total_pieces rest.functions ≡ totals_sum (read z zs)
      → Goes bytes t z zs fr rest total before s rs → Goes bytes t z zs fr rest (total >> walk (part z (get_or zs k 0))) r u us

-- an expression that may be absent
unfoldable pub maybe_ask : Module → FunctionHandle → (held : ℕ) → Option ExpressionHandle → PartReq → Walk (Unit {0})
maybe_ask m f held nothing p st = went st tt
maybe_ask m f held (some e) p st = add_expression m f held e p st

-- the walk, with the answer b where it went
abbrev pub answer_of : Result Tally Halt → Bool → Result Answer Halt
answer_of (Ok tally) b = Ok (record { tally = tally; required = b })
answer_of (Err h) b = Err h

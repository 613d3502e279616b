-- A function's body with its blocks in place of their numbers, and with its marks.
use Rattle.std.specs.Prelude.{ℕ, zero, suc, ◌+◌, ◌-◌, Bool, true, false, List, [], ◌∷◌, map, eqb, length, get_or}
use Rattle.std.proofs.Math.Option.{Option}
use Rattle.module.specs.Module.{ExpressionHandle, BlockHandle, Statement, SwitchCase, BlockRange, Function}
use Rattle.module.specs.Module.{Emit, Block, If, Switch, Loop, Break, Continue, Return, Kill, ControlBarrier, MemoryBarrier, ImageAtomic, Store}
use Rattle.module.specs.Module.{AtomicStatement, Call, ImageStore, RayQuery, WorkGroupUniformLoad, SubgroupBallot, SubgroupGather, SubgroupCollectiveOperation}
use Rattle.module.specs.Knot.{knot}
use Rattle.module.specs.Marks.{marks_before}

-- what gives a value: one expression of an emit, or a store
pub data Act : Type 0 where
  emit : ExpressionHandle → Act
  store : (pointer value : ExpressionHandle) → Act

-- The statements of the judged kinds; n is the statement's number. A marked one stands as it is, an unmarked one under `unmarked`, with the
-- position of its mark among the function's marks: an emit has one for each expression.
pub data Tree : Type 0 where
  -- nothing, and one after the other
  nop : Tree
  seq : Tree → Tree → Tree
  act : Act → Tree
  branch : (condition : ExpressionHandle) → (accept reject : Tree) → Tree
  -- the cases by their order in the switch, with their values
  switch : (selector : ExpressionHandle) → (values : List ℕ) → (case : ℕ → Tree) → Tree
  loop : (n : ℕ) → (body continuing : Tree) → (break_if : Option ExpressionHandle) → Tree
  break : (n : ℕ) → Tree
  continue : (n : ℕ) → Tree
  return : (n : ℕ) → (value : Option ExpressionHandle) → Tree
  unmarked : (n mark : ℕ) → Tree → Tree

unfoldable pub marked : (n mark : ℕ) → Bool → Tree → Tree
marked n mark true a = a
marked n mark false a = unmarked n mark a

-- whether the mark at a position is set
unfoldable pub mark_at : List ℕ → ℕ → Bool
mark_at marks i = eqb (get_or marks i 0) 1

-- what has the mark i of the statement n
unfoldable pub by_mark : Function → List ℕ → ℕ → ℕ → Tree → Tree
by_mark f marks n i a = let mark = marks_before f.statements n + i in marked n mark (mark_at marks mark) a

-- the expressions of an emit, from the one that is i after the first on: k more of them
unfoldable pub emits : Function → List ℕ → ℕ → ExpressionHandle → ℕ → ℕ → Tree
emits f marks n first i zero = nop
emits f marks n first i (suc k) = seq (by_mark f marks n i (act (emit (first + i)))) (emits f marks n first (suc i) k)

unfoldable pub case_at : (BlockHandle → Tree) → List SwitchCase → ℕ → Tree
case_at block [] i = nop
case_at block (c ∷ cs) zero = block c.body
case_at block (c ∷ cs) (suc i) = case_at block cs i

-- the statement n, with `block` for its blocks; nothing in the place of a kind that is not judged
unfoldable pub statement : Function → List ℕ → (BlockHandle → Tree) → ℕ → Statement → Tree
statement f marks block n (Emit first last) = emits f marks n first 0 (suc last - first)
statement f marks block n (Block b) = block b
statement f marks block n (If condition accept reject) = by_mark f marks n 0 (branch condition (block accept) (block reject))
statement f marks block n (Switch selector cases) = by_mark f marks n 0 (switch selector (map (λ c. c.value) cases) (case_at block cases))
statement f marks block n (Loop body continuing break_if) = by_mark f marks n 0 (loop n (block body) (block continuing) break_if)
statement f marks block n Break = break n
statement f marks block n Continue = continue n
statement f marks block n (Return value) = return n value
statement f marks block n Kill = nop
statement f marks block n ControlBarrier = nop
statement f marks block n MemoryBarrier = nop
statement f marks block n ImageAtomic = nop
statement f marks block n (Store pointer value) = by_mark f marks n 0 (act (store pointer value))
statement f marks block n (AtomicStatement pointer value result) = nop
statement f marks block n (Call function arguments result) = nop
statement f marks block n (ImageStore image coordinate array_index value) = nop
statement f marks block n (RayQuery query) = nop
statement f marks block n (WorkGroupUniformLoad pointer result) = nop
statement f marks block n (SubgroupBallot result predicate) = nop
statement f marks block n (SubgroupGather mode argument result) = nop
statement f marks block n (SubgroupCollectiveOperation argument result) = nop

-- k statements from the statement n on
unfoldable pub statements_from : Function → List ℕ → (BlockHandle → Tree) → ℕ → ℕ → Tree
statements_from f marks block n zero = nop
statements_from f marks block n (suc k) =
    seq (statement f marks block n (get_or f.statements n Kill)) (statements_from f marks block (suc n) k)

abbrev pub no_block : BlockRange
no_block = record { first = 0; count = 0 }

unfoldable pub block_tree : Function → List ℕ → (BlockHandle → Tree) → BlockHandle → Tree
block_tree f marks block b =
    let r = get_or f.blocks b no_block in
    statements_from f marks block r.first r.count

-- the body: the last block
unfoldable pub body_tree : Function → List ℕ → Tree
body_tree f marks = knot (block_tree f marks) nop (length f.blocks - 1)

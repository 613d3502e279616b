-- The rule of unmarked statements by blocks, statements and a switch's cases, whatever the marks.
use Rattle.std.specs.Prelude.{ℕ, ◌+◌, ◌*◌, ◌≡◌, Bool, List, length, get_or}
use Rattle.part.specs.PartReq.{PartReq}
use Rattle.module.specs.Module.{BlockHandle, Function, Kill}
use Rattle.module.specs.Knot.{knot, below}
use Rattle.clearance.specs.Scope.{Scope}
use Rattle.clearance.specs.Tree.{Tree, nop, by_mark, statement, block_tree}
use Rattle.clearance.specs.Needs.{Exit, each, quiet, obeys}

abbrev pub tree_of : Function → (marks : List ℕ) → BlockHandle → Tree
tree_of f marks b = knot (block_tree f marks) nop b

-- the statement s of the block b, which holds lower blocks
abbrev pub statement_tree : Function → (marks : List ℕ) → BlockHandle → ℕ → Tree
statement_tree f marks b s = statement f marks (below (tree_of f marks) nop b) s (get_or f.statements s Kill)

abbrev pub quiet_block : Scope → PartReq → BlockHandle → (Exit → Bool) → (marks : List ℕ) → Bool
quiet_block S n b e marks = quiet S n (tree_of S.function marks b) e

abbrev pub quiet_statement : Scope → PartReq → BlockHandle → ℕ → (Exit → Bool) → (marks : List ℕ) → Bool
quiet_statement S n b s e marks = quiet S n (statement_tree S.function marks b s) e

-- the first k cases of a switch, by its operands
abbrev pub quiet_cases : Scope → PartReq → (ℕ → ℕ) → ℕ → (Exit → Bool) → (marks : List ℕ) → Bool
quiet_cases S n o k e marks = each k (λ i. quiet_block S n (o (3 + 2 * i)) e marks)

-- r says it, whatever the marks; a lent path is as long as it was
pub record Says (q : List ℕ → Bool) (before after : List ℕ) (r : Bool) : Type 0 where
  pub is : (marks : List ℕ) → r ≡ q marks
  pub long : length after ≡ length before

-- r says whether what has the mark of the statement s of the block b obeys its rule
pub record Obeys (S : Scope) (n : PartReq) (b : BlockHandle) (s : ℕ) (before after : List ℕ) (r : Bool) : Type 0 where
  pub is : (marks : List ℕ) (a : Tree) → statement_tree S.function marks b s ≡ by_mark S.function marks s 0 a → r ≡ obeys S n a
  pub long : length after ≡ length before

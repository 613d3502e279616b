-- A mark that is missing, by its position, is one that is not set: so marks that are grown by the missing ones grow by marks that were not there.
use Prim.Native.Nat.{ℕ, zero, suc}
use mathlib.Core.Path.{◌≡◌, refl}
use mathlib.Core.Bool.{Bool, true, false}
use mathlib.Core.List.{List, [], ◌∷◌}
use lib.Dec.{eqb}
use Rattle.part.specs.PartReq.{PartReq}
use Rattle.module.specs.Module.{ExpressionHandle, BlockHandle, Statement, SwitchCase, Function}
use Rattle.module.specs.Module.{Emit, Block, If, Switch, Loop, Break, Continue, Return, Kill, ControlBarrier, MemoryBarrier, ImageAtomic, Store}
use Rattle.module.specs.Module.{AtomicStatement, Call, ImageStore, RayQuery, WorkGroupUniformLoad, SubgroupBallot, SubgroupGather, SubgroupCollectiveOperation}
use Rattle.module.specs.Knot.{tie, knot}
use Rattle.clearance.specs.Scope.{Scope}
use Rattle.clearance.specs.Tree.{Tree, nop, seq, act, branch, switch, loop, break, continue, return, unmarked, marked, mark_at, by_mark, emits, case_at, statement, statements_from, block_tree, body_tree}
use Rattle.clearance.specs.Needs.{Exit, by_position, Setting, Table, reentry}
use Rattle.clearance.specs.Rules.{Breaks, breaks_first, breaks_second, breaks_accept, breaks_reject, breaks_case, breaks_body, breaks_continuing, breaks_itself, breaks_inside, Member}
use Rattle.clearance.specs.Verdict.{Request, Report, ending, setting, body, missing_marks}
use Rattle.clearance.proofs.Faults.{missing-exactly}

module _ (marks : List ℕ) where
  -- the marks of all unmarked statements and expressions are not set
  abbrev Unset : Tree → Type 0
  Unset nop = Unit {0}
  Unset (seq a b) = Unset a × Unset b
  Unset (act x) = Unit {0}
  Unset (branch c a b) = Unset a × Unset b
  Unset (switch c vs f) = (i : ℕ) → Unset (f i)
  Unset (loop n a b c) = Unset a × Unset b
  Unset (break n) = Unit {0}
  Unset (continue n) = Unit {0}
  Unset (return n v) = Unit {0}
  Unset (unmarked n mark a) = (mark_at marks mark ≡ false) × Unset a

  module _ (f : Function) where
    marked-unset : (n mark : ℕ) (b : Bool) (a : Tree) → mark_at marks mark ≡ b → Unset a → Unset (marked n mark b a)
    unfolding marked
    marked-unset n mark true a e h = h
    marked-unset n mark false a e h = (e, h)

    by_unset : (n i : ℕ) (a : Tree) → Unset a → Unset (by_mark f marks n i a)
    unfolding by_mark
    by_unset n i a h = marked-unset n _ _ a refl h

    emits-unset : (n : ℕ) (first : ExpressionHandle) (i k : ℕ) → Unset (emits f marks n first i k)
    unfolding emits
    emits-unset n first i zero = tt
    emits-unset n first i (suc k) = (by_unset n i _ tt, emits-unset n first (suc i) k)

    case_unset : (block : BlockHandle → Tree) → ((b : BlockHandle) → Unset (block b)) → (cs : List SwitchCase) (i : ℕ) → Unset (case_at block cs i)
    unfolding case_at
    case_unset block h [] i = tt
    case_unset block h (c ∷ cs) zero = h _
    case_unset block h (c ∷ cs) (suc i) = case_unset block h cs i

    module _ (block : BlockHandle → Tree) (h : (b : BlockHandle) → Unset (block b)) where
      statement-unset : (n : ℕ) (x : Statement) → Unset (statement f marks block n x)
      unfolding statement
      statement-unset n (Emit first last) = emits-unset n first 0 _
      statement-unset n (Block b) = h b
      statement-unset n (If condition accept reject) = by_unset n 0 _ (h accept, h reject)
      statement-unset n (Switch selector cases) = by_unset n 0 _ (λ i. case_unset block h cases i)
      statement-unset n (Loop b continuing break_if) = by_unset n 0 _ (h b, h continuing)
      statement-unset n Break = tt
      statement-unset n Continue = tt
      statement-unset n (Return value) = tt
      statement-unset n Kill = tt
      statement-unset n ControlBarrier = tt
      statement-unset n MemoryBarrier = tt
      statement-unset n ImageAtomic = tt
      statement-unset n (Store pointer value) = by_unset n 0 _ tt
      statement-unset n (AtomicStatement pointer value result) = tt
      statement-unset n (Call function arguments result) = tt
      statement-unset n (ImageStore image coordinate array_index value) = tt
      statement-unset n (RayQuery query) = tt
      statement-unset n (WorkGroupUniformLoad pointer result) = tt
      statement-unset n (SubgroupBallot result predicate) = tt
      statement-unset n (SubgroupGather mode argument result) = tt
      statement-unset n (SubgroupCollectiveOperation argument result) = tt

      from_unset : (n k : ℕ) → Unset (statements_from f marks block n k)
      unfolding statements_from
      from_unset n zero = tt
      from_unset n (suc k) = (statement-unset n _, from_unset (suc n) k)

      block-unset : (b : BlockHandle) → Unset (block_tree f marks block b)
      unfolding block_tree
      block-unset b = from_unset _ _

    either_unset : (q : Bool) (a b : Tree) → Unset a → Unset b → Unset (elim q [ true ↦ a | false ↦ b ])
    either_unset true a b h g = h
    either_unset false a b h g = g

    tie-unset : (n e : ℕ) → Unset (tie (block_tree f marks) nop n e)
    unfolding tie
    tie-unset zero e = tt
    tie-unset (suc k) e = either_unset (eqb e k) _ _ (block-unset _ (tie-unset k) k) (tie-unset k e)

    body_unset : Unset (body_tree f marks)
    unfolding body_tree knot
    body_unset = tie-unset _ _

  -- where all are not set, what is named by its mark's position and breaks its rule is not
  breaks_unset : (W : Setting) (r : ℕ → PartReq) (i : ℕ) (a : Tree) (k : Exit → PartReq) → Breaks W r by_position i a k → Unset a → mark_at marks i ≡ false
  breaks_unset W r i a k (breaks_first h) u = breaks_unset W r i _ _ h u.0
  breaks_unset W r i a k (breaks_second h) u = breaks_unset W r i _ _ h u.1
  breaks_unset W r i a k (breaks_accept h) u = breaks_unset W r i _ _ h u.0
  breaks_unset W r i a k (breaks_reject h) u = breaks_unset W r i _ _ h u.1
  breaks_unset W r i a k (breaks_case j l h) u = breaks_unset W r i _ _ h (u j)
  breaks_unset W r i a k (breaks_body h) u = breaks_unset W r i _ _ h u.0
  breaks_unset W r i a k (breaks_continuing h) u = breaks_unset W r i _ _ h u.1
  breaks_unset W r i a k (breaks_itself e o) u = rw e u.0
  breaks_unset W r i a k (breaks_inside o h) u = breaks_unset W r i _ _ h u.1

pub missing_unset : (S : Scope) (R : Request) (P : Report) (t : Table) (i : ℕ) → Member i (missing_marks S R P t) → mark_at P.marks i ≡ false
unfolding missing_marks
missing_unset S R P t i h =
    breaks_unset P.marks (setting S R) (reentry t) i (body S P) (ending S R) ((missing-exactly (setting S R) (reentry t) i (body S P) (ending S R)).0 h)
    (body_unset P.marks S.function)

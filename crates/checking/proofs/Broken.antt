-- What breaks a rule is a statement of the function: every unmarked statement in its body has the number of one, by recursion over the body as it is made.
use Prim.Native.Nat.{ℕ, zero, suc, ◌<◌}
use native.Mathlib.Omega.{arith}
use native.Mathlib.Decide.{dec_lt}
use mathlib.Core.Path.{◌≡◌}
use mathlib.Core.Bool.{Bool, true, false}
use mathlib.Core.List.{List, [], ◌∷◌}
use lib.ListN.{length, get_or, get_or-eq_default}
use Rattle.part.specs.PartReq.{PartReq}
use Rattle.module.specs.Module.{ExpressionHandle, BlockHandle, Statement, SwitchCase, Function}
use Rattle.module.specs.Module.{Emit, Block, If, Switch, Loop, Break, Continue, Return, Kill, ControlBarrier, MemoryBarrier, ImageAtomic, Store}
use Rattle.module.specs.Module.{AtomicStatement, Call, ImageStore, RayQuery, WorkGroupUniformLoad, SubgroupBallot, SubgroupGather, SubgroupCollectiveOperation}
use Rattle.module.proofs.Knot.{knot-all}
use Rattle.clearance.specs.Tree.{Tree, nop, seq, act, branch, switch, loop, break, continue, return, unmarked, marked, by_mark, emits, case_at, statement, statements_from, block_tree, body_tree}
use Rattle.clearance.specs.Needs.{Exit, by_statement, Setting}
use Rattle.clearance.specs.Rules.{Breaks, breaks_first, breaks_second, breaks_accept, breaks_reject, breaks_case, breaks_body, breaks_continuing, breaks_itself, breaks_inside}

module _ (f : Function) (marks : List ℕ) where
  abbrev count : ℕ
  count = length f.statements

  -- every unmarked statement has the number of one
  abbrev Numbered : Tree → Type 0
  Numbered nop = Unit {0}
  Numbered (seq a b) = Numbered a × Numbered b
  Numbered (act x) = Unit {0}
  Numbered (branch c a b) = Numbered a × Numbered b
  Numbered (switch c vs g) = (i : ℕ) → Numbered (g i)
  Numbered (loop n a b c) = Numbered a × Numbered b
  Numbered (break n) = Unit {0}
  Numbered (continue n) = Unit {0}
  Numbered (return n v) = Unit {0}
  Numbered (unmarked n mark a) = (n < count) × Numbered a

  module _ (n : ℕ) (l : n < count) where
    marked-numbered : (mark : ℕ) (b : Bool) (a : Tree) → Numbered a → Numbered (marked n mark b a)
    unfolding marked
    marked-numbered mark true a h = h
    marked-numbered mark false a h = (l, h)

    by_numbered : (i : ℕ) (a : Tree) → Numbered a → Numbered (by_mark f marks n i a)
    unfolding by_mark
    by_numbered i a h = marked-numbered _ _ a h

    emits-numbered : (first : ExpressionHandle) (i k : ℕ) → Numbered (emits f marks n first i k)
    unfolding emits
    emits-numbered first i zero = tt
    emits-numbered first i (suc k) = (by_numbered i _ tt, emits-numbered first (suc i) k)

  module _ (block : BlockHandle → Tree) (h : (b : BlockHandle) → Numbered (block b)) where
    case_numbered : (cs : List SwitchCase) (i : ℕ) → Numbered (case_at block cs i)
    unfolding case_at
    case_numbered [] i = tt
    case_numbered (c ∷ cs) zero = h _
    case_numbered (c ∷ cs) (suc i) = case_numbered cs i

    statement-numbered : (n : ℕ) → n < count → (x : Statement) → Numbered (statement f marks block n x)
    unfolding statement
    statement-numbered n l (Emit first last) = emits-numbered n l first 0 _
    statement-numbered n l (Block b) = h b
    statement-numbered n l (If condition accept reject) = by_numbered n l 0 _ (h accept, h reject)
    statement-numbered n l (Switch selector cases) = by_numbered n l 0 _ (λ i. case_numbered cases i)
    statement-numbered n l (Loop b continuing break_if) = by_numbered n l 0 _ (h b, h continuing)
    statement-numbered n l Break = tt
    statement-numbered n l Continue = tt
    statement-numbered n l (Return value) = tt
    statement-numbered n l Kill = tt
    statement-numbered n l ControlBarrier = tt
    statement-numbered n l MemoryBarrier = tt
    statement-numbered n l ImageAtomic = tt
    statement-numbered n l (Store pointer value) = by_numbered n l 0 _ tt
    statement-numbered n l (AtomicStatement pointer value result) = tt
    statement-numbered n l (Call function arguments result) = tt
    statement-numbered n l (ImageStore image coordinate array_index value) = tt
    statement-numbered n l (RayQuery query) = tt
    statement-numbered n l (WorkGroupUniformLoad pointer result) = tt
    statement-numbered n l (SubgroupBallot result predicate) = tt
    statement-numbered n l (SubgroupGather mode argument result) = tt
    statement-numbered n l (SubgroupCollectiveOperation argument result) = tt

    kill_numbered : (n : ℕ) (x : Statement) → x ≡ Kill → Numbered (statement f marks block n x)
    unfolding statement
    kill_numbered n x e = rw (e, statement) tt

    at_numbered : (n : ℕ) → Numbered (statement f marks block n (get_or f.statements n Kill))
    at_numbered n =
        elim (dec_lt n count) [
          | yes l ↦ statement-numbered n l _
          | no l ↦ kill_numbered n _ (get_or-eq_default f.statements Kill {n = n} (omega arith))
        ]

    from_numbered : (n k : ℕ) → Numbered (statements_from f marks block n k)
    unfolding statements_from
    from_numbered n zero = tt
    from_numbered n (suc k) = (at_numbered n, from_numbered (suc n) k)

    block-numbered : (b : BlockHandle) → Numbered (block_tree f marks block b)
    unfolding block_tree
    block-numbered b = from_numbered _ _

  body_numbered : Numbered (body_tree f marks)
  unfolding body_tree
  body_numbered = knot-all (λ b a. Numbered a) (block_tree f marks) nop (λ b. tt) (λ w b h. block-numbered w h b) _

  breaks_numbered : (W : Setting) (r : ℕ → PartReq) (i : ℕ) (a : Tree) (k : Exit → PartReq) → Breaks W r by_statement i a k → Numbered a → i < count
  breaks_numbered W r i a k (breaks_first h) u = breaks_numbered W r i _ _ h u.0
  breaks_numbered W r i a k (breaks_second h) u = breaks_numbered W r i _ _ h u.1
  breaks_numbered W r i a k (breaks_accept h) u = breaks_numbered W r i _ _ h u.0
  breaks_numbered W r i a k (breaks_reject h) u = breaks_numbered W r i _ _ h u.1
  breaks_numbered W r i a k (breaks_case j l h) u = breaks_numbered W r i _ _ h (u j)
  breaks_numbered W r i a k (breaks_body h) u = breaks_numbered W r i _ _ h u.0
  breaks_numbered W r i a k (breaks_continuing h) u = breaks_numbered W r i _ _ h u.1
  breaks_numbered W r i a k (breaks_itself e o) u = omega (arith, u.0)
  breaks_numbered W r i a k (breaks_inside o h) u = breaks_numbered W r i _ _ h u.1

  pub break_low : (W : Setting) (r : ℕ → PartReq) (i : ℕ) (k : Exit → PartReq) → Breaks W r by_statement i (body_tree f marks) k → i < count
  break_low W r i k h = breaks_numbered W r i _ k h body_numbered

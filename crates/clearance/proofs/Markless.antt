-- What strays does not depend on the marks: two bodies of a function that differ in their marks have the same strays. By induction over how the
-- body is unfolded from its blocks.
use Prim.Native.Nat.{ℕ, zero, suc}
use mathlib.Core.Path.{◌≡◌, refl}
use mathlib.Core.Bool.{Bool, true, false}
use mathlib.Core.List.{List, [], ◌∷◌}
use mathlib.Core.Option.{Option}
use lib.Dec.{eqb}
use lib.ListN.{length}
use Rattle.module.specs.Module.{ExpressionHandle, BlockHandle, Statement, SwitchCase, Function}
use Rattle.module.specs.Module.{Emit, Block, If, Switch, Loop, Break, Continue, Return, Kill, ControlBarrier, MemoryBarrier, ImageAtomic, Store}
use Rattle.module.specs.Module.{AtomicStatement, Call, ImageStore, RayQuery, WorkGroupUniformLoad, SubgroupBallot, SubgroupGather, SubgroupCollectiveOperation}
use Rattle.module.specs.Knot.{tie, knot}
use Rattle.clearance.specs.Tree.{Tree, nop, seq, branch, switch, loop, marked, by_mark, emits, case_at, statement, statements_from, block_tree, body_tree}
use Rattle.clearance.specs.Needs.{Exit, concat}
use Rattle.clearance.specs.Judged.{strays}

Same : Tree → Tree → Type 0
Same a b = (e : Exit → Bool) → strays a e ≡ strays b e

itself : (a : Tree) → Same a a
unfolding Same
itself a e = refl

marked-same : (n m k : ℕ) (x y : Bool) (a b : Tree) → Same a b → Same (marked n m x a) (marked n k y b)
unfolding Same marked strays
marked-same n m k true true a b h = h
marked-same n m k true false a b h = h
marked-same n m k false true a b h = h
marked-same n m k false false a b h = h

seq-same : (a b c d : Tree) → Same a b → Same c d → Same (seq a c) (seq b d)
unfolding Same strays
seq-same a b c d h g e = rw (h e, g e)

concat-same : (n : ℕ) (f g : ℕ → List ℕ) → ((i : ℕ) → f i ≡ g i) → concat n f ≡ concat n g
unfolding concat
concat-same zero f g h = refl
concat-same (suc n) f g h = rw (h n, concat-same n f g h)

module _ (f : Function) (marks others : List ℕ) where
  by_same : (n i : ℕ) (a b : Tree) → Same a b → Same (by_mark f marks n i a) (by_mark f others n i b)
  unfolding by_mark
  by_same n i a b h = marked-same n _ _ _ _ a b h

  emits-same : (n : ℕ) (first : ExpressionHandle) (i k : ℕ) → Same (emits f marks n first i k) (emits f others n first i k)
  unfolding emits
  emits-same n first i zero = itself nop
  emits-same n first i (suc k) = seq-same _ _ _ _ (by_same n i _ _ (itself _)) (emits-same n first (suc i) k)

  module _ (x y : BlockHandle → Tree) (h : (b : BlockHandle) → Same (x b) (y b)) where
    case_same : (cs : List SwitchCase) (i : ℕ) → Same (case_at x cs i) (case_at y cs i)
    unfolding case_at
    case_same [] i = itself nop
    case_same (c ∷ cs) zero = h _
    case_same (c ∷ cs) (suc i) = case_same cs i

    branch_same : (c : ExpressionHandle) (a b : BlockHandle) → Same (branch c (x a) (x b)) (branch c (y a) (y b))
    unfolding Same strays
    branch_same c a b e = rw (h a e, h b e)

    switch_same : (c : ExpressionHandle) (vs : List ℕ) (cs : List SwitchCase) → Same (switch c vs (case_at x cs)) (switch c vs (case_at y cs))
    unfolding Same strays
    switch_same c vs cs e = concat-same (length vs) _ _ (λ i. case_same cs i _)

    loop_same : (n : ℕ) (a b : BlockHandle) (c : Option ExpressionHandle) → Same (loop n (x a) (x b) c) (loop n (y a) (y b) c)
    unfolding Same strays
    loop_same n a b c e = rw (h a _, h b _)

    statement_same : (n : ℕ) (s : Statement) → Same (statement f marks x n s) (statement f others y n s)
    unfolding statement
    statement_same n (Emit first last) = emits-same n first 0 _
    statement_same n (Block b) = h b
    statement_same n (If condition accept reject) = by_same n 0 _ _ (branch_same condition accept reject)
    statement_same n (Switch selector cases) = by_same n 0 _ _ (switch_same selector _ cases)
    statement_same n (Loop b continuing break_if) = by_same n 0 _ _ (loop_same n b continuing break_if)
    statement_same n Break = itself _
    statement_same n Continue = itself _
    statement_same n (Return value) = itself _
    statement_same n Kill = itself _
    statement_same n ControlBarrier = itself _
    statement_same n MemoryBarrier = itself _
    statement_same n ImageAtomic = itself _
    statement_same n (Store pointer value) = by_same n 0 _ _ (itself _)
    statement_same n (AtomicStatement pointer value result) = itself _
    statement_same n (Call function arguments result) = itself _
    statement_same n (ImageStore image coordinate array_index value) = itself _
    statement_same n (RayQuery query) = itself _
    statement_same n (WorkGroupUniformLoad pointer result) = itself _
    statement_same n (SubgroupBallot result predicate) = itself _
    statement_same n (SubgroupGather mode argument result) = itself _
    statement_same n (SubgroupCollectiveOperation argument result) = itself _

    from_same : (n k : ℕ) → Same (statements_from f marks x n k) (statements_from f others y n k)
    unfolding statements_from
    from_same n zero = itself nop
    from_same n (suc k) = seq-same _ _ _ _ (statement_same n _) (from_same (suc n) k)

    block_same : (b : BlockHandle) → Same (block_tree f marks x b) (block_tree f others y b)
    unfolding block_tree
    block_same b = from_same _ _

  either_same : (q : Bool) (a b c d : Tree) → Same a b → Same c d → Same (elim q [ true ↦ a | false ↦ c ]) (elim q [ true ↦ b | false ↦ d ])
  either_same true a b c d h g = h
  either_same false a b c d h g = g

  tie-same : (n e : ℕ) → Same (tie (block_tree f marks) nop n e) (tie (block_tree f others) nop n e)
  unfolding tie
  tie-same zero e = itself nop
  tie-same (suc k) e = either_same (eqb e k) _ _ _ _ (block_same _ _ (tie-same k) k) (tie-same k e)

  pub strays-same : (e : Exit → Bool) → strays (body_tree f marks) e ≡ strays (body_tree f others) e
  unfolding Same body_tree knot
  strays-same e = tie-same _ _ e

-- The trees of blocks and of the statements that hold some, as the code goes along them.
use Prim.Native.Nat.{ℕ, suc, zero, ◌+◌, ◌-◌, ◌*◌, ◌<◌, ◌≤◌}
use native.Mathlib.Omega.{arith}
use mathlib.Core.Path.{◌≡◌, refl, sym, ap, subst, ◌∙◌}
use mathlib.Core.Bool.{Bool, true, false}
use mathlib.Core.List.{List}
use lib.ListN.{length, get_or}
use borrow.Author.Tests.{eq-eqb, ne_eqb}
use Rattle.module.specs.Module.{BlockHandle, BlockRange, Statement, Function, Kill}
use Rattle.module.specs.Decode.{statement_of}
use Rattle.module.specs.Knot.{below}
use Rattle.module.specs.Marks.{marks_before}
use Rattle.module.specs.File.{accepted, read_module}
use Rattle.module.specs.Tables.{function_of, module_of}
use Rattle.module.proofs.Knot.{knot-is, below-lt}
use Rattle.access.specs.declared.kinded.Kinded.{Kinded}
use Rattle.access.specs.Access.{operand_at, range_at}
use Rattle.access.proofs.Access.{range_is}
use Rattle.valid.specs.Valid.{UsesBelow, entries_below}
use Rattle.judge.proofs.PathSteps.{function_valid}
use Rattle.clearance.specs.Tree.{Tree, nop, seq, unmarked, marked, mark_at, by_mark, statement, statements_from, no_block, block_tree}
use Rattle.strays.specs.Places.{BlockOf}
use Rattle.strays.proofs.Trees.{case_is as cases-are}
use Rattle.strays.proofs.Found.{in_function, decoded, block_low, cases_in}
use Rattle.quiet.specs.Places.{tree_of, statement_tree}
use Rattle.backward.specs.Course.{RowIn, blocks_under, if_tree, case_tree, switch_tree, loop_tree, bare_tree}

-- A block's statements, the last first: those from the k-th on
abbrev pub later : Function → (marks : List ℕ) → (b first count k : ℕ) → Tree
later F marks b first count k = statements_from F marks (blocks_under F marks b) (first + k) (count - k)

pub none_later : (F : Function) (marks : List ℕ) (b first count k : ℕ) → k ≡ count → later F marks b first count k ≡ nop
unfolding statements_from
none_later F marks b first count k h = let z : count - k ≡ 0 = omega arith in rw z

pub one_more : (F : Function) (marks : List ℕ) (b first count k j : ℕ) → k ≤ count → k ≡ j + 1 → later F marks b first count j ≡ seq (statement_tree F marks b (first + j)) (later F marks b first count k)
unfolding statements_from
one_more F marks b first count k j l h =
    let x : count - j ≡ suc (count - k) = omega arith in
    let y : first + k ≡ suc (first + j) = omega arith in
    rw (x, y)

pub all_later : {bytes t : List ℕ} {f b : ℕ} → BlockOf bytes t f b → (marks : List ℕ) (g : BlockRange) (k : ℕ) → g ≡ range_at t f b → k ≡ 0 →
    tree_of (function_of bytes t f) marks b ≡ later (function_of bytes t f) marks b g.first g.count k
all_later {bytes} {t} {f} {b} p marks g k q h =
    let G = function_of bytes t f in
    let whole : tree_of G marks b ≡ statements_from G marks (below (tree_of G marks) nop b) (get_or G.blocks b no_block).first (get_or G.blocks b no_block).count = unfold block_tree in knot-is (block_tree G marks) nop b in
    let same : get_or G.blocks b no_block ≡ g = range_is bytes t f b no_block p.block ∙ sym q in
    let x : (get_or G.blocks b no_block).first ≡ g.first + k = omega (arith, ap (λ (y : BlockRange). y.first) same) in
    let y : (get_or G.blocks b no_block).count ≡ g.count - k = omega (arith, ap (λ (y : BlockRange). y.count) same) in
    whole ∙ rw (x, y)

-- A statement by its kind
module _ {bytes t : List ℕ} {f b s : ℕ} {row : Kinded} (r : RowIn bytes t f b s row) (marks : List ℕ) where
  abbrev F : Function
  F = function_of bytes t f

  abbrev o : ℕ → ℕ
  o = operand_at bytes row

  abbrev w : BlockHandle → Tree
  w = blocks_under F marks b

  -- a lower block
  pub lower_is : (j : ℕ) {c : ℕ} → c ≡ o j → o j < b → w (o j) ≡ tree_of F marks c
  lower_is j h l = below-lt (tree_of F marks) nop b (o j) l ∙ ap (tree_of F marks) (sym h)

  pub inner_is : row.kind ≡ 1 → {c : ℕ} → c ≡ o 0 → statement_tree F marks b s ≡ tree_of F marks c
  unfolding statement_of statement
  inner_is h e = rw (decoded r.statement r.is 1 h) (lower_is 0 e (block_low r.statement r.is h))

  -- what stands under its mark
  pub held_is : (1 < row.kind) × (row.kind < 5) → statement_tree F marks b s ≡ by_mark F marks s 0 (bare_tree w s row.kind o)
  unfolding statement_of statement bare_tree
  held_is h = by-kind row.kind refl h.0 h.1
    where
      by-kind : (k : ℕ) → row.kind ≡ k → 1 < k → k < 5 → statement_tree F marks b s ≡ by_mark F marks s 0 (bare_tree w s k o)
      by-kind zero e l u = absurd (omega arith)
      by-kind (suc zero) e l u = absurd (omega arith)
      by-kind (suc (suc zero)) e l u = rw (decoded r.statement r.is 2 e)
      by-kind (suc (suc (suc zero))) e l u = rw (decoded r.statement r.is 3 e)
      by-kind (suc (suc (suc (suc zero)))) e l u = rw (decoded r.statement r.is 4 e)
      by-kind (suc (suc (suc (suc (suc k))))) e l u = absurd (omega arith)

  pub if_is : row.kind ≡ 2 → bare_tree w s row.kind o ≡ if_tree w o
  unfolding bare_tree
  if_is h = rw (eq-eqb row.kind 2 h)

  pub switch_is : row.kind ≡ 3 → bare_tree w s row.kind o ≡ switch_tree w o
  unfolding bare_tree
  switch_is h = rw h

  pub loop_is : (row.kind ≡ 2 → ⊥) → (row.kind ≡ 3 → ⊥) → bare_tree w s row.kind o ≡ loop_tree w s o
  unfolding bare_tree
  loop_is h i = rw (ne_eqb row.kind 2 h, ne_eqb row.kind 3 i)

  pub case_is : row.kind ≡ 3 → (i : ℕ) → i < o 1 → {c : ℕ} → c ≡ o (3 + 2 * i) → case_tree w o i ≡ tree_of F marks c
  case_is h i l e = cases-are o w i l ∙ lower_is (3 + 2 * i) e ((cases_in r.statement r.is h).each i l)

-- what has a mark that is set, and what has one that is not
pub marked_is : (F : Function) (marks : List ℕ) (s : ℕ) (a : Tree) {i : ℕ} → i ≡ marks_before F.statements s → {m : Bool} → m ≡ mark_at marks i → m ≡ true → by_mark F marks s 0 a ≡ a
unfolding by_mark marked
marked_is F marks s a h e g =
    let z : marks_before F.statements s + 0 ≡ marks_before F.statements s = omega arith in
    rw (z, ← h, ← e, g)

pub unmarked-is : (F : Function) (marks : List ℕ) (s : ℕ) (a : Tree) {i : ℕ} → i ≡ marks_before F.statements s → {m : Bool} → m ≡ mark_at marks i → m ≡ false → by_mark F marks s 0 a ≡ unmarked s (marks_before F.statements s) a
unfolding by_mark marked
unmarked-is F marks s a h e g =
    let z : marks_before F.statements s + 0 ≡ marks_before F.statements s = omega arith in
    rw (z, ← h, ← e, g)

-- what a statement uses is below it
pub uses_of : {bytes t : List ℕ} {f b s : ℕ} {row : Kinded} → RowIn bytes t f b s row → (k : ℕ) → row.kind ≡ k → read_module bytes ≡ accepted (module_of bytes t) → f < length (module_of bytes t).functions →
    UsesBelow (length (function_of bytes t f).expressions) (entries_below f (module_of bytes t).functions) (statement_of k (operand_at bytes row))
uses_of {bytes} {t} {f} {b} {s} r k h read there =
    subst (λ (z : Statement). UsesBelow (length (function_of bytes t f).expressions) (entries_below f (module_of bytes t).functions) z) (decoded r.statement r.is k h)
    ((function_valid bytes t f read there).parts.each_statement s Kill (in_function r.statement)).uses

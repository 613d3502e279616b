-- What a stretch of a pass is given, and what it comes to: a block, a statement, what has its mark, a switch's cases.
use Rattle.std.specs.Prelude.{ℕ, ◌+◌, ◌*◌, ◌≤◌, ◌≡◌, Bool, false, cond, List, map, eqb, length}
use Rattle.module.specs.Module.{BlockHandle, Function}
use Rattle.module.specs.Knot.{below}
use Rattle.module.specs.Decode.{tab, case_of, option_of}
use Rattle.module.specs.Tables.{function_of}
use Rattle.access.specs.declared.kinded.Kinded.{Kinded}
use Rattle.access.specs.Access.{statement_row}
use Rattle.checking.specs.Stretch.{Firsts}
use Rattle.clearance.specs.Scope.{Scope}
use Rattle.clearance.specs.Tree.{Tree, nop, branch, switch, loop, case_at}
use Rattle.judge.specs.Given.{scope_at}
use Rattle.quiet.specs.Places.{tree_of}
use Rattle.strays.specs.Places.{StatementIn}
use Rattle.standing.specs.Slots.{Ready}
use Rattle.standing.specs.Standing.{Targets, Stretch, Walked}
use Rattle.standing.specs.World.{World}
use Rattle.standing.specs.Passing.{Passing}
use Rattle.standing.specs.Exits.{Exits}
use Rattle.judge.specs.declared.subject.Subject.{Subject}
use Rattle.backward.specs.declared.marked.MarkedSubject.{MarkedSubject}

-- the function, the needs in memory, where the exits lead, what is carried so far, and a path that every place fits
pub record Course (bytes t : List ℕ) (f : ℕ) (types alike : List ℕ) (paths : List Bool) (firsts s rs path : List ℕ) (n : ℕ) (x : Exits) (p : Passing) : Type 0 where
  pub world : World bytes t f types alike paths
  pub begins : Firsts (function_of bytes t f).statements firsts
  pub ready : Ready (scope_at bytes t f) s rs n
  pub targets : Targets n x
  pub going : p.full ≡ false
  pub long : length (function_of bytes t f).expressions + 2 ≤ length path

abbrev pub CourseOf : MarkedSubject → List ℕ → List ℕ → List ℕ → ℕ → Exits → Passing → Type 0
CourseOf m s rs path n x p = Course m.subject.now.file.now.bytes m.subject.now.file.now.t m.subject.now.f.0 m.subject.now.types.now m.subject.now.alike.now m.subject.now.paths.now m.firsts.now s rs path n x p

-- it was walked; a lent path is as long as it was
pub record Passes (S : Scope) (o : Stretch) (s rs : List ℕ) (n : ℕ) (x : Exits) (p : Passing) (t us before after : List ℕ) (q : Passing) : Type 0 where
  pub walked : Walked S o s rs n x p t us q
  pub long : length after ≡ length before

-- the row of the statement s of the block b
pub record RowIn (bytes t : List ℕ) (f b s : ℕ) (row : Kinded) : Type 0 where
  pub statement : StatementIn bytes t f b s
  pub is : row ≡ statement_row bytes t f s

abbrev pub RowInOf : Subject → ℕ → ℕ → Kinded → Type 0
RowInOf j b s row = RowIn j.file.now.bytes j.file.now.t j.f.0 b s row

-- the blocks that a statement of the block b may hold: the lower ones
abbrev pub blocks_under : Function → (marks : List ℕ) → BlockHandle → BlockHandle → Tree
blocks_under F marks b = below (tree_of F marks) nop b

-- A statement's tree without its mark, with w for its blocks and o for its operands
abbrev pub if_tree : (BlockHandle → Tree) → (ℕ → ℕ) → Tree
if_tree w o = branch (o 0) (w (o 1)) (w (o 2))

abbrev pub case_tree : (BlockHandle → Tree) → (ℕ → ℕ) → ℕ → Tree
case_tree w o = case_at w (tab (o 1) (case_of o))

-- the same by the block that a case names
abbrev pub case_block : Function → (marks : List ℕ) → (ℕ → ℕ) → ℕ → Tree
case_block F marks o i = tree_of F marks (o (3 + 2 * i))

abbrev pub switch_tree : (BlockHandle → Tree) → (ℕ → ℕ) → Tree
switch_tree w o = switch (o 0) (map (λ c. c.value) (tab (o 1) (case_of o))) (case_tree w o)

abbrev pub loop_tree : (BlockHandle → Tree) → ℕ → (ℕ → ℕ) → Tree
loop_tree w s o = loop s (w (o 0)) (w (o 1)) (option_of (o 2))

-- by its kind: an if, a switch or a loop
unfoldable pub bare_tree : (BlockHandle → Tree) → ℕ → (kind : ℕ) → (ℕ → ℕ) → Tree
bare_tree w s kind o = cond (eqb kind 2) (if_tree w o) (cond (eqb kind 3) (switch_tree w o) (loop_tree w s o))

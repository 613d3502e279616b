-- What the fields of a statement name is there; and a part that is found in a map is no larger than that.
use Prim.Native.Nat.{ℕ, ◌<◌, ◌≤◌}
use native.Mathlib.Omega.{arith}
use mathlib.Core.Path.{◌≡◌, refl, subst, ◌∙◌}
use mathlib.Core.List.{List}
use lib.ListN.{length}
use Rattle.part.specs.PartReq.{PartReq, all, exist, none, more, entries, Subpart, gone, there, get_subpart}
use Rattle.part.proofs.Equations.{way, before, after, at, get_subpart-all, get_subpart-exist, get_subpart-none, get_subpart_before, get_subpart-at, get_subpart-after}
use Rattle.module.specs.Module.{Statement, Kill}
use Rattle.module.specs.Decode.{statement_of}
use Rattle.module.specs.Tables.{module_of, function_of, row_at}
use Rattle.access.specs.Access.{operand_at, statement_row}
use Rattle.access.specs.declared.kinded.Kinded.{Kinded}
use Rattle.access.proofs.Access.{statements-are, statement-at}
use Rattle.valid.specs.Valid.{UsesBelow, entries_below}
use Rattle.sound.proofs.There.{uses_below}
use Rattle.sound.proofs.Walks.{module_valid}
use Rattle.walk.specs.Resolve.{function_at}
use Rattle.walk.specs.Marks.{statement_at}
use Rattle.walk.proofs.Keeps.{Needs}
use Rattle.state.specs.declared.frame.Frame.{Frame}
use Rattle.access.specs.Laid.{WasRead}
use Rattle.statement.specs.Leaf.{Arm}

-- the statement n of f, by its row
module _ {bytes t : List ℕ} {f : ℕ} (was : WasRead bytes t) (function : f < length (module_of bytes t).functions) {n : ℕ} (there : n < (row_at t f).statements) where
  pub in_function : n < length (function_of bytes t f).statements
  in_function = omega (arith, there, statements-are t f (row_at t f) refl bytes)

  pub row-statement : (row : Kinded) → row ≡ statement_row bytes t f n → statement_at (module_of bytes t) f n ≡ statement_of row.kind (operand_at bytes row)
  unfolding statement_at function_at
  row-statement row is = statement-at bytes t f n row.kind row _ Kill function in_function is refl

module _ {bytes t s rs : List ℕ} {fr : Frame} {row : Kinded} {sum : ℕ} (a : Arm bytes t s rs fr row sum) where
  pub arm_statement : statement_at (module_of bytes t) fr.function.0 fr.statement ≡ statement_of row.kind (operand_at bytes row)
  arm_statement = row-statement a.begun.ready.was_read a.begun.ready.function a.begun.statement row a.is

  -- the expressions that the statement names
  pub arm_uses : (x : Statement) → statement_of row.kind (operand_at bytes row) ≡ x → UsesBelow (length (function_at (module_of bytes t) fr.function.0).expressions) (entries_below fr.function.0 (module_of bytes t).functions) x
  arm_uses x e =
      subst (UsesBelow (length (function_at (module_of bytes t) fr.function.0).expressions) (entries_below fr.function.0 (module_of bytes t).functions)) (arm_statement ∙ e)
      (uses_below (module_of bytes t) (module_valid bytes (module_of bytes t) a.begun.ready.was_read.module_is) fr.function.0 fr.statement)

-- a part that is found is smaller
pub sub_few : (q : PartReq) (j : ℕ) → Needs (λ p. entries p ≤ entries q) (get_subpart q j)
unfolding entries
sub_few all j = rw get_subpart-all (omega arith)
sub_few exist j = rw get_subpart-exist tt
sub_few none j = rw get_subpart-none tt
sub_few (more i p r) j =
    elim (way i j) [
      | before l ↦ rw (get_subpart-after i j p r l) (wider (get_subpart r j) (sub_few r j))
      | after l ↦ rw (get_subpart_before i j p r l) tt
      | at e ↦ rw (get_subpart-at i j p r e) (omega arith)
    ]
  where
    wider : (x : Subpart) → Needs (λ c. entries c ≤ entries r) x → Needs (λ c. entries c ≤ entries (more i p r)) x
    wider gone h = tt
    wider (there c) h = omega arith

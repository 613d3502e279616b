-- A course goes on: in memory that is ready, with exits below it; and what a block, an if, a switch or a loop asks for on its way.
use Prim.Native.Nat.{ℕ, ◌+◌, ◌*◌, ◌<◌, ◌≤◌}
use native.Mathlib.Omega.{arith}
use mathlib.Core.Path.{◌≡◌}
use mathlib.Core.Bool.{Bool, false}
use mathlib.Core.List.{List}
use lib.ListN.{length}
use Rattle.access.specs.declared.kinded.Kinded.{Kinded}
use Rattle.access.specs.Access.{operand_at}
use Rattle.judge.specs.Given.{scope_at}
use Rattle.strays.specs.Places.{BlockOf}
use Rattle.strays.proofs.Found.{there}
use Rattle.standing.specs.Slots.{Ready}
use Rattle.standing.specs.Standing.{Targets}
use Rattle.standing.specs.Passing.{Passing}
use Rattle.standing.specs.Exits.{Exits}
use Rattle.backward.specs.Course.{Course, RowIn}

module _ {bytes t : List ℕ} {f : ℕ} {types alike : List ℕ} {paths : List Bool} {firsts s rs path : List ℕ} {n : ℕ} {x : Exits} {p : Passing} (g : Course bytes t f types alike paths firsts s rs path n x p) where
  pub course_on : {u ws after : List ℕ} {m : ℕ} {y : Exits} {q : Passing} → Ready (scope_at bytes t f) u ws m → Targets m y → q.full ≡ false → length after ≡ length path →
      Course bytes t f types alike paths firsts u ws after m y q
  course_on d e h l = record { world = g.world; begins = g.begins; ready = d; targets = e; going = h; long = omega (arith, g.long) }

  -- a block c that the statement of a row holds, with at most two slots more
  pub block_asks : {b l : ℕ} {row : Kinded} → RowIn bytes t f b l row → (j : ℕ) {c : ℕ} → c ≡ operand_at bytes row j → operand_at bytes row j < b →
      (k : ℕ) {m : ℕ} {u ws after : List ℕ} {y : Exits} {q : Passing} → k + (3 * b + 11) ≤ length ws → m ≤ k + 2 → Ready (scope_at bytes t f) u ws m → Targets m y → q.full ≡ false → length after ≡ length path →
      (c < b) × (Course bytes t f types alike paths firsts u ws after m y q × ((m + (3 * c + 12) ≤ length ws) × BlockOf bytes t f c))
  block_asks r j e low k room up d y h l =
      let z = there r.statement r.is j e low in
      (z.0, (course_on d y h l, (omega (arith, z.0), z.1)))

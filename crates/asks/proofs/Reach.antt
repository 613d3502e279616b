-- What an answer says that the arm of a valid expression asks is there, since all that the arm asks is.
use mathlib.Core.Path.{subst}
use mathlib.Core.List.{List, [], ◌∷◌}
use mathlib.Core.Option.{Option, some, none as nothing}
use Prim.Native.Nat.{ℕ, zero, suc, ◌≤◌}
use native.Mathlib.Omega.{arith}
use lib.ListN.{get_elem?}
use Rattle.field.specs.Limits.{max_globals, max_arguments, max_locals}
use Rattle.part.specs.PartReq.{PartReq}
use Rattle.module.specs.Module.{Expression}
use Rattle.walk.specs.Expression.{Ask, arm_asks}
use Rattle.valid.specs.Valid.{OperandsBelow, NamesBelow}
use Rattle.memory.specs.declared.want.Want.{Want}
use Rattle.asks.specs.Asks.{said, Told, Within}
use Rattle.std.specs.Prelude.{Option as Optional, Some, None}
use Rattle.asks.specs.declared.what.Ask as declared
use Rattle.asks.specs.declared.what.Ask.TheVariants.{Operand, Argument, Global, Local, Refuse}
use Rattle.walk.proofs.Reach.{Reaches, AllReach, arm_there}

module _ (globals arguments locals e : ℕ) where
  abbrev MaybeReach : Option Ask → Type 0
  MaybeReach nothing = Unit {0}
  MaybeReach (some a) = Reaches globals arguments locals e a

  at_there : (xs : List Ask) (j : ℕ) → AllReach globals arguments locals e xs → MaybeReach (get_elem? xs j)
  at_there [] j h = tt
  at_there (a ∷ xs) zero h = h.0
  at_there (a ∷ xs) (suc j) h = at_there xs j h.1

  module _ (few_globals : globals ≤ max_globals) (few_arguments : arguments ≤ max_arguments) (few_locals : locals ≤ max_locals) where
    said-within : (s rs : List ℕ) (w : Want) (r : Optional declared.Ask) → MaybeReach (said s rs w r) → Within globals arguments locals e r
    said-within s rs w (Some (Operand h u)) b = b
    said-within s rs w (Some (Argument i)) b = (b, omega arith)
    said-within s rs w (Some (Global g)) b = (b, omega arith)
    said-within s rs w (Some (Local l)) b = (b, omega arith)
    said-within s rs w (Some (Refuse r)) b = tt
    said-within s rs w None b = tt

    pub arm_within : {s rs : List ℕ} {w : Want} (x : Expression) (p : PartReq) {j : ℕ} {r : Optional declared.Ask} → OperandsBelow e x → NamesBelow globals arguments locals x → Told s rs w (arm_asks x p) j r → Within globals arguments locals e r
    arm_within {s} {rs} {w} x p {j} {r} b n t =
        said-within s rs w r (subst MaybeReach t.is (at_there (arm_asks x p) j (arm_there globals arguments locals e x p b n)))

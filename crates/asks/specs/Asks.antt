-- How the code says what an arm asks: the j-th thing, with the part by value.
use Rattle.std.specs.Prelude.{ℕ, zero, suc, ◌<◌, ◌≡◌, List, length, get_or, Option as Optional, Some, None}
use Rattle.std.proofs.Math.Option.{Option, some, none as nothing}
use Rattle.std.proofs.Math.ListN.{get_elem?}
use Rattle.field.specs.Refusal.{number}
use Rattle.part.specs.PartReq.{spine}
use Rattle.module.specs.Module.{Module}
use Rattle.module.specs.Tables.{module_of}
use Rattle.walk.specs.Resolve.{function_at, expression_at}
use Rattle.walk.specs.Expression.{Ask, of_operand, of_argument, of_global, of_local, refuse, arm_asks}
use Rattle.memory.specs.declared.want.Want.{Want}
use Rattle.memory.specs.Want.{asked, Wants}
use Rattle.access.specs.Laid.{WasRead}
use Rattle.asks.specs.declared.what.Ask as declared
use Rattle.asks.specs.declared.what.Ask.TheVariants.{Operand, Argument, Global, Local, Refuse}

-- what an answer says, in the memory s rs, where w was asked of the expression
abbrev pub said : List ℕ → List ℕ → Want → Optional declared.Ask → Option Ask
said s rs w (Some (Operand h u)) = some (of_operand h.0 (asked s rs u))
said s rs w (Some (Argument i)) = some (of_argument i (asked s rs w))
said s rs w (Some (Global g)) = some (of_global g.0 (asked s rs w))
said s rs w (Some (Local l)) = some (of_local l.0 (asked s rs w))
said s rs w (Some (Refuse r)) = some (refuse (number r))
said s rs w None = nothing

-- what is asked of an operand is a part by value
abbrev pub HasWant : List ℕ → List ℕ → Optional declared.Ask → Type 0
HasWant s rs (Some (Operand h u)) = Wants s rs u
HasWant s rs (Some (Argument i)) = Unit {0}
HasWant s rs (Some (Global g)) = Unit {0}
HasWant s rs (Some (Local l)) = Unit {0}
HasWant s rs (Some (Refuse r)) = Unit {0}
HasWant s rs None = Unit {0}

-- a says what the arm that asks xs does at j, where w was asked of the expression
pub record Told (s rs : List ℕ) (w : Want) (xs : List Ask) (j : ℕ) (a : Optional declared.Ask) : Type 0 where
  pub wants : HasWant s rs a
  pub is : get_elem? xs j ≡ said s rs w a

-- what is asked is there: an operand of the expression e is lower, and a variable is one of so many, whose number is an index
abbrev pub Within : (globals arguments locals e : ℕ) → Optional declared.Ask → Type 0
Within globals arguments locals e (Some (Operand h u)) = h.0 < e
Within globals arguments locals e (Some (Argument i)) = (i < arguments) × (i < spine)
Within globals arguments locals e (Some (Global g)) = (g.0 < globals) × (g.0 < spine)
Within globals arguments locals e (Some (Local l)) = (l.0 < locals) × (l.0 < spine)
Within globals arguments locals e (Some (Refuse r)) = Unit {0}
Within globals arguments locals e None = Unit {0}

-- the module was read, and has the expression e of the function f
pub record There (bytes t : List ℕ) (f e : ℕ) : Type 0 where
  pub was_read : WasRead bytes t
  pub function : f < length (module_of bytes t).functions
  pub expression : e < length (function_at (module_of bytes t) f).expressions

-- a is the j-th thing that the arm of e does, where w is asked of it
pub record Asks (m : Module) (f e : ℕ) (s rs : List ℕ) (w : Want) (j : ℕ) (a : Optional declared.Ask) : Type 0 where
  pub told : Told s rs w (arm_asks (expression_at m f e) (asked s rs w)) j a
  pub within : Within (length m.globals) (length (function_at m f).arguments) (length (function_at m f).locals) e a

-- four letters: those of a pattern, filled up with 0
pub record Lettered (pattern letters : List ℕ) : Type 0 where
  pub same : (i : ℕ) → i < 4 → get_or letters i 0 ≡ get_or pattern i 0

-- r is the j-th thing that an arm does, which does only `what`
abbrev pub only_of : declared.Ask → ℕ → Optional declared.Ask
only_of what zero = Some what
only_of what (suc j) = None

pub record Only (what : declared.Ask) (j : ℕ) (r : Optional declared.Ask) : Type 0 where
  pub is : r ≡ only_of what j

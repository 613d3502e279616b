-- How the code says what it has found of a record's fields.
use Rattle.std.specs.Prelude as rattle
use Rattle.std.specs.Prelude.{Some, None, ℕ, ◌≤◌, ◌<◌, ◌≡◌, Bool, true, false, not, List, [], ◌∷◌, length, get_or}
use Rattle.std.proofs.Math.Option.{Option, some, none as nothing}
use Rattle.module.specs.declared.record.Fields.{Fields}
use Rattle.module.specs.declared.shape.Class.{Class}
use Rattle.module.specs.declared.operands.Test.{Test}
use Rattle.module.specs.declared.operands.Test.TheVariants.{Below, BelowOrAbsent, Size, Any, Callable, Never}
use Rattle.module.specs.Record.{fields_to}
use Rattle.module.specs.Decode.{tab}
use Rattle.module.specs.Packed.{meant}
use Rattle.module.specs.Operands.{Scope, below, below_or_absent, two_to_four, taken}
use Rattle.module.specs.Tables.{row_at, entry_of}

-- the test that a `Test` stands for
unfoldable pub pass_of : List ℕ → List ℕ → Test → ℕ → Bool
pass_of bytes t (Below n) x = below n x
pass_of bytes t (BelowOrAbsent n) x = below_or_absent n x
pass_of bytes t Size x = two_to_four x
pass_of bytes t Any x = true
pass_of bytes t (Callable n) x = not (get_or (tab n (λ f. entry_of bytes (row_at t f))) x true)
pass_of bytes t Never x = false

-- the fields that are still to be read
abbrev pub fields_in : List ℕ → Fields → List ℕ
fields_in bytes f = fields_to bytes f.end f.left

-- which are left, where what was taken is allowed
abbrev pub left_in : List ℕ → rattle.Option Fields → Option (List ℕ)
left_in bytes (Some f) = some (fields_in bytes f)
left_in bytes None = nothing

-- the first field with the others, or no field
abbrev pub split_in : List ℕ → rattle.Option (ℕ × Fields) → List ℕ
split_in bytes (Some s) = s.0 ∷ fields_in bytes s.1
split_in bytes None = []

-- where the last of what is left ends, and of the others behind the first
abbrev pub Ends : ℕ → rattle.Option Fields → Type 0
Ends end (Some f) = f.end ≡ end
Ends end None = Unit {0}

abbrev pub SplitEnds : ℕ → rattle.Option (ℕ × Fields) → Type 0
SplitEnds end (Some s) = s.1.end ≡ end
SplitEnds end None = Unit {0}

-- room for a mark at each value that a field may have
abbrev pub values : ℕ
values = 65536

-- nothing bears the stamp yet
pub record Fresh (seen : List ℕ) (stamp : ℕ) : Type 0 where
  pub room : values ≤ length seen
  pub low : (v : ℕ) → get_or seen v 0 < stamp

-- nothing bears a later stamp
pub record Stamped (before after : List ℕ) (stamp : ℕ) : Type 0 where
  pub same : length after ≡ length before
  pub low : (v : ℕ) → get_or after v 0 ≤ stamp

-- what is left after an operand of this class, or after none
unfoldable pub class_taken : rattle.Option Class → Scope → List ℕ → Option (List ℕ)
class_taken None s xs = some xs
class_taken (Some class) s xs = taken (meant class) s xs

-- What the answers of the functions on types and pieces stand for.
use Rattle.std.specs.Prelude.{ℕ, ◌+◌, ◌*◌, ◌<◌, ◌≤◌, ◌≡◌, List, Option as Maybe, Some, None}
use Rattle.std.proofs.Math.Option.{Option, some, none as nothing}
use Rattle.part.specs.PartReq.{PartReq, entries}
use Rattle.part.specs.Store.{top, part, Kept}
use Rattle.module.specs.Module.{TypeHandle, Member}
use Rattle.module.specs.declared.handles.TypeHandle.{TypeHandle as Handle}
use Rattle.context.specs.Remove.{Removed, left, panic, member_at}
use Rattle.context.specs.Types.{split_most}

-- the type, where it is known
abbrev pub typed : Maybe Handle → Option TypeHandle
typed None = nothing
typed (Some t) = some t.0

-- the type of the subpart i, where there may be one: nothing is the panic at a member that is not there
abbrev pub member_type : Option TypeHandle → Option (Option TypeHandle)
member_type nothing = nothing
member_type (some t) = some (some t)

abbrev pub subtype_at : Option (List Member) → ℕ → Option (Option TypeHandle)
subtype_at nothing i = some nothing
subtype_at (some members) i = member_type (member_at members i)

abbrev pub subtyped : Maybe (Maybe Handle) → Option (Option TypeHandle)
subtyped None = nothing
subtyped (Some t) = some (typed t)

-- what is left, in the store s; or 13 (`refusal`)
abbrev pub reduced : List ℕ → Maybe ℕ → Removed
reduced s (Some n) = left (part s n)
reduced s None = panic

abbrev pub Stored : List ℕ → Maybe ℕ → Type 0
Stored s (Some n) = n < top s
Stored s None = Unit {0}

-- from s, t was left: the answer is what the taking out d gives, and at most k cells more are used
pub record Took (s t : List ℕ) (d : Removed) (k : ℕ) (r : Maybe ℕ) : Type 0 where
  pub kept : Kept s t
  pub piece : Stored t r
  pub is : reduced t r ≡ d
  pub cost : top t ≤ top s + k

-- the cells that taking the entries of q out of p takes, and that taking q out takes: p's anew, and for each part of q a type's parts, made and made anew
abbrev pub entries_room : PartReq → PartReq → ℕ
entries_room p q = entries p + 2 * split_most * entries q

abbrev pub remove_room : PartReq → PartReq → ℕ
remove_room p q = entries p + 2 * split_most * (1 + entries q)

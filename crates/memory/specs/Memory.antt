-- The memory of a walk: a store of pieces, and slots that are its roots (specs/Layout.antt). What the slots mean, what of them 16 counts, and
-- when a memory is well formed.
use Rattle.std.specs.Prelude.{ℕ, zero, suc, ◌+◌, ◌-◌, ◌*◌, ◌<◌, ◌≤◌, ◌≡◌, false, List, [], ◌∷◌, map, length, get_or, set}
use Rattle.std.proofs.Math.Option.{Option, some, none as nothing}
use Rattle.field.specs.Limits.{max_depth, max_pieces}
use Rattle.part.specs.PartReq.{PartReq, all, exist, none, more, Subpart, gone, there, get_subpart, entries, over, spine}
use Rattle.part.specs.Insert.{insert}
use Rattle.part.specs.Store.{top, part, Good, Below, Kept, Room}
use Rattle.part.specs.StoreLimits.{entries_cap}
use Rattle.context.specs.RequiredContext.{RequiredContext, variable}
use Rattle.walk.specs.State.{Records}
use Rattle.walk.specs.Expression.{joined}
use Rattle.memory.specs.Layout.{all_slot, exist_slot, ask, returned, flat_slot, flat_count, globals_slot, exprs_slot, functions_slot, stack_slot, room, store_size}
use Rattle.memory.specs.Flat.{flat_of}
use Rattle.memory.specs.Want.{Wants}
use Rattle.memory.specs.declared.want.Want.{Want}

-- what the slots mean
abbrev pub read : List ℕ → List ℕ → List PartReq
read s rs = map (part s) rs

-- the entries of n slots from the slot a on, in sum
unfoldable pub sum_from : List PartReq → (a n : ℕ) → ℕ
sum_from ps a zero = 0
sum_from ps a (suc n) = sum_from ps a n + entries (get_or ps (a + n) none)

-- the entries of all slots that 16 counts
abbrev pub counted : List PartReq → ℕ
counted ps = sum_from ps globals_slot (length ps - globals_slot)

-- a record: the empty part, or {0: part}
pub data Recorded : PartReq → Type 0 where
  missing : Recorded none
  present : (p : PartReq) → Recorded (more 0 p none)

-- the part that is recorded, if one is
unfoldable pub record_of : PartReq → Option PartReq
record_of all = nothing
record_of exist = nothing
record_of none = nothing
record_of (more i p r) = some p

-- the records of n expressions, whose slots begin at `base`
unfoldable pub records_of : List PartReq → (base n : ℕ) → Records
records_of ps base zero = []
records_of ps base (suc n) = record_of (get_or ps base none) ∷ records_of ps (suc base) n

-- the context in the four slots from `at` on
abbrev pub context_at : List PartReq → (at : ℕ) → RequiredContext
context_at ps at = record {
  globals = get_or ps at none;
  locals = get_or ps (at + 1) none;
  args = get_or ps (at + 2) none;
  retval = get_or ps (at + 3) none;
}

-- the slots with a context in the four from `at` on
abbrev pub with_context : List PartReq → (at : ℕ) → RequiredContext → List PartReq
with_context ps at c = set (set (set (set ps at c.globals) (at + 1) c.locals) (at + 2) c.args) (at + 3) c.retval

-- the memory is well formed
pub record Memory (s rs : List ℕ) : Type 0 where
  pub good : Good s
  pub below : Below rs (top s)
  pub slots : stack_slot ≤ length rs
  pub first : part s (get_or rs all_slot 0) ≡ all
  pub second : part s (get_or rs exist_slot 0) ≡ exist
  pub asking : (k : ℕ) → ask ≤ k → k ≤ returned → entries (part s (get_or rs k 0)) ≤ max_pieces + 4
  pub fine : (k : ℕ) → ask ≤ k → k ≤ returned → over (part s (get_or rs k 0)) ≡ false
  pub flats : (c : ℕ) → c < flat_count → part s (get_or rs (flat_slot + c) 0) ≡ flat_of c
  pub records : (k : ℕ) → exprs_slot ≤ k → k < functions_slot → Recorded (part s (get_or rs k 0))
  pub fits : store_size ≤ length s

-- the memory t us means what s rs meant, and a visit has room
pub record Tidied (s rs t us : List ℕ) : Type 0 where
  pub memory : Memory t us
  pub same : read t us ≡ read s rs
  pub long : length us ≡ length rs
  pub roomy : Room t room

-- the first n slots name the empty part
pub record Filled (us : List ℕ) (n : ℕ) : Type 0 where
  pub with_none : (k : ℕ) → k < n → get_or us k 0 ≡ 2

-- the flat parts of the codes below n were put into their slots
pub record Flats (s rs t us : List ℕ) (n : ℕ) : Type 0 where
  pub kept : Kept s t
  pub cost : top t ≤ top s + 4 * n
  pub long : length us ≡ length rs
  pub made : (c : ℕ) → c < n → (get_or us (flat_slot + c) 0 < top t) × (part t (get_or us (flat_slot + c) 0) ≡ flat_of c)
  pub before : (k : ℕ) → k < flat_slot → get_or us k 0 ≡ get_or rs k 0
  pub behind : (k : ℕ) → flat_slot + n ≤ k → get_or us k 0 ≡ get_or rs k 0

-- nothing is asked, recorded or held yet
pub record Empty (s rs : List ℕ) : Type 0 where
  pub memory : Memory s rs
  pub none_asked : (k : ℕ) → ask ≤ k → k ≤ returned → part s (get_or rs k 0) ≡ none
  pub none_counted : (k : ℕ) → globals_slot ≤ k → k < length rs → part s (get_or rs k 0) ≡ none
  pub few : top s ≤ 3 + 4 * flat_count
  pub roomy : Room s room

-- what a store into the slot `at`, which counts, asks of the memory: r is the piece to be there, and `sum` counts the slot
pub record Putting (s rs : List ℕ) (at r sum : ℕ) : Type 0 where
  pub memory : Memory s rs
  pub piece : r < top s
  pub low : globals_slot ≤ at
  pub high : at < length rs
  pub kind : exprs_slot ≤ at → at < functions_slot → Recorded (part s r)
  pub old : entries (part s (get_or rs at 0)) ≤ sum
  pub few : sum ≤ entries_cap
  pub new : entries (part s r) ≤ entries_cap

-- the slot `at` was set to q; m is what `sum` has become
pub record Noted (s rs : List ℕ) (at : ℕ) (q : PartReq) (sum cost : ℕ) (t us : List ℕ) (m : ℕ) : Type 0 where
  pub memory : Memory t us
  pub kept : Kept s t
  pub reads : read t us ≡ set (read s rs) at q
  pub long : length us ≡ length rs
  pub sums : m + entries (part s (get_or rs at 0)) ≡ sum + entries q
  pub spent : top t ≤ top s + cost

-- what the record in the slot `at` asks of the memory
pub record Noting (s rs : List ℕ) (at : ℕ) (w : Want) (sum : ℕ) : Type 0 where
  pub memory : Memory s rs
  pub wants : Wants s rs w
  pub low : exprs_slot ≤ at
  pub high : at < functions_slot
  pub roomy : Room s (max_depth + 1)
  pub old : entries (part s (get_or rs at 0)) ≤ sum
  pub few : sum ≤ entries_cap

-- the most cells that a join makes
abbrev pub join_room : ℕ
join_room = 2 * max_pieces + 2 * max_depth + 6

-- what the join of what w asks to the entry i of the map n asks of the memory
pub record Joining (s rs : List ℕ) (n i : ℕ) (w : Want) : Type 0 where
  pub memory : Memory s rs
  pub wants : Wants s rs w
  pub piece : n < top s
  pub few : entries (part s n) ≤ max_pieces
  pub index : i < spine
  pub roomy : Room s join_room

-- after p was asked of the global g, of which the total had `seen`: the total q, and the context's map c
unfoldable pub total_after : Subpart → PartReq → ℕ → PartReq → PartReq
total_after gone q g p = insert q (variable g) p
total_after (there old) q g p = joined q g p

unfoldable pub globals_after : Subpart → PartReq → ℕ → PartReq → PartReq
globals_after gone c g p = insert c (variable g) p
globals_after (there old) c g p = c

-- what that asks of the memory, where the context's map is the piece n
pub record Totalling (s rs : List ℕ) (n g : ℕ) (w : Want) (sum : ℕ) : Type 0 where
  pub joining : Joining s rs n g w
  pub old : entries (part s (get_or rs globals_slot 0)) ≤ sum
  pub few : sum ≤ max_pieces

pub record Totalled (s rs : List ℕ) (n g : ℕ) (p : PartReq) (sum : ℕ) (t us : List ℕ) (d m : ℕ) : Type 0 where
  pub noted : Noted s rs globals_slot (total_after (get_subpart (part s (get_or rs globals_slot 0)) (variable g)) (part s (get_or rs globals_slot 0)) g p) sum join_room t us m
  pub piece : d < top t
  pub is : part t d ≡ globals_after (get_subpart (part s (get_or rs globals_slot 0)) (variable g)) (part s n) g p

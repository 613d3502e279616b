-- What the code answers that reads totals into a walk's memory: that there are none such, or the bytes that are left and what memory has then.
use Rattle.std.specs.Prelude.{⊤, ℕ, ◌+◌, ◌*◌, ◌≤◌, ◌<◌, ◌≡◌, Bool, true, false, List, length, get_or, drop, Option as Maybe, Some, None}
use Rattle.std.specs.Borrow.{Bor}
use Rattle.std.proofs.Math.Option.{Option, some, none as nothing}
use Rattle.field.specs.Field.{word_at}
use Rattle.field.specs.Limits.{max_pieces, max_functions}
use Rattle.part.specs.PartReq.{PartReq, none, more}
use Rattle.part.specs.StoreLimits.{cell_words, table_words}
use Rattle.part.specs.Store.{top, Kept}
use Rattle.context.specs.RequiredContext.{RequiredContext, pieces}
use Rattle.context.specs.Contexts.{context_of, HasContext}
use Rattle.module.specs.Module.{FunctionHandle}
use Rattle.module.specs.Tables.{row_at, expressions_from, max_items, module_of}
use Rattle.request.specs.Fields.{fields, Read, malformed, got, ◌>>=◌, whole, refused, accepted}
use Rattle.request.specs.Answers.{Tail, part_read}
use Rattle.walk.specs.State.{FunctionReq, record_pieces, function_pieces, total_pieces}
use Rattle.memory.specs.Layout.{globals_slot, totals_slot, functions_slot, stack_slot}
use Rattle.memory.specs.Memory.{read, records_of, context_at, Memory}
use Rattle.marks.specs.declared.totals.MarkTotals.{MarkTotals}
use Rattle.marks.specs.Report.{has_total}
use Rattle.marks.specs.Report as report
use Rattle.state.specs.State.{totals_sum}
use Rattle.block.specs.Standing.{total_in, functions_in}
use Rattle.block.specs.Total.{total_count}
use Rattle.pruner.specs.Form.{read_marks, read_records, read_kept, read_total, read_totals, read_body, min_pruner, is_pruner, answered, read_pruner}
use Rattle.pruner.specs.Stored.{pruner_in}
use Rattle.context.specs.declared.required_context.RequiredContext.{RequiredContext as Pieces}

-- {i: part}, or the empty part for none
unfoldable pub single : ℕ → Option PartReq → PartReq
single i nothing = none
single i (some p) = more i p none

-- what was read, made into something else
unfoldable pub mapped : {A B : Type 0} → (A → B) → Read A → Read B
mapped k malformed = malformed
mapped k (got a fs) = got (k a) fs

-- Room in the store s for what the bytes of b can say (`RoomFor`), and for n cells beside.
abbrev pub RoomBeside : (s b : List ℕ) → (n : ℕ) → Type 0
RoomBeside s b n = cell_words * (top s + n) + table_words + 2 * length b ≤ length s

-- Of b the bytes c are left: of those between, t has a cell more than s for every four at most, and n beside.
pub record SpentBeside (s t b : List ℕ) (n : ℕ) (c : List ℕ) : Type 0 where
  pub further : length c ≤ length b
  pub cost : 4 * top t + length c ≤ 4 * (top s + n) + length b
  pub tail : Tail b c

-- a piece, for which n cells were made beside
abbrev pub PiecePlaced : (s t b : List ℕ) → (n : ℕ) → Maybe (ℕ × Bor (List ℕ)) → Type 0
PiecePlaced s t b n None = Unit {0}
PiecePlaced s t b n (Some p) = (p.0 < top t) × SpentBeside s t b n p.1.now

pub record PieceWasRead (s t b : List ℕ) (n : ℕ) (r : Read PartReq) (a : Maybe (ℕ × Bor (List ℕ))) : Type 0 where
  pub kept : Kept s t
  pub is : part_read t a ≡ r
  pub placed : PiecePlaced s t b n a

-- the lists of a context
abbrev pub lists_read : (t : List ℕ) → Maybe (Pieces × Bor (List ℕ)) → Read RequiredContext
lists_read t None = malformed
lists_read t (Some p) = got (context_of t p.0) (fields p.1.now)

abbrev pub ListsPlaced : (s t b : List ℕ) → Maybe (Pieces × Bor (List ℕ)) → Type 0
ListsPlaced s t b None = Unit {0}
ListsPlaced s t b (Some p) = HasContext t p.0 × SpentBeside s t b 1 p.1.now

pub record ListsWereRead (s t b : List ℕ) (r : Read RequiredContext) (a : Maybe (Pieces × Bor (List ℕ))) : Type 0 where
  pub kept : Kept s t
  pub is : lists_read t a ≡ r
  pub placed : ListsPlaced s t b a

-- as many marks as there are bytes for them, or none where they are no marks
abbrev pub MarksAre : (b marks : List ℕ) → Maybe (Bor (List ℕ)) → Type 0
MarksAre b marks None = read_marks (length marks) (fields b) ≡ malformed
MarksAre b marks (Some c) = (read_marks (length marks) (fields b) ≡ got marks (fields c.now)) × (2 * length marks + length c.now ≡ length b) × Tail b c.now

pub record MarksWereRead (b marks : List ℕ) (r : Maybe (Bor (List ℕ))) : Type 0 where
  pub are : MarksAre b marks r

-- nothing, or the bytes that are left and how many pieces there are
abbrev pub Next : Type 0
Next = Maybe (Bor (List ℕ) × ℕ)

-- There is no such thing, or with it there are more pieces than 16 allows: either way the totals are refused.
abbrev pub TooMany : {A : Type 0} → (count : A → ℕ) → (sum : ℕ) → Read A → Type 0
TooMany count sum malformed = Unit {0}
TooMany count sum (got a fs) = max_pieces < sum + count a

-- n records were read into the slots from `base` on, and the bytes `next` are left; with them `sum` has become m
pub record RecordsAre (s rs b : List ℕ) (base n sum : ℕ) (t us next : List ℕ) (m : ℕ) : Type 0 where
  pub is : read_records n (fields b) ≡ got (records_of (read t us) base n) (fields next)
  pub sums : m ≡ sum + record_pieces (records_of (read t us) base n)
  pub few : m ≤ max_pieces
  pub memory : Memory t us
  pub spent : SpentBeside s t b n next
  pub same : (k : ℕ) → (base ≤ k → k < base + n → ⊥) → get_or (read t us) k none ≡ get_or (read s rs) k none

abbrev pub RecordsBy : (s rs b : List ℕ) → (base n sum : ℕ) → (t us : List ℕ) → Next → Type 0
RecordsBy s rs b base n sum t us None = TooMany record_pieces sum (read_records n (fields b))
RecordsBy s rs b base n sum t us (Some (next, m)) = RecordsAre s rs b base n sum t us next.now m

pub record RecordsWereRead (s rs b : List ℕ) (base n sum : ℕ) (t us : List ℕ) (r : Next) : Type 0 where
  pub kept : Kept s t
  pub long : length us ≡ length rs
  pub by : RecordsBy s rs b base n sum t us r

-- the same of a context, in the four slots from `slot` on
pub record ContextIs (s rs b : List ℕ) (slot sum : ℕ) (wanted : Read RequiredContext) (t us next : List ℕ) (m : ℕ) : Type 0 where
  pub is : wanted ≡ got (context_at (read t us) slot) (fields next)
  pub sums : m ≡ sum + pieces (context_at (read t us) slot)
  pub few : m ≤ max_pieces
  pub memory : Memory t us
  pub spent : SpentBeside s t b 1 next
  pub same : (k : ℕ) → (slot ≤ k → k < slot + 4 → ⊥) → get_or (read t us) k none ≡ get_or (read s rs) k none

abbrev pub ContextBy : (s rs b : List ℕ) → (slot sum : ℕ) → Read RequiredContext → (t us : List ℕ) → Next → Type 0
ContextBy s rs b slot sum wanted t us None = TooMany pieces sum wanted
ContextBy s rs b slot sum wanted t us (Some (next, m)) = ContextIs s rs b slot sum wanted t us next.now m

pub record ContextWasStored (s rs b : List ℕ) (slot sum : ℕ) (wanted : Read RequiredContext) (t us : List ℕ) (r : Next) : Type 0 where
  pub kept : Kept s t
  pub long : length us ≡ length rs
  pub by : ContextBy s rs b slot sum wanted t us r

-- what 16 counts of a total
abbrev pub kept_pieces : FunctionReq → ℕ
kept_pieces total = record_pieces total.exprs + pieces total.context

-- The total of f was read: its context and its records stand in its slots, its marks in their place, and its flag is set. Of other functions nothing has changed.
pub record KeptIs (bytes t s rs : List ℕ) (totals : MarkTotals) (b : List ℕ) (f : FunctionHandle) (sum : ℕ) (u us : List ℕ) (after : MarkTotals) (next : List ℕ) (m : ℕ) : Type 0 where
  pub is : (read_kept (module_of bytes t) f (fields b) >>= λ total gs. got (some total) gs) ≡ got (total_in (module_of bytes t) t (read u us) after f) (fields next)
  pub sums : m ≡ sum + total_count t f (read u us)
  pub few : m ≤ max_pieces
  pub memory : Memory u us
  pub spent : SpentBeside s u b (1 + (row_at t f).expressions) next
  pub same : (k : ℕ) → ((e : ℕ) → e < (row_at t f).expressions → totals_slot + expressions_from (row_at t f) + e ≡ k → ⊥) → ((i : ℕ) → i < 4 → functions_slot + 4 * f + i ≡ k → ⊥)
      → get_or (read u us) k none ≡ get_or (read s rs) k none
  pub flagged : has_total after f ≡ true
  pub others : (g : ℕ) → g < length (module_of bytes t).functions → (g ≡ f → ⊥) → report.total_in (module_of bytes t) after g ≡ report.total_in (module_of bytes t) totals g

abbrev pub KeptBy : (bytes t s rs : List ℕ) (totals : MarkTotals) (b : List ℕ) → FunctionHandle → (sum : ℕ) → (u us : List ℕ) (after : MarkTotals) → Next → Type 0
KeptBy bytes t s rs totals b f sum u us after None = TooMany kept_pieces sum (read_kept (module_of bytes t) f (fields b))
KeptBy bytes t s rs totals b f sum u us after (Some (next, m)) = KeptIs bytes t s rs totals b f sum u us after next.now m

pub record KeptWasRead (bytes t s rs : List ℕ) (totals : MarkTotals) (b : List ℕ) (f : FunctionHandle) (sum : ℕ) (u us : List ℕ) (after : MarkTotals) (r : Next) : Type 0 where
  pub kept : Kept s u
  pub long : length us ≡ length rs
  pub by : KeptBy bytes t s rs totals b f sum u us after r

-- The same of a total with its flag: where it is 0, nothing has changed.
pub record TotalIs (bytes t s rs : List ℕ) (totals : MarkTotals) (b : List ℕ) (f : FunctionHandle) (sum : ℕ) (u us : List ℕ) (after : MarkTotals) (next : List ℕ) (m : ℕ) : Type 0 where
  pub is : read_total (module_of bytes t) f (fields b) ≡ got (total_in (module_of bytes t) t (read u us) after f) (fields next)
  pub sums : m ≡ sum + function_pieces (total_in (module_of bytes t) t (read u us) after f)
  pub few : m ≤ max_pieces
  pub memory : Memory u us
  pub spent : SpentBeside s u b (1 + (row_at t f).expressions) next
  pub same : (k : ℕ) → ((e : ℕ) → e < (row_at t f).expressions → totals_slot + expressions_from (row_at t f) + e ≡ k → ⊥) → ((i : ℕ) → i < 4 → functions_slot + 4 * f + i ≡ k → ⊥)
      → get_or (read u us) k none ≡ get_or (read s rs) k none
  pub unwalked : has_total after f ≡ false → read u us ≡ read s rs
  pub others : (g : ℕ) → g < length (module_of bytes t).functions → (g ≡ f → ⊥) → report.total_in (module_of bytes t) after g ≡ report.total_in (module_of bytes t) totals g

abbrev pub TotalBy : (bytes t s rs : List ℕ) (totals : MarkTotals) (b : List ℕ) → FunctionHandle → (sum : ℕ) → (u us : List ℕ) (after : MarkTotals) → Next → Type 0
TotalBy bytes t s rs totals b f sum u us after None = TooMany function_pieces sum (read_total (module_of bytes t) f (fields b))
TotalBy bytes t s rs totals b f sum u us after (Some (next, m)) = TotalIs bytes t s rs totals b f sum u us after next.now m

pub record TotalWasRead (bytes t s rs : List ℕ) (totals : MarkTotals) (b : List ℕ) (f : FunctionHandle) (sum : ℕ) (u us : List ℕ) (after : MarkTotals) (r : Next) : Type 0 where
  pub kept : Kept s u
  pub long : length us ≡ length rs
  pub by : TotalBy bytes t s rs totals b f sum u us after r

-- no function has a total yet
pub record NoTotals (bytes t s rs : List ℕ) (totals : MarkTotals) : Type 0 where
  pub flags : (g : ℕ) → g < length (module_of bytes t).functions → has_total totals g ≡ false
  pub slots : (k : ℕ) → totals_slot ≤ k → k < stack_slot → get_or (read s rs) k none ≡ none

-- The totals of all functions were read. A function without one has nothing in its slots.
pub record FunctionsAre (bytes t s rs b : List ℕ) (sum : ℕ) (u us : List ℕ) (after : MarkTotals) (next : List ℕ) (m : ℕ) : Type 0 where
  pub is : read_totals (module_of bytes t) 0 (length (module_of bytes t).functions) (fields b) ≡ got (functions_in (module_of bytes t) t (read u us) after) (fields next)
  pub sums : m ≡ sum + total_pieces (functions_in (module_of bytes t) t (read u us) after)
  pub few : m ≤ max_pieces
  pub memory : Memory u us
  pub further : length next ≤ length b
  pub tail : Tail b next
  pub same : (k : ℕ) → (totals_slot ≤ k → k < stack_slot → ⊥) → get_or (read u us) k none ≡ get_or (read s rs) k none
  pub totals-sum : total_pieces (functions_in (module_of bytes t) t (read u us) after) ≡ totals_sum (read u us)
  pub unwalked : (g : ℕ) → g < length (module_of bytes t).functions → has_total after g ≡ false → total_count t g (read u us) ≡ 0

abbrev pub FunctionsBy : (bytes t s rs b : List ℕ) → (sum : ℕ) → (u us : List ℕ) (after : MarkTotals) → Next → Type 0
FunctionsBy bytes t s rs b sum u us after None = TooMany total_pieces sum (read_totals (module_of bytes t) 0 (length (module_of bytes t).functions) (fields b))
FunctionsBy bytes t s rs b sum u us after (Some (next, m)) = FunctionsAre bytes t s rs b sum u us after next.now m

pub record FunctionsWereRead (bytes t s rs b : List ℕ) (sum : ℕ) (u us : List ℕ) (after : MarkTotals) (r : Next) : Type 0 where
  pub kept : Kept s u
  pub long : length us ≡ length rs
  pub by : FunctionsBy bytes t s rs b sum u us after r

-- The body of a buffer's record was read: memory has the pruner that it means. What else memory has is as it was.
pub record BodyIs (bytes t s rs b : List ℕ) (u us : List ℕ) (after : MarkTotals) : Type 0 where
  pub is : answered (whole (read_body (module_of bytes t) (fields (drop 6 b)))) ≡ accepted (pruner_in bytes t u us after)
  pub memory : Memory u us
  pub same : (k : ℕ) → (k ≡ globals_slot → ⊥) → (totals_slot ≤ k → k < stack_slot → ⊥) → get_or (read u us) k none ≡ get_or (read s rs) k none
  pub totals-sum : total_pieces (functions_in (module_of bytes t) t (read u us) after) ≡ totals_sum (read u us)
  pub unwalked : (g : ℕ) → g < length (module_of bytes t).functions → has_total after g ≡ false → total_count t g (read u us) ≡ 0

abbrev pub BodyBy : (bytes t s rs b : List ℕ) → (u us : List ℕ) (after : MarkTotals) → Maybe ⊤ → Type 0
BodyBy bytes t s rs b u us after (Some ok) = BodyIs bytes t s rs b u us after
BodyBy bytes t s rs b u us after None = answered (whole (read_body (module_of bytes t) (fields (drop 6 b)))) ≡ refused 19

pub record BodyWasRead (bytes t s rs b u us : List ℕ) (after : MarkTotals) (r : Maybe ⊤) : Type 0 where
  pub kept : Kept s u
  pub long : length us ≡ length rs
  pub by : BodyBy bytes t s rs b u us after r

-- none of the first n functions has a flag
pub record FlagsCleared (before : List Bool) (n : ℕ) (after : List Bool) : Type 0 where
  pub long : length after ≡ length before
  pub flags : (g : ℕ) → g < n → get_or after g false ≡ false

-- how long the record PN is that stands at the front of s
pub record Stands (s : List ℕ) (r : ℕ) : Type 0 where
  pub there : is_pruner s ≡ true
  pub is : r ≡ 6 + word_at s 2
  pub inside : r ≤ length s
  pub small : r ≤ min_pruner

-- that, or nothing where there is none such
abbrev pub RecordLength : List ℕ → Maybe ℕ → Type 0
RecordLength s None = is_pruner s ≡ false
RecordLength s (Some r) = Stands s r

-- a memory without totals, in which the whole of a buffer's record finds room
pub record Untold (s rs : List ℕ) : Type 0 where
  pub globals : get_or (read s rs) globals_slot none ≡ none
  pub slots : (k : ℕ) → totals_slot ≤ k → k < stack_slot → get_or (read s rs) k none ≡ none
  pub room : cell_words * (top s + (max_items + max_functions)) + table_words + 2 * min_pruner ≤ length s + 12

-- A lent buffer was read: memory has the pruner that it means. What else memory has is as it was.
pub record PrunerIs (bytes t s rs b : List ℕ) (u us : List ℕ) (after : MarkTotals) : Type 0 where
  pub is : read_pruner (module_of bytes t) b ≡ accepted (pruner_in bytes t u us after)
  pub memory : Memory u us
  pub same : (k : ℕ) → (k ≡ globals_slot → ⊥) → (totals_slot ≤ k → k < stack_slot → ⊥) → get_or (read u us) k none ≡ get_or (read s rs) k none
  pub totals-sum : total_pieces (functions_in (module_of bytes t) t (read u us) after) ≡ totals_sum (read u us)
  pub unwalked : (g : ℕ) → g < length (module_of bytes t).functions → has_total after g ≡ false → total_count t g (read u us) ≡ 0

abbrev pub PrunerBy : (bytes t s rs b : List ℕ) → (u us : List ℕ) (after : MarkTotals) → Maybe ⊤ → Type 0
PrunerBy bytes t s rs b u us after (Some ok) = PrunerIs bytes t s rs b u us after
PrunerBy bytes t s rs b u us after None = read_pruner (module_of bytes t) b ≡ refused 19

pub record PrunerWasRead (bytes t s rs b u us : List ℕ) (after : MarkTotals) (r : Maybe ⊤) : Type 0 where
  pub kept : Kept s u
  pub long : length us ≡ length rs
  pub by : PrunerBy bytes t s rs b u us after r

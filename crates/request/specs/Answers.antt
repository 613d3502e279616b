-- What the answers of the reading code mean: 01's number, or what was read, by what its pieces mean in the store.
use Rattle.std.specs.Prelude.{ℕ, ◌+◌, ◌-◌, ◌*◌, ◌≤◌, ◌<◌, ◌≡◌, cond, List, ◌∷◌, length, drop, Option as Maybe, Some, None, Result, Ok, Err}
use Rattle.std.specs.Borrow.{Bor}
use Rattle.std.proofs.Math.Option.{Option, some, none as nothing}
use Rattle.field.specs.Limits.{absent}
use Rattle.field.specs.Refusal.{number}
use Rattle.field.specs.declared.refusal.Refusal.{Refusal}
use Rattle.part.specs.PartReq.{PartReq}
use Rattle.part.specs.StoreLimits.{cell_words, table_words}
use Rattle.part.specs.Store.{top, part, Kept}
use Rattle.context.specs.RequiredContext.{variable}
use Rattle.request.specs.Fields.{fields, Read, malformed, got, Answer, refused, accepted}
use Rattle.request.specs.Request.{Request as Asking, asking, all_below}
use Rattle.request.specs.declared.requests.Request.{Request as Asked}

-- c are the bytes b from some place on
pub record Tail (b c : List ℕ) : Type 0 where
  pub inside : length c ≤ length b
  pub is : c ≡ drop (length b - length c) b

-- the bytes b begin with the field i, and c are the bytes that are left
pub record Field (b : List ℕ) (i : ℕ) (c : List ℕ) : Type 0 where
  pub is : fields b ≡ i ∷ fields c
  pub left : 2 + length c ≡ length b
  pub tail : Tail b c

-- the answer of `field`
abbrev pub FieldRead : (b : List ℕ) → Maybe (ℕ × Bor (List ℕ)) → Type 0
FieldRead b None = length b < 2
FieldRead b (Some p) = Field b p.0 p.1.now

-- Room in the store s for what the bytes of b can say: an entry has at least four bytes, and takes a cell, of fewer than eight words.
abbrev pub RoomFor : (s b : List ℕ) → Type 0
RoomFor s b = cell_words * top s + table_words + 2 * length b ≤ length s

-- Of b the bytes c are left: of those between, but for k, t has a cell more than s for every four at most.
pub record Spent (s t b : List ℕ) (k : ℕ) (c : List ℕ) : Type 0 where
  pub further : k + length c ≤ length b
  pub cost : 4 * top t + (k + length c) ≤ 4 * top s + length b
  pub tail : Tail b c

-- the answer of `read_part`
abbrev pub part_read : (t : List ℕ) → Maybe (ℕ × Bor (List ℕ)) → Read PartReq
part_read t None = malformed
part_read t (Some p) = got (part t p.0) (fields p.1.now)

abbrev pub PartPlaced : (s t b : List ℕ) → ℕ → Maybe (ℕ × Bor (List ℕ)) → Type 0
PartPlaced s t b k None = Unit {0}
PartPlaced s t b k (Some p) = (p.0 < top t) × Spent s t b k p.1.now

-- from the store s, t was left, and the answer says r; but for k bytes
pub record PartWasRead (s t b : List ℕ) (k : ℕ) (r : Read PartReq) (a : Maybe (ℕ × Bor (List ℕ))) : Type 0 where
  pub kept : Kept s t
  pub is : part_read t a ≡ r
  pub placed : PartPlaced s t b k a

-- a piece that may be nothing
abbrev pub optional : List ℕ → Maybe ℕ → Option PartReq
optional t None = nothing
optional t (Some n) = some (part t n)

abbrev pub Held : List ℕ → Maybe ℕ → Type 0
Held t None = Unit {0}
Held t (Some n) = n < top t

-- the answer of `read_return` and of `read_variables`
abbrev pub option_read : (t : List ℕ) → Maybe (Maybe ℕ × Bor (List ℕ)) → Read (Option PartReq)
option_read t None = malformed
option_read t (Some p) = got (optional t p.0) (fields p.1.now)

abbrev pub OptionPlaced : (s t b : List ℕ) → Maybe (Maybe ℕ × Bor (List ℕ)) → Type 0
OptionPlaced s t b None = Unit {0}
OptionPlaced s t b (Some p) = Held t p.0 × Spent s t b 0 p.1.now

pub record OptionWasRead (s t b : List ℕ) (r : Read (Option PartReq)) (a : Maybe (Maybe ℕ × Bor (List ℕ))) : Type 0 where
  pub kept : Kept s t
  pub is : option_read t a ≡ r
  pub placed : OptionPlaced s t b a

-- a list of variables, or nothing where one of them is not below `limit`
unfoldable pub sorted : (limit : ℕ) → Read PartReq → Read (Option PartReq)
sorted limit malformed = malformed
sorted limit (got q fs) = got (cond (all_below (variable limit) q) (some q) nothing) fs

-- the same where one of them is known not to be
unfoldable pub skimmed : Read PartReq → Read (Option PartReq)
skimmed malformed = malformed
skimmed (got q fs) = got nothing fs

-- the answer of `read_request`
abbrev pub request_answer : List ℕ → Result Asked Refusal → Answer Asking
request_answer t (Err e) = refused (number e)
request_answer t (Ok q) = accepted (asking q.function.0 (optional t q.retval) (part t q.globals))

-- its pieces are there, and of n bytes were made a cell for every four at most
abbrev pub RequestHeld : (s t : List ℕ) → ℕ → Result Asked Refusal → Type 0
RequestHeld s t n (Err e) = Unit {0}
RequestHeld s t n (Ok q) = Held t q.retval × (q.globals < top t) × (4 * top t ≤ 4 * top s + n)

pub record RequestWasRead (s t : List ℕ) (n : ℕ) (r : Answer Asking) (a : Result Asked Refusal) : Type 0 where
  pub kept : Kept s t
  pub is : request_answer t a ≡ r
  pub held : RequestHeld s t n a

-- the numbers of variables, none of which is `absent`
pub record Limits (globals args locals : ℕ) : Type 0 where
  pub globals_fit : globals ≤ absent
  pub args_fit : args ≤ absent
  pub locals_fit : locals ≤ absent

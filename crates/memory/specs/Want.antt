-- A part by value: the part in a slot, the positions of the entries on the way down into it, and the indexes wrapped around what is found there.
use Rattle.std.specs.Prelude.{ℕ, zero, suc, ◌+◌, ◌-◌, ◌*◌, ◌<◌, ◌≤◌, ◌≡◌, Bool, false, List, length, get_or, set, replicate, Option, Some, None}
use Rattle.field.specs.Limits.{max_depth}
use Rattle.part.specs.PartReq.{PartReq, all, exist, none, more, depth, over, is_all, is_exist}
use Rattle.part.specs.Store.{part}
use Rattle.memory.specs.Layout.{globals_slot}
use Rattle.memory.specs.declared.want.Want.{Want}

-- the requirement of the first entry, and the entries after it
unfoldable pub kid : PartReq → PartReq
kid all = none
kid exist = none
kid none = none
kid (more i c r) = c

unfoldable pub after : PartReq → PartReq
after all = none
after exist = none
after none = none
after (more i c r) = r

-- the entries after the first k
unfoldable pub tail : PartReq → ℕ → PartReq
tail p zero = p
tail p (suc k) = after (tail p k)

-- the first k steps down
unfoldable pub downs : List ℕ → ℕ → PartReq → PartReq
downs path zero p = p
downs path (suc k) p = kid (tail (downs path k p) (get_or path k 0))

-- the first k wraps
unfoldable pub wraps : List ℕ → ℕ → PartReq → PartReq
wraps path zero p = p
wraps path (suc k) p = more (get_or path (max_depth + k) 0) (wraps path k p) none

abbrev pub core : Want → PartReq → PartReq
core w p = downs w.path w.down p

-- the part that w asks, where its slot has p
unfoldable pub asks : Want → PartReq → PartReq
asks w p = wraps w.path w.up (core w p)

-- the part of the slot k
abbrev pub want_of : ℕ → Want
want_of k = record { slot = k; path = replicate (2 * max_depth) 0; down = 0; up = 0 }

abbrev pub wrapped : Want → ℕ → Want
wrapped w i = record { slot = w.slot; path = set w.path (max_depth + w.up) i; down = w.down; up = w.up + 1 }

abbrev pub inside : Want → ℕ → Want
inside w k = record { slot = w.slot; path = set w.path w.down k; down = w.down + 1; up = w.up }

abbrev pub popped : Want → Want
popped w = record { slot = w.slot; path = w.path; down = w.down; up = w.up - 1 }

-- d, where anything was done
abbrev pub once : ℕ → ℕ → ℕ
once zero d = 0
once (suc n) d = d

-- w is well formed, where its slot has p, and asks nothing that passes a limit
pub record Asking (w : Want) (p : PartReq) : Type 0 where
  pub long : length w.path ≡ 2 * max_depth
  pub slot : w.slot < globals_slot
  pub deep : w.down + once w.down (depth (core w p)) ≤ max_depth
  pub high : w.up + once w.up (depth (core w p)) ≤ max_depth
  pub fine : over (asks w p) ≡ false

-- whether p is all, or exist, by the number of that piece
abbrev pub is_plain : ℕ → PartReq → Bool
is_plain zero p = is_all p
is_plain (suc n) p = is_exist p

-- the part that w asks of the slots rs
abbrev pub asked : List ℕ → List ℕ → Want → PartReq
asked s rs w = asks w (part s (get_or rs w.slot 0))

abbrev pub Wants : List ℕ → List ℕ → Want → Type 0
Wants s rs w = Asking w (part s (get_or rs w.slot 0))

-- the index of the first entry of a requirement, if it has one
abbrev pub first : PartReq → Option ℕ
first all = None
first exist = None
first none = None
first (more i p r) = Some i

-- u asks what the entry k of what w asks has
pub record Child (s rs : List ℕ) (w : Want) (k : ℕ) (u : Want) : Type 0 where
  pub wants : Wants s rs u
  pub is : asked s rs u ≡ kid (tail (asked s rs w) k)

-- the slots that parts by value name mean what they meant
pub record Still (s rs t us : List ℕ) : Type 0 where
  pub slot : (k : ℕ) → k < globals_slot → part t (get_or us k 0) ≡ part s (get_or rs k 0)

-- What the answer of `swizzle` says.
use Rattle.std.specs.Prelude.{ℕ, zero, suc, ◌+◌, ◌<◌, ◌≤◌, ◌≡◌, false, List, length, get_or, Option, Some, None}
use Rattle.part.specs.PartReq.{PartReq, all, exist, none, more, entries, over}
use Rattle.part.specs.Store.{part}
use Rattle.context.specs.Swizzle.{Swizzled, asks, panics, collected}
use Rattle.memory.specs.Layout.{globals_slot}
use Rattle.memory.specs.Flat.{digits_from}
use Rattle.memory.specs.Want.{tail}

-- the digit of a component that is asked p of
unfoldable pub digit_of : PartReq → ℕ
digit_of all = 1
digit_of exist = 2
digit_of none = 0
digit_of (more i p r) = 0

-- a digit but for 0
abbrev pub some_digit : ℕ → Option ℕ
some_digit zero = None
some_digit (suc d) = Some (suc d)

-- four letters, 0 to 3
pub record Letters (pattern : List ℕ) : Type 0 where
  pub low : (i : ℕ) → i < 4 → get_or pattern i 0 < 4

-- four digits, 0 to 2
pub record FourDigits (digits : List ℕ) : Type 0 where
  pub long : length digits ≡ 4
  pub small : (i : ℕ) → i < 4 → get_or digits i 0 < 3

-- of the slots rs, the answer says that the swizzle asks what a slot has, which passes no limit, or panics
abbrev pub Picking : List ℕ → List ℕ → Swizzled → Option ℕ → Type 0
Picking s rs r None = r ≡ panics
Picking s rs r (Some k) = (k < globals_slot) × ((over (part s (get_or rs k 0)) ≡ false) × (r ≡ asks (part s (get_or rs k 0))))

pub record Picks (s rs : List ℕ) (r : Swizzled) (a : Option ℕ) : Type 0 where
  pub by : Picking s rs r a

-- what is left of the entries, from the entry k on, gives the whole
pub record Picking-on (pattern : List ℕ) (p : PartReq) (total : Swizzled) (k : ℕ) (digits : List ℕ) : Type 0 where
  pub rest : collected pattern (tail p k) (digits_from 0 digits) ≡ total
  pub few : k + entries (tail p k) ≤ entries p
  pub four : FourDigits digits

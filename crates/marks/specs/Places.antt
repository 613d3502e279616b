-- Where the marks of each function and of each statement stand in a buffer, and the tables that say so.
use Rattle.std.specs.Prelude.{◌≡◌, Bool, not, List, ℕ, zero, suc, ◌+◌, ◌-◌, ◌<◌, ◌≤◌, eqb, length, get_or, set, take, drop}
use Rattle.field.specs.Limits.{max_functions}
use Rattle.module.specs.Module.{FunctionHandle, Module}
use Rattle.module.specs.Marks.{marks_before}
use Rattle.module.specs.Decode.{tab}
use Rattle.module.specs.Tables.{function_of, module_of}
use Rattle.access.specs.Access.{statement_number}
use Rattle.walk.specs.Resolve.{function_at}
use Rattle.walk.specs.Marks.{stretch}
use Rattle.marks.specs.declared.places.MarkPlaces.{MarkPlaces}

-- n bytes from `from` on
abbrev pub slice : List ℕ → (from n : ℕ) → List ℕ
slice xs from n = take n (drop from xs)

-- a function's marks begin behind those of the functions before it
unfoldable pub start_of : Module → FunctionHandle → ℕ
start_of m zero = 0
start_of m (suc f) = start_of m f + stretch m f

-- a statement's among them
abbrev pub mark_place : Module → FunctionHandle → (s : ℕ) → ℕ
mark_place m f s = start_of m f + marks_before (function_at m f).statements s

-- the tables in two slices
abbrev pub places_of : (starts firsts : List ℕ) → MarkPlaces
places_of starts firsts = record { starts = starts; firsts = firsts }

-- where a function's marks begin by the tables, and how many they are
abbrev pub start_in : (starts : List ℕ) → FunctionHandle → ℕ
start_in starts f = get_or starts f 0

abbrev pub size_in : (starts : List ℕ) → FunctionHandle → ℕ
size_in starts f = start_in starts (f + 1) - start_in starts f

-- the tables of a module that was read
pub record Places (bytes t : List ℕ) (places : MarkPlaces) : Type 0 where
  pub long : max_functions < length places.starts
  pub starts : (f : ℕ) → f ≤ length (module_of bytes t).functions → start_in places.starts f ≡ start_of (module_of bytes t) f
  pub statements : (f s : ℕ) → f < length (module_of bytes t).functions → s < length (function_of bytes t f).statements → get_or places.firsts (statement_number t f s) 0 ≡ mark_place (module_of bytes t) f s

-- the table of the statements with the places of the first n of f
unfoldable pub placed_in : (bytes t : List ℕ) → FunctionHandle → (firsts : List ℕ) → (n : ℕ) → List ℕ
placed_in bytes t f firsts zero = firsts
placed_in bytes t f firsts (suc s) = set (placed_in bytes t f firsts s) (statement_number t f s) (mark_place (module_of bytes t) f s)

-- the marks of f lie within `top` bytes
pub record Inside (starts : List ℕ) (f top : ℕ) : Type 0 where
  pub entry : f + 1 < length starts
  pub ascends : start_in starts f ≤ start_in starts (f + 1)
  pub within : start_in starts (f + 1) ≤ top

-- those of n functions do, one behind the other
pub record AllInside (starts : List ℕ) (n top : ℕ) : Type 0 where
  pub first : start_in starts 0 ≡ 0
  pub each : (f : ℕ) → f < n → Inside starts f top

-- which of the slots from `from` on have a record: a slot of an expression has the empty part, the piece 2, or a record
unfoldable pub recorded_in : (slots : List ℕ) → (from n : ℕ) → List Bool
recorded_in slots from n = tab n (λ i. not (eqb (get_or slots (from + i) 0) 2))

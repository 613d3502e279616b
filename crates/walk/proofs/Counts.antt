-- What 16 counts of records and totals: of none, of one more, of records joined, of a total set; each by induction over the list.
use mathlib.Core.Path.{◌≡◌, refl}
use mathlib.Core.List.{List, [], ◌∷◌}
use mathlib.Core.Option.{Option, some, none as nothing}
use Prim.Native.Nat.{ℕ, zero, suc, ◌+◌, ◌<◌, ◌≤◌}
use native.Mathlib.Omega.{arith}
use lib.ListN.{length, get_or, set, replicate}
use Rattle.part.specs.PartReq.{PartReq, entries}
use Rattle.walk.specs.State.{Records, FunctionReq, State, record_pieces, function_pieces, total_pieces, count}
use Rattle.walk.specs.Function.{latest, extend}

-- what one record counts for
abbrev pub record_piece : Option PartReq → ℕ
record_piece nothing = 0
record_piece (some p) = suc (entries p)

pub record_pieces-∷ : (o : Option PartReq) (es : Records) → record_pieces (o ∷ es) ≡ record_piece o + record_pieces es
unfolding record_pieces
record_pieces-∷ nothing es = omega arith
record_pieces-∷ (some p) es = refl

-- no records yet
pub record_pieces-replicate : (n : ℕ) → record_pieces (replicate n nothing) ≡ 0
unfolding record_pieces
record_pieces-replicate zero = refl
record_pieces-replicate (suc n) = record_pieces-replicate n

record_pieces-[] : record_pieces [] ≡ 0
unfolding record_pieces
record_pieces-[] = refl

latest-le : (old new : Option PartReq) → record_piece (latest old new) ≤ record_piece old + record_piece new
unfolding latest
latest-le old nothing = omega arith
latest-le old (some p) = omega arith

-- records joined count for no more than both
pub record_pieces-extend : (es news : Records) → record_pieces (extend es news) ≤ record_pieces es + record_pieces news
unfolding extend
record_pieces-extend [] news = rw record_pieces-[] (omega arith)
record_pieces-extend (o ∷ es) [] = omega arith
record_pieces-extend (o ∷ es) (n ∷ news) =
    let ih = record_pieces-extend es news in
    let one = latest-le o n in
    rw (record_pieces-∷ (latest o n) (extend es news), record_pieces-∷ o es, record_pieces-∷ n news) (omega arith)

-- a function's total set
pub total_pieces-set : (fs : List (Option FunctionReq)) (f : ℕ) (o : Option FunctionReq) → f < length fs → total_pieces (set fs f o) + function_pieces (get_or fs f nothing) ≡ total_pieces fs + function_pieces o
unfolding total_pieces
total_pieces-set [] f o h = absurd (omega arith)
total_pieces-set (x ∷ fs) zero o h = omega arith
total_pieces-set (x ∷ fs) (suc f) o h = let ih = total_pieces-set fs f o (omega arith) in omega arith

-- what is the state's own, beside what is held
abbrev pub own : State → ℕ
own st = count 0 st

pub count_held : (held : ℕ) (st : State) → count held st ≡ held + own st
unfolding count
count_held held st = omega arith

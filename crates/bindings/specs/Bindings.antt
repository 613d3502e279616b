-- Sets of bindings, the Rust's `HashSet<Binding>`: a number, whose bit b says whether the binding b is in it.
use Rattle.std.specs.Prelude.{ℕ, zero, suc, ◌^◌, ◌/◌, ◌%◌, ◌<◌, Bool, cond, List, [], ◌∷◌, ◌++◌, eqb, length, get_or}
use Rattle.std.proofs.Math.Option.{Option, some, none as nothing}
use Rattle.std.specs.Int.Bits.{bit_or}
use Rattle.module.specs.Module.{Binding}
use Rattle.module.specs.Operands.{bindings}

abbrev pub Bindings : Type 0
Bindings = ℕ

abbrev pub empty : Bindings
empty = 0

abbrev pub single : Binding → Bindings
single b = 2 ^ b

abbrev pub union : Bindings → Bindings → Bindings
union s t = bit_or s t

-- whether the binding is in the set
abbrev pub contains : Bindings → Binding → Bool
contains s b = eqb (s / 2 ^ b % 2) 1

-- the binding of a member, an argument or a result, where it has one
unfoldable pub own_binding : Option Binding → Bindings
own_binding nothing = empty
own_binding (some b) = single b

-- the set of what stands in a list
unfoldable pub set_of : List Binding → Bindings
set_of [] = empty
set_of (b ∷ bs) = union (single b) (set_of bs)

-- the bindings below n that are in the set, ascending
unfoldable pub list_below : ℕ → Bindings → List Binding
list_below zero s = []
list_below (suc n) s = cond (contains s n) (list_below n s ++ (n ∷ [])) (list_below n s)

-- 01 calls it the bindings list; its length is its count.
abbrev pub list_of : Bindings → List Binding
list_of s = list_below bindings s

abbrev pub Ascends : List Binding → Type 0
Ascends l = (i j : ℕ) → i < j → j < length l → get_or l i 0 < get_or l j 0

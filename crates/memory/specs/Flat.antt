-- The flat parts: of the components 0 to 3, each is not asked, asked whole, or asked to be there. A part has a digit for each: 0, 1, 2, and its code
-- is the number with these digits, the first the lowest.
use Rattle.std.specs.Prelude.{ℕ, zero, suc, ◌+◌, ◌*◌, ◌/◌, ◌%◌, List, [], ◌∷◌}
use Rattle.part.specs.PartReq.{PartReq, all, exist, none, more}

-- the entry k with the digit d, then r
unfoldable pub entry_of : ℕ → ℕ → PartReq → PartReq
entry_of k zero r = r
entry_of k (suc zero) r = more k all r
entry_of k (suc (suc d)) r = more k exist r

-- the flat part with n digits of the code c, from the component k on
unfoldable pub flat_from : (k n c : ℕ) → PartReq
flat_from k zero c = none
flat_from k (suc n) c = entry_of k (c % 3) (flat_from (suc k) n (c / 3))

-- the flat part of a code
abbrev pub flat_of : ℕ → PartReq
flat_of c = flat_from 0 4 c

-- the part of a list of digits, from the component k on, and their code
unfoldable pub digits_from : ℕ → List ℕ → PartReq
digits_from k [] = none
digits_from k (d ∷ ds) = entry_of k d (digits_from (suc k) ds)

unfoldable pub code : List ℕ → ℕ
code [] = 0
code (d ∷ ds) = d + 3 * code ds

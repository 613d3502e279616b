-- Records of 16-bit fields, little-endian, and what reading fields gives.
use Rattle.std.specs.Prelude.{ℕ, ◌+◌, ◌*◌, ◌/◌, ◌%◌, Bool, ◌&&◌, List, [], ◌∷◌, leb, eqb, length, get_or}
use Rattle.std.proofs.Math.Option.{Option, some, none as nothing}

-- the fields that bytes hold, two bytes each
unfoldable pub fields : List ℕ → List ℕ
fields [] = []
fields (b ∷ []) = []
fields (b ∷ (c ∷ bs)) = (b + 256 * c) ∷ fields bs

-- a number as a field, which has 16 bits. Of a variable's index, `spine + n`, that is n.
abbrev pub as_field : ℕ → ℕ
as_field n = n % 65536

-- the bytes of fields
unfoldable pub bytes_of : List ℕ → List ℕ
bytes_of [] = []
bytes_of (f ∷ fs) = (f % 256) ∷ (f / 256 ∷ bytes_of fs)

-- Whether bytes are one record and nothing more: the mark's letters a and b, a header of `head` bytes, and the body, an even number
-- of bytes, as many as the header says.
unfoldable pub framed : (a b head long : ℕ) → List ℕ → Bool
framed a b head long s =
    leb head (length s) && eqb (get_or s 0 0) a && eqb (get_or s 1 0) b && eqb (head + long) (length s) && eqb (long % 2) 0

-- What the first of some fields say, with the fields after them; or no such thing.
pub data Read (A : Type 0) : Type 0 where
  malformed : Read A
  got : A → List ℕ → Read A

abbrev pub ◌>>=◌ : {A B : Type 0} → Read A → (A → List ℕ → Read B) → Read B
◌>>=◌ malformed f = malformed
◌>>=◌ (got a fs) f = f a fs

infixl 20 ◌>>=◌
-- what the fields say where none is left over
unfoldable pub whole : {A : Type 0} → Read A → Option A
whole malformed = nothing
whole (got a []) = some a
whole (got a (f ∷ fs)) = nothing

-- What an operation answers: a refusal by 01's number, or what it made.
pub data Answer (A : Type 0) : Type 0 where
  refused : ℕ → Answer A
  accepted : A → Answer A

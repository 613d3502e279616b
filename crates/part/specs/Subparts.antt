-- A subpart, or the empty part where there is none, and the piece that means a part.
use Rattle.std.specs.Prelude.{ℕ, ◌<◌, ◌≡◌, List}
use Rattle.part.specs.PartReq.{PartReq, none, Subpart, gone, there}
use Rattle.part.specs.Store.{top, part}

abbrev pub or_none : Subpart → PartReq
or_none gone = none
or_none (there p) = p

-- r is a piece, and means p
pub record Piece (s : List ℕ) (p : PartReq) (r : ℕ) : Type 0 where
  pub piece : r < top s
  pub is : part s r ≡ p

-- What `get` found, or the empty part, is the subpart or none: by cases of its answer.
use Prim.Native.Nat.{ℕ}
use native.Mathlib.Omega.{arith}
use mathlib.Core.List.{List}
use Rattle.std.specs.Prelude.{Option, Some, None, unwrap_or}
use Rattle.part.specs.PartReq.{Subpart}
use Rattle.part.specs.Store.{Good}
use Rattle.part.specs.Found.{Got}
use Rattle.part.specs.Subparts.{or_none, Piece}
use Rattle.part.proofs.Pieces.{part-2}

pub subpart_found : {s : List ℕ} (q : Subpart) (f : Option ℕ) → Good s → Got s q f → Piece s (or_none q) (unwrap_or f 2)
subpart_found {s} q None g h = record { piece = omega (arith, g.base); is = rw h (part-2 s) }
subpart_found q (Some n) g h = record { piece = h.0; is = rw h.1 }

-- Needs never ask for all of the frame, nor for all of one of its maps: globals, locals, arguments, or 32 expressions. So taking out splits nothing there.
use Rattle.std.specs.Prelude.{◌≡◌, false}
use Rattle.part.specs.PartReq.{PartReq, all, exist, none, more, is_all}

abbrev pub Framed : PartReq → Type 0
Framed all = ⊥
Framed exist = Unit {0}
Framed none = Unit {0}
Framed (more i p r) = (is_all p ≡ false) × Framed r

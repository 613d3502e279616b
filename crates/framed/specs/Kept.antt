-- What every need of a pass is: trimmed to the frame, with ascending indexes, and never all of the frame or of one of its maps. And which asks keep it so.
use Rattle.std.specs.Prelude.{◌<◌, List, [], ◌∷◌}
use Rattle.part.specs.PartReq.{PartReq, spine}
use Rattle.part.specs.Ascending.{Ascending}
use Rattle.clearance.specs.Scope.{Scope, Place, frame}
use Rattle.clearance.specs.Needs.{Ask, of_value, of_place}
use Rattle.clearance.specs.IsNeed.{IsNeed}
use Rattle.needs.specs.Framed.{Framed}

pub record Kept (S : Scope) (n : PartReq) : Type 0 where
  pub need : IsNeed (frame S) n
  pub framed : Framed n

-- a place that lies below one of the frame's maps, or outside the frame
abbrev pub Deep : Place → Type 0
Deep [] = ⊥
Deep (i ∷ []) = i < spine
Deep (i ∷ j ∷ q) = Unit {0}

abbrev pub AskFine : Ask → Type 0
AskFine (of_value e a) = Ascending a
AskFine (of_place p a) = Deep p × Ascending a

abbrev pub AsksFine : List Ask → Type 0
AsksFine [] = Unit {0}
AsksFine (x ∷ xs) = AskFine x × AsksFine xs

-- What stands for each exit: the exits that three flags allow, and where the exits of what a statement holds lead.
use Rattle.std.specs.Prelude.{Bool, true}
use Rattle.clearance.specs.Needs.{Exit, next, broke, continued, returned}
use Rattle.strays.specs.declared.exits.Exits.{Exits}

unfoldable pub exits_of : Exits Bool → Exit → Bool
exits_of e next = true
exits_of e broke = e.broke
exits_of e continued = e.continued
exits_of e returned = e.returned

-- in a switch's case and in a loop's continuing block
abbrev pub case_to : {A : Type 0} → A → Exits A → Exits A
case_to after e = record { broke = after; continued = e.continued; returned = e.returned }

-- in a loop's body
abbrev pub body_to : {A : Type 0} → A → A → Exits A → Exits A
body_to after again e = record { broke = after; continued = again; returned = e.returned }

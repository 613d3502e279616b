-- What three flags allow is what the definition allows, exit by exit.
use mathlib.Core.Path.{◌≡◌, refl, fun_ext}
use mathlib.Core.Bool.{Bool, true, false}
use Rattle.clearance.specs.Needs.{Exit, next, broke, continued, returned, only_next}
use Rattle.clearance.specs.Judged.{at_top, in_case, in_body}
use Rattle.strays.specs.declared.exits.Exits.{Exits}
use Rattle.strays.specs.Exits.{exits_of, case_to, body_to}

by_exit : (p q : Exit → Bool) → p next ≡ q next → p broke ≡ q broke → p continued ≡ q continued → p returned ≡ q returned → (x : Exit) → p x ≡ q x
by_exit p q a b c d next = a
by_exit p q a b c d broke = b
by_exit p q a b c d continued = c
by_exit p q a b c d returned = d

pub top_is : exits_of (record { broke = false; continued = false; returned = true }) ≡ at_top
unfolding exits_of at_top
top_is = fun_ext (by_exit _ _ refl refl refl refl)

pub none_is : exits_of (record { broke = false; continued = false; returned = false }) ≡ only_next
unfolding exits_of only_next
none_is = fun_ext (by_exit _ _ refl refl refl refl)

module _ (e : Exits Bool) {x : Exits Bool} where
  pub case_is : x ≡ case_to true e → exits_of x ≡ in_case (exits_of e)
  unfolding exits_of in_case
  case_is h = rw h (fun_ext (by_exit _ _ refl refl refl refl))

  pub body_is : x ≡ body_to true true e → exits_of x ≡ in_body (exits_of e)
  unfolding exits_of in_body
  body_is h = rw h (fun_ext (by_exit _ _ refl refl refl refl))

-- `forms::place::place_form` meets its contract: by the kind.
use Rattle.std.proofs.Common.{rules}
use Rattle.forms.proofs.Places.{framed_by, place_few, place_global, place_local, place_evaluated}
use native.Mathlib.Omega.{arith}
use Rattle.forms.proofs.place.place_form.Goals as goal

pub returns-in-0 : goal.returns-in-0
returns-in-0 c = place_global (framed_by c.requires.there c.requires.same) c.requires.k_bound.1 c.in-0.is c.global.ensures

pub returns-in-1 : goal.returns-in-1
returns-in-1 c = place_local (framed_by c.requires.there c.requires.same) c.requires.k_bound.1 c.in-1.is c.local.ensures

pub overflow_add-k : goal.overflow_add-k
overflow_add-k c = omega (arith, c.requires.k_bound.0, place_few (framed_by c.requires.there c.requires.same) c.requires.fact c.requires.k_bound.1)

pub returns-in_default : goal.returns-in_default
returns-in_default c = place_evaluated (framed_by c.requires.there c.requires.same) c.requires.k_bound.1 (search rules) (search rules) c.requires.fact c.type_of.ensures

-- `forms::take::members_around` meets its contract. The members from k on are there (`Placed`).
use Rattle.forms.proofs.Taking.{Placed}
use Rattle.forms.proofs.take.members_around.Given as goal

abbrev pub invariant-loop-k : goal.invariant-loop-k
invariant-loop-k l = Placed l.initial.cells l.cells l.n l.i l.d l.k l.r

-- `memory::memory::flats` meets its contract. Assumes nothing.
use Rattle.memory.specs.Memory.{Flats}
use Rattle.memory.proofs.memory.flats.Given as goal

abbrev pub invariant-loop-c : goal.invariant-loop-c
invariant-loop-c l = Flats l.initial.cells l.initial.slots l.cells l.slots l.c

-- `memory::memory::flat` meets its contract. Assumes nothing.
use Rattle.memory.proofs.memory.+flat.Given as goal

abbrev pub decreases-flat : goal.decreases-flat
decreases-flat l = l.n

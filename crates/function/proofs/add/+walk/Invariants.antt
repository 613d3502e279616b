-- The one proof of the walks of blocks, statements and functions: each need is answered by a law of crates block and arms. A number falls: that of the block among the blocks of its
-- function, below the numbers of all higher functions.
use Prim.Native.Nat.{◌*◌, ◌+◌}
use Rattle.arms.proofs.SwitchCases.{CasesGo}
use Rattle.arms.specs.Loops.{TurnsLeft}
use Rattle.block.proofs.Statements.{StatementsLeft}
use Rattle.block.specs.Standing.{state_in}
use Rattle.block.specs.Visiting.{block_in}
use Rattle.module.specs.Tables.{max_items}
use Rattle.memory.specs.Memory.{context_at, read}
use Rattle.function.proofs.add.+walk.Given as goal

abbrev pub invariant-add_block-loop-k : goal.invariant-add_block-loop-k
invariant-add_block-loop-k l = StatementsLeft l.world.typed.now.file.now.bytes l.world.typed.now.file.now.t l.world.typed.now.types.now l.world.places.now l.initial.space.parts.cells l.initial.space.parts.slots l.initial.space.open l.initial.space.totals l.f.0 l.b.0 l.base l.at l.held l.fn.began.sum (block_in l.world.typed.now.file.now.bytes l.world.typed.now.file.now.t l.f.0 l.b.0 l.held (context_at (read l.initial.space.parts.cells l.initial.space.parts.slots) l.base) l.break_required (state_in l.world.typed.now.file.now.bytes l.world.typed.now.file.now.t l.initial.space.parts.cells l.initial.space.parts.slots l.initial.space.open l.initial.space.totals l.f.0 l.at l.fn.began.visits)) l.first l.inner l.tally.visits l.tally.sum l.behind l.required l.k l.space.parts.cells l.space.parts.slots l.space.open l.space.totals

abbrev pub invariant-add_switch-loop-k : goal.invariant-add_switch-loop-k
invariant-add_switch-loop-k l = CasesGo l.world.typed.now.file.now.bytes l.world.typed.now.file.now.t l.world.typed.now.types.now l.world.places.now l.initial.space.parts.cells l.initial.space.parts.slots l.initial.space.open l.initial.space.totals l.fr l.row l.fn.began.sum l.fn.began.visits l.outside l.k l.any l.tally.sum l.tally.visits l.space.parts.cells l.space.parts.slots l.space.open l.space.totals

abbrev pub invariant-add_turns-loop-left : goal.invariant-add_turns-loop-left
invariant-add_turns-loop-left l = TurnsLeft l.world.typed.now.file.now.bytes l.world.typed.now.file.now.t l.world.typed.now.types.now l.world.places.now l.initial.space.parts.cells l.initial.space.parts.slots l.initial.space.open l.initial.space.totals l.fr l.b.0 l.body.0 l.continuing.0 l.fn.began.visits l.left l.tally.visits l.tally.sum l.space.parts.cells l.space.parts.slots l.space.open l.space.totals

abbrev pub decreases-add_arm : goal.decreases-add_arm
decreases-add_arm l = 8 * (max_items * l.fr.function.0 + l.b.0) + 5

abbrev pub decreases-add_block : goal.decreases-add_block
decreases-add_block l = 8 * (max_items * l.f.0 + l.b.0) + 7

abbrev pub decreases-add_call : goal.decreases-add_call
decreases-add_call l = 8 * (max_items * l.fr.function.0 + l.b.0) + 3

abbrev pub decreases-add_function : goal.decreases-add_function
decreases-add_function l = 8 * (max_items * l.f.0 + max_items)

abbrev pub decreases-add_holder : goal.decreases-add_holder
decreases-add_holder l = 8 * (max_items * l.fr.function.0 + l.b.0) + 4

abbrev pub decreases-add_if : goal.decreases-add_if
decreases-add_if l = 8 * (max_items * l.fr.function.0 + l.b.0) + 3

abbrev pub decreases-add_loop : goal.decreases-add_loop
decreases-add_loop l = 8 * (max_items * l.fr.function.0 + l.b.0) + 3

abbrev pub decreases-add_nested : goal.decreases-add_nested
decreases-add_nested l = 8 * (max_items * l.fr.function.0 + l.b.0) + 3

abbrev pub decreases-add_pair : goal.decreases-add_pair
decreases-add_pair l = 8 * (max_items * l.f.0 + l.b.0) + 1

abbrev pub decreases-add_statement : goal.decreases-add_statement
decreases-add_statement l = 8 * (max_items * l.fr.function.0 + l.b.0) + 6

abbrev pub decreases-add_switch : goal.decreases-add_switch
decreases-add_switch l = 8 * (max_items * l.fr.function.0 + l.b.0) + 3

abbrev pub decreases-add_turns : goal.decreases-add_turns
decreases-add_turns l = 8 * (max_items * l.fr.function.0 + l.b.0) + 2

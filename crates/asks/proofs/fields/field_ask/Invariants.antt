-- `asks::fields::field_ask` meets its contract. The invariant: what is left of the fields gives the whole. Assumes nothing.
use Rattle.access.specs.Access.{operand_at}
use Rattle.memory.specs.Want.{asked}
use Rattle.asks.specs.Ways.{field_asks, fields, ways_of}
use Rattle.asks.proofs.FieldAsks.{Fields}
use Rattle.asks.proofs.fields.field_ask.Given as goal

abbrev pub invariant-loop-k : goal.invariant-loop-k
invariant-loop-k l = Fields l.ways (operand_at l.file.bytes l.row) (asked l.cells l.slots l.w) (field_asks fields (ways_of l.row.kind (operand_at l.file.bytes l.row 4)) (operand_at l.file.bytes l.row) 0 (asked l.cells l.slots l.w)) l.j l.skip l.k

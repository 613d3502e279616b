-- `from_indexes` meets its contract. After k turns the piece is the path of the first k indexes.
use Rattle.part.specs.PartReq.{from_first}
use Rattle.part.specs.Store.{Made}
use Rattle.part.proofs.req.from_indexes.Given as goal

abbrev pub invariant-loop-i : goal.invariant-loop-i
invariant-loop-i l = Made l.initial.cells l.cells (from_first l.indexes l.i-index) l.i-index l.n

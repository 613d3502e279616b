-- `reading::add::add` meets its contract: what is written, and each count.
use borrow.Author.Rules.{rules}
use mathlib.Core.Path.{◌≡◌}
use Prim.Native.Nat.{◌+◌}
use mir.Val.{bool_byte}
use Rattle.reading.specs.Progress.{counts_with, types_by, globals_by}
use Rattle.reading.proofs.add.add.Goals as goal

pub returns-clause-value : goal.returns-clause-value
unfolding counts_with types_by globals_by
returns-clause-value c =
    let types : c.args.c.types + bool_byte c.eq.result ≡ types_by c.args.rec.now.mark c.args.c.types = search rules in
    let globals : c.args.c.globals + bool_byte c.eq-2.result ≡ globals_by c.args.rec.now.mark c.args.c.globals = search rules in
    rw (c.stage_of.ensures, c.row_with.ensures, types, globals)

-- `context_bytes::check::is_context` meets its contract.
use mathlib.Core.Path.{◌∙◌}
use lib.ListN.{length}
use borrow.Author.Tests.{lt-leb}
use Rattle.request.proofs.Frame.{frame_short}
use Rattle.context_bytes.proofs.check.is_context.Goals as goal

pub returns-else-bytes-ge6 : goal.returns-else-bytes-ge6
returns-else-bytes-ge6 c =
    lt-leb 6 (length c.args.bytes.now) c.if-bytes-ge6.false ∙ frame_short _ _ _ _ _ c.if-bytes-ge6.false

-- `request::requests::is_request` meets its contract.
use mathlib.Core.Path.{◌∙◌}
use lib.ListN.{length}
use borrow.Author.Tests.{lt-leb}
use Rattle.request.proofs.Frame.{frame_short}
use Rattle.request.proofs.requests.is_request.Goals as goal

pub returns-else-bytes-ge4 : goal.returns-else-bytes-ge4
returns-else-bytes-ge4 c =
    lt-leb 4 (length c.args.bytes.now) c.if-bytes-ge4.false ∙ frame_short _ _ _ _ _ c.if-bytes-ge4.false

pub returns-then-bytes-ge4 : goal.returns-then-bytes-ge4
returns-then-bytes-ge4 c = c.is_record.ensures ∙ rw c.read.ensures

-- The proof of `request::lists::read_known`, which calls itself: fewer entries are left at each call. One law for each way.
use Rattle.request.proofs.lists.+read_known.Given as goal

abbrev pub decreases-read_known : goal.decreases-read_known
decreases-read_known l = l.n

-- `get` meets its contract: it stops at the first entry that is not below the index; those before it keep what is found (`Getting`).
use Rattle.std.proofs.Common.{◌<◌, ◌≤◌, rules}
use borrow.Author.Tests.{tests}
use Rattle.part.proofs.Listing.{found, missed}
use Rattle.part.proofs.Reading.{Getting, get_at, get_after, get_end}
use Rattle.part.proofs.req.get.Goals as goal

pub returns-in-Some : goal.returns-in-Some
returns-in-Some c =
    let j = c.args.j in
    let at = found _ (Getting c.args.cells.now c.args.a j) (λ x. x.index < j) (λ x. j ≤ x.index) get_after (λ x q k. search (rules, tests)) (λ x q k. search (rules, tests)) c.in-Some.ensures.ran (search rules) (search rules) in
    rw c.then_some.ensures (get_at at)

pub returns-in-None : goal.returns-in-None
returns-in-None c =
    let j = c.args.j in
    let end = missed _ (Getting c.args.cells.now c.args.a j) (λ x. x.index < j) (λ x. j ≤ x.index) get_after (λ x q k. search (rules, tests)) (λ x q k. search (rules, tests)) c.in-None.ensures.ran (search rules) (search rules) in
    rw c.then_some-in-None.ensures (get_end _ c.requires.good end.0 end.1)

-- `contains_entry` meets its contract: it stops at the first entry that is not below i; those before it keep the answer (`Passing`).
use Rattle.std.proofs.Common.{◌<◌, ◌≤◌, rules}
use borrow.Author.Tests.{tests}
use Rattle.part.proofs.Listing.{found, missed}
use Rattle.part.proofs.Entries.{Passing, passed_after, passed_end, passed_in, passed_bare, passed_at}
use Rattle.part.proofs.entry.contains_entry.Goals as goal

pub returns-in_default : goal.returns-in_default
returns-in_default c =
    let i = c.args.i in
    let end = missed _ (Passing c.args.cells.now c.args.m i c.args.p) (λ x. x.index < i) (λ x. i ≤ x.index) passed_after (λ x q k. search (rules, tests)) (λ x q k. search (rules, tests)) c.in_default.ensures.ran (search rules) (search rules) in
    passed_end _ end.0 end.1

pub returns-then-i-x : goal.returns-then-i-x
returns-then-i-x c =
    let i = c.args.i in
    let at = found _ (Passing c.args.cells.now c.args.m i c.args.p) (λ x. x.index < i) (λ x. i ≤ x.index) passed_after (λ x q k. search (rules, tests)) (λ x q k. search (rules, tests)) c.in-Some.ensures.ran (search rules) (search rules) in
    passed_bare at c.then-i-x.either

pub contains-requires-clause-a_bound : goal.contains-requires-clause-a_bound
contains-requires-clause-a_bound c =
    let i = c.args.i in
    let at = found _ (Passing c.args.cells.now c.args.m i c.args.p) (λ x. x.index < i) (λ x. i ≤ x.index) passed_after (λ x q k. search (rules, tests)) (λ x q k. search (rules, tests)) c.in-Some.ensures.ran (search rules) (search rules) in
    (passed_in at, c.requires.m_bound.1)

pub returns : goal.returns
returns c =
    let i = c.args.i in
    let at = found _ (Passing c.args.cells.now c.args.m i c.args.p) (λ x. x.index < i) (λ x. i ≤ x.index) passed_after (λ x q k. search (rules, tests)) (λ x q k. search (rules, tests)) c.in-Some.ensures.ran (search rules) (search rules) in
    passed_at at c.if-i-x.false c.if-x-eq-EXIST_PIECE.false c.contains.ensures

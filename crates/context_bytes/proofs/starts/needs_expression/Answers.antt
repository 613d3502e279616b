-- `needs_expression` meets its contract: it stops at an entry above the variables; those before it keep the answer (`Expressed`).
use Rattle.std.proofs.Common.{◌<◌, ◌≤◌, ◌∙◌, rules}
use borrow.Author.Tests.{tests}
use Rattle.clearance.specs.Scope.{variable}
use Rattle.part.proofs.Listing.{any_found, any_missed}
use Rattle.context_bytes.proofs.Starting.{Expressed, expressed_yes, expressed_on, expressed_end}
use Rattle.context_bytes.proofs.starts.needs_expression.Goals as goal

pub returns-then-any : goal.returns-then-any
returns-then-any c =
    let at = any_found _ (Expressed c.args.cells.now c.args.n) (λ x. x.index ≤ variable 3) (λ x. variable 3 < x.index) expressed_on (λ x q k. search (rules, tests)) (λ x q k. search (rules, tests)) c.if-any.ensures.ran (search rules) (search rules) in
    c.if-any.true ∙ expressed_yes {x = at.0} (at.1, at.2, at.3, at.4)

pub returns-else-any : goal.returns-else-any
returns-else-any c =
    let end = any_missed _ (Expressed c.args.cells.now c.args.n) (λ x. x.index ≤ variable 3) (λ x. variable 3 < x.index) expressed_on (λ x q k. search (rules, tests)) (λ x q k. search (rules, tests)) c.if-any.ensures.ran (search rules) (search rules) in
    expressed_end _ end.0 end.1

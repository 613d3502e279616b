-- `judge::unsized_types::holds_either` meets its contract: the type's entry, and of a pointer its pointee's.
use mathlib.Core.Path.{◌∙◌}
use borrow.Author.Rules.{rules}
use Rattle.judge.proofs.Unsized.{either_itself, either_pointee, either_none}
use Rattle.judge.proofs.unsized_types.holds_either.Goals as goal

pub returns-then-is_marked : goal.returns-then-is_marked
returns-then-is_marked c = c.if-is_marked.true ∙ either_itself _ _ _ c.is_marked.ensures c.if-is_marked.true

pub returns-then-eq : goal.returns-then-eq
returns-then-eq c =
    either_pointee _ _ _ c.is_marked.ensures c.if-is_marked.false c.kind_at.ensures (search rules) c.first_word.ensures c.is_marked-then-eq.ensures

pub returns-else-eq : goal.returns-else-eq
returns-else-eq c =
    c.if-eq.false ∙ either_none _ _ _ c.is_marked.ensures c.if-is_marked.false c.kind_at.ensures (search rules)

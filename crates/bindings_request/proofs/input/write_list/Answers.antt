-- `bindings_request::input::write_list` meets its contract: by how many pieces the context has.
use borrow.Author.Rules.{rules}
use Rattle.bindings_request.proofs.Needing.{given_many, given_list}
use Rattle.bindings_request.proofs.input.write_list.Goals as goal

pub returns-then-count_context-gt-MAX_PIECES : goal.returns-then-count_context-gt-MAX_PIECES
returns-then-count_context-gt-MAX_PIECES c =
    rw c.into.ensures (given_many _ _ c.count_context.ensures c.if-count_context-gt-MAX_PIECES.true)

pub returns : goal.returns
returns c = given_list _ _ c.count_context.ensures (search rules) c.requires c.list.ensures

-- `statement::stores::ask_fields` meets its contract. Assumes nothing.
use Rattle.statement.proofs.Fields.{fields_asked}
use Rattle.statement.proofs.stores.ask_fields.Goals as goal

pub returns : goal.returns
returns c =
    fields_asked c.requires _ c.then_ask-a.ensures c.then_maybe-b.ensures c.then_maybe-c.ensures c.then_ask.ensures

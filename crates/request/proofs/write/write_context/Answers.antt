-- `request::write::write_context` meets its contract: the body, then the header before it.
use Rattle.request.proofs.ContextBytes.{body_room, head_room, end_is, context_written}
use mathlib.Core.Path.{◌∙◌}
use borrow.Author.Rules.{rules}
use Rattle.request.proofs.write.write_context.Goals as goal

pub write_context_body-requires : goal.write_context_body-requires
write_context_body-requires c =
    record { good = c.requires.good; has_context = c.requires.has_context; fits = body_room c.args.cells.now c.args.out.now c.args.c c.requires.c_in_bounds.0 }

pub head-requires : goal.head-requires
head-requires c = head_room c.args.cells.now c.args.out.now c.args.c c.requires.c_in_bounds.0 c.write_context_body.ensures.written c.requires.c_in_bounds.1

pub returns : goal.returns
returns c = (search rules ∙ context_written c.args.cells.now c.args.out.now c.args.c c.requires.c_in_bounds.0 c.write_context_body.ensures.written c.head.ensures.is, c.head.ensures.at_is ∙ end_is c.args.cells.now c.args.out.now c.args.c c.requires.c_in_bounds.0 c.write_context_body.ensures.written)

-- `operands::indexes::ask_member` meets its contract.
use mathlib.Core.Path.{refl}
use Rattle.operands.proofs.Members.{member_source, member_given, member_all}
use Rattle.operands.proofs.indexes.ask_member.Goals.{in-Argument, in-Evaluated}
use Rattle.operands.proofs.indexes.ask_member.Goals as goal

pub returns-in-Given : goal.returns-in-Given
returns-in-Given c = member_given c.requires.list_given (member_source c.requires.list_given c.source_of.ensures c.in-Given.is)

pub returns : goal.returns
returns c =
    elim c.match-source_of.branch [
      | in-Argument w ↦ member_all c.requires.list_given (member_source c.requires.list_given c.source_of.ensures w.in-Argument.is) w.argument_path.ensures refl (rw w.path-is at c.ask_place.ensures)
      | in-Evaluated w ↦ member_all c.requires.list_given (member_source c.requires.list_given c.source_of.ensures w.in-Evaluated.is) w.evaluated_path.ensures refl (rw w.path-is at c.ask_place.ensures)
    ]

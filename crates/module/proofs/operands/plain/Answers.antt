-- `module::operands::plain` meets its contract, class by class.
use Rattle.module.specs.Decode.{level_handles, mode_handles}
use Rattle.module.specs.Operands.{taken}
use Rattle.module.specs.Packed.{meant}
use Rattle.module.specs.Tables.{scope_in}
use Rattle.module.specs.Scan.{pass_of}
use Rattle.module.proofs.operands.plain.Goals as goal

pub returns-in-Expression-clause-took : goal.returns-in-Expression-clause-took
unfolding meant taken scope_in pass_of
returns-in-Expression-clause-took c = rw c.in-Expression.is c.one.ensures.took

pub returns-in-Optional-clause-took : goal.returns-in-Optional-clause-took
unfolding meant taken scope_in pass_of
returns-in-Optional-clause-took c = rw c.in-Optional.is c.one-in-Optional.ensures.took

pub returns-in-Index-clause-took : goal.returns-in-Index-clause-took
unfolding meant taken scope_in pass_of
returns-in-Index-clause-took c = rw c.in-Index.is c.one-in-Index.ensures.took

pub returns-in-List-clause-took : goal.returns-in-List-clause-took
unfolding meant taken scope_in pass_of
returns-in-List-clause-took c = rw c.in-List.is c.list.ensures.took

pub returns-in-Pattern-clause-took : goal.returns-in-Pattern-clause-took
unfolding meant taken scope_in pass_of
returns-in-Pattern-clause-took c = rw c.in-Pattern.is c.pattern.ensures.took

pub returns-in-Level-clause-took : goal.returns-in-Level-clause-took
unfolding meant taken scope_in pass_of level_handles
returns-in-Level-clause-took c = rw c.in-Level.is c.coded.ensures.took

pub returns-in-Mode-clause-took : goal.returns-in-Mode-clause-took
unfolding meant taken scope_in pass_of mode_handles
returns-in-Mode-clause-took c = rw c.in-Mode.is c.coded-in-Mode.ensures.took

pub returns-in-Argument-clause-took : goal.returns-in-Argument-clause-took
unfolding meant taken scope_in pass_of
returns-in-Argument-clause-took c = rw c.in-Argument.is c.one-in-Argument.ensures.took

pub returns-in-Global-clause-took : goal.returns-in-Global-clause-took
unfolding meant taken scope_in pass_of
returns-in-Global-clause-took c = rw c.in-Global.is c.one-in-Global.ensures.took

pub returns-in-Local-clause-took : goal.returns-in-Local-clause-took
unfolding meant taken scope_in pass_of
returns-in-Local-clause-took c = rw c.in-Local.is c.one-in-Local.ensures.took

pub returns-in-Block-clause-took : goal.returns-in-Block-clause-took
unfolding meant taken scope_in pass_of
returns-in-Block-clause-took c = rw c.in-Block.is c.one-in-Block.ensures.took

pub returns-in-Function-clause-took : goal.returns-in-Function-clause-took
unfolding meant taken scope_in pass_of
returns-in-Function-clause-took c = rw c.in-Function.is c.one-in-Function.ensures.took

pub returns-in-Range-clause-took : goal.returns-in-Range-clause-took
unfolding meant taken scope_in pass_of
returns-in-Range-clause-took c = rw c.in-Range.is c.range.ensures.took

pub returns-in-Type-clause-took : goal.returns-in-Type-clause-took
unfolding meant taken scope_in pass_of
returns-in-Type-clause-took c = rw c.in-Type.is c.one-in-Type.ensures.took

pub returns-in-Size-clause-took : goal.returns-in-Size-clause-took
unfolding meant taken scope_in pass_of
returns-in-Size-clause-took c = rw c.in-Size.is c.one-in-Size.ensures.took

pub returns-in-Members-clause-took : goal.returns-in-Members-clause-took
unfolding meant taken scope_in pass_of
returns-in-Members-clause-took c = rw c.in-Members.is c.members.ensures.took

pub returns-in-Binding-clause-took : goal.returns-in-Binding-clause-took
unfolding meant taken scope_in pass_of
returns-in-Binding-clause-took c = rw c.in-Binding.is c.one-in-Binding.ensures.took

pub returns-in-Flag-clause-took : goal.returns-in-Flag-clause-took
unfolding meant taken scope_in pass_of
returns-in-Flag-clause-took c = rw c.in-Flag.is c.one-in-Flag.ensures.took

pub returns-in-Result-clause-took : goal.returns-in-Result-clause-took
unfolding meant taken scope_in pass_of
returns-in-Result-clause-took c = rw c.in-Result.is c.result.ensures.took

pub returns-in-Never-clause-took : goal.returns-in-Never-clause-took
unfolding meant taken scope_in pass_of
returns-in-Never-clause-took c = rw c.in-Never.is c.one-in-Never.ensures.took

-- `Subject::maybe_value` meets its contract: by the function.
use Rattle.judge.proofs.subject.Subject.maybe_value.Goals as goal

pub maybe_value-requires : goal.maybe_value-requires
maybe_value-requires c = c.args.self.now.given.values

-- `Subject::is_value` meets its contract: by the function.
use Rattle.judge.proofs.subject.Subject.is_value.Goals as goal

pub is_value-requires : goal.is_value-requires
is_value-requires c = c.args.self.now.given.values

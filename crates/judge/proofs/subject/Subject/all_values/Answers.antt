-- `Subject::all_values` meets its contract: by the function.
use Rattle.judge.proofs.subject.Subject.all_values.Goals as goal

pub all_values-requires : goal.all_values-requires
all_values-requires c = c.args.self.now.given.values

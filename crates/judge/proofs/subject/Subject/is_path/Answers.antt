-- `Subject::is_path` meets its contract: by the function.
use Rattle.judge.proofs.subject.Subject.is_path.Goals as goal

pub is_path-requires : goal.is_path-requires
is_path-requires c = c.args.self.now.given.values.table

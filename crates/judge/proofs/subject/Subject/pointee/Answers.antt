-- `Subject::pointee` meets its contract: by the function.
use Rattle.judge.proofs.subject.Subject.pointee.Goals as goal

pub pointee-requires : goal.pointee-requires
pointee-requires c = c.args.self.now.given.shapes.lower

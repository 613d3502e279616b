-- `Subject::same_part` meets its contract: by the function.
use Rattle.judge.proofs.subject.Subject.same_part.Goals as goal

pub same_part-requires : goal.same_part-requires
same_part-requires c =
    record { shapes = c.args.self.now.given.shapes; a_in_bounds = c.requires.a_in_bounds; b_in_bounds = c.requires.b_in_bounds }

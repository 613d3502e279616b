-- `Subject::same_element` meets its contract: by the function.
use Rattle.judge.proofs.subject.Subject.same_element.Goals as goal

pub same_element-requires : goal.same_element-requires
same_element-requires c =
    record { shapes = c.args.self.now.given.shapes; a_in_bounds = c.requires.a_in_bounds; b_in_bounds = c.requires.b_in_bounds }

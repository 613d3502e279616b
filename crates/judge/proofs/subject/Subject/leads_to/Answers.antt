-- `Subject::leads_to` meets its contract: by both tests.
use borrow.Author.Rules.{rules}
use Rattle.judge.proofs.Operands.{leads}
use Rattle.judge.proofs.subject.Subject.leads_to.Goals as goal

pub returns-then-is_path : goal.returns-then-is_path
returns-then-is_path c =
    leads c.args.self.now.given _ _ c.requires.p_in_bounds c.requires.v_in_bounds c.type_of.ensures c.pointee-led.ensures c.is_path.ensures c.type_of-then-is_path.ensures c.is_alike.ensures (search rules)

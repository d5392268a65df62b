use Rattle.std.proofs.Common.{rules, refl, inr}
use Rattle.console_tests.proofs.failing_desk.FailingDeskDesk.list.Goals as goal

pub returns-in-Err-clause-unlisted : goal.returns-in-Err-clause-unlisted
returns-in-Err-clause-unlisted g c = inr (refl, (c.args.self.now.register, search rules, (c.in-Err.ensures.full, c.in-Err.ensures.line)))

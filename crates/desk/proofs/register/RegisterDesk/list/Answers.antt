use Rattle.std.proofs.Common.{refl, inr}
use Rattle.desk.proofs.register.RegisterDesk.list.Goals as goal

pub returns-in-Err-clause-unlisted : goal.returns-in-Err-clause-unlisted
returns-in-Err-clause-unlisted g c = inr (refl, (c.args.self.now, (refl, refl), (c.in-Err.ensures.full, c.in-Err.ensures.line)))

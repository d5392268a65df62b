use Rattle.desk.proofs.ShortReplies.{replied_short}
use Rattle.desk.proofs.register.RegisterDesk.apply.Goals as goal

pub returns-in-Ok-clause-short : goal.returns-in-Ok-clause-short
returns-in-Ok-clause-short g c = replied_short g.row.A.Denot c.args.self.now c.args.command.now c.apply.new.self c.in-Ok.reply c.in-Ok.ensures.ok c.registers.ensures.ranges

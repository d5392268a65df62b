use Rattle.centre_core.proofs.MailLaws.{stay_by_reply}
use Rattle.centre_core.proofs.tables.Tables.apply.Goals as goal

pub returns-clause-messages : goal.returns-clause-messages
returns-clause-messages g c = stay_by_reply c.args.self.now c.step.new.self c.args.command.now c.step.result c.step.ensures.ok

use Rattle.std.proofs.Common.{length, ap, ◌∙◌}
use Rattle.mailbox.proofs.Effects.{count_waiting}
use Rattle.mailbox.proofs.mail.Mail.count_to.Goals as goal

pub returns : goal.returns
returns g c = ap length c.items_of.ensures.items ∙ count_waiting c.args.self.now c.args.destination

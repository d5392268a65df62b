use Rattle.std.proofs.Common.{ap, ◌∙◌}
use Rattle.std.specs.List.{list_any}
use Rattle.mailbox.specs.Item.{is_at}
use Rattle.mailbox.proofs.Effects.{holds_waiting}
use Rattle.mailbox.proofs.mail.Mail.holds.Goals as goal

pub returns : goal.returns
returns g c = c.any_at.ensures ∙ ap (list_any (is_at c.args.key.now)) c.items_of.ensures.items ∙ holds_waiting c.args.self.now c.args.key.now

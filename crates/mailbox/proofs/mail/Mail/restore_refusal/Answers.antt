use Rattle.std.proofs.Common.{ap, ◌∙◌}
use Rattle.std.specs.Option.{option_or}
use Rattle.mailbox.specs.Refusals.{busy_refusal}
use Rattle.mailbox.proofs.Effects.{one_more_waits}
use Rattle.mailbox.proofs.mail.Mail.restore_refusal.Goals as goal

pub returns : goal.returns
returns g c number deadline pdu group =
    c.item_refusal.ensures
    ∙ ap (option_or (busy_refusal c.args.self.now c.args.key.now)) (one_more_waits c.args.self.now (record { key = c.args.key.now; number = number; deadline = deadline; pdu = pdu; group = group }))

use Rattle.std.proofs.Common.{ap, ◌∙◌}
use Rattle.mailbox.specs.Mail.{waiting}
use Rattle.mailbox.proofs.Filing.{filed_waiting}
use Rattle.mailbox.proofs.mail.Mail.items_of.Goals as goal

pub returns-clause-items : goal.returns-clause-items
returns-clause-items g c =
    c.items_of.ensures.items ∙ filed_waiting _ c.self.inside.boxes c.self.inside.order c.args.destination c.self.invariant c.items_of.ensures.whole
    ∙ ap (λ m. waiting m c.args.destination) c.self.view_is

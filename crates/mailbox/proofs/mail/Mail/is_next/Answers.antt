use Rattle.std.proofs.Common.{ap}
use Rattle.mailbox.specs.Values.{Mailed}
use Rattle.mailbox.proofs.Next.{next_to_last}
use Rattle.mailbox.proofs.mail.Mail.is_next.Goals as goal

pub returns : goal.returns
returns g c =
    next_to_last c.args.self.now _ c.self.inside.order c.in-Some.last.now c.args.number c.args.key.now c.is_before.result
    (ap (λ (m : Mailed). m.items) c.self.view_is) c.self.invariant.indexed c.self.invariant.ordered c.in-Some.ensures c.is_before.ensures

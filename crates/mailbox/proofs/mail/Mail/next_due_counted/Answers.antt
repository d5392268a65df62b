use Rattle.std.proofs.Common.{Some, None, ap, ◌∙◌}
use Rattle.mailbox.specs.Order.{next_due}
use Rattle.mailbox.specs.Values.{Mailed}
use Rattle.mailbox.proofs.NextItem.{places_rise}
use Rattle.mailbox.proofs.NextDue.{next_due_filed}
use Rattle.mailbox.proofs.Cost.{above_order}
use Rattle.mailbox.proofs.mail.Mail.next_due_counted.Goals as goal

pub first_due_after-requires : goal.first_due_after-requires
first_due_after-requires g c = places_rise _ c.self.inside.order c.self.invariant.indexed c.self.invariant.ordered

pub returns-in-Some-clause-item : goal.returns-in-Some-clause-item
returns-in-Some-clause-item g c = c.item_at.ensures ∙ next_due_filed _ c.self.inside.boxes _ c.args.moment c.args.after (Some c.in-Some.place.now)
    c.self.invariant c.in-Some.ensures.first ∙ ap (λ m. next_due m c.args.moment c.args.after) c.self.view_is

pub returns-in-None-clause-item : goal.returns-in-None-clause-item
returns-in-None-clause-item g c = next_due_filed _ c.self.inside.boxes _ c.args.moment c.args.after None c.self.invariant c.in-None.ensures.first ∙
    ap (λ m. next_due m c.args.moment c.args.after) c.self.view_is

pub returns-in-Some-clause-cost : goal.returns-in-Some-clause-cost
returns-in-Some-clause-cost g c height above =
    c.in-Some.ensures.cost height
    (above_order _ c.self.inside.boxes c.self.inside.order c.args.self.now height c.self.invariant (ap (λ (m : Mailed). m.items) c.self.view_is)
    above)

pub returns-in-None-clause-cost : goal.returns-in-None-clause-cost
returns-in-None-clause-cost g c height above =
    c.in-None.ensures.cost height
    (above_order _ c.self.inside.boxes c.self.inside.order c.args.self.now height c.self.invariant (ap (λ (m : Mailed). m.items) c.self.view_is)
    above)

use Rattle.std.proofs.Common.{Some, None, ap, ◌∙◌}
use Rattle.mailbox.specs.Order.{next_item}
use Rattle.mailbox.proofs.NextItem.{places_rise, next_filed}
use Rattle.mailbox.proofs.mail.Mail.next.Goals as goal

pub first_after-requires : goal.first_after-requires
first_after-requires g c = places_rise _ c.self.inside.order c.self.invariant.indexed c.self.invariant.ordered

pub returns-in-Some : goal.returns-in-Some
returns-in-Some g c = c.item_at.ensures ∙ next_filed _ c.self.inside.boxes _ c.args.after (Some c.in-Some.place.now) c.self.invariant
    c.in-Some.ensures ∙ ap (λ m. next_item m c.args.after) c.self.view_is

pub returns-in-None : goal.returns-in-None
returns-in-None g c = next_filed _ c.self.inside.boxes _ c.args.after None c.self.invariant c.in-None.ensures ∙ ap (λ m. next_item m c.args.after) c.self.view_is

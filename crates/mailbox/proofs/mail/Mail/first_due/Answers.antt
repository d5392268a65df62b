use Rattle.std.proofs.Common.{◌+◌, ◌≤◌, Bool, cond, ap, subst, ◌∙◌}
use Rattle.std.specs.Prelude.{◌*◌}
use Rattle.std.specs.List.{find}
use Rattle.std.specs.Option.{option_map}
use Rattle.mailbox.specs.Item.{is_expired}
use Rattle.mailbox.specs.Order.{place_of}
use Rattle.mailbox.specs.Values.{Mailed}
use Rattle.mailbox.proofs.Filing.{first_expired}
use Rattle.mailbox.proofs.Cost.{above_order, some_copied}
use Rattle.mailbox.proofs.mail.Mail.first_due.Goals as goal

pub returns-clause-first : goal.returns-clause-first
returns-clause-first g c =
    c.copied.ensures ∙ c.first_due.ensures.first ∙ first_expired _ c.self.inside.boxes c.self.inside.order c.args.moment c.self.invariant
    ∙ ap (λ (m : Mailed). option_map place_of (find (is_expired c.args.moment) m.items)) c.self.view_is

pub returns-clause-cost : goal.returns-clause-cost
returns-clause-cost g c height above =
    subst (λ (b : Bool). c.first_due.new.steps ≤ c.args.steps.now + cond b (2 * height) 1) (some_copied c.first_due.result c.copied.result c.copied.ensures)
    (c.first_due.ensures.cost height (above_order _ c.self.inside.boxes c.self.inside.order c.args.self.now height c.self.invariant (ap (λ (m : Mailed). m.items) c.self.view_is) above))

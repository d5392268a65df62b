use Rattle.std.proofs.Common.{◌<◌, ◌^◌, rules, ap, ◌∙◌}
use Rattle.std.specs.List.{list_all}
use Rattle.mailbox.specs.Values.{Mailed}
use Rattle.mailbox.specs.Item.{is_at}
use Rattle.mailbox.specs.Judged.{waits_alone}
use Rattle.mailbox.proofs.Filing.{filed_waiting, filed_removed, filed_again, filed_in_order, none_left_out, place_removed}
use Rattle.mailbox.proofs.NextItem.{places_rise}
use Rattle.mailbox.proofs.Cost.{above_order}
use Rattle.mailbox.proofs.mail.Mail.remove_counted.Goals as goal

pub remove_at-requires : goal.remove_at-requires
remove_at-requires g c alone =
    let below : c.args.key.now.destination < 2 ^ 48 = search rules in
    ap (list_all (is_at c.args.key.now)) (filed_waiting _ c.self.inside.boxes c.self.inside.order c.args.key.now.destination c.self.invariant below)
    ∙ ap (λ (m : Mailed). waits_alone m c.args.key.now) c.self.view_is ∙ c.requires alone

pub remove_counted-requires : goal.remove_counted-requires
remove_counted-requires g c = places_rise _ c.self.inside.order c.self.invariant.indexed c.self.invariant.ordered

pub invariant_of-self : goal.invariant_of-self
invariant_of-self g c =
    filed_again _ _ _ (filed_removed _ c.self.inside.boxes c.remove_at.new.self c.self.inside.order c.remove_counted.new.self c.args.key.now
    c.self.invariant c.remove_at.ensures.left
    (c.remove_counted.ensures.places ∙ place_removed _ c.self.inside.boxes c.self.inside.order c.args.key.now c.self.invariant c.in-Some.place
    c.in-Some.ensures.place))

pub returns-in-Some-clause-items : goal.returns-in-Some-clause-items
returns-in-Some-clause-items g c =
    let is = filed_in_order _ _ _
    (filed_removed _ c.self.inside.boxes c.remove_at.new.self c.self.inside.order c.remove_counted.new.self c.args.key.now c.self.invariant
    c.remove_at.ensures.left
    (c.remove_counted.ensures.places ∙ place_removed _ c.self.inside.boxes c.self.inside.order c.args.key.now c.self.invariant c.in-Some.place
    c.in-Some.ensures.place)) in
    rw (← c.self.view_is) (λ i. record { room = c.self.inside.room; items = is i })

pub invariant_of-self-in_default : goal.invariant_of-self-in_default
invariant_of-self-in_default g c =
    filed_again _ _ _ (filed_removed _ c.self.inside.boxes c.remove_at.new.self c.self.inside.order c.self.inside.order c.args.key.now
    c.self.invariant c.remove_at.ensures.left
    (none_left_out _ c.self.inside.boxes c.self.inside.order c.args.key.now c.self.invariant c.in_default.ensures.place))

pub returns-in_default-clause-items : goal.returns-in_default-clause-items
returns-in_default-clause-items g c =
    let is = filed_in_order _ _ _
    (filed_removed _ c.self.inside.boxes c.remove_at.new.self c.self.inside.order c.self.inside.order c.args.key.now c.self.invariant
    c.remove_at.ensures.left (none_left_out _ c.self.inside.boxes c.self.inside.order c.args.key.now c.self.invariant c.in_default.ensures.place))
    in
    rw (← c.self.view_is) (λ i. record { room = c.self.inside.room; items = is i })

pub returns-in-Some-clause-cost : goal.returns-in-Some-clause-cost
returns-in-Some-clause-cost g c height above =
    c.remove_counted.ensures.cost height (above_order _ c.self.inside.boxes c.self.inside.order c.args.self.now height c.self.invariant (ap (λ (m : Mailed). m.items) c.self.view_is) above)

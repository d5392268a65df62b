use Rattle.std.proofs.Common.{◌<◌, ◌^◌, rules, ap, sym, subst, ◌∙◌}
use Rattle.mailbox.specs.Values.{Mailed}
use Rattle.mailbox.specs.Order.{ComesLast}
use Rattle.mailbox.specs.Mail.{holds}
use Rattle.mailbox.specs.Judged.{none_waits}
use Rattle.mailbox.proofs.Filing.{filed_put_free, filed_again, filed_in_order, first_filed}
use Rattle.mailbox.proofs.mail.Mail.put_last.Goals as goal

pub put-requires : goal.put-requires
put-requires g c =
    let below : c.args.item.key.destination < 2 ^ 48 = search rules in
    c.requires.first ∙ ap (λ (m : Mailed). none_waits m c.args.item.key.destination) (sym c.self.view_is) ∙
    first_filed _ c.self.inside.boxes c.self.inside.order c.args.item.key.destination c.self.invariant below

pub invariant_of-self-2 : goal.invariant_of-self-2
invariant_of-self-2 g c =
    filed_again _ _ _ (filed_put_free _ c.self.inside.boxes c.put.new.self c.self.inside.order c.append.new.self c.args.item c.place-place.result
    c.self.invariant (subst (λ (m : Mailed). ComesLast m c.args.item.number c.args.item.key) (sym c.self.view_is) c.requires.last) c.put.ensures.whole
    c.in_ok-put.ensures.ok c.place-place.ensures (ap (λ (m : Mailed). holds m c.args.item.key) c.self.view_is ∙ c.requires.free) c.append.ensures)

pub returns-clause-ok : goal.returns-clause-ok
returns-clause-ok g c =
    let is = filed_in_order _ _ _
    (filed_put_free _ c.self.inside.boxes c.put.new.self c.self.inside.order c.append.new.self c.args.item c.place-place.result c.self.invariant
    (subst (λ (m : Mailed). ComesLast m c.args.item.number c.args.item.key) (sym c.self.view_is) c.requires.last) c.put.ensures.whole
    c.in_ok-put.ensures.ok c.place-place.ensures (ap (λ (m : Mailed). holds m c.args.item.key) c.self.view_is ∙ c.requires.free) c.append.ensures)
    in
    rw (← c.self.view_is) (λ i. record { room = c.self.inside.room; items = is i })

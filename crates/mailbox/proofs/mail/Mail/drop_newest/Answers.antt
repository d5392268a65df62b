use Rattle.mailbox.proofs.Filing.{filed_again, filed_in_order}
use Rattle.mailbox.proofs.Newest.{filed_dropped}
use Rattle.mailbox.proofs.mail.Mail.drop_newest.Goals as goal

pub invariant_of-self-2 : goal.invariant_of-self-2
invariant_of-self-2 g c =
    filed_again _ _ _ (filed_dropped _ c.self.inside.boxes c.remove_at.new.self c.self.inside.order c.pop.new.self c.in-Some.place c.self.invariant c.in-Some.ensures c.remove_at.ensures.left)

pub returns : goal.returns
returns g c =
    let is = filed_in_order _ _ _
    (filed_dropped _ c.self.inside.boxes c.remove_at.new.self c.self.inside.order c.pop.new.self c.in-Some.place c.self.invariant
    c.in-Some.ensures c.remove_at.ensures.left) in
    rw (← c.self.view_is) (λ i. record { room = c.self.inside.room; items = is i })

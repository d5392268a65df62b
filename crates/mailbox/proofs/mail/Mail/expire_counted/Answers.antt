use Rattle.std.proofs.Common.{◌<◌, length, ap, sym, subst, ◌∙◌, arith}
use Rattle.mailbox.specs.Values.{Mailed}
use Rattle.mailbox.specs.Mail.{expired}
use Rattle.mailbox.proofs.Expiry.{none_expired, same_left, fewer_wait}
use Rattle.mailbox.proofs.Cost.{above_fewer, one_more_gone}
use Rattle.mailbox.proofs.mail.Mail.expire_counted.Goals as goal

pub loop-place-smaller : goal.loop-place-smaller
loop-place-smaller g c =
    subst (λ (m : Mailed). length m.items < length c.loop-place.self.items) (sym c.remove_counted.ensures.items)
    (fewer_wait c.loop-place.self.items c.args.moment c.first_due.ensures.apart c.in-Some.place c.in-Some.ensures.first)

pub loop-place-preserved : goal.loop-place-preserved
loop-place-preserved g c =
    let fewer : length c.remove_counted.new.self.items < length c.loop-place.self.items =
    subst (λ (m : Mailed). length m.items < length c.loop-place.self.items) (sym c.remove_counted.ensures.items)
    (fewer_wait c.loop-place.self.items c.args.moment c.first_due.ensures.apart c.in-Some.place c.in-Some.ensures.first) in
    let within = c.loop-place.invariant.1 in (
      ap (λ (m : Mailed). expired m c.args.moment) c.remove_counted.ensures.items
          ∙ (λ i. record { room = c.loop-place.self.room; items = same_left c.loop-place.self.items c.args.moment c.first_due.ensures.apart c.in-Some.place c.in-Some.ensures.first i })
          ∙ c.loop-place.invariant.0,
      omega (arith, fewer, within),
      λ height above.
          let now = above_fewer height c.args.self.now c.loop-place.self within above in
          one_more_gone height (length c.args.self.now.items) (length c.loop-place.self.items) (length c.remove_counted.new.self.items) _ _ _ _ fewer
          within (c.loop-place.invariant.2 height above) (c.in-Some.ensures.cost height now) (c.remove_counted.ensures.cost height now),
    )

pub returns-clause-items : goal.returns-clause-items
returns-clause-items g c =
    sym (λ i. record { room = c.loop-place.self.room; items = none_expired c.loop-place.self.items c.args.moment c.in_default.ensures.first i })
    ∙ c.loop-place.invariant.0

pub returns-clause-cost : goal.returns-clause-cost
returns-clause-cost g c height above =
    let within = c.loop-place.invariant.1 in
    let now = above_fewer height c.args.self.now c.loop-place.self within above in
    let last = c.in_default.ensures.cost height now in
    let so_far = c.loop-place.invariant.2 height above in
    omega (arith, last, so_far)

use Rattle.std.proofs.Common.{◌≡◌, false, sym, subst}
use Rattle.mailbox.specs.Values.{Mailed}
use Rattle.mailbox.specs.Mail.{holds}
use Rattle.mailbox.specs.Order.{ComesLast}
use Rattle.mailbox.specs.GroupPost.{is_receiver, addressed}
use Rattle.mailbox.proofs.Copies.{next_is_new}
use Rattle.mailbox.proofs.mail.Mail.put_copies.Goals as goal

pub put_copy-requires : goal.put_copy-requires
put_copy-requires g c = λ here.
    let w = c.args.original.now in
    let k = (addressed w c.member-item.result).key in
    subst (λ (m : Mailed). ComesLast m w.number k × (holds m k ≡ false)) (sym c.loop-member.invariant)
    (next_is_new w (is_receiver c.args.registry.now w.key.source) c.args.self.now c.args.members.now c.loop-member.member-index c.member-item.result
    c.requires.rising c.requires.newest c.requires.free c.loop-member-test.true c.member-item.is here)

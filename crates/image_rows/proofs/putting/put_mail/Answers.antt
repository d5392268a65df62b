use Rattle.std.proofs.Common.{◌≡◌, true, rules, subst, sym}
use Rattle.mailbox.specs.Values.{Item}
use Rattle.mailbox.specs.Order.{ComesLast}
use Rattle.centre_core.specs.State.{State}
use Rattle.image_rows.specs.Loading.{mail_may}
use Rattle.image_rows.proofs.Judged.{comes_last_of}
use Rattle.image_rows.proofs.putting.put_mail.Goals as goal

pub restore-requires : goal.restore-requires
restore-requires g c =
    let w : Item = c.args.item.now in
    let may : mail_may c.args.header.now c.args.parts.now w ≡ true = search rules in
    subst (λ (x : Item). ComesLast c.parts.inside.mail x.number x.key) (sym c.in_ok-copy.ensures)
    (subst (λ (s : State). ComesLast s.mail w.number w.key) (sym c.parts.view_is) (comes_last_of c.args.header.now c.args.parts.now w may))

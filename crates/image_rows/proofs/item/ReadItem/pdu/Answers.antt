use Rattle.std.proofs.Common.{◌≡◌, ◌∙◌, true, sym, ap, subst}
use Rattle.sds_tl.specs.Reading.{heading}
use Rattle.mailbox.specs.declared.key.Kind.{Kind}
use Rattle.mailbox.specs.declared.key.Kind.TheVariants.{Message}
use Rattle.mailbox.specs.Sound.{is_head_of}
use Rattle.mailbox.specs.Values.{Item}
use Rattle.image_rows.specs.ItemViews.{item_view}
use Rattle.image_rows.proofs.PduTests.{message_cleared}
use Rattle.image_rows.proofs.Settled.{headed}
use Rattle.image_rows.proofs.item.ReadItem.pdu.Goals as goal

pub returns-in-Message : goal.returns-in-Message
returns-in-Message g c =
    let item = c.self.inside.item in
    let known : is_head_of Message item.key.reference (heading item.pdu) ≡ true =
    subst (λ (kind : Kind). is_head_of kind item.key.reference (heading item.pdu) ≡ true) c.in-Message.is
    (headed (item_view item) c.self.invariant.0) in
    c.in_ok-bits.ensures.bits ∙ sym (message_cleared item.pdu item.key.reference known) ∙ ap (λ (w : Item). w.pdu) c.self.view_is

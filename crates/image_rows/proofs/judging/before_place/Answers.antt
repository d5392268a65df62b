use Rattle.std.proofs.Common.{◌≡◌, ◌∙◌, true, length, ap, sym}
use Rattle.std.specs.Prelude.{Bool, ◌&&◌, nat_lt}
use Rattle.std.specs.List.{list_all}
use Rattle.std.specs.Ordering.{is_lt}
use Rattle.mailbox.specs.Values.{Item}
use Rattle.mailbox.specs.Order.{named, named_cmp}
use Rattle.image_rows.specs.Loading.{radios_done, is_numbered}
use Rattle.image_rows.proofs.judging.before_place.Goals as goal

pub returns-then-number_may : goal.returns-then-number_may
returns-then-number_may g c =
    let h = c.args.header.now in
    let s = c.args.parts.now in
    let w : Item = c.args.item.now in
    let last = list_all (λ (o : Item). is_lt (named_cmp (named o) (named w))) s.mail.items in
    let before : (radios_done h s && nat_lt (length s.mail.items) h.mail && is_numbered s.count c.number.result) ≡ true = sym c.number_may.ensures ∙ c.if-number_may.true in
    c.comes_last.ensures ∙ (λ i. list_all (λ (o : Item). is_lt (named_cmp (named o) (named w))) (c.parts.view_is i).mail.items) ∙ ap (λ (b : Bool). b && last) (sym before)
    ∙ (λ i. (radios_done h s && nat_lt (length s.mail.items) h.mail && is_numbered s.count (c.number.ensures i)) && last)

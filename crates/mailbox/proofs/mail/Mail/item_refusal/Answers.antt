use Rattle.std.proofs.Common.{◌≡◌, ◌+◌, true, false, length, ap, sym, ◌∙◌}
use Rattle.std.specs.Prelude.{count_by, Some, None, if◌then◌else◌}
use Rattle.std.specs.List.{list_any}
use Rattle.std.specs.Option.{option_or}
use Rattle.mailbox.specs.declared.fault.MailFault.TheVariants.{ReferenceBusy}
use Rattle.mailbox.specs.Item.{is_at, is_to}
use Rattle.mailbox.specs.Mail.{holds}
use Rattle.mailbox.specs.Refusals.{crowd_refusal}
use Rattle.mailbox.proofs.Effects.{holds_waiting, count_waiting}
use Rattle.mailbox.proofs.mail.Mail.item_refusal.Goals as goal

pub returns-then-any_at : goal.returns-then-any_at
returns-then-any_at g c =
    let held : holds c.args.self.now c.args.key.now ≡ true =
    sym (c.any_at.ensures ∙ ap (list_any (is_at c.args.key.now)) c.requires ∙ holds_waiting c.args.self.now c.args.key.now) ∙ c.if-any_at.true in
    ap (λ b. option_or (if b then Some ReferenceBusy else None)
    (crowd_refusal c.args.self.now.room (count_by (is_to c.args.key.now.destination) c.args.self.now.items + 1) (length c.args.self.now.items + 1)))
    (sym held)

pub returns : goal.returns
returns g c =
    let free : holds c.args.self.now c.args.key.now ≡ false =
    sym (c.any_at.ensures ∙ ap (list_any (is_at c.args.key.now)) c.requires ∙ holds_waiting c.args.self.now c.args.key.now) ∙ c.if-any_at.false in
    let counted : length c.args.items.now ≡ count_by (is_to c.args.key.now.destination) c.args.self.now.items = ap length c.requires ∙ count_waiting c.args.self.now c.args.key.now.destination in
    c.crowd_refusal.ensures ∙ (λ i. crowd_refusal (c.room.ensures i) (counted i + 1) (c.len.ensures i + 1))
    ∙ ap (λ b. option_or (if b then Some ReferenceBusy else None)
    (crowd_refusal c.args.self.now.room (count_by (is_to c.args.key.now.destination) c.args.self.now.items + 1) (length c.args.self.now.items + 1)))
    (sym free)

use Rattle.std.proofs.Common.{ap, sym, ◌∙◌}
use Rattle.std.specs.List.{list_any}
use Rattle.mailbox.specs.Item.{is_answerless, is_confirmed}
use Rattle.mailbox.proofs.Effects.{removed_some, removed_none}
use Rattle.mailbox.proofs.mail.Mail.remove_confirmed.Goals as goal

pub returns-then-any_confirmed : goal.returns-then-any_confirmed
returns-then-any_confirmed g c =
    c.remove_at.ensures
    ∙ removed_some c.args.key.now (λ w. is_answerless w.key.kind w.pdu) c.args.self.now c.items_of-items.ensures.apart
    (sym (c.any_confirmed.ensures ∙ ap (list_any (is_confirmed c.args.key.now)) c.items_of-items.ensures.items) ∙ c.if-any_confirmed.true)

pub returns-else-any_confirmed : goal.returns-else-any_confirmed
returns-else-any_confirmed g c = removed_none c.args.key.now (λ w. is_answerless w.key.kind w.pdu) c.args.self.now
    (sym (c.any_confirmed.ensures ∙ ap (list_any (is_confirmed c.args.key.now)) c.items_of-items.ensures.items) ∙ c.if-any_confirmed.false)

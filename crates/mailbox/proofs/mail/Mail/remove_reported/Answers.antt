use Rattle.std.proofs.Common.{ap, sym, ◌∙◌}
use Rattle.mailbox.specs.declared.key.Kind.TheVariants.{Message}
use Rattle.mailbox.specs.Item.{answered, is_at, ends_request, request_of}
use Rattle.mailbox.specs.Mail.{without}
use Rattle.mailbox.proofs.Effects.{removed_if, unchanged_if}
use Rattle.mailbox.proofs.mail.Mail.remove_reported.Goals as goal

pub returns-then-ends : goal.returns-then-ends
returns-then-ends g c =
    c.remove_at.ensures ∙ ap (λ k. without (is_at k) c.args.self.now) c.answered_key.ensures
    ∙ removed_if (answered c.args.envelope.now Message) (λ w. ends_request c.args.status (request_of w.pdu)) c.args.self.now c.facts_of_order.ensures.apart (sym c.requires.ends ∙ c.if-ends.true)

pub returns-else-ends : goal.returns-else-ends
returns-else-ends g c = unchanged_if (answered c.args.envelope.now Message) (λ w. ends_request c.args.status (request_of w.pdu)) c.args.self.now (sym c.requires.ends ∙ c.if-ends.false)

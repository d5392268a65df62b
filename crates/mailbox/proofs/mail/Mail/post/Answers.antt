use Rattle.std.proofs.Common.{sym, ap, ◌∙◌}
use Rattle.mailbox.specs.Refusals.{post_refusal}
use Rattle.mailbox.proofs.mail.Mail.post.Goals as goal

pub post_judged-requires-clause-refusal : goal.post_judged-requires-clause-refusal
post_judged-requires-clause-refusal g c = (
  c.args.registry.now,
  ap (post_refusal c.args.registry.now c.args.self.now) (c.in_ok-opening.ensures.item c.args.stamp c.args.pdu) ∙
      sym (c.in_ok-opening.ensures.refusal c.args.stamp c.args.pdu),
)

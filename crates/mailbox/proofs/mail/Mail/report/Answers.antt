use Rattle.std.proofs.Common.{sym, ap, ◌∙◌}
use Rattle.mailbox.specs.declared.opening.ReportOpening.{ReportOpening}
use Rattle.mailbox.specs.Judged.{report_opening}
use Rattle.mailbox.specs.Refusals.{report_refusal}
use Rattle.mailbox.proofs.mail.Mail.report.Goals as goal

pub report_judged-requires-clause-found : goal.report_judged-requires-clause-found
report_judged-requires-clause-found g c =
    c.in_ok-judged.ensures.found ∙ sym (ap (λ keep. report_opening c.args.self.now keep c.args.envelope.now c.args.status) (ap (λ (o : ReportOpening). o.opening.keep) c.in_ok-judged.ensures.found))

pub report_judged-requires-clause-refusal : goal.report_judged-requires-clause-refusal
report_judged-requires-clause-refusal g c = (
  c.args.registry.now,
  ap (report_refusal c.args.registry.now c.args.self.now c.args.envelope.now c.args.status)
      (c.in_ok-judged.ensures.item c.args.stamp c.args.pdu) ∙ sym (c.in_ok-judged.ensures.refusal c.args.stamp c.args.pdu),
)

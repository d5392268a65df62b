use Rattle.std.proofs.Common.{◌≡◌, Some, ap, sym, ◌∙◌}
use Rattle.registration.specs.Registered.{rule_of}
use Rattle.mailbox.specs.Refusals.{unknown_refusal}
use Rattle.mailbox.proofs.Judged.{post_as_judged}
use Rattle.mailbox.proofs.mail.Mail.judge_post.Goals as goal

pub returns-in-Some-item_refusal-clause-refusal : goal.returns-in-Some-item_refusal-clause-refusal
returns-in-Some-item_refusal-clause-refusal g c =
    let ruled : Some c.in-Some.rule ≡ rule_of c.args.registry.now c.args.envelope.now.destination = c.in-Some.ensures ∙ ap (rule_of c.args.registry.now) c.number.ensures.value in
    post_as_judged c.args.registry.now c.args.self.now c.args.envelope.now (ap unknown_refusal (sym ruled)) (sym c.in_default-absent_refusal.ensures)
    c.key-key.result c.key-key.ensures _ c.in-Some-item_refusal.ensures

pub returns-clause-refusal : goal.returns-clause-refusal
returns-clause-refusal g c =
    let ruled : Some c.in-Some.rule ≡ rule_of c.args.registry.now c.args.envelope.now.destination = c.in-Some.ensures ∙ ap (rule_of c.args.registry.now) c.number.ensures.value in
    post_as_judged c.args.registry.now c.args.self.now c.args.envelope.now (ap unknown_refusal (sym ruled)) (sym c.in_default-absent_refusal.ensures)
    c.key-key.result c.key-key.ensures _ c.in_default-item_refusal.ensures

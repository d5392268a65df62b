use Rattle.std.proofs.Common.{◌≡◌, true, false, length, Some, ap, sym, ◌∙◌}
use Rattle.std.specs.Prelude.{◌==◌, ◌&&◌, not}
use Rattle.std.specs.List.{find, list_all, list_any}
use Rattle.std.specs.Option.{option_map}
use Rattle.registration.specs.Registered.{rule_of}
use Rattle.mailbox.specs.declared.key.Kind.TheVariants.{Message, Report}
use Rattle.mailbox.specs.Item.{key_of, answered, is_at, is_reported}
use Rattle.mailbox.specs.Order.{place_of}
use Rattle.mailbox.specs.Mail.{waiting}
use Rattle.mailbox.specs.Judged.{keep_of}
use Rattle.mailbox.specs.Refusals.{unknown_refusal}
use Rattle.mailbox.proofs.Effects.{ends_waiting, found_waiting}
use Rattle.mailbox.proofs.Judged.{report_missing, report_as_judged}
use Rattle.mailbox.proofs.mail.Mail.judge_report.Goals as goal

pub returns-then-not-any_at-clause-refusal : goal.returns-then-not-any_at-clause-refusal
returns-then-not-any_at-clause-refusal g c = λ stamp pdu.
    let ruled : Some c.in-Some.rule ≡ rule_of c.args.registry.now c.args.envelope.now.destination = c.in-Some.ensures ∙ ap (rule_of c.args.registry.now) c.number.ensures.value in
    let none : list_any (is_at (answered c.args.envelope.now Message)) (waiting c.args.self.now c.args.envelope.now.source) ≡ false =
    (λ i. list_any (is_at (sym c.answered_key.ensures i)) (sym c.items_of-at_source.ensures.items i)) ∙ sym c.any_at.ensures ∙ c.if-not-any_at.true in
    report_missing c.args.registry.now c.args.self.now c.args.envelope.now (ap unknown_refusal (sym ruled)) (sym c.in_default-absent_refusal.ensures) c.args.status stamp pdu none

pub returns-in-Some-full_by_report-clause-refusal : goal.returns-in-Some-full_by_report-clause-refusal
returns-in-Some-full_by_report-clause-refusal g c = λ stamp pdu.
    let ruled : Some c.in-Some.rule ≡ rule_of c.args.registry.now c.args.envelope.now.destination = c.in-Some.ensures ∙ ap (rule_of c.args.registry.now) c.number.ensures.value in
    let held : list_any (is_at (answered c.args.envelope.now Message)) (waiting c.args.self.now c.args.envelope.now.source) ≡ true =
    (λ i. list_any (is_at (sym c.answered_key.ensures i)) (sym c.items_of-at_source.ensures.items i)) ∙ sym c.any_at.ensures ∙ c.if-not-any_at.false in
    report_as_judged c.args.registry.now c.args.self.now c.args.envelope.now (ap unknown_refusal (sym ruled))
    (sym c.in_default-absent_refusal.ensures) c.args.status stamp pdu held _ c.in-Some-full_by_report.ensures

pub returns-clause-refusal : goal.returns-clause-refusal
returns-clause-refusal g c = λ stamp pdu.
    let ruled : Some c.in-Some.rule ≡ rule_of c.args.registry.now c.args.envelope.now.destination = c.in-Some.ensures ∙ ap (rule_of c.args.registry.now) c.number.ensures.value in
    let held : list_any (is_at (answered c.args.envelope.now Message)) (waiting c.args.self.now c.args.envelope.now.source) ≡ true =
    (λ i. list_any (is_at (sym c.answered_key.ensures i)) (sym c.items_of-at_source.ensures.items i)) ∙ sym c.any_at.ensures ∙ c.if-not-any_at.false in
    report_as_judged c.args.registry.now c.args.self.now c.args.envelope.now (ap unknown_refusal (sym ruled))
    (sym c.in_default-absent_refusal.ensures) c.args.status stamp pdu held _ c.in_default-full_by_report.ensures

pub returns-clause-found : goal.returns-clause-found
returns-clause-found g c =
    let e = c.args.envelope.now in
    let ruled : Some c.in-Some.rule ≡ rule_of c.args.registry.now e.destination = c.in-Some.ensures ∙ ap (rule_of c.args.registry.now) c.number.ensures.value in
    let place = c.opening.ensures ∙ (λ i. record { key = c.key-key.ensures i; keep = keep_of (ruled i); is_first = length (c.items_of-at_destination.ensures.items i) == 0 }) in
    let earlier = c.place_at.ensures ∙ (λ i. option_map place_of (find (is_at (c.key-key.ensures i)) (c.items_of-at_destination.ensures.items i))) ∙
    ap (option_map place_of) (found_waiting c.args.self.now (key_of e Report)) in
    let ends = c.any_reported.ensures ∙ ap (list_any (is_reported e c.args.status)) c.items_of-at_source.ensures.items ∙ ends_waiting c.args.self.now e c.args.status in
    let alone = c.is_alone.ensures ∙ ap (λ ws. not (e.destination == e.source) && list_all (is_at (answered e Message)) ws) c.items_of-at_source.ensures.items in
    λ i. record { opening = place i; earlier = earlier i; ends = ends i; is_alone = alone i }

use Rattle.std.proofs.Common.{◌≡◌, ◌<◌, ◌+◌, None, rules, ap, sym, ◌∙◌}
use Rattle.sds_tl.specs.Reading.{cleared}
use Rattle.mailbox.specs.declared.key.Kind.TheVariants.{Report}
use Rattle.mailbox.specs.Item.{key_of}
use Rattle.mailbox.specs.Mail.{item_for}
use Rattle.mailbox.specs.Judged.{item_in}
use Rattle.mailbox.specs.Refusals.{report_refusal}
use Rattle.centre_core.specs.State.{State, last_number}
use Rattle.centre_core.specs.Step.{report_of}
use Rattle.centre_core.proofs.SpeltLaws.{is_cleared}
use Rattle.centre_core.proofs.StateLaws.{reported_state}
use Rattle.centre_core.proofs.tables.Tables.report.Goals as goal

pub returns-in-Err-clause-ok : goal.returns-in-Err-clause-ok
returns-in-Err-clause-ok g c =
    let answer = c.in-Err.ensures.refusal (record { number = c.self.inside.count + 1; moment = c.args.command.now.moment }) (cleared c.args.pdu.now) in
    search rules

pub returns-in_err-clone-clause-memory : goal.returns-in_err-clone-clause-memory
returns-in_err-clone-clause-memory g c =
    let answer = c.in-Ok.ensures.refusal (record { number = c.self.inside.count + 1; moment = c.args.command.now.moment }) (cleared c.args.pdu.now) in
    search rules

pub returns-in_default-clause-memory : goal.returns-in_default-clause-memory
returns-in_default-clause-memory g c =
    let answer = c.in-Ok.ensures.refusal (record { number = c.self.inside.count + 1; moment = c.args.command.now.moment }) (cleared c.args.pdu.now) in
    search rules

pub report_judged-requires-clause-refusal : goal.report_judged-requires-clause-refusal
report_judged-requires-clause-refusal g c = (
  c.self.inside.registry,
  ap (report_refusal c.self.inside.registry c.self.inside.mail c.args.envelope.now c.args.status)
      (c.in-Ok.ensures.item c.stamp-stamp.result c.in-Ok-canonical.bits) ∙ sym (c.in-Ok.ensures.refusal c.stamp-stamp.result c.in-Ok-canonical.bits),
)

pub invariant_of-self-2 : goal.invariant_of-self-2
invariant_of-self-2 g c =
    let s : State = record { registered = c.self.inside.registry; groups = c.self.inside.groups; mail = c.self.inside.mail; served = c.self.inside.served.items; count = c.self.inside.count } in
    let left : s.count < last_number = search rules in
    let bits : c.in-Ok-canonical.bits ≡ cleared c.args.pdu.now = is_cleared c.args.pdu.now c.in-Ok-canonical.bits c.in-Ok-canonical.ensures in
    let made : item_for s.registered (key_of c.args.envelope.now Report) c.stamp-stamp.result c.in-Ok-canonical.bits ≡ report_of s
    c.args.command.now.moment c.args.envelope.now c.args.pdu.now = search rules in
    let item = c.in-Ok.ensures.item c.stamp-stamp.result c.in-Ok-canonical.bits in
    let none : report_refusal s.registered s.mail c.args.envelope.now c.args.status (item_in c.in-Ok.judged.opening c.stamp-stamp.result c.in-Ok-canonical.bits) ≡ None =
    ap (report_refusal s.registered s.mail c.args.envelope.now c.args.status) item ∙ sym (c.in-Ok.ensures.refusal c.stamp-stamp.result c.in-Ok-canonical.bits) in
    reported_state s c.args.command.now c.args.envelope.now c.args.status c.args.pdu.now _ _ _ _ c.requires.pdu left (item ∙ made)
    (none, c.in_ok-report_judged.ensures.ok) c.count_accepted.ensures.kept c.count_accepted.ensures.count c.self.invariant

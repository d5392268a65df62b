use Rattle.std.proofs.Common.{◌≡◌, rules, sym, subst, Ok}
use Rattle.std.specs.Prelude.{IfOk, OnErr, IsTrue}
use Rattle.std.specs.Option.{is_none}
use Rattle.sds_tl.specs.declared.pdu.Head.TheVariants.{Transfer, Report}
use Rattle.sds_tl.specs.Reading.{heading}
use Rattle.centre_core.specs.Step.{message_of, report_of, step_sds, step_message, step_report}
use Rattle.mailbox.specs.Refusals.{post_refusal, report_refusal}
use Rattle.centre_core.specs.Memory.{needs_head}
use Rattle.centre_core.proofs.tables.Tables.short_data.Goals as goal

pub returns-in-Transfer-clause-ok : goal.returns-in-Transfer-clause-ok
returns-in-Transfer-clause-ok g c =
    let read : heading c.args.pdu.now ≡ Ok (Transfer c.in-Transfer.request c.in-Transfer.reference) = search rules in
    subst (λ head. IfOk c.post.result (λ reply. (c.post.new.self, reply) ≡ step_sds c.args.self.now c.args.command.now c.args.source c.args.destination c.args.pdu.now head)) (sym read)
    (subst (λ e. IfOk c.post.result
    (λ reply. (c.post.new.self, reply) ≡ step_message c.args.self.now c.args.command.now
    (message_of c.args.self.now c.args.command.now.moment e c.args.pdu.now))) c.envelope-envelope.ensures c.post.ensures.ok)

pub returns-in-Report-clause-ok : goal.returns-in-Report-clause-ok
returns-in-Report-clause-ok g c =
    let read : heading c.args.pdu.now ≡ Ok (Report c.in-Report.acknowledge c.in-Report.status c.in-Report.reference) = search rules in
    subst (λ head. IfOk c.report.result (λ reply. (c.report.new.self, reply) ≡ step_sds c.args.self.now c.args.command.now c.args.source c.args.destination c.args.pdu.now head)) (sym read)
    (subst (λ e. IfOk c.report.result
    (λ reply. (c.report.new.self, reply) ≡ step_report c.args.self.now c.args.command.now e c.in-Report.status
    (report_of c.args.self.now c.args.command.now.moment e c.args.pdu.now))) c.envelope-envelope-in-Report.ensures c.report.ensures.ok)

pub returns-in-Transfer-clause-memory : goal.returns-in-Transfer-clause-memory
returns-in-Transfer-clause-memory g c =
    let read : heading c.args.pdu.now ≡ Ok (Transfer c.in-Transfer.request c.in-Transfer.reference) = search rules in
    subst (λ head. OnErr c.post.result (IsTrue (needs_head c.args.self.now c.args.command.now.moment c.args.source c.args.destination c.args.pdu.now head))) (sym read)
    (subst (λ e. OnErr c.post.result
    (IsTrue (is_none (post_refusal c.args.self.now.registered c.args.self.now.mail
    (message_of c.args.self.now c.args.command.now.moment e c.args.pdu.now))))) c.envelope-envelope.ensures c.post.ensures.memory)

pub returns-in-Report-clause-memory : goal.returns-in-Report-clause-memory
returns-in-Report-clause-memory g c =
    let read : heading c.args.pdu.now ≡ Ok (Report c.in-Report.acknowledge c.in-Report.status c.in-Report.reference) = search rules in
    subst (λ head. OnErr c.report.result (IsTrue (needs_head c.args.self.now c.args.command.now.moment c.args.source c.args.destination c.args.pdu.now head))) (sym read)
    (subst (λ e. OnErr c.report.result
    (IsTrue (is_none (report_refusal c.args.self.now.registered c.args.self.now.mail e c.in-Report.status
    (report_of c.args.self.now c.args.command.now.moment e c.args.pdu.now))))) c.envelope-envelope-in-Report.ensures c.report.ensures.memory)

use Rattle.std.proofs.Common.{◌≡◌, [], List, length, sym, ◌∙◌, ap, subst}
use Rattle.std.specs.Prelude.{All, IfOk, OnErr, OnOk, Result}
use Rattle.std.specs.List.{list_any}
use Rattle.centre_core.specs.declared.command.Command.{Command}
use Rattle.centre_core.specs.declared.reply.Reply.{Reply}
use Rattle.desk.specs.declared.outage.Outage.{Outage}
use Rattle.desk.specs.Replies.{HasShortPdu}
use Rattle.desk.specs.Rules.{AreApplied}
use Rattle.console.specs.Answer.{is_trouble, texts}
use Rattle.console.specs.Inside.Passing.{Passes, PassesPart, sent_by}
use Rattle.console.specs.Inside.Together.{answers_for}
use Rattle.console.proofs.AtOnce.{as_many_replies}
use Rattle.console.proofs.together.Together.serve.Goals as goal

pub send_all-requires-clause-each : goal.send_all-requires-clause-each
send_all-requires-clause-each g c =
    let many = as_many_replies g.D.Desk.rules (g.D.Desk.world c.args.desk.now) (g.D.Desk.world c.apply_all.new.self) c.deref.result.now c.apply_all.new.replies.items c.apply_all.ensures.applies in
    ap length c.deref-3.ensures.value ∙ many ∙ ap length c.deref.ensures.value ∙ sym (ap length c.deref-2.ensures.value)

pub send_all-requires-clause-short : goal.send_all-requires-clause-short
send_all-requires-clause-short g c =
    subst (All (λ (reply : Result (Reply g.row.A.Denot) Outage). IfOk reply HasShortPdu)) (sym c.deref-3.ensures.value) c.apply_all.ensures.short

pub returns-clause-done : goal.returns-clause-done
returns-clause-done g c =
    let Denot = g.row.A.Denot in
    let replies = c.apply_all.new.replies.items in
    let held = sent_by g.W.Write.contents c.args.output.now in
    let now = sent_by g.W.Write.contents c.send_all.new.output in
    let Both : Type 0 = List (Command Denot) × List (Result (Reply Denot) Outage) in (
      replies,
      subst (λ (cs : List (Command Denot)).
          AreApplied g.D.Desk.rules (g.D.Desk.world c.args.desk.now) cs replies (g.D.Desk.world c.apply_all.new.self)) c.deref.ensures.value
          c.apply_all.ensures.applies,
      subst (λ (q : Both). OnOk c.send_all.result (Passes held now [] (texts (answers_for q.0 q.1)) [])) (λ j. (c.deref-2.ensures.value j, c.deref-3.ensures.value j)) c.send_all.ensures.ok,
      subst (λ (q : Both). IfOk c.send_all.result (λ troubled. troubled ≡ list_any is_trouble (answers_for q.0 q.1)))
          (λ j. (c.deref-2.ensures.value j, c.deref-3.ensures.value j)) c.send_all.ensures.trouble,
      subst (λ (q : Both). OnErr c.send_all.result (PassesPart held now (texts (answers_for q.0 q.1)))) (λ j. (c.deref-2.ensures.value j, c.deref-3.ensures.value j)) c.send_all.ensures.err,
    )

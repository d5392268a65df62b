use Rattle.std.proofs.Common.{◌≡◌, ℕ, List, Option, Some, option_map, Result, IfErr, Bor, subst}
use Rattle.console.specs.declared.line.Line.{Line}
use Rattle.console.specs.declared.line.Unread.{Unread}
use Rattle.console.specs.declared.answer.Answer.TheVariants.{CommandOutage}
use Rattle.desk.specs.declared.outage.Outage.TheVariants.{Memory}
use Rattle.console.specs.Dialogue.{Answers}
use Rattle.console.specs.Inside.Current.{KeepsLine}
use Rattle.console.specs.Reading.{heard, sequence_of}
use Rattle.console.specs.Runs.{speaker_of}
use Rattle.console.proofs.Permitted.{pdu_outage}
use Rattle.console.proofs.serving.answer_line.Goals as goal

pub returns-clause-answers : goal.returns-clause-answers
returns-clause-answers g c = λ whole kept.
    let speaker = speaker_of c.args.terms.now in
    let number = c.args.asked.number in
    let world = g.D.Desk.world c.args.desk.now in
    let sequence = c.in-Err.unread.sequence in
    let text : c.in-Some.line.now ≡ whole = subst (λ (o : Option (Bor (List ℕ))). KeepsLine (option_map {T = Bor (List ℕ)} {U = List ℕ} (λ l. l.now) o) whole) c.in-Some.is kept in
    let pdu = subst (λ (r : Result (Line g.row.A.Denot) Unread).
    IfErr r (λ unread. sequence_of (heard {A = g.row.A.Denot} speaker c.in-Some.line.now) ≡ Some unread.sequence)) c.in-Err.is
    c.hear_line-said.ensures.err in
    subst (λ (l : List ℕ). Answers g.D.Desk.rules speaker number world l (CommandOutage sequence Memory) world) text
    (pdu_outage g.D.Desk.rules number world (heard speaker c.in-Some.line.now) sequence pdu)

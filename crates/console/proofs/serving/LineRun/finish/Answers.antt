use Rattle.std.proofs.Common.{Err, refl, sym}
use Rattle.std.proofs.lemmas.Result.{err_from_is_err_and}
use Rattle.console.specs.Runs.{speaker_of}
use Rattle.console.specs.Inside.Given.{answer_of}
use Rattle.console.specs.Inside.Passing.{sent_by}
use Rattle.console.proofs.Going.{ends_between, ends_well, ends_short}
use Rattle.console.proofs.Told.{told_by}
use Rattle.console.proofs.serving.LineRun.finish.Goals as goal

pub returns-then-is_empty-clause-ends : goal.returns-then-is_empty-clause-ends
returns-then-is_empty-clause-ends g c = λ start begun taken i.
    ends_between g.D.Desk.rules start begun taken _ _ i (c.if-is_empty.ensures i.line i.holds) c.ran.ensures.lines c.ran.ensures.troubled

pub returns-in_err-send_answer-clause-ends : goal.returns-in_err-send_answer-clause-ends
returns-in_err-send_answer-clause-ends g c = λ start begun taken i.
    let p = err_from_is_err_and c.from_residual.result c.from_residual.ensures.1 in
    told_by g.D.Desk.rules start begun taken taken _ _ (Err p.0) c.from_residual.result refl (sym p.1)
    (ends_short g.D.Desk.rules start begun taken _ p.0 _ _ (answer_of c.answer_line-given.new.text.bytes.items c.answer_line-given.result) i
    (c.if-is_empty.ensures i.line i.holds) c.in_err-send_answer.ensures.err
    (c.answer_line-given.ensures.answers i.line (c.line.ensures i.line i.holds)))

pub returns-clause-ends : goal.returns-clause-ends
returns-clause-ends g c = λ start begun taken i.
    ends_well g.D.Desk.rules start begun taken _
    (record {
      speaker = speaker_of c.args.self.now.terms.now;
      progress = c.send_answer.new.progress;
      world =
          g.D.Desk.world c.answer_line-given.new.desk;
      written = sent_by g.W.Write.contents c.send_answer.new.output;
    })
    _ (answer_of c.answer_line-given.new.text.bytes.items c.answer_line-given.result) i (c.if-is_empty.ensures i.line i.holds)
    c.in_ok-send_answer.ensures.ok c.ran-2.ensures.lines c.ran-2.ensures.troubled
    (c.answer_line-given.ensures.answers i.line (c.line.ensures i.line i.holds))

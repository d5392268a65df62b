use Rattle.std.proofs.Common.{[], refl, ap}
use Rattle.base.proofs.Results.{on_err}
use Rattle.console.specs.Inside.Passing.{sent_by}
use Rattle.console.proofs.Going.{all_sent, part_sent}
use Rattle.console.proofs.Told.{answer_passes}
use Rattle.console.proofs.serving.send_answer.Goals as goal

pub returns-in_err-send-clause-err : goal.returns-in_err-send-clause-err
returns-in_err-send-clause-err g c =
    let given = c.as_slice.result.now in
    let sent = c.in_err-send.ensures.err in
    let first = answer_passes (sent_by g.W.Write.contents c.args.output.now) (sent_by g.W.Write.contents c.note_answer.new.self) [] given
    c.note_answer.ensures.events c.note_answer.ensures.same.1 (ap g.W.Write.contents c.note_answer.ensures.same.0) in
    on_err c.from_residual.result
    (part_sent _ _ _ given c.as_slice-2.result.now sent.0 _ _ _ _ c.hold-troubled.ensures c.as_slice.ensures c.as_slice-2.ensures first sent.1)

pub returns-clause-ok : goal.returns-clause-ok
returns-clause-ok g c =
    let given = c.as_slice.result.now in
    let first = answer_passes (sent_by g.W.Write.contents c.args.output.now) (sent_by g.W.Write.contents c.note_answer.new.self) [] given
    c.note_answer.ensures.events c.note_answer.ensures.same.1 (ap g.W.Write.contents c.note_answer.ensures.same.0) in
    let sent = all_sent _ _ _ given c.as_slice-2.result.now c.args.progress.now.troubled _ _ _ _ c.hold-troubled.ensures c.as_slice.ensures c.as_slice-2.ensures first c.in_ok-send.ensures.ok in
    (sent.0, sent.1, sent.2, (refl, sent.3, c.clear.ensures))

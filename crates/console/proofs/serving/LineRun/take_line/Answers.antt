use Rattle.std.proofs.Common.{refl}
use Rattle.std.proofs.lemmas.Result.{on_ok_weaker, IfErr-weaker}
use Rattle.console.specs.Inside.Given.{answer_of}
use Rattle.console.proofs.Going.{goes_on, stops_within}
use Rattle.console.proofs.serving.LineRun.take_line.Goals as goal

pub returns-clause-ok : goal.returns-clause-ok
returns-clause-ok g c = on_ok_weaker c.send_answer.result (λ sends. λ start begun taken i.
    goes_on g.D.Desk.rules start begun taken _ _ c.args.run.now (answer_of c.answer_line-given.new.text.bytes.items c.answer_line-given.result) c.requires.plain refl sends
    (λ line holds. c.answer_line-given.ensures.answers _ (c.end_line.ensures line (c.join.ensures line holds))) i)
    c.send_answer.ensures.ok

pub returns-clause-err : goal.returns-clause-err
returns-clause-err g c = IfErr-weaker c.send_answer.result _ _ (λ fault sends. λ start begun taken rest i.
    stops_within g.D.Desk.rules start begun taken rest _ fault _ _ c.args.run.now (answer_of c.answer_line-given.new.text.bytes.items c.answer_line-given.result) c.requires.plain sends
    (λ line holds. c.answer_line-given.ensures.answers _ (c.end_line.ensures line (c.join.ensures line holds))) i)
    c.send_answer.ensures.err

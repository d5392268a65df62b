use Rattle.std.proofs.Common.{◌||◌, ◌++◌, Err, take, drop, refl, ap, subst, arith}
use Rattle.std.proofs.lemmas.Result.{err_from_is_err_and}
use Rattle.console.specs.Inside.Current.{Holds}
use Rattle.console.specs.Inside.Feed.{reached_by}
use Rattle.console.specs.Inside.Passing.{sent_by}
use Rattle.console.proofs.AtOnce.{going_together, short_together}
use Rattle.console.proofs.Told.{told_by}
use Rattle.console.proofs.Writing.{left_after}
use Rattle.console.proofs.serving.LineRun.take_together.Goals as goal

pub returns-in_err-troubled-clause-err : goal.returns-in_err-troubled-clause-err
returns-in_err-troubled-clause-err g c = let p = err_from_is_err_and c.from_residual.result c.from_residual.ensures.1 in rw p.1 (λ start begun taken rest going none.
    let text = c.args.text.now in
    let n = c.collect-taken.result in
    let done = c.in_err-troubled.ensures.done in
    told_by g.D.Desk.rules start begun _ _ (sent_by g.W.Write.contents c.serve.new.output) (g.D.Desk.world c.serve.new.desk) (Err c.in_err-troubled.field-0.0) _ (left_after taken text rest n) refl
    (short_together g.D.Desk.rules start begun taken (take n text) c.collect-taken.new.self.commands.items done.0 (reached_by g.D.Desk.world g.W.Write.contents c.args.self.now)
    c.in_err-troubled.field-0.0 (sent_by g.W.Write.contents c.serve.new.output) (g.D.Desk.world c.serve.new.desk) (drop n text ++ rest) going none
    c.collect-taken.ensures.lines done.1 (omega (arith, c.collect-taken.ensures.few, c.most_together-most.ensures.few)) done.4))

pub returns-clause-ok : goal.returns-clause-ok
returns-clause-ok g c = λ start begun taken going none.
    let was = c.args.self.now.progress.now in
    let done = c.in_ok-troubled.ensures.done in
    going_together g.D.Desk.rules start begun taken (take c.collect-taken.result c.args.text.now) c.collect-taken.new.self.commands.items done.0
    (reached_by g.D.Desk.world g.W.Write.contents c.args.self.now) _
    going none c.collect-taken.ensures.lines done.1 refl (omega (arith, c.len-count.ensures, c.collect-taken.new.self.commands.ok.0)) (ap (λ b. was.troubled || b) done.3)
    (subst (λ l. Holds was.current.bytes.items was.current.long l) none going.holds) done.2

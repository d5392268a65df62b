use Rattle.std.proofs.Common.{◌≡◌, ◌+◌, ◌++◌, Err, take, drop, refl, arith}
use Rattle.std.proofs.lemmas.Result.{err_from_is_err_and}
use Rattle.console.specs.Inside.Passing.{sent_by}
use Rattle.console.proofs.Going.{going_same}
use Rattle.console.proofs.AtOnce.{further, no_further, rest_of, whole}
use Rattle.console.proofs.Told.{told_by}
use Rattle.console.proofs.Writing.{taken_more, taken_before}
use Rattle.console.proofs.serving.LineRun.take_next.Goals as goal

pub returns-in_err-take_line-clause-err : goal.returns-in_err-take_line-clause-err
returns-in_err-take_line-clause-err g c = let p = err_from_is_err_and c.from_residual.result c.from_residual.ensures.1 in rw p.1 (λ start begun taken rest i.
    let piece = c.args.piece.now in let at = c.args.at in let end = c.args.end in
    told_by g.D.Desk.rules start begun _ _ (sent_by g.W.Write.contents c.take_line.new.self.output.now) (g.D.Desk.world c.take_line.new.self.desk.now)
    (Err c.in_err-take_line.field-0.0) _ (taken_before taken piece rest at end 10 c.requires.here.0 c.requires.here.1 c.requires.ended) refl
    (c.in_err-take_line.ensures.err start begun (taken ++ take at piece) (drop (end + 1) piece ++ rest) i))

pub returns-then-not-may_ask-clause-ok : goal.returns-then-not-may_ask-clause-ok
returns-then-not-may_ask-clause-ok g c = λ start begun taken i.
    let piece = c.args.piece.now in let at = c.args.at in let end = c.args.end in
    going_same g.D.Desk.rules start begun _ _ _ (taken_more taken piece at end 10 c.requires.here.0 c.requires.here.1 c.requires.ended)
    (c.in_ok-take_line.ensures.ok start begun (taken ++ take at piece) i)

pub returns-in_err-taken-clause-err : goal.returns-in_err-taken-clause-err
returns-in_err-taken-clause-err g c = let p = err_from_is_err_and c.from_residual-in_err-taken.result c.from_residual-in_err-taken.ensures.1 in rw p.1 (λ start begun taken rest i.
    let piece = c.args.piece.now in let at = c.args.at in
    told_by g.D.Desk.rules start begun _ _ (sent_by g.W.Write.contents c.take_together.new.self.output.now)
    (g.D.Desk.world c.take_together.new.self.desk.now) (Err c.in_err-taken.field-0.0) _ (whole taken piece rest at) refl
    (c.in_err-taken.ensures.err start begun (taken ++ take at piece) rest i (c.may_ask.ensures c.if-not-may_ask.false i.line i.holds)))

pub returns-then-taken-gt0-clause-ok : goal.returns-then-taken-gt0-clause-ok
returns-then-taken-gt0-clause-ok g c = λ start begun taken i.
    let piece = c.args.piece.now in let at = c.args.at in let n = c.in_ok-taken.taken in
    going_same g.D.Desk.rules start begun _ _ _ (further taken piece at n)
    (c.in_ok-taken.ensures.ok start begun (taken ++ take at piece) i (c.may_ask.ensures c.if-not-may_ask.false i.line i.holds))

pub returns-in_err-take_line-2-clause-err : goal.returns-in_err-take_line-2-clause-err
returns-in_err-take_line-2-clause-err g c = let p = err_from_is_err_and c.from_residual-in_err-take_line-2.result c.from_residual-in_err-take_line-2.ensures.1 in rw p.1 (λ start begun taken rest i.
    let piece = c.args.piece.now in let at = c.args.at in let end = c.args.end in let n = c.in_ok-taken.taken in
    let none : n ≡ 0 = omega (arith, c.if-taken-gt0.false) in
    let still = going_same g.D.Desk.rules start begun _ _ _ (no_further (taken ++ take at piece) (rest_of at piece) n none)
    (c.in_ok-taken.ensures.ok start begun (taken ++ take at piece) i (c.may_ask.ensures c.if-not-may_ask.false i.line i.holds)) in
    told_by g.D.Desk.rules start begun _ _ (sent_by g.W.Write.contents c.take_line-2.new.self.output.now)
    (g.D.Desk.world c.take_line-2.new.self.desk.now) (Err c.in_err-take_line-2.field-0.0) _
    (taken_before taken piece rest at end 10 c.requires.here.0 c.requires.here.1 c.requires.ended) refl
    (c.in_err-take_line-2.ensures.err start begun (taken ++ take at piece) (drop (end + 1) piece ++ rest) still))

pub returns-clause-ok : goal.returns-clause-ok
returns-clause-ok g c = λ start begun taken i.
    let piece = c.args.piece.now in let at = c.args.at in let end = c.args.end in let n = c.in_ok-taken.taken in
    let none : n ≡ 0 = omega (arith, c.if-taken-gt0.false) in
    let still = going_same g.D.Desk.rules start begun _ _ _ (no_further (taken ++ take at piece) (rest_of at piece) n none)
    (c.in_ok-taken.ensures.ok start begun (taken ++ take at piece) i (c.may_ask.ensures c.if-not-may_ask.false i.line i.holds)) in
    going_same g.D.Desk.rules start begun _ _ _ (taken_more taken piece at end 10 c.requires.here.0 c.requires.here.1 c.requires.ended)
    (c.in_ok-take_line-2.ensures.ok start begun (taken ++ take at piece) still)

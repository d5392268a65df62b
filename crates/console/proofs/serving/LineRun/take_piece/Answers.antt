use Rattle.std.proofs.Common.{◌++◌, List, ℕ, take, refl, sym, subst, arith}
use Rattle.std.proofs.lemmas.Result.{err_from_is_err_and}
use Rattle.console.specs.Inside.Current.{HasNoEnd}
use Rattle.console.specs.Inside.Feed.{reached_by}
use Rattle.console.proofs.AtOnce.{rest_is, rest_of, to_its_end}
use Rattle.console.proofs.Going.{going_more, going_same}
use Rattle.console.proofs.serving.LineRun.take_piece.Goals as goal

pub returns-in_err-at-clause-err : goal.returns-in_err-at-clause-err
returns-in_err-at-clause-err g c = let p = err_from_is_err_and c.from_residual.result c.from_residual.ensures.1 in rw p.1 (λ start begun taken rest i.
    c.in_err-at.ensures.err start begun taken rest (c.loop-end.invariant.2 start begun taken i))

pub returns-in_err-at-clause-lines : goal.returns-in_err-at-clause-lines
returns-in_err-at-clause-lines g c = omega (arith, c.take_next.ensures.most, c.loop-end.invariant.1)

pub returns-clause-ok : goal.returns-clause-ok
returns-clause-ok g c = λ start begun taken i.
    let piece = c.args.piece.now in
    let at = c.loop-end.at in
    let plain = subst (λ (l : List ℕ). HasNoEnd l) (sym (rest_is at piece)) c.in_default.ensures in
    going_same g.D.Desk.rules start begun _ (taken ++ piece) _ (to_its_end taken piece at)
    (going_more g.D.Desk.rules start begun (taken ++ take at piece) (reached_by g.D.Desk.world g.W.Write.contents c.loop-end.self) _
    (rest_of at piece) plain refl refl c.add.ensures (c.loop-end.invariant.2 start begun taken i))

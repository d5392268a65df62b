use Rattle.std.proofs.Common.{arith, subst}
use Rattle.std.proofs.lemmas.List.Elements.{All-more}
use mathlib.Core.List.{IsPrefix}
use Rattle.flusher.specs.declared.session.Ended.{Ended}
use Rattle.flusher.proofs.Closed.{all_of_take}
use Rattle.flusher.proofs.closing.wait_within_each.Goals as goal

pub loop-end-init : goal.loop-end-init
loop-end-init g c k d lt = absurd (omega (arith, lt))

pub loop-end-preserved : goal.loop-end-preserved
loop-end-preserved g c =
    let P : Ended g.row.J.Denot → Type 0 = λ e. IsPrefix e.viewer c.args.published.now in
    All-more P c.args.ended.now c.loop-end.end-index c.end-item.result c.loop-end-test.true c.loop-end.invariant (subst P c.end-item.is c.wait_within.ensures)

pub returns : goal.returns
returns g c = all_of_take (λ (e : Ended g.row.J.Denot). IsPrefix e.viewer c.args.published.now) c.args.ended.now c.loop-end.end-index (omega (arith, c.loop-end-test.false)) c.loop-end.invariant

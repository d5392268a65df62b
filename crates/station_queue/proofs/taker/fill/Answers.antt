use Rattle.std.proofs.Common.{◌-◌, ap, ◌∙◌, arith}
use Rattle.crossbeam_queue.specs.Passes.{view as known}
use Rattle.station_queue.specs.declared.rule.QueueView.{QueueView}
use Rattle.station_queue.proofs.Steps.{same_taker}
use Rattle.station_queue.proofs.taker.fill.Goals as goal

pub loop-preserved : goal.loop-preserved
loop-preserved c =
    let i = c.loop.invariant in
    let e = c.give_one.ensures in
    let one = same_taker (known c.loop.pass) (known c.give_one.new.pass) ((known c.loop.pass).places - 1) e.view in
    let places = ap (λ (v : QueueView). v.places) e.view in
    let same = i.3 in (
      e.pass.0,
      e.pass.1 ∙ i.1,
      (one.0, one.1 ∙ i.2.1, one.2 ∙ i.2.2, one.3 ∙ i.2.3),
      omega (arith, places, same),
      e.returns ∙ i.4,
    )

use Rattle.std.proofs.Common.{◌≡◌, ◌+◌, ◌<◌, ap, sym, ◌∙◌, arith}
use Rattle.crossbeam_queue.specs.Passes.{view as known}
use Rattle.station_queue.specs.declared.rule.QueueView.{QueueView}
use Rattle.station_queue.proofs.Steps.{gets_back, has_room, puts}
use Rattle.station_queue.proofs.sender.put.Goals as goal

pub absorb-requires-clause-rule : goal.absorb-requires-clause-rule
absorb-requires-clause-rule g c = gets_back _ _ _ _ (ap (λ h. h.sends) c.requires.view)

pub push_as-requires-clause-rule : goal.push_as-requires-clause-rule
push_as-requires-clause-rule g c =
    let back = c.absorb.ensures.rule in
    let sends = ap (λ (v : QueueView). v.sends) back in
    let station = ap (λ (v : QueueView). v.station) back ∙ ap (λ (v : QueueView). v.station) c.requires.view in
    let places = ap (λ (v : QueueView). v.places) back in
    let none = ap (λ (v : QueueView). v.places) c.requires.view in
    let one = ap (λ (v : QueueView). v.places) c.place.invariant.1 in
    let has : 0 < (known c.absorb.new.pass).places = omega (arith, places, none, one) in
    (puts _ _ _ _ sends (sym station) has, has_room _ _)

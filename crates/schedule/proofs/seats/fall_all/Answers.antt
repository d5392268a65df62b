use Rattle.std.proofs.Common.{ap, length, [], arith}
use Rattle.std.proofs.lemmas.List.Edits.{map_over_more}
use Rattle.schedule.specs.World.{Line, line}
use Rattle.schedule.proofs.seats.fall_all.Goals as goal

pub loop-station-preserved : goal.loop-station-preserved
loop-station-preserved g c =
    let m = map_over_more (λ (x : Line g.row.A.Denot). line [] x.seen) c.args.stations.now.items c.loop-station.station-items
    c.loop-station.station-index c.station-item.result (omega (arith, ap length c.deref_mut-station-items.ensures.value)) c.loop-station.invariant
    c.station-item.is in
    rw (c.fall.ensures, ← c.station-item.is) m

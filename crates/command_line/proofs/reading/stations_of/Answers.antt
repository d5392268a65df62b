use Rattle.std.proofs.Common.{◌∙◌, Some, ap, arith, sym}
use Rattle.command_line.specs.Asked.{stations_in}
use Rattle.command_line.proofs.Stations.{station_lacks, station_more}
use Rattle.command_line.proofs.reading.stations_of.Goals as goal

pub loop-index-init : goal.loop-index-init
unfolding stations_in
loop-index-init c = ap Some (sym c.new-stations.ensures.items)

pub returns-in_default : goal.returns-in_default
returns-in_default c = sym (station_lacks c.args.words.now c.loop-index.index _ (omega (arith, c.loop-index-test.true)) (sym c.in_default.ensures))

pub loop-index-preserved : goal.loop-index-preserved
loop-index-preserved c =
    station_more c.args.words.now c.loop-index.stations.items c.loop-index.index _ c.in-Some.station (omega (arith, c.loop-index-test.true)) c.loop-index.invariant
    (sym c.in-Some.ensures)
    ∙ ap Some (sym c.in_ok-push.ensures.items)

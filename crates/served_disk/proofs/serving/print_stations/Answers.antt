use Rattle.std.proofs.Common.{rules}
use Rattle.std.proofs.KnownBytes.{Appends-nil}
use Rattle.served_disk.proofs.Stations.{one_more}
use Rattle.served_disk.proofs.serving.print_stations.Goals as goal

pub loop-index-init : goal.loop-index-init
loop-index-init g c = Appends-nil _

pub loop-index-preserved : goal.loop-index-preserved
loop-index-preserved g c = one_more _ _ _ c.args.names.now c.args.runs.now c.loop-index.index _ _ c.new-station.result c.deref.result.now
    c.requires.same (search rules) (search rules) c.deref.ensures.value c.loop-index.invariant c.in_ok-print_station.ensures

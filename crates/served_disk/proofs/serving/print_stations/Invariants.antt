use Rattle.std.proofs.Common.{take}
use Rattle.std.specs.Io.KnownBytes.{Appends}
use Rattle.served_disk.specs.Stations.{text_from}
use Rattle.served_disk.proofs.serving.print_stations.Given as goal

-- the stations so far
abbrev pub invariant-loop-index : goal.invariant-loop-index
invariant-loop-index g l = Appends (g.W.Write.contents l.initial.out) (g.W.Write.contents l.out) (text_from 1 (take l.index l.names) (take l.index l.runs))

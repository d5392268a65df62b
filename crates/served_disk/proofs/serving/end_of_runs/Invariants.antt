use Rattle.std.proofs.Common.{◌≡◌, take}
use Rattle.std.specs.Prelude.{All}
use Rattle.std.specs.List.{list_any}
use Rattle.served_disk.specs.Stations.{IsWhole, is_troubled}
use Rattle.served_disk.proofs.serving.end_of_runs.Given as goal

-- no run has a fault so far
abbrev pub invariant-loop-index : goal.invariant-loop-index
invariant-loop-index g l = All IsWhole (take l.index l.runs) × (l.troubled ≡ list_any is_troubled (take l.index l.runs))

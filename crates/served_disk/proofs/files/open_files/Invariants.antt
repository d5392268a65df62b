use Rattle.std.proofs.Common.{◌≡◌, length, take}
use Rattle.std.specs.Prelude.{◌≤◌, vec_capacity}
use Rattle.std.specs.List.{AllZip}
use Rattle.served_disk.specs.Pairs.{IsFilePortOf, numbered}
use Rattle.served_disk.proofs.files.open_files.Given as goal

abbrev pub invariant-loop-index : goal.invariant-loop-index
invariant-loop-index g l = (length l.ports.items ≡ l.index) × (length l.names ≤ vec_capacity l.ports)
    × AllZip (IsFilePortOf (g.R.StationFiles.opened l.fn.rt)) (take l.index (numbered l.names)) l.ports.items

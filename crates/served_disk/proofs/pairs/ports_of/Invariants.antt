use Rattle.std.proofs.Common.{◌≡◌, length, take}
use Rattle.std.specs.Prelude.{◌≤◌, vec_capacity}
use Rattle.std.specs.List.{AllZip}
use Rattle.served_disk.specs.Pairs.{IsPortOf, numbered}
use Rattle.served_disk.proofs.pairs.ports_of.Given as goal

abbrev pub invariant-loop-index : goal.invariant-loop-index
invariant-loop-index g l = (length l.ports.items ≡ l.index) × (length l.pairs ≤ vec_capacity l.ports) × AllZip (IsPortOf l.fn.log) (take l.index (numbered l.pairs)) l.ports.items

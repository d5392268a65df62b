use Rattle.std.proofs.Common.{◌≡◌, length, take}
use Rattle.std.specs.Prelude.{◌≤◌, vec_capacity}
use Rattle.std.specs.List.{AllZip}
use Rattle.served_disk.specs.Pairs.{AreNamesOf}
use Rattle.served_disk.proofs.pairs.names_of.Given as goal

abbrev pub invariant-loop-pair : goal.invariant-loop-pair
invariant-loop-pair g l = (length l.names.items ≡ l.pair-index) × (length l.pairs ≤ vec_capacity l.names) × AllZip AreNamesOf (take l.pair-index l.pairs) l.names.items

use Rattle.std.proofs.Common.{◌≡◌, length, take}
use Rattle.std.specs.List.{AllZip}
use Rattle.served_disk.specs.Pairs.{AreNamesOf}
use Rattle.served_disk.proofs.pairs.name_ended.Given as goal

-- the names of the first stations so far
abbrev pub invariant-loop-index : goal.invariant-loop-index
invariant-loop-index g l = (length l.names ≡ length l.initial.names) × AllZip AreNamesOf (take l.index l.pairs) (take l.index l.names)

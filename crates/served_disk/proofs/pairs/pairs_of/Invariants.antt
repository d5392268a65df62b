use Rattle.std.proofs.Common.{◌≡◌, length, take}
use Rattle.std.specs.Prelude.{◌≤◌, vec_capacity}
use Rattle.std.specs.List.{AllZip}
use Rattle.served_disk.specs.Pairs.{IsPairOf}
use Rattle.served_disk.proofs.pairs.pairs_of.Given as goal

abbrev pub invariant-loop-input : goal.invariant-loop-input
invariant-loop-input l = (length l.pairs.items ≡ l.input-index) × (length l.named ≤ vec_capacity l.pairs) × AllZip IsPairOf (take l.input-index l.named) l.pairs.items

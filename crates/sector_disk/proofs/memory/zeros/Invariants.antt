use Rattle.std.proofs.Common.{◌≡◌, replicate}
use Rattle.sector_disk.proofs.memory.zeros.Given as goal

abbrev pub invariant-loop-k : goal.invariant-loop-k
invariant-loop-k g l = l.all.items ≡ replicate l.k (replicate 512 0)

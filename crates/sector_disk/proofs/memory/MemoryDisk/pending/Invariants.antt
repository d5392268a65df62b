use Rattle.std.proofs.Common.{◌≡◌, filter}
use Rattle.std.specs.List.{range_with_len}
use Rattle.sector_disk.specs.Crash.{is_pending}
use Rattle.sector_disk.proofs.memory.MemoryDisk.pending.Given as goal

abbrev pub invariant-loop-k : goal.invariant-loop-k
invariant-loop-k g l = l.all.items ≡ filter (is_pending l.self.pending.items) (range_with_len 0 l.k)

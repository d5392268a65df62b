use Rattle.std.proofs.Common.{◌≡◌, ◌++◌, replicate}
use Rattle.sector_disk.specs.Run.{writes}
use Rattle.file_disk.proofs.disk.FileDisk.note_zeros.Given as goal

abbrev pub invariant-loop-k : goal.invariant-loop-k
invariant-loop-k g l = record {
  calls : l.self.history.calls ≡ l.initial.self.history.calls ++ writes 0 l.k (λ k. replicate 512 0);
  file : (l.self.file ≡ l.initial.self.file) × (l.self.sectors ≡ l.initial.self.sectors);
  kept : (l.self.lost ≡ l.initial.self.lost) × (l.self.failures ≡ l.initial.self.failures);
}

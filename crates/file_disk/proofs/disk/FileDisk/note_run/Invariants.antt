use Rattle.std.proofs.Common.{◌≡◌, ◌++◌}
use Rattle.sector_disk.specs.Filling.{part_of}
use Rattle.sector_disk.specs.Run.{writes}
use Rattle.file_disk.proofs.disk.FileDisk.note_run.Given as goal

abbrev pub invariant-loop-k : goal.invariant-loop-k
invariant-loop-k g l = record {
  calls : l.self.history.calls ≡ l.initial.self.history.calls ++ writes l.at l.k (part_of l.bytes);
  file : (l.self.file ≡ l.initial.self.file) × (l.self.sectors ≡ l.initial.self.sectors);
  kept : (l.self.lost ≡ l.initial.self.lost) × (l.self.failures ≡ l.initial.self.failures);
}

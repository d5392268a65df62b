use Rattle.std.proofs.Common.{◌≡◌, ◌<◌, ℕ, true, false, length, drop}
use Rattle.sector_disk.specs.Crash.{is_pending, named}
use Rattle.sector_disk.specs.Disk.{sector, AreSectors}
use Rattle.sector_disk.proofs.memory.fill_pending.Given as goal

abbrev pub invariant-loop-at : goal.invariant-loop-at
invariant-loop-at l = record {
  count : length l.sectors ≡ length l.initial.sectors;
  chosen : (k : ℕ) → k < length l.initial.sectors → is_pending l.pending k ≡ true
      → named (drop l.at-index l.fill) k (sector l.sectors k) ≡ named l.fill k (sector l.initial.sectors k);
  settled : (k : ℕ) → is_pending l.pending k ≡ false → sector l.sectors k ≡ sector l.initial.sectors k;
  whole : AreSectors l.initial.sectors → AreSectors l.sectors;
}

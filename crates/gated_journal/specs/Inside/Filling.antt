-- What a stop leaves of two runs of writes.
use Rattle.std.specs.Prelude.{◌≡◌, ◌⊎◌, ℕ, ◌<◌, ◌≤◌, ◌+◌, List, length, OnOk, Result}
use Rattle.sector_disk.specs.Numbers.{Byte, Sector, Sectors}
use Rattle.sector_disk.specs.Disk.{View, IsImageOf, sector}
use Rattle.sector_disk.specs.Run.{LeavesOnly}
use Rattle.sector_disk.specs.declared.disk.DiskError.{DiskError}
use Rattle.sector_disk.specs.declared.record.Call.{Call}
use Rattle.gated_journal.specs.Calls.{settled_both_calls}
use Rattle.gated_journal.specs.Record.{data_sector}
use Rattle.gated_journal.specs.Twice.{IsTornTwiceImage}
use Rattle.gated_journal.specs.declared.both.SectorRun.{SectorRun}

-- Two runs of writes: n sectors from `at` on with the bytes of `bytes`, and then m sectors from `to` on with those of `more`.
-- A stop may leave anything in these sectors, and in all others what it could leave before. At `Ok` these sectors read as the bytes.
pub record HasFilledTwice (old new : View) (at : Sector) (n : Sectors) (bytes : ℕ → List Byte) (to : Sector) (m : Sectors)
    (more : ℕ → List Byte) (result : Result Unit DiskError) : Type 0 where
  pub honest : new.honest
  pub crash : LeavesOnly old new (IsTornTwiceImage old at n to m)
  pub now : (image : List (List Byte)) → IsImageOf new image → IsTornTwiceImage old at n to m image
  pub count : length new.reads ≡ length old.reads
  pub others : (k : ℕ) → (k < at) ⊎ (at + n ≤ k) → (k < to) ⊎ (to + m ≤ k) → sector new.reads k ≡ sector old.reads k
  pub written : OnOk result ((k : ℕ) → k < n → sector new.reads (at + k) ≡ bytes k)
  pub also : OnOk result ((k : ℕ) → k < m → sector new.reads (to + k) ≡ more k)

-- The runs x and y are written, x first, and do to the disk what `HasFilledTwice` states. A run writes the first `sectors` sectors
-- of its text, from the disk's sector `at` on.
abbrev pub AreFilled : View → View → SectorRun → SectorRun → Result Unit DiskError → Type 0
AreFilled old new x y result = HasFilledTwice old new x.at x.sectors (data_sector x.data.now.text.now) y.at y.sectors (data_sector y.data.now.text.now) result

-- the sectors of x are written, then those of y, and both are synced
abbrev pub both_calls : SectorRun → SectorRun → List Call
both_calls x y = settled_both_calls x.at x.sectors x.data.now.text.now y.at y.sectors y.data.now.text.now

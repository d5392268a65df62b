-- What calls leave of a disk, whatever they answer.
use Rattle.std.specs.Prelude.{◌≡◌, ◌≤◌}
use Rattle.sector_disk.specs.Disk.{HasFailed, View}
use Rattle.sector_disk.specs.Reading.{before_reads}
use Rattle.sector_disk.specs.Run.{HasOnlyRead}

-- The disk was only read. Where the device's fault is reported, the device has failed.
pub record OnlyReads (old new : View) (IsReported : Type 0) : Type 0 where
  pub only_read : old.honest → HasOnlyRead old new
  pub only_reads : before_reads new.calls ≡ before_reads old.calls
  pub fault : IsReported → HasFailed old new
  pub sectors : new.sectors ≡ old.sectors
  pub later : old.failures ≤ new.failures

-- The disk may have been written. It has as many sectors as before, an honest disk stays honest, and no failure is
-- forgotten. Where the device's fault is reported, the device has failed.
pub record KeepsDisk (old new : View) (IsReported : Type 0) : Type 0 where
  pub fault : IsReported → HasFailed old new
  pub sectors : new.sectors ≡ old.sectors
  pub later : old.failures ≤ new.failures
  pub honest : old.honest → new.honest

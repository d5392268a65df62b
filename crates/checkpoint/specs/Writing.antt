-- What a call that writes rows of an image does to the disk.
use Rattle.std.specs.Prelude.{◌≡◌, ℕ, ◌≤◌, IsErr, IsErrOf, List, OnOk, Result}
use Rattle.identity.specs.Numbers.{Byte}
use Rattle.sector_disk.specs.Numbers.{Sector, Sectors}
use Rattle.sector_disk.specs.Disk.{View}
use Rattle.sector_disk.specs.Effects.{KeepsDisk}
use Rattle.sector_disk.specs.Filling.{HasFilled}
use Rattle.sector_disk.specs.Run.{HasCalled, HasMade, writes}
use Rattle.sector_disk.specs.declared.disk.DiskError.{DiskError}
use Rattle.sector_disk.specs.declared.disk.DiskError.TheVariants.{OutOfRange}
use Rattle.centre_core.specs.State.{State}
use Rattle.checkpoint.specs.Layout.{disk_size}
use Rattle.checkpoint.specs.declared.layout.Layout.{Layout}

-- The disk has room for this layout, and the register has the layout's limits.
pub record HasRoomFor (layout : Layout) (register : State) (disk : View) : Type 0 where
  pub room : disk_size layout ≤ disk.sectors
  pub limits : register.registered.limits ≡ layout.limits

-- n rows are written from the sector `at` on, one row a sector. Row k, from 0 on, has the bytes `bytes k`.
pub record WritesRows (old new : View) (at : Sector) (n : Sectors) (bytes : ℕ → List Byte) (result : Result Unit DiskError) : Type 0 where
  -- A stop at any moment of the call leaves all but these sectors as they were. At `Ok` these read as the rows.
  pub effect : old.honest → HasFilled old new at n bytes result
  -- At `Ok` each row was written once, in order, and after an error a prefix of the rows.
  pub calls : OnOk result (HasCalled old new (writes at n bytes))
  pub some_calls : HasMade old new (writes at n bytes)
  -- The call fails only where the device has failed.
  pub keeps : KeepsDisk old new (IsErr result)
  pub in_range : IsErrOf result OutOfRange → ⊥

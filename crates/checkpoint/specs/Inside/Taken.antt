-- What a loader takes of a sector of a disk.
use Rattle.std.specs.Prelude.{[], ◌∷◌, IsSome, Option}
use Rattle.sector_disk.specs.Disk.{View, sector}
use Rattle.sector_disk.specs.Numbers.{Sector}
use Rattle.sector_disk.specs.Run.{HasCalled}
use Rattle.sector_disk.specs.declared.record.Call.TheVariants.{Read}
use Rattle.image_rows.specs.Held.{taken_from}
use Rattle.image_rows.specs.Loading.{Loading}

-- the loading with the row in that sector of the disk, if that row may come next
abbrev pub taken_at : View → Sector → Loading → Option Loading
taken_at disk at loading = taken_from loading (sector disk.reads at)

-- The sector was read. On an honest disk its row may come next.
abbrev pub HasReadGood : View → View → Sector → Loading → Type 0
HasReadGood old new at loading = HasCalled old new (Read at ∷ []) × (old.honest → IsSome (taken_at old at loading))

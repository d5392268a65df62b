-- A disk whose syncs are counted.
use Rattle.std.specs.Prelude.{◌≡◌}
use Rattle.std.specs.declared.alloc.Global.{Global}
use Rattle.sector_disk.specs.Disk.{View}
use Rattle.recovery.specs.Lives.{HasOpened, StoreView}
use Rattle.served_disk.specs.declared.counted.SyncedDisk.{SyncedDisk}

-- the store was opened on this disk, whose syncs are counted
pub record HasOpenedSynced {D : Type 0} (view : D → View) (disk : D) (store : StoreView Global (SyncedDisk D)) : Type 0 where
  pub first : SyncedDisk D
  pub of_disk : first.disk ≡ disk
  pub opened : HasOpened Global (λ synced. view synced.disk) first store

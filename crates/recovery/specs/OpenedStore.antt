-- What an opening answers.
use Rattle.std.specs.Prelude.{◌≡◌, ◌⊎◌, ◌<◌, ◌++◌, ◌∷◌, ℕ, [], None, false}
use Rattle.sector_disk.specs.Disk.{HasFailed, View}
use Rattle.sector_disk.specs.Reading.{before_reads}
use Rattle.sector_disk.specs.declared.disk.Disk.{Ghosts}
use Rattle.sector_disk.specs.declared.record.Call.TheVariants.{Sync}
use Rattle.checkpoint.specs.OnSide.{InEach}
use Rattle.recovery.specs.Lives.{HasNotOpened, HasOpened, view_of}
use Rattle.recovery.specs.Opening.{Fails, HasNoFaultYet, IsOfOpening}
use Rattle.recovery.specs.Opens.{opens}
use Rattle.recovery.specs.declared.fault.StoreFault.{StoreFault}
use Rattle.recovery.specs.declared.fault.StoreFault.TheVariants.{Damaged, DiskFault, NoMemory}
use Rattle.recovery.specs.declared.store.Store.{Store}

-- A store that was opened on a disk. If the disk is honest, the store is what the disk opens to as it reads, and its register
-- is on the disk. A stop during the opening leaves what a stop before it could leave, and a stop after it what was read. The
-- opening calls one sync and then only reads.
pub record IsOpenedOn {A D : Type 0} {g : Ghosts D} (view : D → View) (disk : D) (store : Store A D g) : Type 0 where
  pub opened : (view disk).honest → HasOpened A view disk (view_of store)
  pub only : (view disk).honest → InEach (view store.disk) (λ image. image ≡ (view disk).reads)
  pub sound : store.broken ≡ false
  pub idle : store.ongoing ≡ None
  pub found : store.found.value ≡ disk
  pub calls : before_reads (view store.disk).calls ≡ (view disk).calls ++ Sync ∷ []

-- An opening of a disk that fails, for this reason, and returns it. `Damaged` names a sector of the disk, even if the disk is not honest.
-- Out of memory masks no bad row or record that was read, and no refused command before the one that memory ran out for: after the sync there
-- are the reads that find the side that counts, and then those of good rows; or all rows and all records are good. With a `DiskFault` there may
-- be no call.
pub record IsRefusedOn {D : Type 0} (A : Type 0) (view : D → View) (disk : D) (why : StoreFault) (returned : D) : Type 0 where
  pub refused : (view disk).honest → Fails why (opens A (view disk).reads)
  pub left : (view disk).honest → HasNotOpened A view disk returned
  pub on_disk : (at : ℕ) → why ≡ Damaged at → at < (view disk).sectors
  pub memory : why ≡ NoMemory → (view disk).honest → HasNoFaultYet A (view disk).reads ((view disk).calls ++ Sync ∷ []) (view returned).calls
  pub fault : why ≡ DiskFault → HasFailed (view disk) (view returned)
  pub kinds : IsOfOpening why
  pub some_calls :
      (before_reads (view returned).calls ≡ (view disk).calls ++ Sync ∷ []) ⊎ ((why ≡ DiskFault) × ((view returned).calls ≡ (view disk).calls))

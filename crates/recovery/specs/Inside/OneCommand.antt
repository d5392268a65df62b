-- When a commit of one command is refused.
use Rattle.std.specs.Prelude.{◌≡◌, ◌≤◌, ◌∷◌, [], true, false, Err, IfErr, IsErrOf, IsTrue, OnOk, Result}
use Rattle.std.specs.Borrow.{Bor}
use Rattle.sector_disk.specs.Disk.{HasFailed, View}
use Rattle.sector_disk.specs.declared.disk.Disk.{Ghosts}
use Rattle.centre_core.specs.Asked.{Asked}
use Rattle.centre_core.specs.Memory.{needs_memory}
use Rattle.image_rows.specs.Rows.{last_epoch}
use Rattle.recovery.specs.AfterCommit.{HasRoom}
use Rattle.recovery.specs.Calls.{LacksRoom, fits_in}
use Rattle.recovery.specs.Lives.{view_of}
use Rattle.recovery.specs.Refusals.{IsOfDesk}
use Rattle.recovery.specs.declared.fault.StoreFault.{StoreFault}
use Rattle.recovery.specs.declared.fault.StoreFault.TheVariants.{Broken, DiskFault, EpochsUsedUp, NoMemory}
use Rattle.recovery.specs.declared.store.Store.{Store}

-- Why a commit of one command fails, and what then stays. Out of memory the store's side, epoch, journal and checkpoint under
-- way stay if a record of the command fits, else a checkpoint was made. `EpochsUsedUp` comes only where no such record fits.
-- After a fault of the disk the store is broken, and keeps the register before the call to be shown.
pub record RefusesOne {A B D T : Type 0} {g : Ghosts D} (view : D → View) (old new : Store A D g) (command : Bor (Asked B))
    (result : Result T StoreFault) : Type 0 where
  pub broken : old.broken ≡ true → (result ≡ Err Broken) × (new ≡ old)
  pub only_broken : IsErrOf result Broken → (old.broken ≡ true) × (new ≡ old)
  pub sound : OnOk result ((old.broken ≡ false) × (new.broken ≡ false))
  pub memory :
      IsErrOf result NoMemory
      → (old.broken ≡ false) × (new.broken ≡ false) × (new.register ≡ old.register) × IsTrue (needs_memory old.register command.now)
  pub place : IsErrOf result NoMemory → HasRoom (view_of old) (view_of new) (fits_in A old.journal (command ∷ []))
  pub epochs :
      IsErrOf result EpochsUsedUp
      → (old.broken ≡ false) × (new.broken ≡ false) × (last_epoch ≤ old.epoch)
      × (new.epoch ≡ old.epoch) × (new.disk ≡ old.disk) × (new.register ≡ old.register)
  pub full : IsErrOf result EpochsUsedUp → LacksRoom A old.journal (command ∷ [])
  pub fault :
      IsErrOf result DiskFault
      → (old.broken ≡ false) × (new.broken ≡ true) × (new.before.value ≡ old.register) × HasFailed (view old.disk) (view new.disk)
  pub kinds : IfErr result IsOfDesk

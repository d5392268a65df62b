-- What a checkpoint does, made at once or in steps.
use Rattle.std.specs.Prelude.{◌≡◌, ◌+◌, ◌≤◌, true, false, IfErr, IsErrOf, OnErr, OnOk, Result}
use Rattle.sector_disk.specs.Disk.{View}
use Rattle.sector_disk.specs.declared.disk.Disk.{Ghosts}
use Rattle.image_rows.specs.Rows.{last_epoch}
use Rattle.gated_journal.specs.declared.form.Form.TheVariants.{Numbered}
use Rattle.checkpoint.specs.Layout.{other_of}
use Rattle.checkpoint.specs.OnSide.{InEach, IsOnSide, fresh}
use Rattle.recovery.specs.Lives.{StaysKept, StopsLeave, StoreView, WhereKept}
use Rattle.recovery.specs.OpensTo.{OpensTo}
use Rattle.recovery.specs.Refusals.{IsOfCheckpoint}
use Rattle.recovery.specs.declared.fault.StoreFault.{StoreFault}
use Rattle.recovery.specs.declared.fault.StoreFault.TheVariants.{Broken, DiskFault, EpochsUsedUp}
use Rattle.recovery.specs.declared.store.Store.{Store}

module _ {D : Type 0} (A : Type 0) (view : D → View) (old new : StoreView A D) where
  -- A stop at any moment, also in a call that fails, leaves the register. At `Ok` it is on the disk.
  pub record HoldsRegister {T E : Type 0} (result : Result T E) : Type 0 where
    pub any_moment : StopsLeave A view old new (OpensTo A old.register)
    pub kept : OnOk result (StaysKept A view old new)

  -- each stop leaves the register on the other side, with the next epoch and no record; later records will be numbered
  abbrev pub IsOnOtherSide : Type 0
  IsOnOtherSide =
      let other = other_of old.side in
      WhereKept A view old (InEach (view new.disk)
      (IsOnSide {A = A} old.layout other Numbered (old.epoch + 1, old.register) (fresh old.layout other)))

-- What stays: the layout, the register, and the disk as it was found. Where the call fails, also the side that counts, its epoch and
-- its journal.
pub record KeepsPlace {A D T E : Type 0} (old new : StoreView A D) (result : Result T E) : Type 0 where
  pub same : (new.layout ≡ old.layout) × (new.register ≡ old.register) × (new.found ≡ old.found)
  pub unmoved : OnErr result ((new.side ≡ old.side) × (new.epoch ≡ old.epoch) × (new.journal ≡ old.journal))

-- Why a checkpoint fails, and what then stays. After a fault of the disk the store is broken, and keeps the register before the
-- call to be shown.
pub record FailsInCheckpoint {A D T : Type 0} {g : Ghosts D} (old new : Store A D g) (result : Result T StoreFault) : Type 0 where
  pub only_broken : IsErrOf result Broken → (old.broken ≡ true) × (new ≡ old)
  pub epochs :
      IsErrOf result EpochsUsedUp
      → (last_epoch ≤ old.epoch) × (new.disk ≡ old.disk) × (new.broken ≡ false) × (new.ongoing ≡ old.ongoing)
  pub fault : IsErrOf result DiskFault → (new.broken ≡ true) × (new.before.value ≡ old.register)
  pub kinds : IfErr result IsOfCheckpoint

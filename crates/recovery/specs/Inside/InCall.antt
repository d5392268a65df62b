-- A step within a call of a store.
use Rattle.std.specs.Prelude.{◌≡◌, ◌≤◌, IfErr, List, Result, true}
use Rattle.sector_disk.specs.Disk.{HasFailed, View}
use Rattle.sector_disk.specs.declared.disk.Disk.{Ghosts}
use Rattle.sector_disk.specs.declared.record.Call.{Call}
use Rattle.recovery.specs.Calls.{end_calls, rows_calls}
use Rattle.recovery.specs.Lives.{HasSameRegister, StoreView}
use Rattle.recovery.specs.declared.fault.StoreFault.{StoreFault}
use Rattle.recovery.specs.declared.fault.StoreFault.TheVariants.{DiskFault}
use Rattle.recovery.specs.declared.ongoing.Ongoing.{Ongoing}
use Rattle.recovery.specs.declared.store.Store.{Store}

-- The register stays. The step fails only if the device does. The disk has as many sectors as before, an honest one stays honest, and
-- no failure is forgotten.
pub record StepsInCall {A D T : Type 0} {g : Ghosts D} (view : D → View) (old new : Store A D g) (result : Result T StoreFault) : Type 0 where
  pub same : HasSameRegister old new
  pub in_call : new.broken ≡ true
  pub fault : IfErr result (λ e. (e ≡ DiskFault) × HasFailed (view old.disk) (view new.disk))
  pub sectors : (view new.disk).sectors ≡ (view old.disk).sectors
  pub later : (view old.disk).failures ≤ (view new.disk).failures
  pub honest : (view old.disk).honest → (view new.disk).honest

-- the calls that write the next rows of a checkpoint that is under way
abbrev pub rows_calls_of : {A D : Type 0} → StoreView A D → Ongoing A → List Call
rows_calls_of store was = rows_calls store.layout store.side store.epoch was

-- the calls after the last row of a checkpoint that is under way: a sync, and the switch to its side
abbrev pub end_calls_of : {A D : Type 0} → StoreView A D → List Call
end_calls_of store = end_calls store.side true

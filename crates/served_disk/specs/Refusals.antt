-- Why a call on a disk was refused. A fault that is reported of what is on the disk is there. A device fault comes only if the device has failed.
-- Out of memory masks no bad row or record that was read, and no refused command before the one for which memory ran out. It may mask a refused
-- command after that one.
use Rattle.std.specs.Prelude.{◌≡◌, ◌⊎◌, ◌++◌, ◌∷◌, List, [], Some, None, true, is_ok}
use Rattle.identity.specs.Numbers.{Byte}
use Rattle.sector_disk.specs.Disk.{View, HasFailed}
use Rattle.sector_disk.specs.declared.record.Call.TheVariants.{Sync}
use Rattle.recovery.specs.declared.fault.StoreFault.{StoreFault}
use Rattle.recovery.specs.declared.fault.StoreFault.TheVariants.{Damaged, DiskFault, NoMemory}
use Rattle.recovery.specs.Checking.{Finds, HasNoDamageYet, checked_in, first_damaged}
use Rattle.recovery.specs.Opening.{Fails, HasNoFaultYet, IsOfOpening}
use Rattle.recovery.specs.Opens.{opens}
use Rattle.served_disk.specs.declared.fault.Fault.{Fault}
use Rattle.served_disk.specs.declared.fault.Fault.TheVariants.{Device}
use Rattle.served_disk.specs.Faults.{of_store}

-- The fault is one that the call may have (May). If the disk is honest, the fault is there (There). If the disk is honest and memory ran out, no
-- fault was met (NoneMet). The fault is `DiskFault` only if the device has failed between the two views.
pub record HasReason (May There : StoreFault → Type 0) (NoneMet : Type 0) (old new : View) (fault : StoreFault) : Type 0 where
  pub kind : May fault
  pub there : old.honest → There fault
  pub device : fault ≡ DiskFault → HasFailed old new
  pub memory : fault ≡ NoMemory → old.honest → NoneMet

module _ (A : Type 0) where
  -- an opening that syncs the disk first has met no fault yet
  abbrev pub MeetsNoFault : View → View → Type 0
  MeetsNoFault old new = HasNoFaultYet A old.reads (old.calls ++ Sync ∷ []) new.calls

  -- a check that syncs the disk first has met no damage, or has read both sides, of which neither is damaged
  abbrev pub MeetsNoDamage : View → View → Type 0
  MeetsNoDamage old new =
      HasNoDamageYet A old.reads (old.calls ++ Sync ∷ []) new.calls ⊎ Finds A old.reads (λ checked. first_damaged checked.a checked.b ≡ None)

  -- A fault that a check reports is there. Damage is the first damaged sector of side A, or else of side B.
  abbrev pub FailsCheck : StoreFault → List (List Byte) → Type 0
  FailsCheck (Damaged at) image = Finds A image (λ checked. first_damaged checked.a checked.b ≡ Some at)
  FailsCheck other image = Fails other (checked_in A image)

  -- why an opening was refused
  abbrev pub IsUnopened : View → View → StoreFault → Type 0
  IsUnopened old new = HasReason IsOfOpening (λ fault. Fails fault (opens A old.reads)) (MeetsNoFault old new) old new

  -- why an opening whose register is then shown was refused; memory may also have run out after the disk opened
  abbrev pub IsUnshown : View → View → StoreFault → Type 0
  IsUnshown old new =
      HasReason IsOfOpening (λ fault. Fails fault (opens A old.reads)) (MeetsNoFault old new ⊎ (is_ok (opens A old.reads) ≡ true)) old new

  -- why a check was refused
  abbrev pub IsUnchecked : View → View → StoreFault → Type 0
  IsUnchecked old new = HasReason IsOfOpening (λ fault. FailsCheck fault old.reads) (MeetsNoDamage old new) old new

-- A call was refused, and this fault is reported for the reason. Why relates the disk's views before and after to the reason.
abbrev pub Reports : (View → View → StoreFault → Type 0) → View → View → Fault → Type 0
Reports Why old new fault = (reason : StoreFault) × Why old new reason × (fault ≡ of_store reason)

-- a disk was not made ready, since the device has failed
abbrev pub IsUnmade : View → View → Fault → Type 0
IsUnmade old new fault = (fault ≡ Device) × HasFailed old new

-- What a call of the disk keeps, where it fails and where it does not.
use Rattle.std.proofs.Common.{◌≡◌, ◌≤◌, Result, Ok, Err, refl}
use Rattle.std.specs.Result.{IsErr, IsErrOf}
use Rattle.sector_disk.specs.Disk.{HasCause, HasFailed, View}
use Rattle.sector_disk.specs.Effects.{KeepsDisk}
use Rattle.sector_disk.specs.declared.disk.DiskError.{DiskError}
use Rattle.sector_disk.specs.declared.disk.DiskError.TheVariants.{DiskFault, OutOfRange}

pub has_failed : {T : Type 0} (old new : View) (result : Result T DiskError) → IsErr result → HasCause old new result → (IsErrOf result OutOfRange → ⊥) → HasFailed old new
has_failed old new (Ok x) failed cause in_range = absurd cc
has_failed old new (Err DiskFault) failed cause in_range = cause.fault refl
has_failed old new (Err OutOfRange) failed cause in_range = absurd (in_range refl)

module _ {X T : Type 0} (old new : View) (result : Result T DiskError) (cause : HasCause old new result) (honest : old.honest → new.honest) where
  pub kept_failing : IsErr result → (IsErrOf result OutOfRange → ⊥) → KeepsDisk old new X
  kept_failing failed in_range = record { fault = λ e. has_failed old new result failed cause in_range; sectors = cause.sectors; later = cause.later; honest = honest }

  pub kept_done : (X → ⊥) → KeepsDisk old new X
  kept_done none = record { fault = λ e. absurd (none e); sectors = cause.sectors; later = cause.later; honest = honest }

-- a run of calls of which none has failed
pub kept_so_far : {X : Type 0} (old new : View) → new.sectors ≡ old.sectors → old.failures ≤ new.failures → (old.honest → new.honest) → (X → ⊥) → KeepsDisk old new X
kept_so_far old new sectors later honest none = record { fault = λ e. absurd (none e); sectors = sectors; later = later; honest = honest }

pub kept_none : {X : Type 0} (old new : View) → KeepsDisk old new X → KeepsDisk old new ⊥
kept_none old new keeps = kept_so_far old new keeps.sectors keeps.later keeps.honest (λ e. e)

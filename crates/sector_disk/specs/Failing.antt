-- A disk that fails some of its calls.
use Rattle.std.specs.Prelude.{◌≡◌, ℕ, ◌+◌, ◌-◌, ◌^◌, Bool, true, false, min, nat_le, ◌==◌, Result, Err}
use Rattle.sector_disk.specs.Disk.{View, IsSound, HasCause}
use Rattle.sector_disk.specs.declared.disk.DiskError.{DiskError}
use Rattle.sector_disk.specs.declared.disk.DiskError.TheVariants.{DiskFault}
use Rattle.sector_disk.specs.declared.failing.Failing.{Failing}
use Rattle.sector_disk.specs.declared.failing.Failing.TheVariants.{Once, Always}
use Rattle.sector_disk.specs.declared.failing.FailingDisk.{FailingDisk}

-- the disk within
abbrev pub disk_within : {D : Type 0} → FailingDisk D → D
disk_within disk = disk.inner

-- the disk within, with the calls that were made to fail counted as failures too
abbrev pub failing_view : {D : Type 0} → (D → View) → FailingDisk D → View
failing_view view disk = record (view disk.inner) { failures = min ((view disk.inner).failures + disk.failed) (2 ^ 64 - 1) }

-- the call of this number is to fail
abbrev pub is_due : Failing → ℕ → ℕ → Bool
is_due Once call number = number == call
is_due Always call number = nat_le call number

-- the next call that is counted is to fail
abbrev pub fails_next : {D : Type 0} → FailingDisk D → Bool
fails_next disk = is_due disk.failing disk.call (disk.made + 1)

-- A call is counted. One that is to fail does so, and does not reach the disk within. Each other is a call of the disk within.
pub record HasCounted {D : Type 0} (view : D → View) (old new : FailingDisk D) (result : Result Unit DiskError) : Type 0 where
  pub made : new.made ≡ min (old.made + 1) (2 ^ 64 - 1)
  pub call : new.call ≡ old.call
  pub failing : new.failing ≡ old.failing
  pub fails : fails_next old ≡ true → (result ≡ Err DiskFault) × (new.inner ≡ old.inner) × (new.failed ≡ min (old.failed + 1) (2 ^ 64 - 1))
  pub passes : fails_next old ≡ false → HasCause (view old.inner) (view new.inner) result × (new.failed ≡ old.failed)

-- a disk of which no call has been counted yet
abbrev pub failing_disk : {D : Type 0} → D → ℕ → Failing → FailingDisk D
failing_disk inner call failing = record { inner = inner; call = call; failing = failing; made = 0; failed = 0 }

-- it is sound where the disk within is
pub failing_sound : {D : Type 0} (view : D → View) (disk : FailingDisk D) → IsSound (view disk.inner) → IsSound (failing_view view disk)
failing_sound view disk is = record { count = is.count; reads_left = is.reads_left; counts_now = is.counts_now; only_now = is.only_now; earlier = is.earlier }

-- A file that was given up, at a sector or at a run of them.
use Rattle.std.proofs.Common.{ℕ, ◌≤◌, Result, Ok, Err, IsErr, OnErr, sym, arith}
use Rattle.std.proofs.lemmas.Bool.{true≢false}
use Rattle.sector_disk.specs.Disk.{View}
use Rattle.sector_disk.specs.declared.disk.DiskError.{DiskError}
use Rattle.file_disk.specs.File.{HasGivenUp, IsGivenUp}

-- what holds of an error, where there is one
pub on_error : {P : Type 0} (result : Result Unit DiskError) → OnErr result P → IsErr result → P
on_error (Ok u) none err = absurd (true≢false (sym err))
on_error (Err e) there err = there

module _ {F : Type 0} (view : F → View) (turns : F → ℕ) (old mid new : F) where
  later_too : (view old).failures ≤ (view mid).failures → IsGivenUp view turns mid new → IsGivenUp view turns old new
  later_too later up = record { mid = up.mid; later = omega (arith, later, up.later); given_up = up.given_up }

  -- at this sector
  pub given_up_at : (result : Result Unit DiskError) → (view old).failures ≤ (view mid).failures →
      HasGivenUp (view mid) (view new) (turns mid) (turns new) → OnErr result (IsGivenUp view turns old new)
  given_up_at (Ok u) later up = tt
  given_up_at (Err e) later up = record { mid = mid; later = later; given_up = up }

  -- within this run, which comes after others
  pub given_up_within : (result : Result Unit DiskError) → (view old).failures ≤ (view mid).failures →
      IsGivenUp view turns mid new → OnErr result (IsGivenUp view turns old new)
  given_up_within (Ok u) later up = tt
  given_up_within (Err e) later up = later_too later up

  -- within the last run
  pub given_up_last : (result : Result Unit DiskError) → (view old).failures ≤ (view mid).failures →
      OnErr result (IsGivenUp view turns mid new) → OnErr result (IsGivenUp view turns old new)
  given_up_last (Ok u) later up = tt
  given_up_last (Err e) later up = later_too later up

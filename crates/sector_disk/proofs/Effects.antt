-- Calls of a disk, one after another.
use Rattle.std.proofs.Common.{◌∙◌, Result, Ok, Err, refl, arith, inl, inr, ⊎_elim}
use Rattle.std.specs.Result.{IsErr, IsErrOf}
use Rattle.sector_disk.specs.Disk.{HasCause, HasFailed, View}
use Rattle.sector_disk.specs.declared.disk.DiskError.{DiskError}
use Rattle.sector_disk.specs.declared.disk.DiskError.TheVariants.{DiskFault, OutOfRange}
use Rattle.sector_disk.proofs.OnlyRead.{only_read_on}
use Rattle.sector_disk.specs.Effects.{KeepsDisk, OnlyReads}

pub reads_on : (old mid new : View) {X Y Z : Type 0} → OnlyReads old mid X → OnlyReads mid new Y → (Z → Y) → OnlyReads old new Z
reads_on old mid new first second is_reported = record {
  only_read = λ honest. let read = first.only_read honest in only_read_on old mid new read (second.only_read read.honest);
  only_reads = second.only_reads ∙ first.only_reads;
  fault = λ e. ⊎_elim (λ more. inl (omega (arith, more, first.later))) inr (second.fault (is_reported e));
  sectors = second.sectors ∙ first.sectors;
  later = omega (arith, first.later, second.later);
}

pub keeps_on : (old mid new : View) {X Y Z : Type 0} → KeepsDisk old mid X → KeepsDisk mid new Y → (Z → Y) → KeepsDisk old new Z
keeps_on old mid new first second is_reported = record {
  fault = λ e. ⊎_elim (λ more. inl (omega (arith, more, first.later))) inr (second.fault (is_reported e));
  sectors = second.sectors ∙ first.sectors;
  later = omega (arith, first.later, second.later);
  honest = λ is_honest. second.honest (first.honest is_honest);
}

pub reads_keep : (old new : View) {X : Type 0} → OnlyReads old new X → KeepsDisk old new X
reads_keep old new reads = record {
  fault = reads.fault;
  sectors = reads.sectors;
  later = reads.later;
  honest = λ is_honest. (reads.only_read is_honest).honest;
}

pub has_failed : {T : Type 0} (old new : View) (result : Result T DiskError) → IsErr result → HasCause old new result → (IsErrOf result OutOfRange → ⊥) → HasFailed old new
has_failed old new (Ok x) failed cause in_range = absurd cc
has_failed old new (Err DiskFault) failed cause in_range = cause.fault refl
has_failed old new (Err OutOfRange) failed cause in_range = absurd (in_range refl)

-- one call
pub keeps_one : {T : Type 0} (old new : View) (result : Result T DiskError) → HasCause old new result → (IsErrOf result OutOfRange → ⊥) → (old.honest → new.honest)
    → KeepsDisk old new (IsErr result)
keeps_one old new result cause in_range honest = record {
  fault = λ failed. has_failed old new result failed cause in_range;
  sectors = cause.sectors;
  later = cause.later;
  honest = honest;
}

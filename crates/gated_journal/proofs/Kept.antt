-- What calls of the disk leave of it, and runs of such calls.
use Rattle.std.proofs.Common.{◌≡◌, ◌<◌, ◌≤◌, ◌+◌, ℕ, List, [], ◌∷◌, ◌++◌, length, Result, Ok, Err, refl, ap, ◌∙◌, ⊎_elim, arith, length-append}
use Rattle.std.specs.Result.{IsErr, IsErrOf}
use Rattle.sector_disk.specs.Disk.{HasCause, HasRead, IsCalled, View}
use Rattle.sector_disk.specs.Effects.{KeepsDisk, OnlyReads}
use Rattle.sector_disk.specs.Reading.{before_reads}
use Rattle.sector_disk.specs.declared.disk.DiskError.{DiskError}
use Rattle.sector_disk.specs.declared.disk.DiskError.TheVariants.{OutOfRange}
use Rattle.sector_disk.specs.declared.record.Call.{Call}
use Rattle.sector_disk.specs.declared.record.Call.TheVariants.{Read}
use Rattle.gated_journal.specs.Reading.{IsOfJudging, IsOfReading}
use Rattle.gated_journal.specs.declared.fault.JournalError.{JournalError}
use Rattle.gated_journal.specs.declared.fault.JournalError.TheVariants.{Damaged, DiskFault, JournalFull, NoMemory}
use Rattle.sector_disk.proofs.Effects.{has_failed}
use Rattle.sector_disk.proofs.OnlyRead.{no_read, one_only_read}
use Rattle.sector_disk.proofs.Reading.{one_read}

-- an error, whatever the value would have been
pub err_as : {X Y E : Type 0} (e f : E) → ◌≡◌ {A = Result X E} (Err e) (Err f) → ◌≡◌ {A = Result Y E} (Err e) (Err f)
err_as e f is = let same : e ≡ f = cc in ap Err same

-- where it is reported in another way
pub reads_where : (old new : View) {X Y : Type 0} → OnlyReads old new X → (Y → X) → OnlyReads old new Y
reads_where old new reads so = record {
  only_read = reads.only_read;
  only_reads = reads.only_reads;
  fault = λ e. reads.fault (so e);
  sectors = reads.sectors;
  later = reads.later;
}

pub keeps_where : (old new : View) {X Y : Type 0} → KeepsDisk old new X → (Y → X) → KeepsDisk old new Y
keeps_where old new keeps so = record { fault = λ e. keeps.fault (so e); sectors = keeps.sectors; later = keeps.later; honest = keeps.honest }

-- nothing is done
pub reads_none : (disk : View) {X : Type 0} → (X → ⊥) → OnlyReads disk disk X
reads_none disk none = record {
  only_read = λ honest. no_read disk honest;
  only_reads = refl;
  fault = λ e. absurd (none e);
  sectors = refl;
  later = omega arith;
}

pub keeps_as_is : (disk : View) {X : Type 0} → (X → ⊥) → KeepsDisk disk disk X
keeps_as_is disk none = record { fault = λ e. absurd (none e); sectors = refl; later = omega arith; honest = λ honest. honest }

only_reads_at : (old new : View) (at : ℕ) (result : Result Unit DiskError) → IsCalled old new (Read at) result → before_reads new.calls ≡ before_reads old.calls
only_reads_at old new at (Ok u) called = ap before_reads called.made ∙ one_read old.calls at
only_reads_at old new at (Err e) called = ⊎_elim (λ none. ap before_reads none) (λ one. ap before_reads one ∙ one_read old.calls at) called.tried

-- one read
pub reads_one : (old new : View) (at : ℕ) (bytes : List ℕ) (result : Result Unit DiskError) → at < old.sectors
    → (at < old.sectors → old.honest → HasRead old new at bytes result) → HasCause old new result → IsCalled old new (Read at) result
    → (IsErrOf result OutOfRange → old.sectors ≤ at) → OnlyReads old new (IsErr result)
reads_one old new at bytes result inside effect cause called in_range = record {
  only_read = λ honest. one_only_read old new at bytes result (effect inside honest);
  only_reads = only_reads_at old new at result called;
  fault = λ failed. has_failed old new result failed cause (λ out. omega (arith, inside, in_range out));
  sectors = cause.sectors;
  later = cause.later;
}

-- an error of a call that judges is one of a call that reads
pub judged_is_read : (end : ℕ) (e : JournalError) → IsOfJudging end e → IsOfReading end e
judged_is_read end JournalFull is = is
judged_is_read end DiskFault is = tt
judged_is_read end (Damaged at) is = is
judged_is_read end NoMemory is = tt

-- one call more
pub one_call : (old new : View) (call : Call) → new.calls ≡ old.calls ++ call ∷ [] → length new.calls ≡ length old.calls + 1
one_call old new call is = ap (λ (calls : List Call). length calls) is ∙ length-append old.calls (call ∷ [])

-- What a call of a file over a disk does.
use Rattle.std.proofs.Common.{◌≡◌, ◌⊎◌, inl, inr, ℕ, ◌+◌, ◌*◌, ◌<◌, ◌≤◌, ◌==◌, Bool, if◌then◌else◌, List, true, false, take, drop, Result, Ok, Err, refl, subst, arith}
use Rattle.std.proofs.lemmas.Bool.{ne_eqb, true≢false}
use Rattle.std.specs.Result.{IfOk, IsErr}
use Rattle.sector_disk.specs.Disk.{View, Elapses, HasWritten, IsSound, sector}
use Rattle.sector_disk.specs.declared.disk.DiskError.{DiskError}
use Rattle.sector_disk.specs.declared.disk.DiskError.TheVariants.{DiskFault}
use Rattle.sector_disk.proofs.Filled.{fill_more, fill_none, fill_wider}
use Rattle.sector_disk.proofs.OnlyRead.{no_read}
use Rattle.file_disk.specs.File.{HasReadPart, HasWrittenPart, HasWrittenSectors, run_written}
use Rattle.file_disk_tests.specs.PartFile.{part_view}
use Rattle.file_disk_tests.specs.declared.part_file.PartFile.{PartFile}

none_given : (bytes whole : List ℕ) (r : Result ℕ DiskError) → IfOk r (λ n. n ≡ 0) → IfOk r (λ n. take n bytes ≡ take n whole)
none_given bytes whole (Ok n) none = rw none refl
none_given bytes whole (Err e) none = tt

same_prefix : (bytes : List ℕ) (r : Result ℕ DiskError) (from : ℕ) → IfOk r (λ n. take from bytes ≡ take from bytes)
same_prefix bytes (Ok n) from = refl
same_prefix bytes (Err e) from = tt

unmarked : (file : View) (at : ℕ) (r : Result ℕ DiskError) → IfOk r (λ n. n ≡ 0) → IfOk r (λ n. (file.pending at ≡ true) ⊎ ((n ≡ 0) × (sector file.reads at ≡ sector file.reads at)))
unmarked file at (Ok n) none = inr (none, refl)
unmarked file at (Err e) none = tt

-- a call that moves nothing
pub nothing_read : (file : View) (at from : ℕ) (bytes : List ℕ) (r : Result ℕ DiskError) → file.honest → IfOk r (λ n. n ≡ 0) → HasReadPart file file at from bytes r
nothing_read file at from bytes r honest none = record { only_read = no_read file honest; given = none_given bytes (drop from (sector file.reads at)) r none }

pub nothing_written : (file : View) (at from : ℕ) (bytes : List ℕ) (r : Result ℕ DiskError) → file.honest → IfOk r (λ n. n ≡ 0) → HasWrittenPart file file at from bytes r
nothing_written file at from bytes r honest none = record {
  rest = record {
    honest = honest;
    time = record { later = omega arith; each_stays = λ t image le was. was; nothing_else = λ t image le was. inl was };
    count = refl;
    others = λ k other. refl;
    others_pending = λ k other. refl;
    still_pending = λ is. is;
    written = tt;
  };
  before = same_prefix (sector file.reads at) r from;
  written = none_given (drop from (sector file.reads at)) bytes r none;
  marked = unmarked file at r none;
}

-- ---- a write of several sectors writes a part of the first at most

abbrev all_or : Bool → Result Unit DiskError
all_or whole = if whole then Ok tt else Err DiskFault

not_whole : (whole : Bool) → whole ≡ false → IsErr (all_or whole)
not_whole true is = absurd (true≢false is)
not_whole false is = refl

not_all : (count n : ℕ) → 1 < count → n ≤ 512 → IsErr (run_written count (Ok n))
not_all count n many small = not_whole (n == 512 * count) (ne_eqb n (512 * count) (omega (arith, many, small)))

is_failed : (count : ℕ) (r : Result ℕ DiskError) → 1 < count → IfOk r (λ n. n ≤ 512) → IsErr (run_written count r)
is_failed count (Ok n) many small = not_all count n many small
is_failed count (Err e) many small = refl

pub sectors_in_part : (old new : View) (at count : ℕ) (bytes : List ℕ) (r : Result ℕ DiskError) → old.honest → IsSound old → 1 < count →
    at + count ≤ old.sectors → IfOk r (λ n. n ≤ 512) → HasWrittenPart old new at 0 bytes r
    → HasWrittenSectors old new at count bytes r
sectors_in_part old new at count bytes r honest sound many within small part =
    let pieces : ℕ → List ℕ = λ k. take 512 (drop (512 * k) bytes) in
    let place : at ≡ at + 0 = omega arith in
    let wrote : HasWritten old new at (pieces 0) (Err DiskFault) = record {
      honest = part.rest.honest;
      time = part.rest.time;
      count = part.rest.count;
      others = part.rest.others;
      others_pending = part.rest.others_pending;
      still_pending = part.rest.still_pending;
      written = tt;
    } in
    let first : HasWritten old new (at + 0) (pieces 0) (Err DiskFault) = subst (λ j. HasWritten old new j (pieces 0) (Err DiskFault)) place wrote in
    fill_wider old new at (0 + 1) count pieces (Err DiskFault) (run_written count r) (is_failed count r many small) (omega (arith, many))
    (fill_more old old new at 0 pieces (pieces 0) (Err DiskFault) (fill_none old at pieces honest sound) first refl sound (omega (arith, many, within)))

-- a call of the disk is one of the file
module _ {D : Type 0} (view : D → View) (old new : PartFile D) (at from : ℕ) (bytes : List ℕ) (r : Result ℕ DiskError) where
  elapsed : Elapses (view old.disk) (view new.disk) → Elapses (part_view view old) (part_view view new)
  elapsed time = record { later = time.later; each_stays = time.each_stays; nothing_else = time.nothing_else }

  pub read_as_file : HasReadPart (view old.disk) (view new.disk) at from bytes r → HasReadPart (part_view view old) (part_view view new) at from bytes r
  read_as_file is = record { only_read = record { honest = is.only_read.honest; reads = is.only_read.reads; pending = is.only_read.pending; time = elapsed is.only_read.time }; given = is.given }

  pub written_as_file : HasWrittenPart (view old.disk) (view new.disk) at from bytes r → HasWrittenPart (part_view view old) (part_view view new) at from bytes r
  written_as_file is = record {
    rest = record {
      honest = is.rest.honest;
      time = elapsed is.rest.time;
      count = is.rest.count;
      others = is.rest.others;
      others_pending = is.rest.others_pending;
      still_pending = is.rest.still_pending;
      written = tt;
    };
    before = is.before;
    written = is.written;
    marked = is.marked;
  }

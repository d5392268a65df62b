-- A run of sectors that is written together.
use Rattle.std.proofs.Common.{◌≡◌, ◌⊎◌, inl, inr, ℕ, ◌-◌, ◌*◌, ◌^◌, ◌<◌, ◌==◌, true, List, Result, Ok, refl, subst, ◌∙◌, arith}
use Rattle.std.proofs.lemmas.Bool.{cases_lt, eq-eqb}
use Rattle.sector_disk.specs.Disk.{View, one_failure_more}
use Rattle.sector_disk.specs.Filling.{HasFilled, part_of}
use Rattle.sector_disk.specs.Run.{IsTornImage}
use Rattle.sector_disk.specs.declared.disk.DiskError.{DiskError}
use Rattle.sector_disk.proofs.Moments.{run_on}
use Rattle.file_disk.specs.Disk.{file_view}
use Rattle.file_disk.specs.File.{HasWrittenSectors, run_written}
use Rattle.file_disk.specs.declared.disk.FileDisk.{FileDisk}

-- all its bytes have been written
pub run_done : (old new : View) (at n : ℕ) (bytes : List ℕ) (r : Result ℕ DiskError) (written : ℕ) → HasWrittenSectors old new at n bytes r → r ≡ Ok written
    → written ≡ 512 * n → HasFilled old new at n (part_of bytes) (Ok tt)
run_done old new at n bytes r written has is all =
    let whole : (written == 512 * n) ≡ true = eq-eqb _ _ all in
    let done : run_written n r ≡ Ok tt = rw (is, whole) refl in
    subst (λ (one : Result Unit DiskError). HasFilled old new at n (part_of bytes) one) done has

-- a run over what a run that failed has left
pub again : (old mid new : View) (at n : ℕ) (bytes more_bytes : ℕ → List ℕ) (first result : Result Unit DiskError) → HasFilled old mid at n bytes first →
    HasFilled mid new at n more_bytes result → HasFilled old new at n more_bytes result
again old mid new at n bytes more_bytes first result filled more =
    record {
      honest = more.honest;
      crash = run_on old mid new (IsTornImage old at n) (IsTornImage mid at n) filled.crash more.crash torn;
      now = λ image is. torn image (more.now image is);
      count = more.count ∙ filled.count;
      others = λ k out. more.others k out ∙ filled.others k out;
      written = more.written;
    }
  where
    torn : (image : List (List ℕ)) → IsTornImage mid at n image → IsTornImage old at n image
    torn image (was, is, part) =
        let before = filled.now was is in (
          before.0,
          before.1,
          record {
            count = part.count ∙ before.2.count;
            others = λ k out. part.others k out ∙ before.2.others k out;
          },
        )

-- what it leaves of the file is what it leaves of the disk
pub of_file : {F : Type 0} (view : F → View) (old new : FileDisk F) (at n : ℕ) (bytes : ℕ → List ℕ) (result : Result Unit DiskError) →
    (view new.file).sectors ≡ new.sectors → HasFilled (view old.file) (view new.file) at n bytes result
    → HasFilled (file_view view old) (file_view view new) at n bytes result
of_file view old new at n bytes result same filled = record {
  honest = (filled.honest, same);
  crash = record { later = filled.crash.later; each = filled.crash.each; before = filled.crash.before };
  now = filled.now;
  count = filled.count;
  others = filled.others;
  written = filled.written;
}

-- a failure is counted, as far as that goes
pub failed_once : (old new : ℕ) → new ≡ one_failure_more old → (old < new) ⊎ (new ≡ 2 ^ 64 - 1)
failed_once old new is = elim (cases_lt old (2 ^ 64 - 1)) [ inl less ↦ inl (omega (arith, less, is)) | inr full ↦ inr (omega (arith, full, is)) ]

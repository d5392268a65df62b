-- A disk whose sectors have been filled with zeros and synced.
use Rattle.std.proofs.Common.{◌≡◌, ◌⊎◌, inl, inr, ℕ, ◌+◌, ◌-◌, ◌*◌, ◌<◌, ◌≤◌, List, Result, Ok, Err, IsErr, OnOk, take, drop, replicate, refl, subst, ap, sym, ◌∙◌, arith}
use Rattle.std.proofs.lemmas.Bool.{cases_lt}
use Rattle.std.proofs.lemmas.List.{take-replicate, drop-replicate}
use Rattle.sector_disk.specs.Disk.{View, HasSynced, HasWritten, IsSound, sector}
use Rattle.sector_disk.specs.Run.{IsTornImage}
use Rattle.sector_disk.specs.declared.disk.DiskError.{DiskError}
use Rattle.sector_disk.proofs.Filled.{fill_more, fill_wider}
use Rattle.sector_disk.proofs.Moments.{run_on, torn_wider, weaker}
use Rattle.sector_disk.specs.Filling.{HasFilled}
use Rattle.file_disk.specs.Disk.{IsBlank, file_view}
use Rattle.file_disk.specs.File.{HasWrittenSectors}
use Rattle.file_disk.specs.declared.disk.FileDisk.{FileDisk}

abbrev pub zeros : ℕ → List ℕ
zeros k = replicate 512 0

-- one sector of zeros more
pub one_more : (old mid new : View) (at k : ℕ) (result : Result Unit DiskError) → HasFilled old mid at k zeros (Ok tt) →
    HasWritten mid new (at + k) (replicate 512 0) result → IsSound mid → at + k < mid.sectors → HasFilled old new at (k + 1) zeros result
one_more old mid new at k result filled wrote sound inside = fill_more old mid new at k zeros (replicate 512 0) result filled wrote refl sound inside

-- ---- one run after another

-- a run of zeros and the next one
joined : (old mid new : View) (at m n : ℕ) (result : Result Unit DiskError) → HasFilled old mid at m zeros (Ok tt) →
    HasFilled mid new (at + m) n zeros result → HasFilled old new at (m + n) zeros result
joined old mid new at m n result filled more =
    record {
      honest = more.honest;
      crash = run_on old mid new (IsTornImage old at (m + n)) (IsTornImage mid (at + m) n)
          (weaker old mid (IsTornImage old at m) (IsTornImage old at (m + n)) filled.crash (torn_wider old at m (m + n) (omega arith))) more.crash
          torn;
      now = λ image is. torn image (more.now image is);
      count = more.count ∙ filled.count;
      others = λ k out. more.others k (outside k out) ∙ filled.others k (within k out);
      written = written result more.written;
    }
  where
    outside : (k : ℕ) → (k < at) ⊎ (at + (m + n) ≤ k) → (k < at + m) ⊎ (at + m + n ≤ k)
    outside k (inl below) = inl (omega (arith, below))
    outside k (inr above) = inr (omega (arith, above))

    within : (k : ℕ) → (k < at) ⊎ (at + (m + n) ≤ k) → (k < at) ⊎ (at + m ≤ k)
    within k (inl below) = inl below
    within k (inr above) = inr (omega (arith, above))

    torn : (image : List (List ℕ)) → IsTornImage mid (at + m) n image → IsTornImage old at (m + n) image
    torn image (was, is, part) =
        let before = filled.now was is in (
          before.0,
          before.1,
          record {
            count = part.count ∙ before.2.count;
            others = λ k out. part.others k (outside k out) ∙ before.2.others k (within k out);
          },
        )

    each : ((j : ℕ) → j < n → sector new.reads (at + m + j) ≡ replicate 512 0) → (j : ℕ) → j < m + n → sector new.reads (at + j) ≡ replicate 512 0
    each there j lt = elim (cases_lt j m) [
      | inl before ↦ let less : at + j < at + m = omega (arith, before) in more.others (at + j) (inl less) ∙ filled.written j before
      | inr after ↦
          let place : at + m + (j - m) ≡ at + j = omega (arith, after) in
          subst (λ (k : ℕ). sector new.reads k ≡ replicate 512 0) place (there (j - m) (omega (arith, lt, after)))
    ]

    written : (outcome : Result Unit DiskError) → OnOk outcome ((j : ℕ) → j < n → sector new.reads (at + m + j) ≡ zeros j) → OnOk outcome ((j : ℕ) → j < m + n → sector new.reads (at + j) ≡ zeros j)
    written (Ok u) there = each there
    written (Err e) none = tt

-- a run of zeros goes on by another one
pub zeros_on : (old mid new : View) (at m place n : ℕ) (result : Result Unit DiskError) → place ≡ at + m → HasFilled old mid at m zeros (Ok tt) →
    HasFilled mid new place n zeros result → HasFilled old new at (m + n) zeros result
zeros_on old mid new at m place n result is filled after =
    let more : HasFilled mid new (at + m) n zeros result = rw (← is) after in
    joined old mid new at m n result filled more

-- ---- a piece of zeros

pub piece_written : (zeros_of : List ℕ) (k : ℕ) → zeros_of ≡ replicate 65536 0 → k < 128 → take 512 (drop (512 * k) zeros_of) ≡ replicate 512 0
piece_written zeros_of k are lt =
    let room : 512 ≤ 65536 - 512 * k = omega (arith, lt) in
    rw (are, drop-replicate {X = ℕ} (512 * k) 65536 0, take-replicate {X = ℕ} 512 (65536 - 512 * k) 0 room) refl

-- all bytes of a piece have been written
pub piece_of_zeros : (old new : View) (at : ℕ) (bytes : List ℕ) (result : Result Unit DiskError) → bytes ≡ replicate 65536 0 →
    HasFilled old new at 128 (λ k. take 512 (drop (512 * k) bytes)) result → HasFilled old new at 128 zeros result
piece_of_zeros old new at bytes result are filled = record {
  honest = filled.honest;
  crash = filled.crash;
  now = filled.now;
  count = filled.count;
  others = filled.others;
  written = written result filled.written;
}
  where
    written : (outcome : Result Unit DiskError) → OnOk outcome ((j : ℕ) → j < 128 → sector new.reads (at + j) ≡ take 512 (drop (512 * j) bytes)) →
        OnOk outcome ((j : ℕ) → j < 128 → sector new.reads (at + j) ≡ zeros j)
    written (Ok u) there = λ j lt. there j lt ∙ piece_written bytes j are lt
    written (Err e) none = tt

pub piece_done : (old new : View) (at : ℕ) (bytes : List ℕ) (r : Result ℕ DiskError) (written : ℕ) → bytes ≡ replicate 65536 0 →
    HasWrittenSectors old new at 128 bytes r → r ≡ Ok written → written ≡ 65536 → HasFilled old new at 128 zeros (Ok tt)
piece_done old new at bytes r written are filled is all =
    let whole : r ≡ Ok 65536 = rw (← all) is in
    let done : HasFilled old new at 128 (λ k. take 512 (drop (512 * k) bytes)) (Ok tt) = subst (λ (one : Result ℕ DiskError). HasWrittenSectors old new at 128 bytes one) whole filled in
    piece_of_zeros old new at bytes (Ok tt) are done

pub piece_failed : (old new : View) (at : ℕ) (bytes : List ℕ) (first result : Result Unit DiskError) → bytes ≡ replicate 65536 0 → IsErr result →
    HasFilled old new at 128 (λ k. take 512 (drop (512 * k) bytes)) first → HasFilled old new at 128 zeros result
piece_failed old new at bytes first result are err filled =
    piece_of_zeros old new at bytes result are
    (fill_wider old new at 128 128 (λ k. take 512 (drop (512 * k) bytes)) first result err (omega arith) filled)

module _ {F : Type 0} (view : F → View) (opened filled synced : FileDisk F) where
  pub blanked : (file : F) → (view file).honest → opened.file ≡ file → opened.sectors ≡ (view file).sectors → filled.sectors ≡ opened.sectors → synced.sectors ≡ filled.sectors
      → ((file_view view opened).honest → HasFilled (file_view view opened) (file_view view filled) 0 opened.sectors (λ k. replicate 512 0) (Ok tt))
      → ((file_view view filled).honest → HasSynced (file_view view filled) (file_view view synced) (Ok tt)) → IsBlank view (view file).sectors synced
  blanked file honest is count first second fills syncs =
      let was : (file_view view opened).honest = rw is (honest, sym count) in
      let zeros = fills was in
      let last = syncs zeros.honest in
      record {
        honest = last.honest;
        count = second ∙ first ∙ count;
        zeros = λ k lt.
            let there : 0 + k ≡ k = omega arith in
            ap (λ (sectors : List (List ℕ)). sector sectors k) last.reads ∙ subst (λ (j : ℕ). sector (view filled.file).reads j ≡ replicate 512 0) there (zeros.written k (omega (arith, lt, count)));
        durable = last.durable;
      }

-- Runs of writes.
use Rattle.std.proofs.Common.{◌≡◌, ◌≢◌, ◌⊎◌, inl, inr, ℕ, ◌+◌, ◌<◌, ◌≤◌, List, true, Result, Ok, Err, refl, ◌∙◌, arith}
use Rattle.std.specs.Result.{OnOk, IsErr}
use Rattle.std.proofs.lemmas.Result.{IfOk-from_err}
use Rattle.std.proofs.lemmas.Bool.{cases_lt}
use Rattle.sector_disk.specs.Disk.{View, IsImageOf, IsSound, HasWritten, sector}
use Rattle.sector_disk.specs.Run.{IsTornImage}
use Rattle.sector_disk.specs.Filling.{HasFilled}
use Rattle.sector_disk.specs.declared.disk.DiskError.{DiskError}
use Rattle.sector_disk.proofs.Moments.{started, goes_on, torn_by, torn_on, torn_wider, not_torn, weaker}

-- before the first of them
pub fill_none : (disk : View) (at : ℕ) (bytes : ℕ → List ℕ) → disk.honest → IsSound disk → HasFilled disk disk at 0 bytes (Ok tt)
fill_none disk at bytes honest sound = record {
  honest = honest;
  crash = started disk (IsTornImage disk at 0) sound (not_torn disk at);
  now = not_torn disk at;
  count = refl;
  others = λ k out. refl;
  written = λ k lt. absurd (omega (arith, lt));
}

-- one of them more
pub fill_more : (old mid new : View) (at k : ℕ) (bytes : ℕ → List ℕ) (one : List ℕ) (result : Result Unit DiskError) → HasFilled old mid at k bytes (Ok tt) → HasWritten mid new (at + k) one result
    → one ≡ bytes k → IsSound mid → at + k < mid.sectors → HasFilled old new at (k + 1) bytes result
fill_more old mid new at k bytes one result filled wrote is sound in_range =
    let now : (image : List (List ℕ)) → IsImageOf new image → IsTornImage old at (k + 1) image = λ image left.
    torn_on old mid at k filled.now image (torn_by mid new (at + k) one result sound in_range wrote image left) in
    record {
      honest = wrote.honest;
      crash = goes_on old mid new (IsTornImage old at (k + 1))
          (weaker old mid (IsTornImage old at k) (IsTornImage old at (k + 1)) filled.crash (torn_wider old at k (k + 1) (omega arith))) wrote.time
          now;
      now = now;
      count = wrote.count ∙ filled.count;
      others = λ j out. wrote.others j (elsewhere j out) ∙ filled.others j (narrow j out);
      written = written result wrote.written;
    }
  where
    elsewhere : (j : ℕ) → (j < at) ⊎ (at + (k + 1) ≤ j) → j ≢ at + k
    elsewhere j (inl below) = omega arith
    elsewhere j (inr above) = omega arith

    narrow : (j : ℕ) → (j < at) ⊎ (at + (k + 1) ≤ j) → (j < at) ⊎ (at + k ≤ j)
    narrow j (inl below) = inl below
    narrow j (inr above) = inr (omega arith)

    each : sector new.reads (at + k) ≡ one → (j : ℕ) → j < k + 1 → sector new.reads (at + j) ≡ bytes j
    each there j lt = elim (cases_lt j k) [
      | inl before ↦ let other : at + j ≢ at + k = omega arith in wrote.others (at + j) other ∙ filled.written j before
      | inr last ↦ let same : j ≡ k = omega (arith, lt, last) in rw same (there ∙ is)
    ]

    written : (outcome : Result Unit DiskError) → OnOk outcome ((sector new.reads (at + k) ≡ one) × (new.pending (at + k) ≡ true)) →
        OnOk outcome ((j : ℕ) → j < k + 1 → sector new.reads (at + j) ≡ bytes j)
    written (Ok u) (there, marked) = each there
    written (Err e) none = tt

-- it stopped before the end
pub fill_wider : (old new : View) (at k n : ℕ) (bytes : ℕ → List ℕ) (first result : Result Unit DiskError) → IsErr result → k ≤ n →
    HasFilled old new at k bytes first → HasFilled old new at n bytes result
fill_wider old new at k n bytes first result err le filled = record {
  honest = filled.honest;
  crash = weaker old new (IsTornImage old at k) (IsTornImage old at n) filled.crash (torn_wider old at k n le);
  now = λ image is. torn_wider old at k n le image (filled.now image is);
  count = filled.count;
  others = λ j out. filled.others j (narrow j out);
  written = IfOk-from_err result (λ u. (j : ℕ) → j < n → sector new.reads (at + j) ≡ bytes j) err;
}
  where
    narrow : (j : ℕ) → (j < at) ⊎ (at + n ≤ j) → (j < at) ⊎ (at + k ≤ j)
    narrow j (inl below) = inl below
    narrow j (inr above) = inr (omega (arith, le, above))

-- the same bytes, given in another way
pub filled_as : (old new : View) (at n : ℕ) (bytes same : ℕ → List ℕ) (result : Result Unit DiskError) → ((k : ℕ) → k < n → bytes k ≡ same k)
    → HasFilled old new at n bytes result → HasFilled old new at n same result
filled_as old new at n bytes same result are filled = record {
  honest = filled.honest;
  crash = filled.crash;
  now = filled.now;
  count = filled.count;
  others = filled.others;
  written = written result filled.written;
}
  where
    written : (outcome : Result Unit DiskError) → OnOk outcome ((k : ℕ) → k < n → sector new.reads (at + k) ≡ bytes k) →
        OnOk outcome ((k : ℕ) → k < n → sector new.reads (at + k) ≡ same k)
    written (Ok u) there = λ k lt. there k lt ∙ are k lt
    written (Err e) none = tt

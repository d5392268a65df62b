-- Two runs of writes, one after the other.
use Rattle.std.proofs.Common.{◌≡◌, ◌⊎◌, inl, inr, ℕ, ◌+◌, ◌<◌, ◌≤◌, List, length, Result, Ok, Err, ap, ◌∙◌, arith}
use Rattle.std.specs.Result.{OnOk, IsErr}
use Rattle.std.proofs.lemmas.Result.{IfOk-from_err}
use Rattle.sector_disk.specs.Disk.{View, IsImageOf, HasSynced, sector}
use Rattle.sector_disk.specs.Run.{IsTornImage}
use Rattle.sector_disk.specs.Filling.{HasFilled}
use Rattle.sector_disk.specs.declared.disk.DiskError.{DiskError}
use Rattle.sector_disk.proofs.Moments.{goes_on, run_on, weaker, synced_images}
use Rattle.gated_journal.specs.Inside.Filling.{HasFilledTwice}
use Rattle.gated_journal.specs.Twice.{IsTornTwiceImage}

module _ (at n to m : ℕ) where
  -- the first place alone
  pub first_torn : (old : View) (image : List (List ℕ)) → IsTornImage old at n image → IsTornTwiceImage old at n to m image
  first_torn old image (was, is, torn) = (was, is, record { count = torn.count; others = λ k out also. torn.others k out })

  -- the first place, and then the second
  pub both_torn : (old mid : View) → ((image : List (List ℕ)) → IsImageOf mid image → IsTornImage old at n image) → (image : List (List ℕ)) →
      IsTornImage mid to m image → IsTornTwiceImage old at n to m image
  both_torn old mid now image (was, is, torn) =
      let first = now was is in (
        first.0,
        first.1,
        record {
          count = torn.count ∙ first.2.count;
          others = λ k out also. torn.others k also ∙ first.2.others k out;
        },
      )

  module _ (bytes more : ℕ → List ℕ) where
    -- the first run fails
    pub filled_first : (old new : View) (first result : Result Unit DiskError) → IsErr result → HasFilled old new at n bytes first → HasFilledTwice old new at n bytes to m more result
    filled_first old new first result err has = record {
      honest = has.honest;
      crash = weaker old new (IsTornImage old at n) (IsTornTwiceImage old at n to m) has.crash (first_torn old);
      now = λ image is. first_torn old image (has.now image is);
      count = has.count;
      others = λ k out also. has.others k out;
      written = IfOk-from_err result (λ u. (k : ℕ) → k < n → sector new.reads (at + k) ≡ bytes k) err;
      also = IfOk-from_err result (λ u. (k : ℕ) → k < m → sector new.reads (to + k) ≡ more k) err;
    }

    -- the second run, wholly elsewhere, ends
    pub filled_second : (old mid new : View) (result : Result Unit DiskError) → (at + n ≤ to) ⊎ (to + m ≤ at) → HasFilled old mid at n bytes (Ok tt) →
        HasFilled mid new to m more result → HasFilledTwice old new at n bytes to m more result
    filled_second old mid new result apart first second = record {
      honest = second.honest;
      crash = run_on old mid new (IsTornTwiceImage old at n to m) (IsTornImage mid to m)
          (weaker old mid (IsTornImage old at n) (IsTornTwiceImage old at n to m) first.crash (first_torn old)) second.crash
          (both_torn old mid first.now);
      now = λ image is. both_torn old mid first.now image (second.now image is);
      count = second.count ∙ first.count;
      others = λ k out also. second.others k also ∙ first.others k out;
      written = written result;
      also = second.written;
    }
      where
        out : (k : ℕ) → k < n → (at + n ≤ to) ⊎ (to + m ≤ at) → (at + k < to) ⊎ (to + m ≤ at + k)
        out k lt (inl below) = inl (omega (arith, lt, below))
        out k lt (inr above) = inr (omega (arith, lt, above))

        written : (outcome : Result Unit DiskError) → OnOk outcome ((k : ℕ) → k < n → sector new.reads (at + k) ≡ bytes k)
        written (Ok u) = λ k lt. second.others (at + k) (out k lt apart) ∙ first.written k lt
        written (Err e) = tt

    -- a failure, stated as another error
    pub so_failed : (old new : View) (first result : Result Unit DiskError) → IsErr result → HasFilledTwice old new at n bytes to m more first → HasFilledTwice old new at n bytes to m more result
    so_failed old new first result err has = record {
      honest = has.honest;
      crash = has.crash;
      now = has.now;
      count = has.count;
      others = has.others;
      written = IfOk-from_err result (λ u. (k : ℕ) → k < n → sector new.reads (at + k) ≡ bytes k) err;
      also = IfOk-from_err result (λ u. (k : ℕ) → k < m → sector new.reads (to + k) ≡ more k) err;
    }

    -- both are synced
    pub then_synced_twice : (old filled synced : View) (result : Result Unit DiskError) → HasFilledTwice old filled at n bytes to m more (Ok tt) →
        HasSynced filled synced result → HasFilledTwice old synced at n bytes to m more result
    then_synced_twice old filled synced result has syncs =
        let now : (image : List (List ℕ)) → IsImageOf synced image → IsTornTwiceImage old at n to m image = λ image is. has.now image (synced_images filled synced result syncs image is) in
        record {
          honest = syncs.honest;
          crash = goes_on old filled synced (IsTornTwiceImage old at n to m) has.crash syncs.time now;
          now = now;
          count = ap (λ (reads : List (List ℕ)). length reads) syncs.reads ∙ has.count;
          others = λ k out also. as_before k ∙ has.others k out also;
          written = written result;
          also = also result;
        }
      where
        as_before : (k : ℕ) → sector synced.reads k ≡ sector filled.reads k
        as_before k = ap (λ (sectors : List (List ℕ)). sector sectors k) syncs.reads

        written : (outcome : Result Unit DiskError) → OnOk outcome ((k : ℕ) → k < n → sector synced.reads (at + k) ≡ bytes k)
        written (Ok u) = λ k lt. as_before (at + k) ∙ has.written k lt
        written (Err e) = tt

        also : (outcome : Result Unit DiskError) → OnOk outcome ((k : ℕ) → k < m → sector synced.reads (to + k) ≡ more k)
        also (Ok u) = λ k lt. as_before (to + k) ∙ has.also k lt
        also (Err e) = tt

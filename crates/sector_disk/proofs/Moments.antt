-- How a run of calls goes on, and what a stop in it leaves.
use Rattle.std.proofs.Common.{◌≡◌, ◌≢◌, ◌⊎◌, inl, inr, ⊎_elim, ℕ, ◌+◌, ◌<◌, ◌≤◌, false, List, [], length, set, Result, Ok, Err, refl, sym, ◌∙◌, arith, get_or-set_same, get_or-set_other}
use Rattle.std.proofs.Math.ListN.{length-set}
use Rattle.std.proofs.lemmas.Bool.{cases_eq}
use Rattle.std.proofs.lemmas.List.{get_or_default, same_lists}
use Rattle.sector_disk.specs.Disk.{View, IsImageOf, IsSector, IsSound, Elapses, HasRead, HasWritten, HasSynced, sector}
use Rattle.sector_disk.specs.Run.{LeavesOnly, IsTornImage}
use Rattle.sector_disk.specs.declared.disk.DiskError.{DiskError}
use Rattle.std.specs.Result.{OnOk, OnErr}

-- before the first call
pub started : (disk : View) (P : List (List ℕ) → Type 0) → IsSound disk → ((image : List (List ℕ)) → IsImageOf disk image → P image) → LeavesOnly disk disk P
started disk P sound here = record { later = omega arith; each = λ image left. here image (sound.only_now image left); before = λ t image le left. inl left }

-- one call more, after which a stop leaves what has P
pub goes_on : (old mid new : View) (P : List (List ℕ) → Type 0) → LeavesOnly old mid P → Elapses mid new → ((image : List (List ℕ)) → IsImageOf new image → P image) → LeavesOnly old new P
goes_on old mid new P so_far time here = record {
  later = omega (arith, so_far.later, time.later);
  each = λ image left. ⊎_elim (so_far.each image) (here image) (time.nothing_else old.moment image so_far.later left);
  before = λ t image le left. ⊎_elim (so_far.before t image le) (λ now. inr (here image now)) (time.nothing_else t image (omega (arith, le, so_far.later)) left);
}

-- one run after another
pub run_on : (old mid new : View) (P Q : List (List ℕ) → Type 0) → LeavesOnly old mid P → LeavesOnly mid new Q → ((image : List (List ℕ)) → Q image → P image) → LeavesOnly old new P
run_on old mid new P Q first second weaker = record {
  later = omega (arith, first.later, second.later);
  each = λ image left. ⊎_elim (first.each image) (weaker image) (second.before old.moment image first.later left);
  before = λ t image le left. ⊎_elim (first.before t image le) (λ now. inr (weaker image now)) (second.before t image (omega (arith, le, first.later)) left);
}

-- an image after a write is one from before it, with any bytes in that sector
pub torn_by : (old new : View) (at : ℕ) (bytes : List ℕ) (result : Result Unit DiskError) → IsSound old → at < old.sectors → HasWritten old new at bytes result
    → (image : List (List ℕ)) → IsImageOf new image → IsTornImage old at 1 image
torn_by old new at bytes result sound in_range wrote image now =
    let within : at < length old.reads = omega (arith, in_range, sound.count) in
    let whole : IsSector (sector old.reads at) = sound.reads_left.whole at within in
    let long : length (set image at (sector old.reads at)) ≡ length image = length-set image at (sector old.reads at) in
    let here : at < length image = omega (arith, now.count, wrote.count, within) in (
      set image at (sector old.reads at),
      record {
        count = long ∙ now.count ∙ wrote.count;
        whole = λ k lt. elim (cases_eq k at) [
          | inl same ↦ rw (same, get_or-set_same image at (sector old.reads at) [] here) whole
          | inr other ↦ rw (get_or-set_other image at k (sector old.reads at) [] other) (now.whole k (omega (arith, lt, long)))
        ];
        others = λ k clear. elim (cases_eq k at) [
          | inl same ↦ rw (same, get_or-set_same image at (sector old.reads at) [] here) refl
          | inr other ↦ get_or-set_other image at k (sector old.reads at) [] other ∙ now.others k (wrote.others_pending k other ∙ clear) ∙ wrote.others k other
        ];
      },
      record {
        count = sym long;
        others = λ k out. sym (get_or-set_other image at k (sector old.reads at) [] (elsewhere at k out));
      },
    )
  where
    elsewhere : (i k : ℕ) → (k < i) ⊎ (i + 1 ≤ k) → k ≢ i
    elsewhere i k (inl below) = omega arith
    elsewhere i k (inr above) = omega arith

-- and one sector more
pub torn_on : (old mid : View) (at n : ℕ) → ((image : List (List ℕ)) → IsImageOf mid image → IsTornImage old at n image)
    → (image : List (List ℕ)) → IsTornImage mid (at + n) 1 image → IsTornImage old at (n + 1) image
torn_on old mid at n before image (was, is, torn) =
    let first = before was is in (
      first.0,
      first.1,
      record {
        count = torn.count ∙ first.2.count;
        others = λ k out. torn.others k (right k out) ∙ first.2.others k (left k out);
      },
    )
  where
    left : (k : ℕ) → (k < at) ⊎ (at + (n + 1) ≤ k) → (k < at) ⊎ (at + n ≤ k)
    left k (inl below) = inl below
    left k (inr above) = inr (omega arith)

    right : (k : ℕ) → (k < at) ⊎ (at + (n + 1) ≤ k) → (k < at + n) ⊎ (at + n + 1 ≤ k)
    right k (inl below) = inl (omega arith)
    right k (inr above) = inr (omega arith)

-- more sectors may be torn
pub torn_wider : (old : View) (at k n : ℕ) → k ≤ n → (image : List (List ℕ)) → IsTornImage old at k image → IsTornImage old at n image
torn_wider old at k n le image (was, is, torn) = (was, is, record { count = torn.count; others = λ j out. torn.others j (narrow j out) })
  where
    narrow : (j : ℕ) → (j < at) ⊎ (at + n ≤ j) → (j < at) ⊎ (at + k ≤ j)
    narrow j (inl below) = inl below
    narrow j (inr above) = inr (omega (arith, le, above))

-- none of them
pub not_torn : (disk : View) (at : ℕ) (image : List (List ℕ)) → IsImageOf disk image → IsTornImage disk at 0 image
not_torn disk at image is = (image, is, record { count = refl; others = λ k out. refl })

pub weaker : (old new : View) (P Q : List (List ℕ) → Type 0) → LeavesOnly old new P → ((image : List (List ℕ)) → P image → Q image) → LeavesOnly old new Q
weaker old new P Q first then = record {
  later = first.later;
  each = λ image left. then image (first.each image left);
  before = λ t image le left. ⊎_elim inl (λ now. inr (then image now)) (first.before t image le left);
}

-- reading adds no image
pub read_images : (old new : View) (at : ℕ) (bytes : List ℕ) (result : Result Unit DiskError) → HasRead old new at bytes result → (image : List (List ℕ)) → IsImageOf new image → IsImageOf old image
read_images old new at bytes result has image is = record {
  count = rw (← has.reads) is.count;
  whole = is.whole;
  others = λ k clear. rw (← has.reads) (is.others k (rw has.pending clear));
}

-- a sync adds no image
pub synced_images : (old new : View) (result : Result Unit DiskError) → HasSynced old new result → (image : List (List ℕ)) → IsImageOf new image → IsImageOf old image
synced_images old new result synced image is = record {
  count = rw (← synced.reads) is.count;
  whole = is.whole;
  others = λ k clear. rw (← synced.reads) (is.others k (still result synced.pending synced.durable k clear));
}
  where
    still : (outcome : Result Unit DiskError) → OnErr outcome (new.pending ≡ old.pending) → OnOk outcome ((k : ℕ) → new.pending k ≡ false) → (k : ℕ) → old.pending k ≡ false → new.pending k ≡ false
    still (Ok u) same durable k clear = durable k
    still (Err e) same durable k clear = rw same clear

-- an image where nothing is pending
pub durable_image : (disk : View) → ((k : ℕ) → disk.pending k ≡ false) → (image : List (List ℕ)) → IsImageOf disk image → (k : ℕ) → sector image k ≡ sector disk.reads k
durable_image disk clear image is k = is.others k (clear k)

-- where nothing is pending, there is no other image than what reading gives
pub only_image : (disk : View) → ((k : ℕ) → disk.pending k ≡ false) → (image : List (List ℕ)) → IsImageOf disk image → image ≡ disk.reads
only_image disk clear image is =
    same_lists image disk.reads is.count (λ k d lt. get_or_default image k d [] lt ∙ is.others k (clear k) ∙ get_or_default disk.reads k [] d (omega (arith, lt, is.count)))

-- a run goes on by a read
pub read_on : (old mid new : View) (P : List (List ℕ) → Type 0) (at : ℕ) (bytes : List ℕ) (result : Result Unit DiskError) → LeavesOnly old mid P → HasRead mid new at bytes result
    → ((image : List (List ℕ)) → IsImageOf mid image → P image) → LeavesOnly old new P
read_on old mid new P at bytes result so_far has here = goes_on old mid new P so_far has.time (λ image is. here image (read_images mid new at bytes result has image is))

-- a run goes on by a write
pub write_on : (old mid new : View) (P : List (List ℕ) → Type 0) (at : ℕ) (bytes : List ℕ) (result : Result Unit DiskError) → LeavesOnly old mid P →
    IsSound mid → at < mid.sectors → HasWritten mid new at bytes result
    → ((image : List (List ℕ)) → IsTornImage mid at 1 image → P image) → LeavesOnly old new P
write_on old mid new P at bytes result so_far sound in_range wrote here =
    goes_on old mid new P so_far wrote.time (λ image is. here image (torn_by mid new at bytes result sound in_range wrote image is))

-- a run goes on by a sync
pub sync_on : (old mid new : View) (P : List (List ℕ) → Type 0) (result : Result Unit DiskError) → LeavesOnly old mid P → HasSynced mid new result
    → ((image : List (List ℕ)) → IsImageOf mid image → P image) → LeavesOnly old new P
sync_on old mid new P result so_far synced here = goes_on old mid new P so_far synced.time (λ image is. here image (synced_images mid new result synced image is))

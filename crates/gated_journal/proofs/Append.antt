-- What a crash leaves in each step of an append.
use Rattle.std.proofs.Common.{◌≡◌, ◌≢◌, ◌⊎◌, inl, inr, ℕ, ◌+◌, ◌-◌, ◌<◌, ◌≤◌, false, List, [], ◌∷◌, ◌++◌, length, slice_index, Result, Ok, Err, refl, ◌∙◌, ap, arith}
use Rattle.std.proofs.lemmas.Bool.{cases_lt}
use Rattle.std.specs.Result.{OnOk}
use Rattle.sector_disk.specs.Disk.{View, IsImageOf, IsSound, HasSynced, sector}
use Rattle.sector_disk.specs.Run.{LeavesOnly, IsTornImage}
use Rattle.sector_disk.specs.Filling.{HasFilled}
use Rattle.sector_disk.specs.declared.disk.DiskError.{DiskError}
use Rattle.sector_disk.proofs.Moments.{goes_on, run_on, started, weaker, synced_images, durable_image}
use Rattle.gated_journal.specs.Half.{RecordAt, IsOpen}
use Rattle.centre_core.specs.Asked.{Asked}
use Rattle.gated_journal.specs.Inside.Next.{counting}
use Rattle.gated_journal.specs.Record.{data_sector, data_size}
use Rattle.gated_journal.specs.Settled.{IsSettled, Leaves}
use Rattle.gated_journal.specs.declared.place.Place.{Place}
use Rattle.gated_journal.proofs.Chain.{half_up, same_half}
use Rattle.gated_journal.proofs.OneHalf.{IsReadBack, IsStaged, following, beyond_half, counted_on, open_or_not, with_record}

-- before anything is written
pub nothing_yet : {A : Type 0} (place : Place) (before : ℕ) (entries : List (RecordAt A)) (last : RecordAt A) (disk : View) → IsSound disk
    → IsSettled disk place before entries → LeavesOnly disk disk (Leaves disk place before entries last)
nothing_yet place before entries last disk sound settled = started disk (Leaves disk place before entries last) sound (λ image is. record {
  elsewhere = (image, is, record { count = refl; others = λ k out. refl });
  half = inl (place.next, settled.half image is);
})

-- a run of writes, synced
pub then_synced : (old filled synced : View) (at n : ℕ) (bytes : ℕ → List ℕ) (result : Result Unit DiskError) →
    HasFilled old filled at n bytes (Ok tt) → HasSynced filled synced result → HasFilled old synced at n bytes result
then_synced old filled synced at n bytes result has syncs =
    let now : (image : List (List ℕ)) → IsImageOf synced image → IsTornImage old at n image = λ image is. has.now image (synced_images filled synced result syncs image is) in
    record {
      honest = syncs.honest;
      crash = goes_on old filled synced (IsTornImage old at n) has.crash syncs.time now;
      now = now;
      count = ap (λ (reads : List (List ℕ)). length reads) syncs.reads ∙ has.count;
      others = λ k out. as_before k ∙ has.others k out;
      written = written result;
    }
  where
    as_before : (k : ℕ) → sector synced.reads k ≡ sector filled.reads k
    as_before k = ap (λ (sectors : List (List ℕ)). sector sectors k) syncs.reads

    written : (outcome : Result Unit DiskError) → OnOk outcome ((k : ℕ) → k < n → sector synced.reads (at + k) ≡ bytes k)
    written (Ok u) = λ k lt. as_before (at + k) ∙ has.written k lt
    written (Err e) = tt

module _ {A : Type 0} (place : Place) (before : ℕ) (entries : List (RecordAt A)) (commands : List (Asked A)) (text : List ℕ)
    (read : IsReadBack place before entries commands text) (room : place.next + data_size text + 2 ≤ place.end) where
  abbrev Left : View → List (List ℕ) → Type 0
  Left old = Leaves old place before entries (place.next + 1, commands)

  abbrev Staged : List (List ℕ) → Type 0
  Staged sectors = IsStaged place before entries commands text read room sectors

  outside : place.first ≤ place.next → place.first < place.end → (k : ℕ) → (k < place.first) ⊎ (place.first + (place.end - place.first) ≤ k) →
      (k < place.next + 1) ⊎ (place.next + 1 + (data_size text + 1) ≤ k)
  outside up begins k (inl below) = inl (omega (arith, up, below))
  outside up begins k (inr above) = inr (omega (arith, room, begins, above))

  not_gate : place.first ≤ place.next → place.first < place.end → (k : ℕ) → (k < place.first) ⊎ (place.first + (place.end - place.first) ≤ k) → k ≢ place.next
  not_gate up begins k (inl below) = omega (arith, up, below)
  not_gate up begins k (inr above) = omega (arith, room, begins, above)

  in_text : (old : View) → IsSettled old place before entries → (image : List (List ℕ)) → IsTornImage old (place.next + 1) (data_size text + 1) image → Left old image
  in_text old settled image (was, is, torn) =
      let up = half_up place.form before was place.first place.end entries place.next (settled.half was is) in
      record {
        elsewhere = (was, is, record { count = torn.count; others = λ k out. torn.others k (outside up settled.begins k out) });
        half = following place before entries commands text read room was image (settled.half was is) (λ k le lt. torn.others k (inl (omega (arith, lt))));
      }

  -- the sectors are being written, and synced
  pub in_fill : (old filled : View) (result : Result Unit DiskError) → IsSettled old place before entries →
      HasFilled old filled (place.next + 1) (data_size text + 1) (data_sector text) result → LeavesOnly old filled (Left old)
  in_fill old filled result settled has = weaker old filled (IsTornImage old (place.next + 1) (data_size text + 1)) (Left old) has.crash (in_text old settled)

  module _ (old synced : View) (whole : IsImageOf old old.reads) (settled : IsSettled old place before entries)
      (has : HasFilled old synced (place.next + 1) (data_size text + 1) (data_sector text) (Ok tt)) (durable : (k : ℕ) → synced.pending k ≡ false)
      (gate : ℕ → List ℕ) (written : View) where
    up : place.first ≤ place.next
    up = half_up place.form before old.reads place.first place.end entries place.next (settled.half old.reads whole)

    elsewhere : (k : ℕ) → k ≢ place.next → (k < place.next) ⊎ (place.next + 1 ≤ k)
    elsewhere k other = elim (cases_lt k place.next) [ inl below ↦ inl below | inr above ↦ inr (omega (arith, above, other)) ]

    on_disk : Staged synced.reads
    on_disk = record {
      chain = same_half place.form before old.reads synced.reads place.first place.end entries place.next (settled.half old.reads whole) (λ k le lt. has.others k (inl (omega (arith, lt))));
      after_it = has.written;
    }

    only_gate : (image : List (List ℕ)) → IsTornImage synced place.next 1 image → (k : ℕ) → k ≢ place.next → sector image k ≡ sector synced.reads k
    only_gate image torn k other = torn.2.others k (elsewhere k other) ∙ durable_image synced durable torn.0 torn.1 k

    left : (image : List (List ℕ)) → IsTornImage synced place.next 1 image → Left old image
    left image torn = record {
      elsewhere = (
        old.reads,
        whole,
        record {
          count = torn.2.count ∙ torn.1.count ∙ has.count;
          others = λ k out. only_gate image torn k (not_gate up settled.begins k out) ∙ has.others k (outside up settled.begins k out);
        },
      );
      half = open_or_not place before entries commands text read room synced.reads image up on_disk (λ k le lt other. only_gate image torn k other);
    }

    -- the gate is being opened, and synced
    pub in_gate : (result : Result Unit DiskError) → HasFilled synced written place.next 1 gate result → LeavesOnly old written (Left old)
    in_gate result wrote = run_on old synced written (Left old) (IsTornImage synced place.next 1) (in_fill old synced (Ok tt) settled has) wrote.crash left

    -- then the record is on the disk
    pub at_end : HasFilled synced written place.next 1 gate (Ok tt) → ((k : ℕ) → written.pending k ≡ false) → IsOpen (gate 0)
        → IsSettled written (counting (record place { next = place.next + (data_size text + 1) }) commands) before (entries ++ (place.next + 1, commands) ∷ [])
    at_end wrote rests opened =
        let here : place.next ≡ place.next + 0 = omega arith in
        let there : sector written.reads place.next ≡ gate 0 = ap (λ (k : ℕ). sector written.reads k) here ∙ wrote.written 0 (omega arith) in
        let each : (image : List (List ℕ)) → IsImageOf written image → (k : ℕ) → sector image k ≡ sector written.reads k = λ image is k. durable_image written rests image is k in
        record {
          begins = settled.begins;
          within = omega (arith, room);
          counts = counted_on place before entries commands settled.counts;
          half = λ image is. with_record place before entries commands text read room synced.reads image up on_disk (λ k le lt other. each image is k ∙ wrote.others k (elsewhere k other))
              (ap (λ (bytes : List ℕ). slice_index bytes 0) (each image is place.next ∙ there) ∙ opened);
        }

-- all outside the half reads as before
pub reads_elsewhere : (place : Place) (text : List ℕ) → place.first ≤ place.next → place.next + data_size text + 2 ≤ place.end →
    (old synced new : View) (bytes gate : ℕ → List ℕ) (first result : Result Unit DiskError)
    → HasFilled old synced (place.next + 1) (data_size text + 1) bytes first → HasFilled synced new place.next 1 gate result → (k : ℕ) →
    (k < place.first) ⊎ (place.end ≤ k) → sector new.reads k ≡ sector old.reads k
reads_elsewhere place text up room old synced new bytes gate first result has wrote k out =
    wrote.others k (beyond_half place place.next 1 up (omega (arith, room)) k out) ∙
    has.others k (beyond_half place (place.next + 1) (data_size text + 1) (omega (arith, up)) (omega (arith, room)) k out)

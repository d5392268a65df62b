-- A checkpoint beside the commits, step by step: what each step leaves on the disk, and in each image of a stop.
use Rattle.std.proofs.Common.{◌≡◌, ◌⊎◌, inl, inr, ℕ, ◌+◌, ◌-◌, ◌<◌, ◌≤◌, List, [], length, Result, Ok, Some, sym, ap, subst, ◌∙◌, arith}
use Rattle.std.proofs.lemmas.Bool.{cases_lt}
use Rattle.sector_disk.specs.Disk.{IsSound, IsImageOf, View, HasSynced, sector}
use Rattle.sector_disk.specs.Run.{IsTornImage, LeavesOnly}
use Rattle.sector_disk.specs.Filling.{HasFilled}
use Rattle.sector_disk.specs.declared.disk.DiskError.{DiskError}
use Rattle.sector_disk.proofs.Moments.{durable_image, run_on, sync_on, synced_images, weaker}
use Rattle.centre_core.specs.State.{State, IsState}
use Rattle.centre_core.specs.StateRanges.{StateInRange}
use Rattle.image_rows.specs.Rows.{last_epoch, rows_of}
use Rattle.gated_journal.specs.declared.form.Form.TheVariants.{Numbered}
use Rattle.gated_journal.specs.declared.place.Place.{Place}
use Rattle.gated_journal.specs.Half.{IsClosed}
use Rattle.gated_journal.proofs.Chain.{last_gate, same_half}
use Rattle.checkpoint.specs.declared.layout.Layout.{Layout}
use Rattle.checkpoint.specs.declared.side.Side.{Side}
use Rattle.checkpoint.specs.Calls.{row_sector}
use Rattle.checkpoint.specs.Layout.{half_at, half_end, other_of, root_at, slot_at, slot_size}
use Rattle.checkpoint.specs.Progress.{next_row, next_rows, written_after}
use Rattle.checkpoint.specs.OnSide.{InEach, IsEither, IsReady, IsShut, IsOnSide}
use Rattle.checkpoint.proofs.Apart.{lies}
use Rattle.checkpoint.proofs.Imaged.{rows_have_room, written_slot}
use Rattle.checkpoint.proofs.Spared.{closed_as, left_each, slot_torn, stays_on_side}
use Rattle.recovery.specs.declared.ongoing.Ongoing.{Ongoing}
use Rattle.recovery.specs.OpensTo.{OpensTo}
use Rattle.recovery.specs.Stored.{IsStored}
use Rattle.recovery.specs.UnderWay.{BelongsTo, IsOngoing, IsKept}
use Rattle.recovery.proofs.Stored.{nothing_done, state_opens, stored_opens}

module _ (A : Type 0) (layout : Layout) (side : Side) (epoch : ℕ) (journal : Place) (s : State) where
  abbrev o : Side
  o = other_of side

  -- ---- it begins

  module _ (old new : View) (stored : IsStored A layout side epoch journal s old)
      (leaves : LeavesOnly old new (IsOnSide layout side journal.form (epoch, stored.base) (stored.entries, journal.next))) where
    pub in_begin : LeavesOnly old new (OpensTo A s)
    in_begin = weaker old new (IsOnSide layout side journal.form (epoch, stored.base) (stored.entries, journal.next)) (OpensTo A s) leaves
        (λ image holds. state_opens A layout side journal.form (epoch, stored.base) (stored.entries, journal.next) s image holds stored.accepted
        stored.made)

    pub stored_begun : IsSound new → IsStored A layout side epoch journal s new
    stored_begun sound = record {
      base = stored.base;
      entries = stored.entries;
      each =
          left_each old new (IsOnSide layout side journal.form (epoch, stored.base) (stored.entries, journal.next)) leaves sound;
      accepted =
          stored.accepted;
      made = stored.made;
      counts = stored.counts;
    }

  -- nothing is pending, and the other side's root and first gate are closed
  pub begins : (it : Ongoing A) (disk : View) → it.register ≡ s → it.progress.written ≡ 0 → it.journal.next ≡ half_at layout (other_of side) →
      it.journal.count ≡ s.count → IsShut layout (other_of side) disk → IsOngoing A layout side epoch it s disk
  begins it disk register written next counts shut =
      let fewest = layout.in_range.fewest in
      record {
        entries = [];
        begun = record {
          root = λ image is. closed_as (sector disk.reads (root_at o)) (sector image (root_at o)) (durable_image disk shut.durable image is (root_at o)) shut.root;
          half = λ image is. rw next
              (last_gate Numbered (half_end layout o - half_at layout o) it.register.count image (half_at layout o) (half_end layout o)
              (closed_as (sector disk.reads (half_at layout o)) (sector image (half_at layout o))
              (durable_image disk shut.durable image is (half_at layout o)) shut.gate));
          gate = omega (arith, next, fewest);
          rows = λ k lt. absurd (omega (arith, lt, written));
          few = omega (arith, written);
        };
        accepted = tt;
        made = sym register;
        counts = counts;
      }

  -- ---- of one that is under way

  module _ (it : Ongoing A) (old : View) (stored : IsStored A layout side epoch journal s old) (ongoing : IsOngoing A layout side epoch it s old) where
    abbrev P : List (List ℕ) → Type 0
    P = IsOnSide layout side journal.form (epoch, stored.base) (stored.entries, journal.next)

    -- ---- rows are written to the other side

    module _ (n : ℕ) (fit : it.progress.written + n ≤ length (rows_of (epoch + 1) it.register)) (has_room : length (rows_of (epoch + 1) it.register) ≤ slot_size layout) where
      abbrev at : ℕ
      at = slot_at layout o + it.progress.written

      torn_root : (was image : List (List ℕ)) → ((k : ℕ) → (k < at) ⊎ (at + n ≤ k) → sector image k ≡ sector was k) → IsImageOf old was → IsClosed (sector image (root_at o))
      torn_root was image others is = let places = lies layout o in
          closed_as (sector was (root_at o)) (sector image (root_at o)) (others (root_at o) (inl (omega (arith, places.root))))
          (ongoing.begun.root was is)

      at_slot : (image : List (List ℕ)) → IsTornImage old at n image → P image
      at_slot image (was, is, torn) =
          stays_on_side layout side journal.form (epoch, stored.base) (stored.entries, journal.next) was image (stored.each was is)
          (slot_torn layout o was image (slot_size layout) (omega arith)
          (record {
            count = torn.count;
            others = λ k out.
                torn.others k (elim out [ inl low ↦ inl (omega (arith, low)) | inr high ↦ inr (omega (arith, high, fit, has_room)) ]);
          }))
          (inl (torn_root was image torn.others is))

      pub in_rows : (new : View) (bytes : ℕ → List ℕ) (result : Result Unit DiskError) → HasFilled old new at n bytes result → LeavesOnly old new (OpensTo A s)
      in_rows new bytes result filled =
          weaker old new (IsTornImage old at n) (OpensTo A s) filled.crash
          (λ image torn. state_opens A layout side journal.form (epoch, stored.base) (stored.entries, journal.next) s image (at_slot image torn)
          stored.accepted stored.made)

      pub stored_rows : (new : View) (bytes : ℕ → List ℕ) (result : Result Unit DiskError) → HasFilled old new at n bytes result → IsStored A layout side epoch journal s new
      stored_rows new bytes result filled =
          record {
            base = stored.base;
            entries = stored.entries;
            each = λ image is. at_slot image (filled.now image is);
            accepted = stored.accepted;
            made = stored.made;
            counts = stored.counts;
          }

      module _ (new : View) (filled : HasFilled old new at n (next_row (epoch + 1, it.register) it.progress.written) (Ok tt)) where
        row : (k : ℕ) → k < it.progress.written + n → sector new.reads (slot_at layout o + k) ≡ row_sector (epoch + 1, it.register) k
        row k lt = elim (cases_lt k it.progress.written) [
          | inl before ↦ filled.others (slot_at layout o + k) (inl (omega (arith, before))) ∙ ongoing.begun.rows k before
          | inr now ↦
              (let here : slot_at layout o + k ≡ at + (k - it.progress.written) = omega (arith, now) in
              let there : it.progress.written + (k - it.progress.written) ≡ k = omega (arith, now) in
              ap (λ (place : ℕ). sector new.reads place) here ∙ filled.written (k - it.progress.written) (omega (arith, lt, now)) ∙ ap (row_sector (epoch + 1, it.register)) there)
        ]

        pub ongoing_rows : (now : Ongoing A) → now.register ≡ it.register → now.journal ≡ it.journal → now.progress.written ≡ it.progress.written + n → IsOngoing A layout side epoch now s new
        ongoing_rows now register place written =
            record {
              entries = ongoing.entries;
              begun = rw (register, place, written) (record {
                root = λ image is. let torn = filled.now image is in torn_root torn.0 image torn.2.others torn.1;
                half = λ image is.
                    let torn = filled.now image is in
                    let places = lies layout o in
                    same_half Numbered it.register.count torn.0 image (half_at layout o) (half_end layout o) ongoing.entries it.journal.next
                    (ongoing.begun.half torn.0 torn.1) (λ k le lt. torn.2.others k (inr (omega (arith, le, fit, has_room, places.slot))));
                gate = ongoing.begun.gate;
                rows = row;
                few = fit;
              });
              accepted = rw register ongoing.accepted;
              made = rw register ongoing.made;
              counts = rw place ongoing.counts;
            }

    -- the next rows, as they are counted
    module _ (count : ℕ) (belongs : BelongsTo layout side epoch journal count it) (is_state : IsState it.register) where
      abbrev Filled : View → Result Unit DiskError → Type 0
      Filled new result = HasFilled old new (slot_at layout (other_of side) + it.progress.written)
          (next_rows it.progress.epoch it.register it.progress.written) (next_row (it.progress.epoch, it.register) it.progress.written) result

      abbrev left : ℕ
      left = next_rows (epoch + 1) it.register it.progress.written

      all : it.progress.written + left ≡ written_after (epoch + 1) it.register it.progress.written
      all = let few = belongs.progress.few in omega (arith, few)

      fit : it.progress.written + left ≤ length (rows_of (epoch + 1) it.register)
      fit = let few = belongs.progress.few in omega (arith, few)

      has_room : length (rows_of (epoch + 1) it.register) ≤ slot_size layout
      has_room = rows_have_room layout (epoch + 1) it.register is_state belongs.limits

      pub leaves_next : (new : View) (result : Result Unit DiskError) → Filled new result → LeavesOnly old new (OpensTo A s)
      leaves_next new result filled = in_rows left fit has_room new (next_row (epoch + 1, it.register) it.progress.written) result (rw belongs.epoch_is at filled)

      pub kept_next : (new : View) (result : Result Unit DiskError) → result ≡ Ok tt → Filled new result → (now : Ongoing A) →
          now.register ≡ it.register → now.journal ≡ it.journal →
          now.progress.written ≡ written_after it.progress.epoch it.register it.progress.written → IsKept A layout side epoch journal (Some now) s new
      kept_next new result done filled now register place written =
          let ok : Filled new (Ok tt) = rw done at filled in
          let next : HasFilled old new (slot_at layout (other_of side) + it.progress.written) left (next_row (epoch + 1, it.register) it.progress.written) (Ok tt) = rw belongs.epoch_is at ok in
          let after : now.progress.written ≡ written_after (epoch + 1) it.register it.progress.written =
          subst (λ (e : ℕ). now.progress.written ≡ written_after e it.register it.progress.written) belongs.epoch_is written in
          record {
            stored = stored_rows left fit has_room new (next_row (epoch + 1, it.register) it.progress.written) (Ok tt) next;
            under_way = ongoing_rows left fit has_room new next now register place (after ∙ sym all);
          }

    -- ---- all rows are written: a sync, and the other side's root is opened

    module _ (whole : it.progress.written ≡ length (rows_of (epoch + 1) it.register)) (is_state : IsState it.register)
        (ranges : StateInRange it.register) (limits : it.register.registered.limits ≡ layout.limits) (more : epoch < last_epoch) where
      abbrev Either : List (List ℕ) → Type 0
      Either = IsEither layout side journal.form Numbered (epoch, stored.base) (epoch + 1, it.register) (stored.entries, journal.next) (ongoing.entries, it.journal.next)

      pub for_either : (image : List (List ℕ)) → Either image → OpensTo A s image
      for_either image (inl holds) = state_opens A layout side journal.form (epoch, stored.base) (stored.entries, journal.next) s image holds stored.accepted stored.made
      for_either image (inr holds) = state_opens A layout o Numbered (epoch + 1, it.register) (ongoing.entries, it.journal.next) s image holds ongoing.accepted ongoing.made

      module _ (sound : IsSound old) (mid : View) where
        pub in_sync : (result : Result Unit DiskError) → HasSynced old mid result → LeavesOnly old mid (OpensTo A s)
        in_sync result syncs = sync_on old old mid (OpensTo A s) result (nothing_done A layout side epoch journal s old stored sound) syncs (stored_opens A layout side epoch journal s old stored)

        module _ (syncs : HasSynced old mid (Ok tt)) where
          pub stored_synced : InEach mid P
          stored_synced image is = stored.each image (synced_images old mid (Ok tt) syncs image is)

          pub ready : InEach mid (IsReady layout (other_of side) Numbered (epoch + 1, it.register) (ongoing.entries, it.journal.next))
          ready image is =
              let was = synced_images old mid (Ok tt) syncs image is in
              let slot = written_slot layout (slot_at layout o) (epoch + 1) it.register image is_state ranges limits (omega arith) (omega (arith, more))
              (λ k lt. durable_image mid syncs.durable image is (slot_at layout o + k) ∙
              ap (λ (l : List (List ℕ)). sector l (slot_at layout o + k)) syncs.reads ∙ ongoing.begun.rows k (omega (arith, lt, whole))) in
              record {
                root = ongoing.begun.root image was;
                slot = slot.0;
                form_is = slot.1;
                half = ongoing.begun.half image was;
                gate = ongoing.begun.gate;
              }

          module _ (new : View) where
            pub in_switch : LeavesOnly mid new Either → LeavesOnly old new (OpensTo A s)
            in_switch leaves = run_on old mid new (OpensTo A s) Either (in_sync (Ok tt) syncs) leaves for_either

            pub switched : it.journal.form ≡ Numbered →
                InEach new (IsOnSide layout (other_of side) Numbered (epoch + 1, it.register) (ongoing.entries, it.journal.next)) →
                IsStored A layout (other_of side) (epoch + 1) it.journal s new
            switched form holds = record { base = it.register; entries = ongoing.entries; each = rw form holds; accepted = ongoing.accepted; made = ongoing.made; counts = ongoing.counts }

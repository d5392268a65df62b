-- The other side's root is opened.
use Rattle.std.proofs.Common.{take, ◌≡◌, inl, inr, ℕ, ◌<◌, ◌≤◌, List, slice_index, Result, Ok, ap, ◌∙◌, arith}
use Rattle.std.proofs.lemmas.Bool.{cases_eq}
use Rattle.sector_disk.specs.Disk.{IsSound, View, HasWritten, HasSynced, sector}
use Rattle.sector_disk.specs.Run.{IsTorn, IsTornImage, LeavesOnly}
use Rattle.sector_disk.specs.declared.disk.DiskError.{DiskError}
use Rattle.sector_disk.proofs.Moments.{durable_image, started, sync_on, synced_images, torn_by, write_on}
use Rattle.gated_journal.specs.declared.form.Form.{Form}
use Rattle.gated_journal.specs.Half.{IsOpen}
use Rattle.gated_journal.proofs.Chain.{same_half}
use Rattle.image_rows.specs.RowReading.{row_in}
use Rattle.image_rows.specs.Image.{slot_of}
use Rattle.checkpoint.specs.declared.layout.Layout.{Layout}
use Rattle.checkpoint.specs.declared.side.Side.{Side}
use Rattle.checkpoint.specs.Label.{label_size}
use Rattle.checkpoint.specs.Layout.{disk_size, half_at, half_end, label_at, other_of, root_at, slot_at, slot_size}
use Rattle.checkpoint.specs.OnSide.{Base, RecordsAndGate, InEach, IsBelow, IsEither, IsReady, IsOnSide, epoch_of, stated_form}
use Rattle.checkpoint.proofs.Apart.{label_elsewhere, lies, other_twice, slot_elsewhere}
use Rattle.checkpoint.proofs.Epochs.{slot_has_epoch}
use Rattle.checkpoint.proofs.Spared.{root_torn, sectors_same, stays_on_side}

module _ {A : Type 0} (layout : Layout) (s : Side) (form also : Form) (base next : Base) (held more : RecordsAndGate A) (newer : base.0 < next.0) where
  abbrev o : Side
  o = other_of s

  abbrev Either : List (List ℕ) → Type 0
  Either = IsEither layout s form also base next held more

  abbrev Other : List (List ℕ) → Type 0
  Other = IsOnSide layout o also next more

  module _ (was image : List (List ℕ)) (torn : IsTorn (root_at o) 1 was image) (on_side : IsOnSide layout s form base held was) (ready : IsReady layout o also next more was) where
    -- all after the roots is the same
    following : (k : ℕ) → root_at o < k → sector image k ≡ sector was k
    following k lt = torn.others k (inr (omega (arith, lt)))

    below : IsBelow layout s next.0 image
    below =
        let places = lies layout s in
        let others = lies layout o in
        let slot : sector image (slot_at layout s) ≡ sector was (slot_at layout s) =
        (root_torn layout o was image torn).others (slot_at layout s)
        (slot_elsewhere layout s (slot_at layout s) (omega arith) (omega (arith, places.some))) in
        inr (base.0, ap (λ (bytes : List ℕ). epoch_of (row_in bytes)) slot ∙ slot_has_epoch layout s base was places.some on_side.slot, newer)

    open_on_side : IsOpen (sector image (root_at o)) → Other image
    open_on_side opened =
        let places = lies layout o in
        record {
          room = rw torn.count on_side.room;
          label = ap (λ (bytes : List ℕ). take label_size bytes) ((root_torn layout o was image torn).others label_at (label_elsewhere layout s)) ∙ on_side.label;
          root = opened;
          below = rw (other_twice s) below;
          slot = ap (slot_of layout.limits) (sectors_same was image (slot_at layout o) (slot_size layout) (λ k low high. following k (omega (arith, low, places.root)))) ∙ ready.slot;
          form_is = ap stated_form (following (slot_at layout o) (omega (arith, places.root))) ∙ ready.form_is;
          half = same_half also next.1.count was image (half_at layout o) (half_end layout o) more.0 more.1 ready.half (λ k low high. following k (omega (arith, low, places.root, places.slot)));
          gate = ready.gate;
        }

    on_either_side : Either image
    on_either_side = elim (cases_eq (slice_index (sector image (root_at o)) 0) 1) [
      | inl opened ↦ inr (open_on_side opened)
      | inr shut ↦ inl (stays_on_side layout s form base held was image on_side (root_torn layout o was image torn) (inl shut))
    ]

  module _ (old mid : View) (sound : IsSound old) (room : disk_size layout ≤ old.sectors) (each : InEach old (IsOnSide layout s form base held))
      (ready : InEach old (IsReady layout o also next more)) where
    at_root : (image : List (List ℕ)) → IsTornImage old (root_at o) 1 image → Either image
    at_root image torn = on_either_side torn.0 image torn.2 (each torn.0 torn.1) (ready torn.0 torn.1)

    inside : root_at o < old.sectors
    inside = let places = lies layout o in omega (arith, places.root_in, room)

    pub in_root : (one : List ℕ) (result : Result Unit DiskError) → HasWritten old mid (root_at o) one result → LeavesOnly old mid Either
    in_root one result wrote = write_on old old mid Either (root_at o) one result (started old Either sound (λ image is. inl (each image is))) sound inside wrote at_root

    module _ (one : List ℕ) (wrote : HasWritten old mid (root_at o) one (Ok tt)) (new : View) where
      pub in_sync : (result : Result Unit DiskError) → HasSynced mid new result → LeavesOnly old new Either
      in_sync result syncs = sync_on old mid new Either result (in_root one (Ok tt) wrote) syncs (λ image is. at_root image (torn_by old mid (root_at o) one (Ok tt) sound inside wrote image is))

      pub has_switched : HasSynced mid new (Ok tt) → IsOpen one → InEach new Other
      has_switched syncs opened image is =
          let torn = torn_by old mid (root_at o) one (Ok tt) sound inside wrote image (synced_images mid new (Ok tt) syncs image is) in
          let root : sector image (root_at o) ≡ one = durable_image new syncs.durable image is (root_at o) ∙ ap (λ (l : List (List ℕ)). sector l (root_at o)) syncs.reads ∙ wrote.written.0 in
          open_on_side torn.0 image torn.2 (each torn.0 torn.1) (ready torn.0 torn.1) (ap (λ (bytes : List ℕ). slice_index bytes 0) root ∙ opened)

-- A disk that is made ready opens to an empty register.
use Rattle.std.proofs.Common.{◌≡◌, ◌≢◌, inl, ℕ, suc, ◌+◌, ◌-◌, ◌<◌, ◌≤◌, List, ◌∷◌, ◌++◌, length, map, take, replicate, slice_index, Result, Ok, Err, OnOk, refl, sym, ap, ◌∙◌, arith}
use Rattle.std.proofs.Math.Seq.{take-append_seam}
use Rattle.sector_disk.specs.Disk.{IsSound, HasSynced, HasWritten, View, sector}
use Rattle.sector_disk.specs.declared.disk.DiskError.{DiskError}
use Rattle.sector_disk.proofs.Moments.{durable_image}
use Rattle.centre_core.specs.State.{empty}
use Rattle.centre_core.proofs.StateLaws.{empty_is_state}
use Rattle.centre_core.proofs.RangeLaws.{empty_is_in_range}
use Rattle.image_rows.specs.Rows.{Row}
use Rattle.image_rows.specs.RowText.{sector_of}
use Rattle.image_rows.specs.Worked.{bare}
use Rattle.image_rows.proofs.Tags.{header_is_tagged}
use Rattle.image_rows.specs.Image.{slot_of}
use Rattle.image_rows.proofs.Images.{written_is_image}
use Rattle.image_rows.proofs.Worked.{empty_image}
use Rattle.gated_journal.specs.declared.form.Form.TheVariants.{Numbered}
use Rattle.gated_journal.specs.Half.{IsClosed}
use Rattle.gated_journal.specs.Calls.{closed_gate, open_gate}
use Rattle.gated_journal.proofs.Chain.{last_gate}
use Rattle.checkpoint.specs.declared.layout.Layout.{Layout}
use Rattle.checkpoint.specs.declared.side.Side.TheVariants as side
use Rattle.checkpoint.specs.Label.{IsLabel, label_size, label_text}
use Rattle.checkpoint.specs.Layout.{disk_size, half_at, half_end, label_at, root_at, slot_at, slot_size}
use Rattle.checkpoint.specs.OnSide.{InEach, IsInSlot, IsOnSide, stated_form, fresh, sectors_from}
use Rattle.recovery.specs.Calls.{first_header, label_sector}
use Rattle.recovery.specs.Opens.{opening, opens}
use Rattle.recovery.specs.Inside.Sides.{AreReady}
use Rattle.recovery.specs.OpensTo.{first_base}
use Rattle.recovery.proofs.Labelled.{label_length}
use Rattle.recovery.proofs.Opened.{side_opens}

-- ---- the sides

-- what is written lies within the disk
pub record Within (layout : Layout) (sectors : ℕ) : Type 0 where
  pub label : label_at < sectors
  pub header : slot_at layout side.A < sectors
  pub root : root_at side.A < sectors
  pub other : root_at side.B < sectors
  pub gate : half_at layout side.A < sectors
  pub other_gate : half_at layout side.B < sectors

pub within : (layout : Layout) (sectors : ℕ) → disk_size layout ≤ sectors → Within layout sectors
within layout sectors room =
    let some = layout.in_range.fewest in
    record {
      label = omega (arith, room);
      header = omega (arith, room);
      root = omega (arith, room);
      other = omega (arith, room);
      gate =
          omega (arith, room, some);
      other_gate = omega (arith, room, some);
    }

module _ (layout : Layout) (old one two three four five : View) where
  -- five writes
  pub record HasFive : Type 0 where
    pub header : HasWritten old one (slot_at layout side.A) first_header (Ok tt)
    pub root : HasWritten one two (root_at side.A) open_gate (Ok tt)
    pub other : HasWritten two three (root_at side.B) closed_gate (Ok tt)
    pub gate : HasWritten three four (half_at layout side.A) closed_gate (Ok tt)
    pub other_gate : HasWritten four five (half_at layout side.B) closed_gate (Ok tt)

  pub are_ready : (new : View) → HasFive → HasSynced five new (Ok tt) → AreReady layout new
  are_ready new has syncs =
      let some = layout.in_range.fewest in
      let read : (k : ℕ) → sector new.reads k ≡ sector five.reads k = λ k. ap (λ (l : List (List ℕ)). sector l k) syncs.reads in
      let s : ℕ = slot_at layout side.A in
      let a : ℕ = root_at side.A in
      let b : ℕ = root_at side.B in
      let g : ℕ = half_at layout side.A in
      let h : ℕ = half_at layout side.B in
      record {
        durable = syncs.durable;
        header = read s ∙ has.other_gate.others s (omega arith) ∙ has.gate.others s (omega arith) ∙ has.other.others s (omega arith) ∙ has.root.others s (omega arith) ∙ has.header.written.0;
        root = read a ∙ has.other_gate.others a (omega arith) ∙ has.gate.others a (omega arith) ∙ has.other.others a (omega arith) ∙ has.root.written.0;
        other = read b ∙ has.other_gate.others b (omega arith) ∙ has.gate.others b (omega arith) ∙ has.other.written.0;
        gate = read g ∙ has.other_gate.others g (omega (arith, some)) ∙ has.gate.written.0;
        other_gate = read h ∙ has.other_gate.written.0;
      }

  pub ready_if : {H : Type 0} (new : View) (result : Result Unit DiskError) → (H → HasFive) → (H → HasSynced five new result) → OnOk result (H → AreReady layout new)
  ready_if new (Ok u) has syncs = λ honest. are_ready new (has honest) (syncs honest)
  ready_if new (Err e) has syncs = tt

-- ---- the label

pub label_prefix : (layout : Layout) → IsLabel layout (label_sector layout)
label_prefix layout = ap (λ (n : ℕ). take n (label_sector layout)) (sym (label_length layout)) ∙ take-append_seam (label_text layout) (replicate (512 - length (label_text layout)) 0)

-- ---- the slot

header_read : (layout : Layout) (following : List (List ℕ)) → slot_of layout.limits (first_header ∷ following) ≡ Ok (first_base layout)
header_read layout following =
    ap (λ (rows : List Row). slot_of layout.limits (map sector_of rows ++ following)) (sym (empty_image 1 layout.limits))
    ∙ written_is_image 1 (empty layout.limits) following (omega arith) (omega arith) (empty_is_state layout.limits) (empty_is_in_range layout.limits)

in_slot : (layout : Layout) (image : List (List ℕ)) → sector image (slot_at layout side.A) ≡ first_header → IsInSlot layout side.A (first_base layout) image
unfolding sectors_from
in_slot layout image is =
    let size : slot_size layout ≡ suc (slot_size layout - 1) = omega arith in
    ap (λ (n : ℕ). slot_of layout.limits (sectors_from image (slot_at layout side.A) n)) size
    ∙ ap (λ (bytes : List ℕ). slot_of layout.limits (bytes ∷ sectors_from image (slot_at layout side.A + 1) (slot_size layout - 1))) is
    ∙ header_read layout (sectors_from image (slot_at layout side.A + 1) (slot_size layout - 1))

-- it states numbered records
header_form : stated_form first_header ≡ Numbered
header_form = rw (header_is_tagged (bare 1)) refl

-- ---- the whole

pub closed_is : (bytes : List ℕ) → bytes ≡ closed_gate → IsClosed bytes
closed_is bytes is opened = let one : slice_index closed_gate 0 ≡ 1 = ap (λ (b : List ℕ). slice_index b 0) (sym is) ∙ opened in absurd (omega (arith, one))

module _ {A : Type 0} (layout : Layout) (sides labelled last : View) where
  pub image_opens : AreReady layout sides → HasWritten sides labelled label_at (label_sector layout) (Ok tt) → HasSynced labelled last (Ok tt) → IsSound last → disk_size layout ≤ last.sectors
      → InEach last (IsOnSide {A = A} layout side.A Numbered (first_base layout) (fresh layout side.A))
  image_opens ready wrote syncs sound room image is =
      let some = layout.in_range.fewest in
      let now : (k : ℕ) → sector image k ≡ sector labelled.reads k = λ k. durable_image last syncs.durable image is k ∙ ap (λ (l : List (List ℕ)). sector l k) syncs.reads in
      let as_before : (k : ℕ) → k ≢ label_at → sector image k ≡ sector sides.reads k = λ k apart. now k ∙ wrote.others k apart in
      record {
        room = omega (arith, room, sound.count, is.count);
        label = ap (λ (bytes : List ℕ). take label_size bytes) (now label_at ∙ wrote.written.0) ∙ label_prefix layout;
        root = ap (λ (bytes : List ℕ). slice_index bytes 0) (as_before (root_at side.A) (omega arith) ∙ ready.root);
        below = inl (closed_is (sector image (root_at side.B)) (as_before (root_at side.B) (omega arith) ∙ ready.other));
        slot = in_slot layout image (as_before (slot_at layout side.A) (omega arith) ∙ ready.header);
        form_is = ap stated_form (as_before (slot_at layout side.A) (omega arith) ∙ ready.header) ∙ header_form;
        half = last_gate Numbered (half_end layout side.A - half_at layout side.A) (first_base layout).1.count image (half_at layout side.A)
            (half_end layout side.A)
            (closed_is (sector image (half_at layout side.A)) (as_before (half_at layout side.A) (omega arith) ∙ ready.gate));
        gate = omega (arith, some);
      }

pub opens_so : (A : Type 0) (layout : Layout) (sides labelled last : View) → AreReady layout sides →
    HasWritten sides labelled label_at (label_sector layout) (Ok tt) → HasSynced labelled last (Ok tt) → IsSound last →
    disk_size layout ≤ last.sectors
    → InEach last (λ image. opens A image ≡ Ok (opening layout side.A 1 (half_at layout side.A) (empty layout.limits)))
opens_so A layout sides labelled last ready wrote syncs sound room image is =
    side_opens {A = A} layout side.A Numbered (first_base layout) (fresh layout side.A) image
    (image_opens layout sides labelled last ready wrote syncs sound room image is) tt

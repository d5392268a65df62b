-- A disk that is made ready for a register opens to it.
use Rattle.std.proofs.Common.{◌≡◌, ◌≢◌, ◌⊎◌, inl, inr, ℕ, ◌+◌, ◌-◌, ◌<◌, ◌≤◌, List, length, take, slice_index, Ok, ap, ◌∙◌, arith}
use Rattle.sector_disk.specs.Disk.{IsSound, HasSynced, HasWritten, View, sector}
use Rattle.sector_disk.specs.Filling.{HasFilled}
use Rattle.sector_disk.proofs.Moments.{durable_image}
use Rattle.centre_core.specs.State.{IsState, State}
use Rattle.centre_core.specs.StateRanges.{StateInRange}
use Rattle.image_rows.specs.Rows.{rows_of}
use Rattle.gated_journal.specs.declared.form.Form.TheVariants.{Numbered}
use Rattle.gated_journal.proofs.Chain.{last_gate}
use Rattle.checkpoint.specs.declared.layout.Layout.{Layout}
use Rattle.checkpoint.specs.declared.side.Side.TheVariants as side
use Rattle.checkpoint.specs.Calls.{row_sector}
use Rattle.checkpoint.specs.Label.{label_size}
use Rattle.checkpoint.specs.Layout.{disk_size, half_at, half_end, label_at, root_at, slot_at}
use Rattle.checkpoint.specs.OnSide.{EachIsOnSide, InEach, fresh}
use Rattle.checkpoint.proofs.Imaged.{rows_have_room, written_slot}
use Rattle.recovery.specs.Calls.{label_sector}
use Rattle.recovery.specs.Opens.{opening, opens}
use Rattle.recovery.specs.Inside.Filled.{AreFilled}
use Rattle.recovery.specs.Inside.Sides.{AreReady}
use Rattle.recovery.proofs.Formatted.{closed_is, label_prefix}
use Rattle.recovery.proofs.Opened.{side_opens}

-- ---- the rows, over the sides of an empty register

pub are_filled : (layout : Layout) (state : State) (sides written new : View) → IsState state → state.registered.limits ≡ layout.limits → AreReady layout sides
    → HasFilled sides written (slot_at layout side.A) (length (rows_of 1 state)) (row_sector (1, state)) (Ok tt) → HasSynced written new (Ok tt) → AreFilled layout state new
are_filled layout state sides written new is limits ready filled syncs =
    let fit = rows_have_room layout 1 state is limits in
    let read : (k : ℕ) → sector new.reads k ≡ sector written.reads k = λ k. ap (λ (l : List (List ℕ)). sector l k) syncs.reads in
    let as_before = λ (k : ℕ) (out : (k < slot_at layout side.A) ⊎ (slot_at layout side.A + length (rows_of 1 state) ≤ k)). read k ∙ filled.others k out in
    record {
      durable = syncs.durable;
      rows = λ k lt. read (slot_at layout side.A + k) ∙ filled.written k lt;
      root = as_before (root_at side.A) (inl (omega arith)) ∙ ready.root;
      other = as_before (root_at side.B) (inl (omega arith)) ∙ ready.other;
      gate = as_before (half_at layout side.A) (inr (omega (arith, fit))) ∙ ready.gate;
    }

-- ---- the whole

module _ (A : Type 0) (layout : Layout) (state : State) (sides labelled last : View) (is : IsState state) (ranges : StateInRange state)
    (limits : state.registered.limits ≡ layout.limits) (filled : AreFilled layout state sides)
    (wrote : HasWritten sides labelled label_at (label_sector layout) (Ok tt)) (syncs : HasSynced labelled last (Ok tt)) (sound : IsSound last) (room : disk_size layout ≤ last.sectors) where
  pub filled_opens : EachIsOnSide {A = A} last layout side.A Numbered (1, state) (fresh layout side.A)
  filled_opens image here =
      let some = layout.in_range.fewest in
      let now : (k : ℕ) → sector image k ≡ sector labelled.reads k = λ k. durable_image last syncs.durable image here k ∙ ap (λ (l : List (List ℕ)). sector l k) syncs.reads in
      let as_before : (k : ℕ) → k ≢ label_at → sector image k ≡ sector sides.reads k = λ k apart. now k ∙ wrote.others k apart in
      let written = written_slot layout (slot_at layout side.A) 1 state image is ranges limits (omega arith) (omega arith)
      (λ k lt. as_before (slot_at layout side.A + k) (omega arith) ∙ filled.rows k lt) in
      record {
        room = omega (arith, room, sound.count, here.count);
        label = ap (λ (bytes : List ℕ). take label_size bytes) (now label_at ∙ wrote.written.0) ∙ label_prefix layout;
        root = ap (λ (bytes : List ℕ). slice_index bytes 0) (as_before (root_at side.A) (omega arith) ∙ filled.root);
        below = inl (closed_is (sector image (root_at side.B)) (as_before (root_at side.B) (omega arith) ∙ filled.other));
        slot = written.0;
        form_is = written.1;
        half = last_gate Numbered (half_end layout side.A - half_at layout side.A) state.count image (half_at layout side.A) (half_end layout side.A)
            (closed_is (sector image (half_at layout side.A)) (as_before (half_at layout side.A) (omega arith) ∙ filled.gate));
        gate = omega (arith, some);
      }

  pub filled_opens_to : InEach last (λ image. opens A image ≡ Ok (opening layout side.A 1 (half_at layout side.A) state))
  filled_opens_to image here = side_opens {A = A} layout side.A Numbered (1, state) (fresh layout side.A) image (filled_opens image here) tt

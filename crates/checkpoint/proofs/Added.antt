-- Records are added to the half of the side that counts.
use Rattle.std.proofs.Common.{take, inl, ℕ, ◌<◌, List, slice_index, refl, ap, ◌∙◌, arith}
use Rattle.sector_disk.specs.Disk.{View}
use Rattle.sector_disk.specs.Run.{IsTorn}
use Rattle.gated_journal.specs.declared.form.Form.{Form}
use Rattle.gated_journal.specs.Half.{counted}
use Rattle.gated_journal.specs.Settled.{IsSettled}
use Rattle.image_rows.specs.Image.{slot_of}
use Rattle.checkpoint.specs.declared.layout.Layout.{Layout}
use Rattle.checkpoint.specs.declared.side.Side.{Side}
use Rattle.checkpoint.specs.Label.{label_size}
use Rattle.checkpoint.specs.Layout.{half_at, half_end, label_at, other_of, root_at, slot_at, slot_size}
use Rattle.checkpoint.specs.OnSide.{Base, RecordsAndGate, InEach, IsInHalf, IsOnSide, stated_form}
use Rattle.checkpoint.proofs.Apart.{lies}
use Rattle.checkpoint.proofs.Spared.{below_same, sectors_same}

module _ {A : Type 0} (layout : Layout) (s : Side) (form : Form) (base : Base) where
  pub is_settled : (disk : View) (held : RecordsAndGate A) → InEach disk (IsOnSide layout s form base held) → held.1 < half_end layout s →
      IsSettled disk (record { first = half_at layout s; end = half_end layout s; next = held.1; form = form; count = counted base.1.count held.0 })
      base.1.count held.0
  is_settled disk held each gate =
      let some = layout.in_range.fewest in
      record { begins = omega (arith, some); within = gate; counts = refl; half = λ image is. (each image is).half }

  pub on_side_with : (held more : RecordsAndGate A) (was image : List (List ℕ)) → IsOnSide layout s form base held was →
      IsTorn (half_at layout s) layout.journal was image → IsInHalf layout s form base more image → more.1 < half_end layout s →
      IsOnSide layout s form base more image
  on_side_with held more was image on_side torn half gate =
      let places = lies layout s in
      let others = lies layout (other_of s) in
      let before = λ (k : ℕ) (lt : k < half_at layout s). torn.others k (inl lt) in
      record {
        room = rw torn.count on_side.room;
        label = ap (λ (bytes : List ℕ). take label_size bytes) (before label_at (omega (arith, places.root, places.slot))) ∙ on_side.label;
        root = ap (λ (bytes : List ℕ). slice_index bytes 0) (before (root_at s) (omega (arith, places.root, places.slot))) ∙ on_side.root;
        below = below_same layout (other_of s) base.0 was image
            (before (root_at (other_of s)) (omega (arith, others.root, others.slots, places.halves)))
            (before (slot_at layout (other_of s)) (omega (arith, others.some, others.slots, places.halves))) on_side.below;
        slot = ap (slot_of layout.limits) (sectors_same was image (slot_at layout s) (slot_size layout) (λ k low high. before k (omega (arith, high, places.slot)))) ∙ on_side.slot;
        form_is = ap stated_form (before (slot_at layout s) (omega (arith, places.slot, places.some))) ∙ on_side.form_is;
        half = half;
        gate = gate;
      }

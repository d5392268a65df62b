-- What one side opens to does not hang on the other side's parts, but for the other's root.
use Rattle.std.proofs.Common.{take, ◌≡◌, ◌≢◌, inl, inr, ℕ, zero, suc, ◌+◌, ◌<◌, ◌≤◌, List, [], length, set, slice_index, Some, refl, sym, ap, ◌∙◌, arith, get_or-set_same, get_or-set_other}
use Rattle.std.proofs.Math.ListN.{length-set}
use Rattle.std.proofs.lemmas.Bool.{cases_eq, cases_lt}
use Rattle.sector_disk.specs.Disk.{IsImageOf, IsSound, View, sector}
use Rattle.sector_disk.specs.Run.{IsTorn, LeavesOnly}
use Rattle.gated_journal.specs.declared.form.Form.{Form}
use Rattle.gated_journal.specs.Half.{IsClosed, IsOpen}
use Rattle.gated_journal.proofs.Chain.{same_half}
use Rattle.image_rows.specs.RowReading.{row_in}
use Rattle.image_rows.specs.Image.{slot_of}
use Rattle.checkpoint.specs.declared.layout.Layout.{Layout}
use Rattle.checkpoint.specs.declared.side.Side.{Side}
use Rattle.checkpoint.specs.Layout.{half_at, half_end, label_at, other_of, root_at, slot_at, slot_size}
use Rattle.checkpoint.specs.Label.{label_size}
use Rattle.checkpoint.specs.OnSide.{Base, RecordsAndGate, InEach, IsBelow, IsOnSide, epoch_of, stated_form, sectors_from, slot_epoch}
use Rattle.checkpoint.proofs.Apart.{IsElsewhere, half_elsewhere, label_elsewhere, lies, root_elsewhere, slot_elsewhere}

pub sectors_same : (old new : List (List ℕ)) (at n : ℕ) → ((k : ℕ) → at ≤ k → k < at + n → sector new k ≡ sector old k) → sectors_from new at n ≡ sectors_from old at n
unfolding sectors_from
sectors_same old new at zero same = refl
sectors_same old new at (suc n) same =
    let first = same at (omega arith) (omega arith) in
    let rest = sectors_same old new (at + 1) n (λ k low high. same k (omega (arith, low)) (omega (arith, high))) in
    rw (first, rest) refl

-- a sector that opens with the same byte
pub closed_as : (old new : List ℕ) → new ≡ old → IsClosed old → IsClosed new
closed_as old new same closed is = closed (ap (λ (bytes : List ℕ). slice_index bytes 0) (sym same) ∙ is)

-- new is old with anything in the place of the side's parts
pub record Spares (layout : Layout) (s : Side) (old new : List (List ℕ)) : Type 0 where
  pub count : length new ≡ length old
  pub others : (k : ℕ) → IsElsewhere layout s k → sector new k ≡ sector old k

module _ (layout : Layout) (s : Side) (old new : List (List ℕ)) where
  pub root_torn : IsTorn (root_at s) 1 old new → Spares layout s old new
  root_torn torn = record {
    count = torn.count;
    others = λ k out. torn.others k (let apart = out.root in elim (cases_lt k (root_at s)) [ inl low ↦ inl low | inr high ↦ inr (omega (arith, high, apart)) ]);
  }

  pub slot_torn : (n : ℕ) → n ≤ slot_size layout → IsTorn (slot_at layout s) n old new → Spares layout s old new
  slot_torn n le torn = record {
    count = torn.count;
    others = λ k out. torn.others k (elim out.slot [ inl low ↦ inl low | inr high ↦ inr (omega (arith, high, le)) ]);
  }

  pub gate_torn : IsTorn (half_at layout s) 1 old new → Spares layout s old new
  gate_torn torn =
      let some = layout.in_range.fewest in
      record {
        count = torn.count;
        others = λ k out. torn.others k (elim out.half [ inl low ↦ inl low | inr high ↦ inr (omega (arith, high, some)) ]);
      }

-- the other side still counts for nothing, where its root and its slot's first sector are the same
pub below_same : (layout : Layout) (s : Side) (epoch : ℕ) (old new : List (List ℕ)) → sector new (root_at s) ≡ sector old (root_at s) →
    sector new (slot_at layout s) ≡ sector old (slot_at layout s) → IsBelow layout s epoch old → IsBelow layout s epoch new
below_same layout s epoch old new root slot (inl closed) = inl (closed_as (sector old (root_at s)) (sector new (root_at s)) root closed)
below_same layout s epoch old new root slot (inr (e, states, lt)) = inr (e, ap (λ (bytes : List ℕ). epoch_of (row_in bytes)) slot ∙ states, lt)

module _ {A : Type 0} (layout : Layout) (s : Side) (form : Form) where
  pub stays_on_side : (base : Base) (held : RecordsAndGate A) (old new : List (List ℕ)) → IsOnSide layout s form base held old →
      Spares layout (other_of s) old new → IsBelow layout (other_of s) base.0 new → IsOnSide layout s form base held new
  stays_on_side base held old new was spares below = record {
    room = rw spares.count was.room;
    label = ap (λ (bytes : List ℕ). take label_size bytes) (spares.others label_at (label_elsewhere layout s)) ∙ was.label;
    root = ap (λ (bytes : List ℕ). slice_index bytes 0) (spares.others (root_at s) (root_elsewhere layout s)) ∙ was.root;
    below = below;
    slot = ap (slot_of layout.limits) (sectors_same old new (slot_at layout s) (slot_size layout) (λ k low high. spares.others k (slot_elsewhere layout s k low high))) ∙ was.slot;
    form_is = ap stated_form (spares.others (slot_at layout s) (slot_elsewhere layout s (slot_at layout s) (omega arith) (let places = lies layout s in omega (arith, places.some)))) ∙ was.form_is;
    half = same_half form base.1.count old new (half_at layout s) (half_end layout s) held.0 held.1 was.half
        (λ k low high. let gate = was.gate in spares.others k (half_elsewhere layout s k low (omega (arith, high, gate))));
    gate = was.gate;
  }

-- ---- images

-- what every image since has, every image of now has
pub left_each : (old new : View) (P : List (List ℕ) → Type 0) → LeavesOnly old new P → IsSound new → InEach new P
left_each old new P leaves sound image is = leaves.each image (sound.counts_now old.moment image leaves.later is)

-- an image with what reading gives of one sector is one of the images
with_read : (disk : View) (at : ℕ) (image : List (List ℕ)) → IsSound disk → at < disk.sectors → IsImageOf disk image → IsImageOf disk (set image at (sector disk.reads at))
with_read disk at image sound within is =
    let long : length (set image at (sector disk.reads at)) ≡ length image = length-set image at (sector disk.reads at) in
    let here : at < length image = omega (arith, is.count, sound.count, within) in
    record {
      count = long ∙ is.count;
      whole = λ k lt. elim (cases_eq k at) [
        | inl same ↦ rw (same, get_or-set_same image at (sector disk.reads at) [] here) (sound.reads_left.whole at (omega (arith, sound.count, within)))
        | inr other ↦ rw (get_or-set_other image at k (sector disk.reads at) [] other) (is.whole k (omega (arith, lt, long)))
      ];
      others = λ k clear. elim (cases_eq k at) [
        | inl same ↦ rw (same, get_or-set_same image at (sector disk.reads at) [] here) refl
        | inr other ↦ get_or-set_other image at k (sector disk.reads at) [] other ∙ is.others k clear
      ];
    }

-- where the other side's root reads open, its slot states a smaller epoch in every image
pub record IsOlder (layout : Layout) (s : Side) (epoch : ℕ) (image : List (List ℕ)) : Type 0 where
  pub stated : ℕ
  pub states : slot_epoch layout s image ≡ Some stated
  pub less : stated < epoch

older_or : (layout : Layout) (s : Side) (epoch : ℕ) (image : List (List ℕ)) → IsOpen (sector image (root_at s)) → IsBelow layout s epoch image → IsOlder layout s epoch image
older_or layout s epoch image opened (inl closed) = absurd (closed opened)
older_or layout s epoch image opened (inr (e, states, lt)) = record { stated = e; states = states; less = lt }

pub older_each : {A : Type 0} (layout : Layout) (s : Side) (form : Form) (base : Base) (held : RecordsAndGate A) (disk : View) → IsSound disk →
    root_at (other_of s) < disk.sectors → InEach disk (IsOnSide layout s form base held)
    → IsOpen (sector disk.reads (root_at (other_of s))) → InEach disk (IsOlder layout (other_of s) base.0)
older_each layout s form base held disk sound within each opened image is =
    let o = other_of s in
    let places = lies layout o in
    let here : root_at o < length image = omega (arith, is.count, sound.count, within) in
    let with : List (List ℕ) = set image (root_at o) (sector disk.reads (root_at o)) in
    let root : sector with (root_at o) ≡ sector disk.reads (root_at o) = get_or-set_same image (root_at o) (sector disk.reads (root_at o)) [] here in
    let slot : sector with (slot_at layout o) ≡ sector image (slot_at layout o) = let far : slot_at layout o ≢ root_at o =
    omega (arith, places.root) in get_or-set_other image (root_at o) (slot_at layout o) (sector disk.reads (root_at o)) [] far in
    let older = older_or layout o base.0 with (ap (λ (bytes : List ℕ). slice_index bytes 0) root ∙ opened) (each with (with_read disk (root_at o) image sound within is)).below in
    record { stated = older.stated; states = ap (λ (bytes : List ℕ). epoch_of (row_in bytes)) (sym slot) ∙ older.states; less = older.less }

pub below_older : (layout : Layout) (s : Side) (epoch : ℕ) (old new : List (List ℕ)) → sector new (slot_at layout s) ≡ sector old (slot_at layout s) →
    IsOlder layout s epoch old → IsBelow layout s epoch new
below_older layout s epoch old new slot older = inr (older.stated, ap (λ (bytes : List ℕ). epoch_of (row_in bytes)) slot ∙ older.states, older.less)

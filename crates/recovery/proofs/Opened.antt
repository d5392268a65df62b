-- What an image on a side opens to.
use Rattle.std.proofs.Common.{◌≡◌, ◌⊎◌, inl, inr, ℕ, ◌+◌, List, ◌++◌, length, Result, Ok, Err, refl, subst, ap, ◌∙◌, append_assoc}
use Rattle.sector_disk.specs.declared.record.Call.{Call}
use Rattle.image_rows.specs.Rows.{rows_of}
use Rattle.gated_journal.specs.declared.form.Form.{Form}
use Rattle.gated_journal.specs.Reading.{HasRecords}
use Rattle.centre_core.specs.History.{after}
use Rattle.centre_core.specs.Histories.{IsHistory}
use Rattle.checkpoint.specs.declared.layout.Layout.{Layout}
use Rattle.checkpoint.specs.declared.side.Side.{Side}
use Rattle.checkpoint.specs.Layout.{half_at, half_end, slot_at}
use Rattle.checkpoint.specs.Reading.{image_reads}
use Rattle.checkpoint.specs.OnSide.{Base, RecordsAndGate, IsInSlot, IsOnSide, slot_form, slot_in}
use Rattle.checkpoint.proofs.Apart.{lies}
use Rattle.checkpoint.proofs.Epochs.{slot_has_epoch}
use Rattle.recovery.specs.Opens.{base_in, opening, opens, opens_by, placed, played_by}
use Rattle.recovery.specs.Opening.{AreGoodSoFar, HasReadAgain, IsCutShort}
use Rattle.recovery.specs.OpensTo.{commands_of}
use Rattle.recovery.proofs.Labelled.{label_read}
use Rattle.recovery.proofs.Sided.{side_found}
use Rattle.recovery.proofs.Played.{history_played}

-- some calls, and then others
pub called_on : (old mid new first second : List Call) → mid ≡ old ++ first → new ≡ mid ++ second → new ≡ old ++ (first ++ second)
called_on old mid new first second were is = is ∙ ap (λ (some : List Call). some ++ second) were ∙ append_assoc old first second

base_found : (layout : Layout) (s : Side) (base : Base) (image : List (List ℕ)) → IsInSlot layout s base image → base_in layout s image ≡ Ok base
unfolding base_in
base_found layout s base image is = ap (placed (slot_at layout s)) is

-- where memory ran out after the rows: the calls are those that read them, or the records are good too, and accepted as far as they were played
pub so_far : (A : Type 0) (layout : Layout) (s : Side) (base : Base) (image : List (List ℕ)) (old mid new : List Call) →
    base_in layout s image ≡ Ok base → mid ≡ old ++ image_reads (slot_at layout s) base
    → (new ≡ mid) ⊎ ((records : HasRecords A (slot_form layout s image) base.1.count image (half_at layout s) (half_end layout s))
    × IsCutShort base.1 records.0.0 (HasReadAgain mid new (half_at layout s) (records.0.1 + 1)))
    → AreGoodSoFar A layout s image old new
unfolding base_in
so_far A layout s base image old mid new rows calls (inr good) = inr (record {
  base = base;
  rows = rows;
  records = good.0;
  cut = subst (λ (some : List Call). IsCutShort base.1 good.0.0.0 (HasReadAgain some new (half_at layout s) (good.0.0.1 + 1))) calls good.1;
})
so_far A layout s base image old mid new rows calls (inl none) = inl (record {
  read = length (rows_of base.0 base.1);
  last = none ∙ calls;
  good = λ place bad. absurd (no_bad (slot_in layout s image) base place rows bad);
})
  where
    no_bad : (r : Result Base ℕ) (base : Base) (place : ℕ) → placed (slot_at layout s) r ≡ Ok base → r ≡ Err place → ⊥
    no_bad (Ok b) base place good bad = absurd cc
    no_bad (Err p) base place good bad = absurd cc

module _ {A : Type 0} (layout : Layout) (s : Side) (form : Form) (base : Base) (held : RecordsAndGate A) (image : List (List ℕ)) where
  by_side : IsOnSide layout s form base held image → IsHistory base.1 (commands_of held.0) → opens_by A layout s image ≡ Ok (opening layout s base.0 held.1 (after base.1 (commands_of held.0)))
  unfolding opens_by played_by
  by_side holds history = rw (base_found layout s base image holds.slot) (rw (holds.form_is, holds.half) (rw (history_played base.1 held.0 history) refl))

  pub side_opens : IsOnSide layout s form base held image → IsHistory base.1 (commands_of held.0) → opens A image ≡ Ok (opening layout s base.0 held.1 (after base.1 (commands_of held.0)))
  unfolding opens
  side_opens holds history =
      let places = lies layout s in
      rw (label_read layout image holds.label holds.room)
      (rw (side_found layout s base.0 image holds.root (slot_has_epoch layout s base image places.some holds.slot) holds.below) (by_side holds history))

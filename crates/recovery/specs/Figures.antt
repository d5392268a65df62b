-- The figures of a register on a disk.
use Rattle.std.specs.Prelude.{ℕ, ◌-◌, List}
use Rattle.identity.specs.Numbers.{Byte}
use Rattle.sector_disk.specs.Numbers.{Sector}
use Rattle.image_rows.specs.Numbers.{Epoch}
use Rattle.image_rows.specs.Rows.{last_epoch}
use Rattle.gated_journal.specs.declared.form.Form.{Form}
use Rattle.gated_journal.specs.declared.form.Form.TheVariants.{Numbered, Plain}
use Rattle.checkpoint.specs.declared.layout.Layout.{Layout}
use Rattle.checkpoint.specs.declared.side.Side.{Side}
use Rattle.checkpoint.specs.Layout.{half_end}
use Rattle.checkpoint.specs.OnSide.{slot_form}
use Rattle.recovery.specs.declared.figures.Figures.{Figures}
use Rattle.recovery.specs.Opens.{Opening}
use Rattle.recovery.specs.Lives.{StoreView}

-- the layout of a side whose records have this form
abbrev pub layout_of : Form → ℕ
layout_of Plain = 1
layout_of Numbered = 2

-- The figures of a side whose records have this form, by its epoch, the first closed gate of its half, and the number of accepted
-- commands. Each later epoch takes a checkpoint. The sectors from the gate to the end of the half are free.
abbrev pub figures_of : Layout → Side → Form → Epoch → Sector → ℕ → Figures
figures_of layout side form epoch gate count = record {
  layout = layout_of form;
  side = side;
  epoch = epoch;
  epochs_left = last_epoch - epoch;
  gate = gate;
  free = half_end layout side - gate;
  count = count;
}

-- the figures of a store
abbrev pub figures_at : {A D : Type 0} → StoreView A D → Figures
figures_at store = figures_of store.layout store.side store.journal.form store.epoch store.journal.next store.register.count

-- the figures of an image that opens so; the first sector of the side's slot states the form of its records
abbrev pub figures_in : Opening → List (List Byte) → Figures
figures_in opening image =
    figures_of opening.layout opening.side (slot_form opening.layout opening.side image) opening.epoch opening.next opening.state.count

-- The figures of a store that was just opened.
use Rattle.std.proofs.Common.{◌≡◌, ℕ, List, ap, subst, sym}
use Rattle.sector_disk.specs.Disk.{IsSound, View}
use Rattle.centre_core.specs.State.{State}
use Rattle.image_rows.specs.Numbers.{Epoch}
use Rattle.gated_journal.specs.declared.form.Form.{Form}
use Rattle.gated_journal.specs.declared.place.Place.{Place}
use Rattle.checkpoint.specs.declared.layout.Layout.{Layout}
use Rattle.checkpoint.specs.declared.side.Side.{Side}
use Rattle.checkpoint.specs.OnSide.{InEach, slot_form}
use Rattle.recovery.specs.Opens.{opening}
use Rattle.recovery.specs.Stored.{IsStored}
use Rattle.recovery.specs.Figures.{figures_in, figures_of}

pub opened_figures : (A : Type 0) (layout : Layout) (side : Side) (epoch : Epoch) (journal : Place) (state : State) (disk : View) (reads : List (List ℕ))
    → IsStored A layout side epoch journal state disk → IsSound disk → InEach disk (λ image. image ≡ reads)
    → figures_of layout side journal.form epoch journal.next state.count ≡ figures_in (opening layout side epoch journal.next state) reads
opened_figures A layout side epoch journal state disk reads stored sound only =
    let here : slot_form layout side disk.reads ≡ journal.form = (stored.each disk.reads sound.reads_left).form_is in
    let same : disk.reads ≡ reads = only disk.reads sound.reads_left in
    let form : slot_form layout side reads ≡ journal.form = subst (λ (l : List (List ℕ)). slot_form layout side l ≡ journal.form) same here in
    ap (λ (f : Form). figures_of layout side f epoch journal.next state.count) (sym form)

-- A side that is read in the form that its header states.
use Rattle.std.specs.Prelude.{◌≡◌, ◌⊎◌, ◌+◌, IfSome, Option, Result}
use Rattle.sector_disk.specs.Disk.{View}
use Rattle.centre_core.specs.State.{State}
use Rattle.image_rows.specs.Numbers.{Epoch}
use Rattle.gated_journal.specs.declared.form.Form.{Form}
use Rattle.gated_journal.specs.Reading.{HasRecords}
use Rattle.checkpoint.specs.declared.layout.Layout.{Layout}
use Rattle.checkpoint.specs.Layout.{half_at, half_end}
use Rattle.checkpoint.specs.OnSide.{ReadsForm}
use Rattle.recovery.specs.declared.checking.SideState.{SideState}
use Rattle.recovery.specs.declared.fault.StoreFault.{StoreFault}
use Rattle.recovery.specs.declared.sides.Current.{Current}
use Rattle.recovery.specs.declared.sides.Head.{Head}
use Rattle.recovery.specs.Checking.{state_by}
use Rattle.recovery.specs.Opening.{AreGoodSoFar, HasReadAgain, IsCutShort}
use Rattle.recovery.specs.Opens.{Reached, opens_by, played_by}

-- a header that was found states this form
abbrev pub HasForm : Form → Option Head → Type 0
HasForm form found = IfSome found (λ head. head.form ≡ form)

-- P holds if the records of the side have the form of `current`, as the disk reads
abbrev pub InForm : Layout → Current → View → Type 0 → Type 0
InForm layout current disk P = ReadsForm layout current.side current.form disk → P

module _ (A : Type 0) (layout : Layout) (current : Current) where
  -- the state after the records of the side, and the first closed gate
  abbrev pub half_played : State → View → Result Reached StoreFault
  half_played s disk = played_by A layout current.side s disk.reads

  -- all records of the side are good, and those that were played from a state on are accepted, up to the one that memory ran out for
  abbrev pub AreCutShort : State → View → View → Type 0
  AreCutShort s old new =
      (records : HasRecords A current.form s.count old.reads (half_at layout current.side) (half_end layout current.side))
      × IsCutShort s records.0.0 (HasReadAgain old.calls new.calls (half_at layout current.side) (records.0.1 + 1))

  -- the disk had no call, or all records of the side are good and playing them was cut short (`AreCutShort`)
  abbrev pub IsUnreadOrGood : State → View → View → Type 0
  IsUnreadOrGood s old new = (new.calls ≡ old.calls) ⊎ AreCutShort s old new

  -- from old to new only rows of the side were read, and these are good; or all its rows and all its records are good
  abbrev pub IsGoodSide : View → View → Type 0
  IsGoodSide old new = AreGoodSoFar A layout current.side old.reads old.calls new.calls

  -- the state of the side, which has this epoch in its header
  abbrev pub state_from : Epoch → View → SideState
  state_from epoch disk = state_by epoch disk.reads (opens_by A layout current.side disk.reads)

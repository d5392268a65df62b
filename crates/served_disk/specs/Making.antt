-- Which disk a settings text asks for.
use Rattle.std.specs.Prelude.{◌≡◌, List, IsUtf8, Ok}
use Rattle.toml.specs.Errors.{IsBlank}
use Rattle.registration.specs.Limits.{AreLimits}
use Rattle.centre_core.specs.State.{State}
use Rattle.sector_disk.specs.Disk.{View}
use Rattle.sector_disk.specs.Numbers.{Byte}
use Rattle.file_disk.specs.declared.fault.OpenCause.TheVariants.{Exists}
use Rattle.checkpoint.specs.declared.layout.Layout.{Layout}
use Rattle.checkpoint.specs.declared.side.Side.TheVariants as side
use Rattle.checkpoint.specs.Half.{IsHalfSize}
use Rattle.checkpoint.specs.Layout.{half_at}
use Rattle.checkpoint.specs.OnSide.{InEach}
use Rattle.recovery.specs.Opens.{opening, opens}
use Rattle.settings.specs.declared.reading.Settings.{Settings}
use Rattle.settings.specs.Reading.{Holds}
use Rattle.served_disk.specs.declared.fault.Fault.{Fault}
use Rattle.served_disk.specs.declared.fault.Fault.TheVariants as fault

-- each number is in its range
abbrev pub AreInRange : Settings → Type 0
AreInRange settings = AreLimits settings.rules settings.radios settings.mail settings.stations × IsHalfSize settings.journal

-- the layout has these numbers
pub record IsFor (settings : Settings) (layout : Layout) : Type 0 where
  pub rules : layout.limits.rules ≡ settings.rules
  pub radios : layout.limits.radios ≡ settings.radios
  pub mail : layout.limits.mail ≡ settings.mail
  pub stations : layout.limits.stations ≡ settings.stations
  pub journal : layout.journal ≡ settings.journal

-- the text holds settings, and the layout is for them
abbrev pub AsksFor : List Byte → Layout → Type 0
AsksFor text layout = (settings : Settings) × Holds text settings × IsFor settings layout

-- Why the text asks for no disk: it holds no settings, a number of these is out of range, or memory ran out. Memory runs out only for a text in
-- UTF-8 that is not blank.
abbrev pub AsksForNone : List Byte → Fault → Type 0
AsksForNone text fault.Settings = (settings : Settings) → ¬ Holds text settings
AsksForNone text fault.BadGeometry = (settings : Settings) × Holds text settings × ¬ AreInRange settings
AsksForNone text fault.Memory = IsUtf8 text × ¬ IsBlank text
AsksForNone text other = ⊥

-- An honest disk that opens to this register, also after a stop at any moment. It opens on side A, with epoch 1, and the first closed
-- gate is the one at the start of that side's half.
pub record IsMadeFor (A : Type 0) (layout : Layout) (register : State) (disk : View) : Type 0 where
  pub honest : disk.honest
  pub opens_to : InEach disk (λ image. opens A image ≡ Ok (opening layout side.A 1 (half_at layout side.A) register))

-- why a disk in a file of this name was not made: the file was not made, the device failed, or memory ran out
abbrev pub IsOfMaking : List Byte → Fault → Type 0
IsOfMaking name (fault.File text cause) = text.now ≡ name
IsOfMaking name fault.Device = Unit {0}
IsOfMaking name fault.Memory = Unit {0}
IsOfMaking name other = ⊥

-- why the file of this name was not taken as a disk: it was not opened, or keeps nothing; the device failed, or memory ran out
abbrev pub IsOfTaking : List Byte → Fault → Type 0
IsOfTaking name (fault.File text cause) = text.now ≡ name
IsOfTaking name fault.Unformatted = Unit {0}
IsOfTaking name fault.Device = Unit {0}
IsOfTaking name fault.Memory = Unit {0}
IsOfTaking name other = ⊥

-- why the register on the disk in a file of this name was not opened; that the file exists is never the cause
abbrev pub IsOfOpening : List Byte → Fault → Type 0
IsOfOpening name (fault.File text cause) = (text.now ≡ name) × ¬ (cause ≡ Exists)
IsOfOpening name fault.Settings = ⊥
IsOfOpening name fault.Epochs = ⊥
IsOfOpening name (fault.Twice text) = ⊥
IsOfOpening name fault.TooMany = ⊥
IsOfOpening name (fault.NotServed station) = ⊥
IsOfOpening name fault.HalfLeftOut = ⊥
IsOfOpening name (fault.DumpLine line cause) = ⊥
IsOfOpening name (fault.DumpCut line) = ⊥
IsOfOpening name other = Unit {0}

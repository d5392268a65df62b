-- What holds of all records and of all halves.
use Rattle.std.specs.Prelude.{◌≡◌, ◌<◌, ◌++◌, ℕ, List, [], Ok, Some, false, replicate}
use Rattle.identity.specs.Numbers.{Byte}
use Rattle.identity.specs.Packed.{AreBytes}
use Rattle.centre_core.specs.Asked.{Asked}
use Rattle.centre_core.specs.State.{last_number}
use Rattle.sector_disk.specs.Disk.{IsImageOf, View, sector}
use Rattle.sector_disk.specs.Numbers.{Sector}
use Rattle.gated_journal.specs.Half.{RecordAt, IsClosed, counted, half_of}
use Rattle.gated_journal.specs.Record.{IsRecord, record_of, record_text}
use Rattle.gated_journal.specs.Settled.{IsSettled}
use Rattle.gated_journal.specs.declared.form.Form.{Form}
use Rattle.gated_journal.specs.declared.place.Place.{Place}

-- a record's text, whatever number of zeros comes after it, is read as the record's commands
abbrev pub TextsAreReadBack : Type 0 → Type 0
TextsAreReadBack A = (form : Form) (before : ℕ) (commands : List (Asked A)) (z : ℕ) → before < last_number → IsRecord commands
    → record_of form before (record_text form before commands ++ replicate z 0) ≡ Some commands

-- if bytes are read as a record's commands, a record may have these commands (`IsRecord`)
abbrev pub ReadAreInRange : Type 0 → Type 0
ReadAreInRange A = (form : Form) (before : ℕ) (commands : List (Asked A)) (bytes : List Byte) → AreBytes bytes → record_of form before bytes ≡ Some commands
    → IsRecord commands

-- bytes that are read as commands are their record's text, with zeros after it
abbrev pub ReadAreSpelt : Type 0 → Type 0
ReadAreSpelt A = (form : Form) (before : ℕ) (commands : List (Asked A)) (bytes : List Byte) → AreBytes bytes → record_of form before bytes ≡ Some commands
    → (z : ℕ) × (bytes ≡ record_text form before commands ++ replicate z 0)

-- a half whose first gate is closed in each image has no record
abbrev pub ClosedIsEmpty : Type 0 → View → Type 0
ClosedIsEmpty A disk = (first end : Sector) (before : ℕ) (form : Form) → first < end
    → ((image : List (List Byte)) → IsImageOf disk image → IsClosed (sector image first))
    → IsSettled {A = A} disk (record { first = first; end = end; next = first; form = form; count = before }) before []

-- the half of a place reads as these records, and its first closed gate is the place's next gate
abbrev pub ReadsUpTo : {A : Type 0} → View → Place → ℕ → List (RecordAt A) → Type 0
ReadsUpTo disk place before entries = half_of place.form before disk.reads place.first place.end ≡ Ok (entries, place.next)

-- Where nothing is pending, the half of a place holds in each image the records that it reads as up to the place's next gate.
-- The place counts their commands too.
abbrev pub ReadIsHeld : Type 0 → View → Type 0
ReadIsHeld A disk = (place : Place) (before : ℕ) (entries : List (RecordAt A)) → place.first < place.end → place.next < place.end
    → counted before entries ≡ place.count → ((k : ℕ) → disk.pending k ≡ false) → ReadsUpTo disk place before entries → IsSettled disk place before entries

-- what a half holds in each image of an honest disk is what it reads as
abbrev pub HeldIsRead : Type 0 → View → Type 0
HeldIsRead A disk = (place : Place) (before : ℕ) (entries : List (RecordAt A)) → disk.honest → IsSettled disk place before entries → ReadsUpTo disk place before entries

-- What a half of a disk holds in each image that a stop may leave, before, during and after an append.
use Rattle.std.specs.Prelude.{◌≡◌, ◌⊎◌, ℕ, ◌+◌, ◌*◌, ◌^◌, ◌-◌, ◌<◌, ◌≤◌, List, [], ◌∷◌, ◌++◌, length, Ok}
use Rattle.std.specs.Borrow.{Bor}
use Rattle.identity.specs.Numbers.{Byte}
use Rattle.centre_core.specs.Asked.{Asked}
use Rattle.sector_disk.specs.Numbers.{Sector, Sectors}
use Rattle.sector_disk.specs.Disk.{View, IsImageOf, sector}
use Rattle.sector_disk.specs.Run.{IsTornImage}
use Rattle.gated_journal.specs.Twice.{IsTornTwiceImage}
use Rattle.gated_journal.specs.Record.{data_size, given, most_commands, record_text}
use Rattle.gated_journal.specs.Half.{RecordAt, Found, Half, counted, half_of, record_at}
use Rattle.gated_journal.specs.declared.place.Place.{Place}

-- how many data sectors the next record may have
abbrev pub room_of : Place → Sectors
room_of place = place.end - place.next - 2

-- the text of the next record, of these commands
abbrev pub text_at : {B : Type 0} (A : Type 0) → Place → List (Bor (Asked B)) → List Byte
text_at A place commands = record_text place.form place.count (given A commands)

-- a record of these commands at the next gate, with its first data sector
abbrev pub new_entry : {B : Type 0} (A : Type 0) → Place → List (Bor (Asked B)) → RecordAt A
new_entry A place commands = (place.next + 1, given A commands)

-- the place after a record of these commands
abbrev pub following : {A : Type 0} → Place → List (Asked A) → Place
following place commands = record {
  first = place.first;
  end = place.end;
  next = place.next + data_size (record_text place.form place.count commands) + 1;
  form = place.form;
  count = place.count + length commands;
}

-- the place after a record of these commands, which were given by reference
abbrev pub following_given : {B : Type 0} (A : Type 0) → Place → List (Bor (Asked B)) → Place
following_given A place commands = record {
  first = place.first;
  end = place.end;
  next = place.next + data_size (text_at A place commands) + 1;
  form = place.form;
  count = place.count + length commands;
}

-- what a read finds at the next gate of a place: nothing, or a record and the gate after it, or the sector at fault
abbrev pub record_in : (A : Type 0) → Place → View → Found A
record_in A place disk = record_at {A = A} place.form place.count disk.reads place.next place.end

-- what a read finds from the next gate of a place on: the records and the first closed gate, or the sector at fault
abbrev pub half_in : (A : Type 0) → Place → View → Half A
half_in A place disk = half_of {A = A} place.form place.count disk.reads place.next place.end

-- all sectors outside the halves of x and y read in new as in old
abbrev pub IsSameOutsideBoth : Place → Place → View → View → Type 0
IsSameOutsideBoth x y old new = (k : ℕ) → (k < x.first) ⊎ (x.end ≤ k) → (k < y.first) ⊎ (y.end ≤ k) → sector new.reads k ≡ sector old.reads k

-- The place's count, plus 64 for each sector from the next gate up to the half's end, fits 8 bytes. So the number of each command
-- that may come after the next gate fits too.
abbrev pub HasNumbersLeft : Place → Type 0
HasNumbersLeft place = place.count + most_commands * (place.end - place.next) < 2 ^ 64

module _ {A : Type 0} where
  -- In this image the half of a place, after so many accepted commands, reads as these records.
  abbrev pub IsHalf : List (List Byte) → Place → ℕ → List (RecordAt A) → Type 0
  IsHalf image place before entries = (gate : Sector) × (half_of place.form before image place.first place.end ≡ Ok (entries, gate))

  -- in this image the half of a place reads as these records, with one more after them or without it
  abbrev pub IsWithOrWithout : Place → ℕ → List (RecordAt A) → RecordAt A → List (List Byte) → Type 0
  IsWithOrWithout place before entries last image = IsHalf image place before entries ⊎ IsHalf image place before (entries ++ last ∷ [])

  -- Outside the half the image is one of the old disk. The half reads as these records, with `last` after them or without it.
  pub record Leaves (old : View) (place : Place) (before : ℕ) (entries : List (RecordAt A)) (last : RecordAt A) (image : List (List Byte)) : Type 0 where
    pub elsewhere : IsTornImage old place.first (place.end - place.first) image
    pub half : IsWithOrWithout place before entries last image

  -- In every image the half, after `before` accepted commands, reads as these records. They end at the place's next gate. The
  -- place counts `before` commands and those of the records.
  pub record IsSettled (disk : View) (place : Place) (before : ℕ) (entries : List (RecordAt A)) : Type 0 where
    pub begins : place.first < place.end
    pub within : place.next < place.end
    pub counts : counted before entries ≡ place.count
    pub half : (image : List (List Byte)) → IsImageOf disk image → half_of place.form before image place.first place.end ≡ Ok (entries, place.next)

  -- in every image the half of a place reads as these records and one more after them, as `IsSettled` states
  abbrev pub HasOneMore : View → Place → ℕ → List (RecordAt A) → RecordAt A → Type 0
  HasOneMore disk place before entries last = IsSettled disk place before (entries ++ last ∷ [])

  -- In every image the half of x reads as `entries` after `before` accepted commands. The half of y reads as `others` after `start`.
  abbrev pub AreSettled : View → Place → Place → ℕ → ℕ → List (RecordAt A) → List (RecordAt A) → Type 0
  AreSettled disk x y before start entries others = IsSettled disk x before entries × IsSettled disk y start others

  -- in every image the halves of x and y read as with `AreSettled`, and each has one more record: `last` in x, `other` in y
  abbrev pub HaveOneMore : View → Place → Place → ℕ → ℕ → List (RecordAt A) → List (RecordAt A) → RecordAt A → RecordAt A → Type 0
  HaveOneMore disk x y before start entries others last other = AreSettled disk x y before start (entries ++ last ∷ []) (others ++ other ∷ [])

  -- Outside the halves of x and y the image is one of the old disk. Each half reads as its records, with its new record (`last` in
  -- x, `other` in y) after them or without it. One half may have its new record and the other not.
  pub record LeavesBoth (old : View) (x y : Place) (before start : ℕ) (entries others : List (RecordAt A)) (last other : RecordAt A)
      (image : List (List Byte)) : Type 0 where
    pub elsewhere : IsTornTwiceImage old x.first (x.end - x.first) y.first (y.end - y.first) image
    pub half : IsWithOrWithout x before entries last image
    pub other_half : IsWithOrWithout y start others other image

-- One record: the commands that it has, and its bytes.
use Rattle.std.specs.Prelude.{ℕ, zero, suc, ◌+◌, ◌*◌, ◌/◌, ◌==◌, ◌&&◌, ◌≤◌, Bool, true, List, [], ◌∷◌, ◌++◌, length, map, take, drop, slice_index, Option, Some}
use Rattle.std.specs.Prelude.{None, nat_le, if◌then◌else◌}
use Rattle.std.specs.List.{All, range_with_len, list_all, flat_map}
use Rattle.std.specs.Borrow.{Bor}
use Rattle.identity.specs.Numbers.{Byte}
use Rattle.centre_core.specs.Asked.{Asked}
use Rattle.centre_core.specs.Same.{under}
use Rattle.sector_disk.specs.Numbers.{Sectors, Bytes}
use Rattle.command_bytes.specs.Fields.{◌>>=◌, big, number_at}
use Rattle.command_bytes.specs.Text.{IsCommand, command_text, longest}
use Rattle.command_bytes.specs.Reading.{Read, first_command}
use Rattle.gated_journal.specs.declared.form.Form.{Form}
use Rattle.gated_journal.specs.declared.form.Form.TheVariants.{Numbered, Plain}

-- how many commands a record may have
abbrev pub most_commands : ℕ
most_commands = 64

-- the most data sectors that a record may have: as many as `most_commands` commands of the greatest length take
abbrev pub most_data_sectors : Sectors
most_data_sectors = 36

-- commands as bytes: how many, the number of the first one where the record states it, and their bytes in order
pub record Packed : Type 0 where
  pub count : ℕ
  pub first : Option ℕ
  pub bytes : List Byte

-- ---- writing

-- how many sectors so many bytes take
abbrev pub sectors_for : Bytes → Sectors
sectors_for bytes = (bytes + 511) / 512

-- how many sectors a text takes
abbrev pub data_size : List Byte → Sectors
data_size text = sectors_for (length text)

-- the sector k of a text that takes several sectors, with zeros after its end
unfoldable pub data_sector : List Byte → ℕ → List Byte
data_sector text k = map (λ i. slice_index text (512 * k + i)) (range_with_len 0 512)

-- the number of the first command, where the record states it
abbrev pub first_text : Option ℕ → List Byte
first_text None = []
first_text (Some number) = big 8 number

-- how many commands (2 bytes), the number of the first one where it is stated, how many bytes they take (4 bytes), and their bytes
unfoldable pub packed_text : Packed → List Byte
packed_text packed = big 2 packed.count ++ (first_text packed.first ++ (big 4 (length packed.bytes) ++ packed.bytes))

-- the number that a record of this form states, after so many accepted commands
abbrev pub first_of : Form → ℕ → Option ℕ
first_of Plain before = None
first_of Numbered before = Some (before + 1)

-- how many bytes are before the commands
abbrev pub head_len : Form → Bytes
head_len Plain = 6
head_len Numbered = 14

-- commands that were given by reference, as a journal under the allocator A holds them
abbrev pub given : {B : Type 0} (A : Type 0) → List (Bor (Asked B)) → List (Asked A)
given A commands = map (λ command. under A command.now) commands

module _ {A : Type 0} where
  -- these commands as the parts of a record of this form, after so many accepted commands
  abbrev pub pack : Form → ℕ → List (Asked A) → Packed
  pack form before commands = record { count = length commands; first = first_of form before; bytes = flat_map command_text commands }

  -- a record's text, after so many accepted commands
  abbrev pub record_text : Form → ℕ → List (Asked A) → List Byte
  record_text form before commands = packed_text (pack form before commands)

  -- commands that a record may have
  pub record IsRecord (commands : List (Asked A)) : Type 0 where
    pub some : 1 ≤ length commands
    pub few : length commands ≤ most_commands
    pub each : All IsCommand commands

-- ---- reading

-- the byte is 0
abbrev pub is_zero : Byte → Bool
is_zero b = b == 0

-- a record may have so many commands, of so many bytes in all
abbrev pub is_in_range : ℕ → Bytes → Bool
is_in_range count size = nat_le 1 count && nat_le count most_commands && nat_le size (longest * count)

-- the number of the first command, where the form has one, and the bytes after it
unfoldable pub first_at : Form → List Byte → Read (Option ℕ)
first_at Plain bytes = Some (None, bytes)
first_at Numbered bytes = number_at 8 bytes >>= λ number. Some (Some number.0, number.1)

-- The parts of a record, from the bytes of all its data sectors. `None` where the count or the length is out of range, or where
-- the bytes end too soon. Also `None` where a byte after the commands is not zero.
unfoldable pub packed_of : Form → List Byte → Option Packed
packed_of form bytes = do
  count ← number_at 2 bytes
  first ← first_at form count.1
  size ← number_at 4 first.1
  if is_in_range count.0 size.0 && nat_le size.0 (length size.1) && list_all is_zero (drop size.0 size.1)
      then Some (record { count = count.0; first = first.0; bytes = take size.0 size.1 }) else None

-- A record that states a number may follow `before` accepted commands only if its number is `before + 1`. A record that states no
-- number may follow any.
abbrev pub follows : ℕ → Option ℕ → Bool
follows before None = true
follows before (Some number) = number == before + 1

module _ {A : Type 0} where
  -- so many commands in order, and no byte after them
  unfoldable pub commands_in : ℕ → List Byte → Option (List (Asked A))
  commands_in zero [] = Some []
  commands_in zero (b ∷ bytes) = None
  commands_in (suc count) bytes = do
    first ← first_command bytes
    others ← commands_in count first.1
    Some (first.0 ∷ others)

  -- a record by its data sectors: the number of its first command, where it states one, and its commands
  abbrev pub stated_of : Form → List Byte → Option (Option ℕ × List (Asked A))
  stated_of form bytes = do
    packed ← packed_of form bytes
    commands ← commands_in packed.count packed.bytes
    Some (packed.first, commands)

  -- the commands of the record that these data sectors are, if it may follow so many accepted commands
  abbrev pub record_of : Form → ℕ → List Byte → Option (List (Asked A))
  record_of form before bytes = do
    stated ← stated_of form bytes
    if follows before stated.0 then Some stated.1 else None

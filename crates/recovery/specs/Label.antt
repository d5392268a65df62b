-- What the label of a disk states: the layout, or why there is none.
use Rattle.std.specs.Prelude.{◌==◌, Bool, List, length, take, drop, Option, Some, None, Result, Ok, Err, nat_le, if◌then◌else◌}
use Rattle.std.specs.Str.{bytes_eq}
use Rattle.identity.specs.Numbers.{Byte}
use Rattle.sector_disk.specs.Numbers.{Sectors}
use Rattle.sector_disk.specs.Disk.{sector}
use Rattle.command_bytes.specs.Fields.{◌>>=◌, number_at}
use Rattle.checkpoint.specs.declared.layout.Layout.{Layout}
use Rattle.checkpoint.specs.Label.{layout_number, name}
use Rattle.checkpoint.specs.Layout.{disk_size, label_at}
use Rattle.recovery.specs.declared.fault.StoreFault.{StoreFault}
use Rattle.recovery.specs.declared.fault.StoreFault.TheVariants.{BadGeometry, Unformatted}
use Rattle.recovery.specs.declared.label.LabelNumbers.{LabelNumbers}
use Rattle.recovery.specs.Ranges.{layout_of, limits_of}

-- the numbers of a label, from the bytes after its name; what follows the numbers is ignored
unfoldable pub numbers_at : List Byte → Option LabelNumbers
numbers_at bytes = do
  number ← number_at 2 bytes
  rules ← number_at 4 number.1
  radios ← number_at 4 rules.1
  mail ← number_at 4 radios.1
  stations ← number_at 4 mail.1
  journal ← number_at 4 stations.1
  Some (record { number = number.0; rules = rules.0; radios = radios.0; mail = mail.0; stations = stations.0; journal = journal.0 })

-- the layout of these numbers, if each is in its range
abbrev pub layout_of_numbers : LabelNumbers → Option Layout
layout_of_numbers label =
    if label.number == layout_number
    then (limits_of label.rules label.radios label.mail label.stations >>= λ limits. layout_of limits label.journal)
    else None

-- bytes that begin with TETRALOC
abbrev pub is_named : List Byte → Bool
is_named bytes = bytes_eq (take 8 bytes) name

-- the layout, if there is one, and so many sectors are enough for it
abbrev pub fitting : Sectors → Option Layout → Result Layout StoreFault
fitting sectors None = Err BadGeometry
fitting sectors (Some layout) = if nat_le (disk_size layout) sectors then Ok layout else Err BadGeometry

-- the layout that the bytes after the name state
abbrev pub layout_after : List Byte → Option Layout
layout_after bytes = numbers_at bytes >>= layout_of_numbers

-- the layout that a label states, on a disk of so many sectors
abbrev pub layout_at : Sectors → List Byte → Result Layout StoreFault
layout_at sectors bytes = if is_named bytes then fitting sectors (layout_after (drop 8 bytes)) else Err Unformatted

-- the layout that a disk states
unfoldable pub layout_in : List (List Byte) → Result Layout StoreFault
layout_in image = layout_at (length image) (sector image label_at)

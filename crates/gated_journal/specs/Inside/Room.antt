-- The size of a buffer of a record's text.
use Rattle.std.specs.Prelude.{ℕ, ◌+◌, ◌*◌, length}
use Rattle.bytes.specs.Filled.{Filled}
use Rattle.sector_disk.specs.Numbers.{Bytes}
use Rattle.gated_journal.specs.Record.{most_data_sectors}

-- how many bytes a buffer holds when it is full
abbrev pub capacity : Filled → ℕ
capacity text = length text.items + text.spare

-- how many bytes the greatest record's sectors and the gate after them take
abbrev pub text_room : Bytes
text_room = 512 * (most_data_sectors + 1)

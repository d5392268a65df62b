-- The groups of a radio's row that are still in the bytes, as a list.
use Rattle.std.specs.Prelude.{ℕ, List, [], Some, None}
use Rattle.identity.specs.Numbers.{Byte}
use Rattle.command_bytes.specs.Reading.{Read}
use Rattle.image_rows.specs.Rows.{Group}
use Rattle.image_rows.specs.RowReading.{groups_at}

-- the groups that were read, or none
abbrev pub listed : Read (List Group) → List Group
listed None = []
listed (Some x) = x.0

-- the first n groups in the bytes
unfoldable pub groups_from : ℕ → List Byte → List Group
groups_from n bytes = listed (groups_at n bytes)

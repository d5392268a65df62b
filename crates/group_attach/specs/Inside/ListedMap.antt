-- A list of attachments in order as a map.
use Rattle.std.specs.Prelude.{List, map}
use Rattle.std.specs.FinMap as finite
use Rattle.group_attach.specs.declared.attachment.Attachment.{Attachment}
use Rattle.group_attach.specs.Attached.{Attached, Pair, entry_of}

-- each attachment as an entry
abbrev pub map_of : List Attachment → Attached
map_of es = finite.from_sorted (map entry_of es)

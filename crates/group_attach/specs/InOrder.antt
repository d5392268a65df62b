-- Attachments in order.
use Rattle.std.specs.Prelude.{List, IsTrue, map}
use Rattle.std.specs.FinMap as finite
use Rattle.group_attach.specs.declared.attachment.Attachment.{Attachment}
use Rattle.group_attach.specs.Attached.{pair_cmp, entry_of}

-- the pairs rise, so none occurs twice
abbrev pub IsInOrder : List Attachment → Type 0
IsInOrder es = IsTrue (finite.is_sorted pair_cmp (map entry_of es))

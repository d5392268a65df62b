-- A text with zeros after it.
use Rattle.std.specs.Prelude.{◌≡◌, ℕ, List}
use Rattle.identity.specs.Numbers.{Byte}
use Rattle.gated_journal.specs.Record.{data_sector}

-- `padded` is the text, with zeros after it: it has the same sectors.
abbrev pub IsPadded : List Byte → List Byte → Type 0
IsPadded text padded = (k : ℕ) → data_sector padded k ≡ data_sector text k

-- The calls of the disk that an append makes.
use Rattle.std.specs.Prelude.{◌+◌, List, [], ◌∷◌, ◌++◌, replicate}
use Rattle.identity.specs.Numbers.{Byte}
use Rattle.sector_disk.specs.Numbers.{Sector, Sectors}
use Rattle.sector_disk.specs.Run.{writes}
use Rattle.sector_disk.specs.declared.record.Call.{Call}
use Rattle.sector_disk.specs.declared.record.Call.TheVariants.{Sync, Write}
use Rattle.gated_journal.specs.Record.{data_sector, data_size}

-- the sector of a closed gate
abbrev pub closed_gate : List Byte
closed_gate = replicate 512 0

-- the sector of an open gate
abbrev pub open_gate : List Byte
open_gate = 1 ∷ replicate 511 0

-- The first n sectors of a text are written from the sector `at` on, and synced.
abbrev pub settled_calls : Sector → Sectors → List Byte → List Call
settled_calls at n text = writes at n (data_sector text) ++ Sync ∷ []

-- The append of a record's text. Each data sector is written, the next gate is closed, and all that is synced. Then the
-- record's gate is opened, and synced. Nothing is read.
abbrev pub append_calls : Sector → List Byte → List Call
append_calls gate text =
    writes (gate + 1) (data_size text) (data_sector text) ++ Write (gate + 1 + data_size text) closed_gate ∷ Sync ∷ Write gate open_gate ∷ Sync ∷ []

-- each data sector of a text is written after the record's gate, and the next gate is closed
abbrev pub text_calls : Sector → List Byte → List Call
text_calls gate text = writes (gate + 1) (data_size text) (data_sector text) ++ Write (gate + 1 + data_size text) closed_gate ∷ []

-- The append of two records: `text` after the gate `gate`, and `other` after the gate `also`. Both texts are written, the gates
-- after them are closed, and all that is synced. Then the gates of both records are opened, and synced. Nothing is read.
abbrev pub append_both_calls : Sector → List Byte → Sector → List Byte → List Call
append_both_calls gate text also other = text_calls gate text ++ (text_calls also other ++ Sync ∷ Write gate open_gate ∷ Write also open_gate ∷ Sync ∷ [])

-- The first n sectors of one text are written from `at` on, the first m of another from `to` on, and all are synced.
abbrev pub settled_both_calls : Sector → Sectors → List Byte → Sector → Sectors → List Byte → List Call
settled_both_calls at n text to m other = writes at n (data_sector text) ++ (writes to m (data_sector other) ++ Sync ∷ [])

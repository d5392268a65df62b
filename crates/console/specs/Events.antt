-- What passes in a run, in the order of time.
use Rattle.std.specs.Prelude.{◌≡◌, ℕ, ◌+◌, List, [], ◌∷◌, ◌++◌}
use Rattle.std.specs.List.{flat_map}
use Rattle.identity.specs.Numbers.{Byte}

-- Read: a call of the reader gave these bytes. It gave none at the end of the text, or if it was interrupted. ReadFailed: a call of the
-- reader failed. Answered: an answer was given, with this text. Wrote: a call of the writer took these bytes. It took none if it was
-- interrupted. WriteFailed: a write or a flush failed
pub data Event : Type 0 where
  Read : List Byte → Event
  ReadFailed : Event
  Answered : List Byte → Event
  Wrote : List Byte → Event
  WriteFailed : Event

-- the bytes that the reader gives at one event
abbrev pub bytes_read : Event → List Byte
bytes_read (Read bytes) = bytes
bytes_read ReadFailed = []
bytes_read (Answered text) = []
bytes_read (Wrote bytes) = []
bytes_read WriteFailed = []

-- the text of the answer that is given at one event
abbrev pub text_answered : Event → List Byte
text_answered (Read bytes) = []
text_answered ReadFailed = []
text_answered (Answered text) = text
text_answered (Wrote bytes) = []
text_answered WriteFailed = []

-- the bytes that the writer takes at one event
abbrev pub bytes_written : Event → List Byte
bytes_written (Read bytes) = []
bytes_written ReadFailed = []
bytes_written (Answered text) = []
bytes_written (Wrote bytes) = bytes
bytes_written WriteFailed = []

-- all bytes that the reader gives at these events
abbrev pub read_by : List Event → List Byte
read_by events = flat_map bytes_read events

-- the texts of all answers that are given at these events, one after another
abbrev pub answered_by : List Event → List Byte
answered_by events = flat_map text_answered events

-- all bytes that the writer takes at these events
abbrev pub written_by : List Event → List Byte
written_by events = flat_map bytes_written events

-- how many failures of the reader are among these events
abbrev pub read_failures : List Event → ℕ
read_failures [] = 0
read_failures (Read bytes ∷ events) = read_failures events
read_failures (ReadFailed ∷ events) = read_failures events + 1
read_failures (Answered text ∷ events) = read_failures events
read_failures (Wrote bytes ∷ events) = read_failures events
read_failures (WriteFailed ∷ events) = read_failures events

-- how many failures of the writer are among these events
abbrev pub write_failures : List Event → ℕ
write_failures [] = 0
write_failures (Read bytes ∷ events) = write_failures events
write_failures (ReadFailed ∷ events) = write_failures events
write_failures (Answered text ∷ events) = write_failures events
write_failures (Wrote bytes ∷ events) = write_failures events
write_failures (WriteFailed ∷ events) = write_failures events + 1

-- at each moment, what was written is a prefix of the answers that were given before
abbrev pub OnlyAnswers : List Event → Type 0
OnlyAnswers events = (before after : List Event) → events ≡ before ++ after → (waiting : List Byte) × (answered_by before ≡ written_by before ++ waiting)

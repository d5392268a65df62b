-- What passes by the writer of a run.
use Rattle.std.specs.Prelude.{◌≡◌, ℕ, ◌+◌, List, [], ◌∷◌, ◌++◌, Option, Some}
use Rattle.identity.specs.Numbers.{Byte}
use Rattle.console.specs.declared.output.Output.{Output}
use Rattle.console.specs.Events.{Event, Read, ReadFailed, Answered, Wrote, WriteFailed, answered_by, write_failures, written_by}

-- the bytes of a writer, if they are known, what passed, and how many failures of the writer the ledger has
pub record Sent : Type 0 where
  pub bytes : Option (List Byte)
  pub events : List Event
  pub failures : ℕ

-- the bytes, events and failures of an output; `contents` gives the bytes of its writer
abbrev pub sent_by : {W G : Type 0} → (W → Option (List Byte)) → Output W G → Sent
sent_by contents output = record { bytes = contents output.writer.now; events = output.events.list; failures = output.failures.now }

-- These events come next. If the bytes of the writer are known, what is written at these events follows those bytes. The ledger counts the
-- failures of the writer among these events.
abbrev pub Follows : Sent → List Event → Sent → Type 0
Follows old events new = (new.events ≡ old.events ++ events) × ((held : List Byte) → old.bytes ≡ Some held → new.bytes ≡ Some (held ++ written_by events))
    × (new.failures ≡ old.failures + write_failures events)

-- Only text that waits is written, in order. `waiting` waits before these events, and `left` after them. An answer waits once it is given.
abbrev pub Leaves : List Byte → List Event → List Byte → Type 0
Leaves waiting [] left = left ≡ waiting
Leaves waiting (Read bytes ∷ events) left = Leaves waiting events left
Leaves waiting (ReadFailed ∷ events) left = Leaves waiting events left
Leaves waiting (Answered text ∷ events) left = Leaves (waiting ++ text) events left
Leaves waiting (Wrote bytes ∷ events) left = (rest : List Byte) × (waiting ≡ bytes ++ rest) × Leaves rest events left
Leaves waiting (WriteFailed ∷ events) left = Leaves waiting events left

-- events from one moment to another: the text that waits at the first, the answers that are given, and the text that is left
pub record Passes (old new : Sent) (waiting answered left : List Byte) : Type 0 where
  pub events : List Event
  pub follows : Follows old events new
  pub answers : answered_by events ≡ answered
  pub only : Leaves waiting events left

-- The answers that were given have the text `made`, a prefix of `answered`. Of that text, `left` is not written.
abbrev pub PassesPart : Sent → Sent → List Byte → Type 0
PassesPart old new answered = (made : List Byte) × (missing : List Byte) × (left : List Byte) × (answered ≡ made ++ missing) × Passes old new [] made left

-- What a run writes, and when, over any reader and any writer. A is the allocator of the bits of commands and replies; nothing
-- depends on it.
use Rattle.std.specs.Prelude.{◌≡◌, ◌⊎◌, ◌≤◌, ◌++◌, ◌∷◌, ℕ, List, [], length, Option, Some, Result, IfOk, IsErrOf, OnErr}
use Rattle.std.specs.Str.Lines.{lines}
use Rattle.identity.specs.Numbers.{Byte}
use Rattle.desk.specs.Rules.{Rules}
use Rattle.console.specs.declared.input.Input.{Input}
use Rattle.console.specs.declared.output.Output.{Output}
use Rattle.console.specs.declared.running.Ran.{Ran}
use Rattle.console.specs.declared.passed.Passed.{Passed}
use Rattle.console.specs.declared.running.RunFault.{RunFault}
use Rattle.console.specs.declared.running.RunFault.TheVariants as fault
use Rattle.console.specs.declared.answer.Answer.{Answer}
use Rattle.console.specs.Answer.{texts}
use Rattle.console.specs.Reading.{Lacks, Speaker}
use Rattle.console.specs.Dialogue.{Dialogue, IsDialogue, IsCutOff}
use Rattle.console.specs.Events.{Event, Read, ReadFailed, read_by, answered_by, written_by, read_failures, write_failures, OnlyAnswers}
use Rattle.console.specs.Failures.{failures_reported}

-- the calls of the reader of an input
abbrev pub calls_of : {R L F : Type 0} → Input R L F → List Event
calls_of input = input.events.list

-- all bytes that the reader of an input has given
abbrev pub all_read : {R L F : Type 0} → Input R L F → List Byte
all_read input = read_by (calls_of input)

-- what has passed by an output: the answers that were given, and the calls of its writer
abbrev pub events_of : {W G : Type 0} → Output W G → List Event
events_of output = output.events.list

-- if what a reader had left is known, it gave the first of these bytes
abbrev pub GaveFirst : Option (List Byte) → List Byte → Type 0
GaveFirst unread given = (all : List Byte) → unread ≡ Some all → (left : List Byte) × (all ≡ given ++ left)

-- If what a writer held before these events is known, it holds that after them, followed by what was written at them.
abbrev pub HasTaken : Option (List Byte) → List Event → Option (List Byte) → Type 0
HasTaken before events after = (held : List Byte) → before ≡ Some held → after ≡ Some (held ++ written_by events)

-- The streams of a run at one moment: all bytes that its reader has given, and those that the reader has left; what has passed by its
-- output, and what the writer holds.
pub record Streams : Type 0 where
  pub read : List Byte
  pub unread : Option (List Byte)
  pub passed : List Event
  pub held : Option (List Byte)

-- the streams of this input and this output; `unread` is what a reader has left, and `held` what a writer holds
abbrev pub streams_of : {R L F V G : Type 0} → (R → Option (List Byte)) → (V → Option (List Byte)) → Input R L F → Output V G → Streams
streams_of unread held input output =
    record { read = all_read input; unread = unread input.reader.now; passed = events_of output; held = held output.writer.now }

module _ (A : Type 0) {W : Type 0} (rules : Rules A W) (speaker : Speaker) (s t : W) (input : List Byte) (events : List Event) where
  -- every line of this input was answered, and every answer was written
  abbrev pub TellsAll : Ran → Type 0
  TellsAll ran = IsDialogue A rules speaker s (lines input) (written_by events) ran.troubled t × (ran.lines ≡ length (lines input)) × (answered_by events ≡ written_by events)

  -- Some lines of this input are done. What was given is a prefix of the texts of their answers. What was written may be cut off.
  abbrev pub TellsSome : Type 0
  TellsSome = (cut : IsCutOff A rules speaker s (lines input) (written_by events) t) × (missing : List Byte) × (texts (cut.answered ++ cut.last) ≡ answered_by events ++ missing)

  -- Every whole line of this input (`done`) is answered, and every answer was written. Nothing is done of `line`, which comes after the
  -- last line feed.
  pub record TellsWhole : Type 0 where
    pub done : List (List Byte)
    pub line : List Byte
    pub answers : List (Answer A)
    pub no_end : Lacks 10 line
    pub split : (rest : List Byte) → lines (input ++ rest) ≡ done ++ lines (line ++ rest)
    pub each : Dialogue rules speaker 0 s done answers t
    pub written : written_by events ≡ texts answers
    pub given : answered_by events ≡ written_by events

  -- a run with this result read this input, and took the desk from s to t. Nothing was written before it was given as an answer
  abbrev pub IsTold : Result Ran RunFault → Type 0
  IsTold result = OnlyAnswers events × IfOk result TellsAll × OnErr result TellsSome

-- a run with this result took its streams from `old` to `new`, and the desk from s to t
abbrev pub Tells : (A : Type 0) {W : Type 0} → Rules A W → Speaker → W → W → Streams → Streams → Result Ran RunFault → Type 0
Tells A rules speaker s t old new result = (given : List Byte) × (events : List Event)
    × (new.read ≡ old.read ++ given) × GaveFirst old.unread given
    × (new.passed ≡ old.passed ++ events) × HasTaken old.held events new.held
    × IsTold A rules speaker s t given events result

-- The streams went from `old` to `new`, and the desk from s to t. Every whole line that was read is answered, and every answer was written.
abbrev pub TellsWholeSince : (A : Type 0) {W : Type 0} → Rules A W → Speaker → W → W → Streams → Streams → Type 0
TellsWholeSince A rules speaker s t old new = (given : List Byte) × (events : List Event)
    × (new.read ≡ old.read ++ given) × (new.passed ≡ old.passed ++ events) × TellsWhole A rules speaker s t given events

-- why a run with this result ended. Given are the most calls of its reader, the calls that were made, and what passed by its writer
pub record EndsFor (turns : ℕ) (calls events : List Event) (result : Result Ran RunFault) : Type 0 where
  pub few : length calls ≤ turns
  -- at Ok the text came to its end: the last call of the reader gave no bytes
  pub whole : IfOk result (λ ran. (before : List Event) × (calls ≡ before ++ Read [] ∷ []))
  -- at Read the last call of the reader failed, and no other; or the reader was called `turns` times, and never failed
  pub read : IsErrOf result fault.Read → ((before : List Event) × (calls ≡ before ++ ReadFailed ∷ []) × (read_failures before ≡ 0))
      ⊎ ((length calls ≡ turns) × (read_failures calls ≡ 0))
  -- at any other result the reader never failed
  pub sound : (IsErrOf result fault.Read → ⊥) → read_failures calls ≡ 0
  -- the writer failed once at Write, and at any other result never
  pub write : write_failures events ≡ failures_reported result
  -- at NoMemory nothing was read, answered or written
  pub memory : IsErrOf result fault.NoMemory → (calls ≡ []) × (events ≡ [])

-- Why a run with this result ended (`EndsFor`). Given are the calls of its reader before and after it, and what had passed by its output
-- before and after it.
abbrev pub EndsSince : ℕ → List Event → List Event → List Event → List Event → Result Ran RunFault → Type 0
EndsSince turns called called_now passed passed_now result = (calls : List Event) × (events : List Event)
    × (called_now ≡ called ++ calls) × (passed_now ≡ passed ++ events) × EndsFor turns calls events result

-- what passed in a run, once it has ended: the calls of its reader
abbrev pub reader_events : {R W : Type 0} → Passed R W → List Event
reader_events passed = passed.by_reader.list

-- what passed in a run, once it has ended: the answers that were given, and the calls of its writer
abbrev pub writer_events : {R W : Type 0} → Passed R W → List Event
writer_events passed = passed.by_writer.list

-- What a run with this result read and wrote, over any reader and any writer. Given are what the reader had left (`unread`) and the writer
-- held (`written`) before the run, the desk before and after it (s and t), what the writer holds after it, and the events of both. If `unread` is
-- known, the bytes that were read are the first of it. If `written` is known, the bytes that were written follow it. Where the reader failed, or
-- was called as often as it may be, every whole line is answered.
abbrev pub TellsBy : (A : Type 0) {W : Type 0} → Rules A W → Speaker → Option (List Byte) → Option (List Byte) → W → W → Option (List Byte) → Result Ran RunFault → List Event → List Event → Type 0
TellsBy A rules speaker unread written s t after result calls events =
    GaveFirst unread (read_by calls) × HasTaken written events after × IsTold A rules speaker s t (read_by calls) events result
    × (IsErrOf result fault.Read → TellsWhole A rules speaker s t (read_by calls) events)

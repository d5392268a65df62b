-- How far a run has come.
use Rattle.std.specs.Prelude.{◌≡◌, ℕ, ◌+◌, ◌≤◌, ◌||◌, List, [], ◌++◌, length, Option, Some, Result, Err, IfErr, take}
use Rattle.std.specs.List.{list_any}
use Rattle.std.specs.Str.Lines.{lines}
use Rattle.identity.specs.Numbers.{Byte}
use Rattle.console.specs.declared.progress.LineProgress.{LineProgress}
use Rattle.console.specs.declared.serving.LineRun.{LineRun}
use Rattle.console.specs.declared.running.Ran.{Ran}
use Rattle.console.specs.declared.running.Piece.{Piece}
use Rattle.console.specs.declared.running.RunFault.{RunFault}
use Rattle.console.specs.declared.running.RunFault.TheVariants.{Write}
use Rattle.console.specs.declared.running.Piece.TheVariants.{End, Bytes}
use Rattle.console.specs.declared.answer.Answer.{Answer}
use Rattle.console.specs.Answer.{text, texts, is_trouble}
use Rattle.desk.specs.Rules.{Rules}
use Rattle.console.specs.Dialogue.{Dialogue}
use Rattle.console.specs.Reading.{Speaker}
use Rattle.console.specs.Runs.{Start, Outcome, speaker_of}
use Rattle.console.specs.Events.{Event, read_failures}
use Rattle.console.specs.Told.{IsTold}
use Rattle.console.specs.Failures.{failures_reported}
use Rattle.console.specs.Inside.Passing.{Follows, Passes, Sent, sent_by}
use Rattle.console.specs.Inside.Current.{HasNoEnd, Holds, IsGivenFor}

-- where a run is: the speaker of its lines, how far it has come, the world of its desk, and what was written
pub record Reached (A W : Type 0) : Type 0 where
  pub speaker : Speaker
  pub progress : LineProgress A
  pub world : W
  pub written : Sent

-- where this run is, by the world of its desk and the bytes of its writer
abbrev pub reached_by : {A W G D World : Type 0} → (D → World) → (W → Option (List Byte)) → LineRun A W G D → Reached A World
reached_by world contents run = record {
  speaker = speaker_of run.terms.now;
  progress = run.progress.now;
  world = world run.desk.now;
  written = sent_by contents run.output.now;
}

-- the run is the same one: it has the same terms, and borrows the same things
pub record IsSameRun {A W G D : Type 0} (old new : LineRun A W G D) : Type 0 where
  pub terms : new.terms ≡ old.terms
  pub progress : new.progress.ghost_name ≡ old.progress.ghost_name
  pub output : new.output.ghost_name ≡ old.output.ghost_name
  pub desk : new.desk.ghost_name ≡ old.desk.ghost_name
  pub writer : new.output.now.writer.ghost_name ≡ old.output.now.writer.ghost_name
  pub failures : new.output.now.failures.ghost_name ≡ old.output.now.failures.ghost_name

-- A call that answers lines. The run stays the same one. The ledger counts the failure that the result reports, and the call fails only
-- where the writer failed.
pub record RunsOn {A W G D T : Type 0} (old new : LineRun A W G D) (result : Result T RunFault) : Type 0 where
  pub same : IsSameRun old new
  pub ledger : new.output.now.failures.now ≡ old.output.now.failures.now + failures_reported result
  pub stops : IfErr result (λ e. e ≡ Write)

module _ {A W : Type 0} where
  -- the start of a run from here, whose reader has these bytes left
  abbrev pub start_at : Reached A W → Option (List Byte) → Start W
  start_at reached unread = record { speaker = reached.speaker; world = reached.world; unread = unread; written = reached.written.bytes }

  -- the end of a run here, with this result
  abbrev pub outcome_at : Reached A W → Result Ran RunFault → Outcome W
  outcome_at reached result = record { result = result; world = reached.world; written = reached.written.bytes }

-- A run that began at `start`, with its writer at `begun`, has taken these bytes: some whole lines, which are answered, and a prefix of one more.
pub record IsGoing {A W : Type 0} (rules : Rules A W) (start : Start W) (begun : Sent) (taken : List Byte) (now : Reached A W) : Type 0 where
  pub done : List (List Byte)
  pub answers : List (Answer A)
  pub line : List Byte
  pub speaker : now.speaker ≡ start.speaker
  pub split : (rest : List Byte) → lines (taken ++ rest) ≡ done ++ lines (line ++ rest)
  pub no_end : HasNoEnd line
  pub each : Dialogue rules start.speaker 0 start.world done answers now.world
  pub passed : Passes begun now.written [] (texts answers) []
  pub trouble : now.progress.troubled ≡ list_any is_trouble answers
  pub counted : now.progress.lines ≡ length done
  pub holds : Holds now.progress.current.bytes.items now.progress.current.long line

-- A run that began at `start`, with its writer at `begun`, has ended with this result. Its writer is at `now`, and its desk at `t`. `IsTold`
-- holds of this input and of what has passed by the writer since the run began.
abbrev pub HasEnded : {A W : Type 0} → Rules A W → Start W → Sent → List Byte → Sent → W → Result Ran RunFault → Type 0
HasEnded {A = A} rules start begun input now t result =
    (events : List Event) × Follows begun events now × IsTold A rules start.speaker start.world t input events result

-- what a run does from where it was
module _ {A W : Type 0} (rules : Rules A W) (old : Reached A W) where
  -- the run has taken these bytes more
  abbrev pub GoesOn : List Byte → Reached A W → Type 0
  GoesOn bytes new = (start : Start W) (begun : Sent) (taken : List Byte) → IsGoing rules start begun taken old → IsGoing rules start begun (taken ++ bytes) new

  -- the run has ended with this fault within these bytes, whatever bytes (`rest`) follow them
  abbrev pub StopsWithin : List Byte → RunFault → Reached A W → Type 0
  StopsWithin bytes fault new = (start : Start W) (begun : Sent) (taken rest : List Byte) → IsGoing rules start begun taken old →
      HasEnded rules start begun (taken ++ bytes ++ rest) new.written new.world (Err fault)

  -- the run has taken these bytes more, before which nothing of the current line had come
  abbrev pub GoesOnAtLine : List Byte → Reached A W → Type 0
  GoesOnAtLine bytes new =
      (start : Start W) (begun : Sent) (taken : List Byte) (going : IsGoing rules start begun taken old) → going.line ≡ [] → IsGoing rules start begun (taken ++ bytes) new

  -- the run has ended with this fault within these bytes, before which nothing of the current line had come
  abbrev pub StopsAtLine : List Byte → RunFault → Reached A W → Type 0
  StopsAtLine bytes fault new =
      (start : Start W) (begun : Sent) (taken rest : List Byte) (going : IsGoing rules start begun taken old) → going.line ≡ [] →
      HasEnded rules start begun (taken ++ bytes ++ rest) new.written new.world (Err fault)

  -- the run had taken a piece of the text up to the place `at`, and has now taken the piece up to the place `next`
  abbrev pub GoesOnIn : List Byte → ℕ → ℕ → Reached A W → Type 0
  GoesOnIn piece at next new =
      (start : Start W) (begun : Sent) (taken : List Byte) → IsGoing rules start begun (taken ++ take at piece) old → IsGoing rules start begun (taken ++ take next piece) new

  -- the run had taken a piece of the text up to the place `at`, and has ended with this fault within the rest of the piece
  abbrev pub StopsIn : List Byte → ℕ → RunFault → Reached A W → Type 0
  StopsIn piece at fault new =
      (start : Start W) (begun : Sent) (taken rest : List Byte) → IsGoing rules start begun (taken ++ take at piece) old →
      HasEnded rules start begun (taken ++ piece ++ rest) new.written new.world (Err fault)

  -- the text ends, and so does the run
  abbrev pub EndsSo : Reached A W → Result Ran RunFault → Type 0
  EndsSo new result = (start : Start W) (begun : Sent) (taken : List Byte) → IsGoing rules start begun taken old → HasEnded rules start begun taken new.written new.world result

module _ {A : Type 0} where
  -- the line is counted, with the trouble in its answer, and the next line begins
  abbrev pub CountsAnswer : LineProgress A → Answer A → LineProgress A → Type 0
  CountsAnswer old given new =
      (new.lines ≡ old.lines + 1) × (new.troubled ≡ (old.troubled || is_trouble given)) × Holds new.current.bytes.items new.current.long []

  -- the answer, or `memory` in place of a list, is given, written and counted
  abbrev pub Sends : LineProgress A → Sent → Answer A → LineProgress A → Sent → Type 0
  Sends old held answer new now = (given : Answer A) × IsGivenFor (old.lines + 1) answer given × Passes held now [] (text given) [] × CountsAnswer old given new

  -- The answer, or `memory` in place of a list, is given, and `left` is not written: the rest of its text. `count` lines came before.
  abbrev pub SendsPart : ℕ → Sent → Answer A → Sent → Type 0
  SendsPart count held answer now = (given : Answer A) × (left : List Byte) × IsGivenFor (count + 1) answer given × Passes held now [] (text given) left

-- the result of a call of the reader fits a buffer of this size
abbrev pub FitsPiece : Piece → ℕ → Type 0
FitsPiece End room = Unit {0}
FitsPiece (Bytes n) room = n ≤ room

-- a call of a reader that had `input` left: at the end, `input` was empty; else the first n bytes of the buffer were read, and the rest is `left`
abbrev pub IsPiece : Piece → List Byte → List Byte → Option (List Byte) → Type 0
IsPiece End buffer input left = (input ≡ []) × (left ≡ Some [])
IsPiece (Bytes n) buffer input left = (rest : List Byte) × (left ≡ Some rest) × (input ≡ take n buffer ++ rest)

-- the bytes that were read
abbrev pub read_in : Piece → List Byte → List Byte
read_in End buffer = []
read_in (Bytes n) buffer = take n buffer

-- so many calls of the reader were made from one moment to another, and none failed
pub record HasCalled (old new : List Event) (count : ℕ) : Type 0 where
  pub calls : List Event
  pub follows : new ≡ old ++ calls
  pub counted : length calls ≡ count
  pub sound : read_failures calls ≡ 0

-- The run of one station.
use Rattle.std.specs.Prelude.{◌≡◌, ◌⊎◌, ◌≤◌, ◌<◌, ◌+◌, ℕ, Bool, IsErrOf, List, Option, Result}
use Rattle.std.specs.declared.alloc.Global.{Global}
use Rattle.identity.specs.Numbers.{Byte}
use Rattle.centre_core.specs.State.{State}
use Rattle.console.specs.Failures.{failures_reported}
use Rattle.console.specs.Runs.{IsRun}
use Rattle.console.specs.Told.{EndsSince, Streams, Tells, TellsWholeSince, calls_of, events_of, streams_of}
use Rattle.console.specs.declared.input.Input.{Input}
use Rattle.console.specs.declared.output.Output.{Output}
use Rattle.console.specs.declared.running.Ran.{Ran}
use Rattle.console.specs.declared.running.RunFault.{RunFault}
use Rattle.console.specs.declared.running.RunFault.TheVariants as fault
use Rattle.flusher.specs.declared.session.Session.{Session}
use Rattle.stations.specs.OfSession.{at_session, of_session}

-- A station's session with a centre, which was opened over the register `base`, answered the station's lines. The arguments are whether the
-- station may give orders; the session, what the reader had left and what the writer held before the run; and the result, the session and what
-- the writer holds after it.
abbrev pub IsRunBy : (J : Type 0) → State → Bool → Session J → Option (List Byte) → Option (List Byte) → Result Ran RunFault → Session J → Option (List Byte) → Type 0
IsRunBy J base may_order s unread before result t after = IsRun Global (of_session J base may_order)
    (record { speaker = record { station = s.sender.station; orders = may_order }; world = at_session s; unread = unread; written = before })
    (record { result = result; world = at_session t; written = after })

-- What is known of a run (`IsRunBy`) over any reader and any writer: what was read, and that what was written was answered before. The
-- arguments are the session and the streams before the run, the result, and both after the run.
abbrev pub IsToldBy : (J : Type 0) → State → Bool → Session J → Streams → Result Ran RunFault → Session J → Streams → Type 0
IsToldBy J base may_order s before result t after =
    Tells Global (of_session J base may_order) (record { station = s.sender.station; orders = may_order }) (at_session s) (at_session t) before after result

-- Every whole line that was read in a run is answered, and every answer was written. The arguments are the session and the streams before the
-- run, and both after it.
abbrev pub IsWholeBy : (J : Type 0) → State → Bool → Session J → Streams → Session J → Streams → Type 0
IsWholeBy J base may_order s before t after =
    TellsWholeSince Global (of_session J base may_order) (record { station = s.sender.station; orders = may_order }) (at_session s) (at_session t) before after

module _ {J I O L F G : Type 0} where
  -- The session answered lines from this input to this output, by at most `turns` calls of the reader. After the run the input is `input_now`,
  -- and the output `output_now`. The result is the session after the run, and how the run ended.
  pub record HasAnsweredLines (base : State) (unread : I → Option (List Byte)) (written : O → Option (List Byte)) (may_order : Bool) (turns : ℕ)
      (session : Session J) (input input_now : Input I L F) (output output_now : Output O G) (result : Session J × Result Ran RunFault) : Type 0 where
    -- how the lines were answered, and what the session is then
    pub answers : IsRunBy J base may_order session (unread input.reader.now) (written output.writer.now) result.1 result.0 (written output_now.writer.now)
    -- over any reader and any writer: what was read, and that what was written was answered before
    pub told : IsToldBy J base may_order session (streams_of unread written input output) result.1 result.0 (streams_of unread written input_now output_now)
    -- if the run ended because the reader failed, or was called `turns` times, every whole line is answered (`IsWholeBy`)
    pub whole : IsErrOf result.1 fault.Read
        → IsWholeBy J base may_order session (streams_of unread written input output) result.0 (streams_of unread written input_now output_now)
    -- why it ended, by the calls of the reader and the writer
    pub ends : EndsSince turns (calls_of input) (calls_of input_now) (events_of output) (events_of output_now) result.1

  -- The reader of a run was called at most `turns` times. The other clauses say what each fault of the run means for the calls.
  pub record IsCounted (turns : ℕ) (session : Session J) (input input_now : Input I L F) (output output_now : Output O G)
      (result : Session J × Result Ran RunFault) : Type 0 where
    pub calls : input_now.steps.now ≤ input.steps.now + turns
    pub read : IsErrOf result.1 fault.Read → (input_now.steps.now ≡ input.steps.now + turns) ⊎ (input.faults.now < input_now.faults.now)
    pub write : output_now.failures.now ≡ output.failures.now + failures_reported result.1
    pub memory : IsErrOf result.1 fault.NoMemory → (input_now.steps.now ≡ input.steps.now) × (result.0 ≡ session)

-- An input and an output borrow the same reader, writer and ledgers as before: the ghost names of these are the same.
pub record BorrowsSame {I O L F G : Type 0} (input input_now : Input I L F) (output output_now : Output O G) : Type 0 where
  pub reader : input_now.reader.ghost_name ≡ input.reader.ghost_name
  pub steps : input_now.steps.ghost_name ≡ input.steps.ghost_name
  pub faults : input_now.faults.ghost_name ≡ input.faults.ghost_name
  pub writer : output_now.writer.ghost_name ≡ output.writer.ghost_name
  pub failures : output_now.failures.ghost_name ≡ output.failures.ghost_name

-- The lines of a station, answered by its session over its reader and its writer.
use Rattle.std.specs.Prelude.{◌≡◌, ℕ, Bool, IsErrOf, List, Option, Result}
use Rattle.identity.specs.Numbers.{Byte}
use Rattle.centre_core.specs.State.{State}
use Rattle.console.specs.Told.{EndsFor, reader_events, writer_events}
use Rattle.console.specs.declared.passed.Passed.{Passed}
use Rattle.console.specs.declared.running.Ran.{Ran}
use Rattle.console.specs.declared.running.RunFault.{RunFault}
use Rattle.console.specs.declared.running.RunFault.TheVariants.{NoMemory}
use Rattle.flusher.specs.Sessions.{view_of_session}
use Rattle.flusher.specs.declared.session.Session.{Session}
use Rattle.stations.specs.Done.{IsRunOf, IsToldOf}
use Rattle.stations.specs.GoesOn.{GoesOnFrom, beginning_of}
use Rattle.stations.specs.declared.job.Job.{Job}
use Rattle.stations.specs.declared.station_run.StationRun.{StationRun}

module _ {J : Type 0} (base : State) where
  -- The session answered lines, by at most `turns` calls of its reader. Its station may give orders if `orders` is true. The reader had `unread`
  -- left. The writer held `before`, and holds `after`. The result is the session after the run, how the run ended, and what passed in it.
  pub record AnswersLines {I O : Type 0} (orders : Bool) (turns : ℕ) (unread before after : Option (List Byte)) (session : Session J)
      (result : Session J × Result Ran RunFault × Passed I O) : Type 0 where
    pub answers : IsRunOf J base (record { station = session.sender.station; orders = orders }) unread before (view_of_session session) (view_of_session result.0) after result.1
    -- over any reader and any writer
    pub told : IsToldOf J base (record { station = session.sender.station; orders = orders }) unread before result.2 (view_of_session session) (view_of_session result.0) after result.1
    -- why it ended, by the calls of the reader and the writer
    pub ends : EndsFor turns (reader_events result.2) (writer_events result.2) result.1
    -- the session that comes back
    pub goes_on : GoesOnFrom orders (beginning_of session) result.0
    -- if the run was out of memory, it left the session unchanged
    pub memory : IsErrOf result.1 NoMemory → result.0 ≡ session

  -- the session of a job answered the lines of its port
  abbrev pub AnswersJob : {I O : Type 0} → (I → Option (List Byte)) → (O → Option (List Byte)) → Job J I O → Session J × StationRun I O → Type 0
  AnswersJob unread written job result =
      AnswersLines job.orders job.turns (unread job.port.reader) (written job.port.writer) (written result.1.writer) job.session
      (result.0, result.1.ran, result.1.passed)

-- What comes of the run of one station.
use Rattle.std.specs.Prelude.{◌≡◌, IsErrOf, List, [], ◌∷◌, ◌++◌, Option, Result}
use Rattle.std.specs.List.{AllZip}
use Rattle.std.specs.declared.alloc.Global.{Global}
use Rattle.identity.specs.Numbers.{Byte}
use Rattle.crossbeam_channel.specs.Ends.{receives_on}
use Rattle.answers.specs.Views.{received_of}
use Rattle.centre_core.specs.State.{State}
use Rattle.station_queue.specs.Ends.{sending}
use Rattle.station_queue.specs.declared.entry.Entry.TheVariants as entry
use Rattle.console.specs.Reading.{Speaker}
use Rattle.console.specs.Runs.{IsRun}
use Rattle.console.specs.Told.{EndsFor, TellsBy, reader_events, writer_events}
use Rattle.console.specs.declared.passed.Passed.{Passed}
use Rattle.console.specs.declared.running.Ran.{Ran}
use Rattle.console.specs.declared.running.RunFault.{RunFault}
use Rattle.console.specs.declared.running.RunFault.TheVariants.{NoMemory}
use Rattle.flusher.specs.Sessions.{view_of_session}
use Rattle.flusher.specs.Submitted.{SessionView}
use Rattle.stations.specs.OfSession.{of_session}
use Rattle.stations.specs.Orders.{Submits}
use Rattle.stations.specs.declared.job.Done.{Done}
use Rattle.stations.specs.declared.job.Job.{Job}

-- the station of a job, and whether it may give orders
abbrev pub speaker_of : {J I O : Type 0} → Job J I O → Speaker
speaker_of job = record { station = job.session.sender.station; orders = job.orders }

module _ (J : Type 0) (base : State) where
  -- A station's session answered its lines. The arguments are the station, and whether it may give orders; what its reader had left and its
  -- writer held before the run; the session's view before and after it; what the writer holds after it; and how it ended.
  abbrev pub IsRunOf : Speaker → Option (List Byte) → Option (List Byte) → SessionView → SessionView → Option (List Byte) → Result Ran RunFault → Type 0
  IsRunOf speaker unread written s t after ran =
      IsRun Global (of_session J base speaker.orders)
      (record { speaker = speaker; world = record { station = speaker.station; view = s }; unread = unread; written = written })
      (record { result = ran; world = record { station = speaker.station; view = t }; written = after })

  -- What is known of a run (`IsRunOf`) over any reader and any writer. It speaks of their calls, which are in `passed`.
  abbrev pub IsToldOf : {I O : Type 0} → Speaker → Option (List Byte) → Option (List Byte) → Passed I O → SessionView → SessionView → Option (List Byte) → Result Ran RunFault → Type 0
  IsToldOf speaker unread written passed s t after ran =
      TellsBy Global (of_session J base speaker.orders) speaker unread written
      (record { station = speaker.station; view = s }) (record { station = speaker.station; view = t }) after ran (reader_events passed) (writer_events passed)

  module _ {I O : Type 0} (unread : I → Option (List Byte)) (written : O → Option (List Byte)) where
    -- A job's session answered the lines of its port and then ended. What came of it is `done`, and `last` is the session's view after the run.
    -- If its station may give no orders, it submitted none. After the run it sent its end, and nothing else.
    pub record EndsAs (job : Job J I O) (last : SessionView) (done : Done J I O) : Type 0 where
      pub run : IsRunOf (speaker_of job) (unread job.port.reader) (written job.port.writer) (view_of_session job.session) last (written done.run.writer) done.run.ran
      pub told : IsToldOf (speaker_of job) (unread job.port.reader) (written job.port.writer) done.run.passed (view_of_session job.session) last (written done.run.writer) done.run.ran
      -- why the run ended, by the calls of its reader and its writer
      pub ends : EndsFor job.turns (reader_events done.run.passed) (writer_events done.run.passed) done.run.ran
      pub sender : done.ended.sender ≡ sending job.session.sender.queue job.session.sender.station (last.sent ++ entry.Ended job.session.sender.station ∷ [])
      pub received : received_of done.ended.receiver.pass ≡ last.received
      pub channel : receives_on done.ended.receiver.channel ≡ receives_on job.session.receiver.channel
      pub seen : done.ended.viewer ≡ last.seen
      pub submits : Submits job.orders job.session.sender.sent last.sent
      -- if the run was out of memory, it left the session unchanged
      pub memory : IsErrOf done.run.ran NoMemory → last ≡ view_of_session job.session

    -- `done` came of the job, with some view of the session after its run
    abbrev pub IsDone : Job J I O → Done J I O → Type 0
    IsDone job done = (last : SessionView) × EndsAs job last done

    -- each of `done` came of the job at its place
    abbrev pub AreDone : List (Job J I O) → List (Done J I O) → Type 0
    AreDone jobs done = AllZip IsDone jobs done

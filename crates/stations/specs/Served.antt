-- What a run of many stations does.
use Rattle.std.specs.Prelude.{◌≡◌, ◌⊎◌, ◌∷◌, ◌++◌, ◌+◌, ◌≤◌, ℕ, Contains, IsErrOf, List, [], length, Option, slice_get, Some, true, false}
use Rattle.std.specs.List.{AllByRecursion}
use Rattle.std.specs.Str.Lines.{lines}
use Rattle.std.specs.declared.alloc.Global.{Global}
use mathlib.Core.List.{IsPrefix, Sublist}
use Rattle.identity.specs.Numbers.{Byte}
use Rattle.sector_disk.specs.Disk.{HasFailed, View}
use Rattle.sector_disk.specs.Run.{LeavesOnly}
use Rattle.centre_core.specs.Asked.{Asked}
use Rattle.centre_core.specs.State.{State}
use Rattle.centre_core.specs.declared.reply.Reply.{Reply}
use Rattle.recovery.specs.Lives.{HasBeenHonest, IsStoredIn, StoreView}
use Rattle.console.specs.Answer.{texts}
use Rattle.console.specs.Dialogue.{Dialogue}
use Rattle.console.specs.Events.{OnlyAnswers, answered_by, read_by}
use Rattle.console.specs.Reading.{Speaker}
use Rattle.console.specs.Told.{EndsFor, GaveFirst, HasTaken, reader_events, writer_events}
use Rattle.console.specs.declared.answer.Answer.{Answer}
use Rattle.console.specs.declared.passed.Passed.{Passed}
use Rattle.console.specs.declared.running.RunFault.TheVariants as fault
use Rattle.station_queue.specs.declared.entry.Entry.TheVariants.{Ended}
use Rattle.station_queue.specs.Entries.{entries_of}
use Rattle.flusher.specs.Answerings.{answers_to}
use Rattle.flusher.specs.Borne.{AreBorneOut}
use Rattle.flusher.specs.Core.{IsCoreRun}
use Rattle.flusher.specs.Opened.{IsNewFlusher}
use Rattle.flusher.specs.Order.{of_station}
use Rattle.flusher.specs.Lasting.{AreLasting}
use Rattle.flusher.specs.Runs.{AreRounds, HasStopped, HasTakenEnds}
use Rattle.flusher.specs.Served.{IsSettled}
use Rattle.flusher.specs.Shared.{commands_among}
use Rattle.flusher.specs.Since.{WasDurable}
use Rattle.flusher.specs.Stages.{Sent}
use Rattle.flusher.specs.Stored.{IsStoredFor, OpensBetween}
use Rattle.flusher.specs.Submitted.{SessionView}
use Rattle.flusher.specs.View.{FlusherView}
use Rattle.flusher.specs.declared.decision.Decision.TheVariants.{Replied}
use Rattle.stations.specs.Done.{IsRunOf, IsToldOf}
use Rattle.stations.specs.Lines.{AreLinesBorneOut, AreRepliedTo}
use Rattle.stations.specs.OfSession.{of_session}
use Rattle.stations.specs.Orders.{has_order, may}
use Rattle.stations.specs.declared.orders.Orders.{Orders}
use Rattle.stations.specs.declared.port.Port.{Port}
use Rattle.stations.specs.declared.station_run.StationRun.{StationRun}

-- a session that has sent, received, seen and reached nothing
abbrev pub new_view : SessionView
new_view = record { sent = []; received = []; seen = []; reached = 0 }

-- The durable commands at the end of a run bear out what a station's session did in it.
pub record IsBorneOut (J : Type 0) (base : State) (durable : List (Asked Global)) (speaker : Speaker) (view : SessionView) : Type 0 where
  -- a prefix of them bears out each answer that the session received, and no prefix is shorter than the one before
  pub answers : AreBorneOut base durable 0 view.received
  -- if answered lines lead from a new session to this one, prefixes bear out the answers to their commands in the same way
  pub lines : (texts : List (List Byte)) (given : List (Answer Global))
      → Dialogue (of_session J base speaker.orders) speaker 0 (record { station = speaker.station; view = new_view }) texts given
      (record { station = speaker.station; view = view })
      → AreLinesBorneOut base durable speaker 0 texts given
  -- the durable commands of its station are some of those that it sent, in the order in which it sent them
  pub order : Sublist (of_station speaker.station durable) (commands_among view.sent)
  -- what it has seen is a prefix of the durable commands
  pub seen : IsPrefix view.seen durable

-- the station at a place, counted from 0, and whether it may give orders
abbrev pub speaker_at : Orders → ℕ → Speaker
speaker_at orders k = record { station = k + 1; orders = may orders (k + 1) }

-- the session received this reply to this command, and the reply was durable before it was sent
abbrev pub IsReplyDurable : {D : Type 0} → (D → View) → State → FlusherView D → List Sent → Asked Global → Reply Global → Type 0
IsReplyDurable disk base last received c reply =
    (x : Sent) × Contains received x × (x.command ≡ c) × (x.decision ≡ Replied reply) × WasDurable disk base last x

-- What a station's writer took in a run, and that the replies in it were durable before. The session after the run is `view`. The calls of its
-- reader and its writer are in `passed`. The reader had `unread` left. The writer held `before`, and holds `after`.
pub record IsWrittenAfter {D I O : Type 0} (disk : D → View) (J : Type 0) (base : State) (last : FlusherView D) (speaker : Speaker) (view : SessionView)
    (passed : Passed I O) (unread before after : Option (List Byte)) : Type 0 where
  -- if it is known what the reader had left, its calls gave a prefix of this
  pub gave : GaveFirst unread (read_by (reader_events passed))
  -- The lines in the bytes that they gave are `done` and then `left`. Each line of `done` has one of `answers`, in order.
  pub done : List (List Byte)
  pub left : List (List Byte)
  pub first : lines (read_by (reader_events passed)) ≡ done ++ left
  pub answers : List (Answer Global)
  pub each : Dialogue (of_session J base speaker.orders) speaker 0 (record { station = speaker.station; view = new_view }) done answers
      (record { station = speaker.station; view = view })
  -- if it is known what the writer held, what was written follows this
  pub taken : HasTaken before (writer_events passed) after
  -- at each moment of the run, what was written is a prefix of the answers that were given before
  pub only : OnlyAnswers (writer_events passed)
  -- the texts of `answers` are those that were given in the run, and then `missing`
  pub missing : List Byte
  pub texts_are : texts answers ≡ answered_by (writer_events passed) ++ missing
  -- Each `ok`, `kept` and `no` to a command among `answers` was durable before it was sent to the session. Each image since opens to commands
  -- that bear it out.
  pub durable : AreRepliedTo (IsReplyDurable disk base last view.received) speaker done answers

-- The register is on an honest disk when the run begins. Either the disk was honest when the store was opened and is when the run begins: then
-- the register is on it (`kept` of `HasServedStations`). Or the disk is honest, and the register is known to be on it, as in a life of the disk.
abbrev pub IsOnDisk : {D : Type 0} → (D → View) → StoreView Global D → Type 0
IsOnDisk disk opened = HasBeenHonest disk opened ⊎ ((disk opened.disk).honest × IsStoredIn Global disk opened)

-- Stations 1, 2 and so on were served over an opened store, each with its port. `orders` says which of them may give orders, and `turns` how often
-- a reader may be called. `unread` and `written` are what is known of a reader's bytes and of a writer's contents. What came of it is a store, and
-- a run for each station.
pub record HasServedStations {D I O : Type 0} (disk : D → View) (J : Type 0) (base : State) (orders : Orders) (turns : ℕ)
    (unread : I → Option (List Byte)) (written : O → Option (List Byte)) (opened : StoreView Global D) (ports : List (Port I O))
    (store : StoreView Global D) (runs : List (StationRun I O)) : Type 0 where
  -- A new flusher of the store did rounds until it had taken the end of each session, and none after. It is `first` before its rounds, and
  -- `last` after them.
  pub first : FlusherView D
  pub last : FlusherView D
  pub begun : IsNewFlusher (length ports) opened first
  pub rounds : AreRounds disk base first last
  pub ended : HasTakenEnds last
  pub at_once : HasStopped disk base first last
  -- the rounds are one run of the core from its opening
  pub core : IsCoreRun base (length ports) first last
  -- what is durable in the end is a history, and the register of a sound store is what this history makes of the base
  pub settled : IsSettled base last
  pub store_is : store ≡ last.store
  -- if the disk was honest when the store was opened, and is when the run begins, the register is on it then
  pub kept : HasBeenHonest disk opened → IsStoredIn Global disk opened
  -- After the run each image of the disk opens to what is durable. If the disk has failed, it may open to this and what was under way.
  pub stored : IsOnDisk disk opened → IsStoredFor disk base last
  -- After a stop at any moment of the run, the disk opens to at least what was durable at first. It opens to at most what is durable in the
  -- end. If the disk has failed, what was under way may follow this.
  pub any_moment : IsOnDisk disk opened → LeavesOnly (disk opened.disk) (disk store.disk) (OpensBetween base first last)
  -- after a stop at any moment since a round, the disk opens to at least what was durable at the end of this round
  pub lasting : IsOnDisk disk opened → AreLasting disk base first last
  -- the disk counts no fewer failures than before, and only a failure of the disk breaks the store
  pub later : (disk opened.disk).failures ≤ (disk store.disk).failures
  pub failed : store.broken ≡ true → HasFailed (disk opened.disk) (disk store.disk)
  -- There is one run for each port, in order of station. A new session of the station answered its lines. The answers follow what its writer held.
  pub views : List SessionView
  pub count : (length runs ≡ length ports) × (length views ≡ length ports)
  pub each : (k : ℕ) (port : Port I O) (run : StationRun I O) (view : SessionView)
      → slice_get ports k ≡ Some port → slice_get runs k ≡ Some run → slice_get views k ≡ Some view
      → IsRunOf J base (speaker_at orders k) (unread port.reader) (written port.writer) new_view view (written run.writer) run.ran
  -- Why each run ended. Its text came to its end; its reader failed, or was called `turns` times; its writer failed; or memory ran out before
  -- the first call. If no thread could be made, that counts as out of memory. A reader failed only in a run that ended for its reader, and a
  -- writer only in a run that ended for its writer.
  pub ends : (k : ℕ) (run : StationRun I O) → slice_get runs k ≡ Some run → EndsFor turns (reader_events run.passed) (writer_events run.passed) run.ran
  -- a run that was out of memory answered no line: its session has sent, received and seen nothing
  pub memory : (k : ℕ) (run : StationRun I O) (view : SessionView)
      → slice_get runs k ≡ Some run → slice_get views k ≡ Some view → IsErrOf run.ran fault.NoMemory → view ≡ new_view
  -- the entries taken of each station are all that its session sent: its commands, and then its end
  pub taken : (k : ℕ) (view : SessionView) → slice_get views k ≡ Some view → entries_of (k + 1) last.taker.taken ≡ view.sent ++ Ended (k + 1) ∷ []
  -- the answers that a session received are a prefix of those that the core's run gave to its station
  pub received : (k : ℕ) (view : SessionView) → slice_get views k ≡ Some view → IsPrefix view.received (answers_to (k + 1) core.answers)
  -- Over any readers and writers: what was read and written is what their calls gave and took in this run. What was written was answered before.
  pub told : (k : ℕ) (port : Port I O) (run : StationRun I O) (view : SessionView)
      → slice_get ports k ≡ Some port → slice_get runs k ≡ Some run → slice_get views k ≡ Some view
      → IsToldOf J base (speaker_at orders k) (unread port.reader) (written port.writer) run.passed new_view view (written run.writer) run.ran
  -- what each writer took, and that each reply in it was on the disk before
  pub synced : IsOnDisk disk opened → (k : ℕ) (port : Port I O) (run : StationRun I O) (view : SessionView)
      → slice_get ports k ≡ Some port → slice_get runs k ≡ Some run → slice_get views k ≡ Some view
      → IsWrittenAfter disk J base last (speaker_at orders k) view run.passed (unread port.reader) (written port.writer) (written run.writer)
  -- what is durable in the end bears out each session
  pub closed : (k : ℕ) (view : SessionView) → slice_get views k ≡ Some view → IsBorneOut J base last.durable (speaker_at orders k) view
  -- a station that may give no orders submitted none, and none of its durable commands is one
  pub orderless : (k : ℕ) (view : SessionView) → slice_get views k ≡ Some view → may orders (k + 1) ≡ false
      → (has_order (commands_among view.sent) ≡ false) × (has_order (of_station (k + 1) last.durable) ≡ false)
  -- each answer that a session received was durable before it was sent: after a stop at any moment since, the disk bears it out
  pub durable : IsOnDisk disk opened → (k : ℕ) (view : SessionView) → slice_get views k ≡ Some view → AllByRecursion (WasDurable disk base last) view.received

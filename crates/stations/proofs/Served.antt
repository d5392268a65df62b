-- What is known of a run of many stations, from what its parts say.
use Rattle.std.proofs.Common.{◌≡◌, ℕ, zero, suc, inl, inr, ◌+◌, ◌≤◌, List, [], ◌∷◌, ◌++◌, length, refl, sym, ap, ◌∙◌, subst}
use Rattle.std.specs.Prelude.{All, IsErrOf, Option, Some, map, slice_get, false, true}
use Rattle.std.specs.declared.alloc.Global.{Global}
use Rattle.std.specs.List.{AllByRecursion, AllZip}
use Rattle.std.proofs.lemmas.List.{append-nil}
use mathlib.Core.List.{IsPrefix, Sublist}
use Rattle.base.proofs.Options.{some_is}
use Rattle.base.proofs.Lists.{some_beside, zip_length}
use Rattle.identity.specs.Numbers.{Byte}
use Rattle.registration.specs.Numbers.{Station}
use Rattle.console.specs.Reading.{Speaker}
use Rattle.console.specs.Told.{EndsFor, reader_events, writer_events}
use Rattle.sector_disk.specs.Disk.{HasFailed, View}
use Rattle.sector_disk.specs.Run.{LeavesOnly}
use Rattle.centre_core.specs.Asked.{Asked}
use Rattle.centre_core.specs.State.{State}
use Rattle.recovery.specs.Lives.{HasBeenHonest, StoreView, IsStoredIn}
use Rattle.answers.specs.Views.{received_of, sent_of}
use Rattle.station_queue.specs.Ends.{Sending}
use Rattle.station_queue.specs.declared.entry.Entry.{Entry}
use Rattle.station_queue.specs.declared.entry.Entry.TheVariants as entry
use Rattle.station_queue.specs.Entries.{entries_of}
use Rattle.console.specs.declared.running.RunFault.TheVariants as fault
use Rattle.snapshots.proofs.Prefixes.{prefix_trans}
use Rattle.flusher.specs.Answerings.{HaveAnswered, answers_to}
use Rattle.flusher.proofs.Borne.{sent_first}
use Rattle.flusher.proofs.Core.{core_run}
use Rattle.flusher.specs.Closed.{AreSessionsOf, HasFinished, IsClosed}
use Rattle.flusher.specs.Borne.{AreBorneOut}
use Rattle.flusher.specs.Opened.{AreNewSessions, IsNewFlusher}
use Rattle.flusher.specs.Order.{of_station}
use Rattle.flusher.specs.Runs.{HasSameEnds}
use Rattle.flusher.specs.Sessions.{view_of_session as session_view}
use Rattle.flusher.specs.Shared.{commands_among}
use Rattle.flusher.specs.Since.{AreAllDurable, WasDurable}
use Rattle.flusher.specs.Stages.{Sent}
use Rattle.flusher.specs.Stored.{IsStoredFor, OpensBetween}
use Rattle.flusher.specs.Submitted.{SessionView}
use Rattle.flusher.specs.View.{FlusherView}
use Rattle.flusher.specs.declared.session.Ended.{Ended}
use Rattle.flusher.specs.declared.session.Session.{Session}
use Rattle.flusher.proofs.Batched.{commands_among-append}
use Rattle.flusher.proofs.Since.{all_prefix, run_durable}
use Rattle.flusher.proofs.Sessions.{finished_sessions, opened_sessions, still_sessions}
use Rattle.stations.specs.declared.job.Done.{Done}
use Rattle.stations.specs.declared.job.Job.{Job}
use Rattle.stations.specs.declared.port.Port.{Port}
use Rattle.stations.specs.declared.orders.Orders.{Orders}
use Rattle.stations.specs.Done.{EndsAs, IsDone, IsRunOf, IsToldOf, speaker_of}
use Rattle.stations.specs.Flushed.{HasFlushed}
use Rattle.stations.specs.Orders.{has_order, may}
use Rattle.stations.specs.declared.station_run.StationRun.{StationRun}
use Rattle.stations.specs.Served.{HasServedStations, IsBorneOut, IsOnDisk, new_view, speaker_at}
use Rattle.stations.proofs.Lines.{lines_borne}
use Rattle.stations.proofs.Ordered.{sublist_without}
use Rattle.stations.proofs.Written.{written_after}
use Rattle.stations.proofs.Places.{map_length, mapped, of_all_at, one_only, zip_mapped}

-- its end is none of the commands that a session sent
commands_before_end : (sent : List Entry) (station : Station) → commands_among (sent ++ entry.Ended station ∷ []) ≡ commands_among sent
commands_before_end sent station = commands_among-append sent (entry.Ended station ∷ []) ∙ append-nil (commands_among sent)

-- a register that is on the disk is on an honest one
on_honest : {D : Type 0} (disk : D → View) (opened : StoreView Global D) → (HasBeenHonest disk opened → IsStoredIn Global disk opened) → IsOnDisk disk opened →
    (disk opened.disk).honest × IsStoredIn Global disk opened
on_honest disk opened kept (inl been) = (been.1, kept been)
on_honest disk opened kept (inr known) = known

-- if each image of an opened disk opens to its register, so does each image of a new flusher's disk
pub stored_first : {D : Type 0} (disk : D → View) (base : State) (opened : StoreView Global D) (n : ℕ) (f : FlusherView D) → opened.broken ≡ false → IsNewFlusher n opened f →
    (disk opened.disk).honest → IsStoredIn Global disk opened → IsStoredFor disk base f
stored_first {D} disk base opened n f whole new honest kept = record {
  honest = subst (λ (s : StoreView Global D). (disk s.disk).honest) (sym new.store) honest;
  sound = λ _. subst (λ (s : StoreView Global D). IsStoredIn Global disk s) (sym new.store) kept;
  failed = λ broken. absurd (no (sym broken ∙ ap (λ (s : StoreView Global D). s.broken) new.store ∙ whole));
}
  where
    no : true ≡ false → ⊥
    no e = cc

module _ {J I O : Type 0} (base : State) (unread : I → Option (List Byte)) (written : O → Option (List Byte)) where
  abbrev pub IsOf : Job J I O → Done J I O → Type 0
  IsOf = IsDone J base unread written

  -- what each session did
  abbrev pub views_of : (jobs : List (Job J I O)) (done : List (Done J I O)) → AllZip IsOf jobs done → List SessionView
  views_of [] [] all = []
  views_of [] (d ∷ ds) all = absurd all
  views_of (j ∷ js) [] all = absurd all
  views_of (j ∷ js) (d ∷ ds) all = all.0.0 ∷ views_of js ds all.1

  pub views_length : (jobs : List (Job J I O)) (done : List (Done J I O)) (all : AllZip IsOf jobs done) → length (views_of jobs done all) ≡ length jobs
  views_length [] [] all = refl
  views_length [] (d ∷ ds) all = absurd all
  views_length (j ∷ js) [] all = absurd all
  views_length (j ∷ js) (d ∷ ds) all = ap suc (views_length js ds all.1)

  pub ends_at : (jobs : List (Job J I O)) (done : List (Done J I O)) (all : AllZip IsOf jobs done) (k : ℕ) (j : Job J I O) (v : SessionView) (d : Done J I O) →
      slice_get jobs k ≡ Some j → slice_get (views_of jobs done all) k ≡ Some v → slice_get done k ≡ Some d → EndsAs J base unread written j v d
  ends_at [] [] all k j v d e f h = absurd cc
  ends_at [] (y ∷ ys) all k j v d e f h = absurd all
  ends_at (x ∷ xs) [] all k j v d e f h = absurd all
  ends_at (x ∷ xs) (y ∷ ys) all zero j v d e f h =
      subst (λ (q : Job J I O × SessionView × Done J I O). EndsAs J base unread written q.0 q.1 q.2) (λ i. (some_is x j e i, some_is all.0.0 v f i, some_is y d h i)) all.0.1
  ends_at (x ∷ xs) (y ∷ ys) all (suc k) j v d e f h = ends_at xs ys all.1 k j v d e f h

  -- each session is still the one of its station
  pub finished : (jobs : List (Job J I O)) (done : List (Done J I O)) → AllZip IsOf jobs done → AllZip HasFinished (map (λ (j : Job J I O). j.session) jobs) (map (λ (d : Done J I O). d.ended) done)
  finished jobs done all = zip_mapped (λ (j : Job J I O). j.session) (λ (d : Done J I O). d.ended) IsOf HasFinished
      (λ j d is. record { queue = ap (λ (s : Sending). s.queue) is.1.sender; station = ap (λ (s : Sending). s.station) is.1.sender; channel = is.1.channel }) jobs done all

  module _ {D : Type 0} (first last : FlusherView D) (sessions : List (Session J)) (ports : List (Port I O)) (jobs : List (Job J I O)) (done : List (Done J I O))
      (with_sessions : map (λ (j : Job J I O). j.session) jobs ≡ sessions) (with_ports : map (λ (j : Job J I O). j.port) jobs ≡ ports)
      (new : AreNewSessions first.taker.queue first.senders sessions) (all : AllZip IsOf jobs done)
      (orders : Orders) (ordered : All (λ (j : Job J I O). j.orders ≡ may orders j.session.sender.station) jobs)
      (turns : ℕ) (turned : All (λ (j : Job J I O). j.turns ≡ turns) jobs) where
    -- the ended sessions are those of the flusher
    pub sessions_ended : HasSameEnds first last → AreSessionsOf last (map (λ (d : Done J I O). d.ended) done)
    sessions_ended same =
        let open_all = opened_sessions first sessions new in
        let fin = subst (λ (l : List (Session J)). AllZip HasFinished l (map (λ (d : Done J I O). d.ended) done)) with_sessions (finished jobs done all) in
        still_sessions first last same (map (λ (d : Done J I O). d.ended) done) (finished_sessions first sessions (map (λ (d : Done J I O). d.ended) done) fin open_all)

    -- the session at a place was new, of the station of that place
    new_at : (k : ℕ) (j : Job J I O) → slice_get jobs k ≡ Some j → (j.session.sender.station ≡ k + 1) × (session_view j.session ≡ new_view)
    new_at k j at =
        let here = subst (λ (l : List (Session J)). slice_get l k ≡ Some j.session) with_sessions (mapped (λ (x : Job J I O). x.session) jobs k j at) in
        let a = some_beside first.senders sessions k j.session new.count here in
        let n = new.each k a.0 j.session a.1 here in (
          ap (λ (s : Sending). s.station) n.sender,
          (λ i. record { sent = (ap (λ (s : Sending). s.sent) n.sender) i; received = n.channel.2 i; seen = n.viewer i; reached = length (n.viewer i) }),
        )

    -- what each run gave
    abbrev pub given_of : Done J I O → StationRun I O
    given_of d = d.run

    -- the station of a place, and whether it may give orders
    speaker_is : (k : ℕ) (j : Job J I O) → slice_get jobs k ≡ Some j → speaker_of j ≡ speaker_at orders k
    speaker_is k j at =
        let n = new_at k j at in
        let may_order = of_all_at (λ (x : Job J I O). x.orders ≡ may orders x.session.sender.station) jobs k j ordered at ∙ ap (may orders) n.0 in
        λ i. record { station = n.0 i; orders = may_order i }

    -- what came of a job, by the port and the run of its place
    abbrev place : Speaker → Port I O → SessionView → StationRun I O → Speaker × Port I O × SessionView × StationRun I O
    place speaker port view run = (speaker, port, view, run)

    abbrev EndsAt : ℕ → Port I O → StationRun I O → SessionView → Type 0
    EndsAt k port run view = (j : Job J I O) × (d : Done J I O) × EndsAs J base unread written j view d
        × (place (speaker_of j) j.port (session_view j.session) (given_of d) ≡ place (speaker_at orders k) port new_view run)

    ends_there : (k : ℕ) (port : Port I O) (run : StationRun I O) (view : SessionView) → slice_get ports k ≡ Some port → slice_get (map given_of done) k ≡ Some run →
        slice_get (views_of jobs done all) k ≡ Some view → EndsAt k port run view
    ends_there k port run view at_port at_run at_view =
        let j = some_beside jobs (views_of jobs done all) k view (views_length jobs done all) at_view in
        let d = some_beside done jobs k j.0 (sym (zip_length IsOf jobs done all)) j.1 in
        let n = new_at k j.0 j.1 in
        let same_port = one_only ports k j.0.port port (subst (λ (l : List (Port I O)). slice_get l k ≡ Some j.0.port) with_ports (mapped (λ (x : Job J I O). x.port) jobs k j.0 j.1)) at_port in
        let same_run = one_only (map given_of done) k (given_of d.0) run (mapped given_of done k d.0 d.1) at_run in
        (j.0, d.0, ends_at jobs done all k j.0 view d.0 j.1 at_view d.1, λ i. (speaker_is k j.0 j.1 i, same_port i, n.1 i, same_run i))

    pub each_run : (k : ℕ) (port : Port I O) (run : StationRun I O) (view : SessionView) → EndsAt k port run view →
        IsRunOf J base (speaker_at orders k) (unread port.reader) (written port.writer) new_view view (written run.writer) run.ran
    each_run k port run view so =
        subst (λ (q : Speaker × Port I O × SessionView × StationRun I O). IsRunOf J base q.0 (unread q.1.reader) (written q.1.writer) q.2 view (written q.3.writer) q.3.ran) so.3 so.2.run

    pub each_told : (k : ℕ) (port : Port I O) (run : StationRun I O) (view : SessionView) → EndsAt k port run view →
        IsToldOf J base (speaker_at orders k) (unread port.reader) (written port.writer) run.passed new_view view (written run.writer) run.ran
    each_told k port run view so =
        subst (λ (q : Speaker × Port I O × SessionView × StationRun I O). IsToldOf J base q.0 (unread q.1.reader) (written q.1.writer) q.3.passed q.2 view (written q.3.writer) q.3.ran) so.3 so.2.told

    -- why each run ended
    each_ends : (k : ℕ) (run : StationRun I O) → slice_get (map given_of done) k ≡ Some run → EndsFor turns (reader_events run.passed) (writer_events run.passed) run.ran
    each_ends k run at_run =
        let d = some_beside done (map given_of done) k run (map_length given_of done) at_run in
        let j = some_beside jobs done k d.0 (zip_length IsOf jobs done all) d.1 in
        let v = some_beside (views_of jobs done all) jobs k j.0 (sym (views_length jobs done all)) j.1 in
        let e = ends_at jobs done all k j.0 v.0 d.0 j.1 v.1 d.1 in
        let same_turns = of_all_at (λ (x : Job J I O). x.turns ≡ turns) jobs k j.0 turned j.1 in
        let same_run = one_only (map given_of done) k (given_of d.0) run (mapped given_of done k d.0 d.1) at_run in
        subst (λ (q : ℕ × StationRun I O). EndsFor q.0 (reader_events q.1.passed) (writer_events q.1.passed) q.1.ran) (λ i. (same_turns i, same_run i)) e.ends

    -- what is known of each session, by what is known of its end
    pub each_borne : IsClosed base last (map (λ (d : Done J I O). d.ended) done) → AreSessionsOf last (map (λ (d : Done J I O). d.ended) done) →
        (k : ℕ) (view : SessionView) → slice_get (views_of jobs done all) k ≡ Some view → IsBorneOut J base last.durable (speaker_at orders k) view
    each_borne closed are k view at_view =
        let j = some_beside jobs (views_of jobs done all) k view (views_length jobs done all) at_view in
        let d = some_beside done jobs k j.0 (sym (zip_length IsOf jobs done all)) j.1 in
        let e = ends_at jobs done all k j.0 view d.0 j.1 at_view d.1 in
        let n = new_at k j.0 j.1 in
        let there = mapped (λ (x : Done J I O). x.ended) done k d.0 d.1 in
        let a = some_beside last.senders (map (λ (x : Done J I O). x.ended) done) k d.0.ended are.count there in
        let c = closed.each k a.0 d.0.ended a.1 there in
        let station = ap (λ (s : Sending). s.station) e.sender ∙ n.0 in
        let answers = subst (λ (l : List Sent). AreBorneOut base last.durable 0 l) e.received c.borne_out in
        let sent = ap (λ (s : Sending). commands_among s.sent) e.sender ∙ commands_before_end view.sent j.0.session.sender.station in
        record {
          answers = answers;
          lines = λ texts given by. lines_borne J base last.durable (speaker_at orders k) view texts given by answers;
          order = subst (λ (q : Station × List (Asked Global)). Sublist (of_station q.0 last.durable) q.1) (λ i. (station i, sent i)) c.order;
          seen = subst (λ l. IsPrefix l last.durable) e.seen c.seen;
        }

    -- a run that was out of memory did nothing
    each_memory : (k : ℕ) (run : StationRun I O) (view : SessionView) → slice_get (map given_of done) k ≡ Some run →
        slice_get (views_of jobs done all) k ≡ Some view → IsErrOf run.ran fault.NoMemory → view ≡ new_view
    each_memory k run view at_run at_view out =
        let j = some_beside jobs (views_of jobs done all) k view (views_length jobs done all) at_view in
        let d = some_beside done jobs k j.0 (sym (zip_length IsOf jobs done all)) j.1 in
        let e = ends_at jobs done all k j.0 view d.0 j.1 at_view d.1 in
        let same_run = one_only (map given_of done) k (given_of d.0) run (mapped given_of done k d.0 d.1) at_run in
        e.memory (subst (λ (r : StationRun I O). IsErrOf r.ran fault.NoMemory) (sym same_run) out) ∙ (new_at k j.0 j.1).1

    -- all that a session sent was taken
    each_taken : IsClosed base last (map (λ (d : Done J I O). d.ended) done) → AreSessionsOf last (map (λ (d : Done J I O). d.ended) done) →
        (k : ℕ) (view : SessionView) → slice_get (views_of jobs done all) k ≡ Some view → entries_of (k + 1) last.taker.taken ≡ view.sent ++ entry.Ended (k + 1) ∷ []
    each_taken closed are k view at_view =
        let j = some_beside jobs (views_of jobs done all) k view (views_length jobs done all) at_view in
        let d = some_beside done jobs k j.0 (sym (zip_length IsOf jobs done all)) j.1 in
        let e = ends_at jobs done all k j.0 view d.0 j.1 at_view d.1 in
        let station = (new_at k j.0 j.1).0 in
        let there = mapped (λ (x : Done J I O). x.ended) done k d.0 d.1 in
        let a = some_beside last.senders (map (λ (x : Done J I O). x.ended) done) k d.0.ended are.count there in
        ap (λ s. entries_of s last.taker.taken) (sym (ap (λ (s : Sending). s.station) e.sender ∙ station)) ∙ (closed.each k a.0 d.0.ended a.1 there).taken
        ∙ ap (λ (s : Sending). s.sent) e.sender ∙ ap (λ s. view.sent ++ entry.Ended s ∷ []) station

    -- a session received the first of the answers to its station
    each_received : (answers : List Sent) → HaveAnswered first.senders answers last.senders →
        IsClosed base last (map (λ (d : Done J I O). d.ended) done) → AreSessionsOf last (map (λ (d : Done J I O). d.ended) done) →
        (k : ℕ) (view : SessionView) → slice_get (views_of jobs done all) k ≡ Some view → IsPrefix view.received (answers_to (k + 1) answers)
    each_received answers answered closed are k view at_view =
        let j = some_beside jobs (views_of jobs done all) k view (views_length jobs done all) at_view in
        let d = some_beside done jobs k j.0 (sym (zip_length IsOf jobs done all)) j.1 in
        let e = ends_at jobs done all k j.0 view d.0 j.1 at_view d.1 in
        let there = mapped (λ (x : Done J I O). x.ended) done k d.0 d.1 in
        let a = some_beside last.senders (map (λ (x : Done J I O). x.ended) done) k d.0.ended are.count there in
        let was = some_beside first.senders last.senders k a.0 answered.count a.1 in
        let mine = answers_to (k + 1) answers in
        let s = some_beside sessions first.senders k was.0 (sym new.count) was.1 in
        let none : sent_of was.0.pass ≡ [] = (new.each k was.0 s.0 was.1 s.1).channel.1 in
        let sent = sent_first (sent_of was.0.pass) (sent_of a.0.pass) mine was.0.gone a.0.gone (answered.each k was.0 a.0 was.1 a.1).1 in
        subst (λ l. IsPrefix l mine) e.received
        (prefix_trans (received_of d.0.ended.receiver.pass) (sent_of a.0.pass) mine (closed.each k a.0 d.0.ended a.1 there).received (subst (λ l. IsPrefix (sent_of a.0.pass) (l ++ mine)) none sent))

    -- a new flusher has sent nothing
    none_durable : (disk : D → View) → AreAllDurable disk base last first.senders
    none_durable disk k a at =
        let s = some_beside sessions first.senders k a (sym new.count) at in
        subst (λ (l : List Sent). AllByRecursion (WasDurable disk base last) l) (sym (new.each k a s.0 at s.1).channel.1) tt

    -- each answer that a session received is one that was sent to it
    each_durable : (disk : D → View) → AreAllDurable disk base last last.senders → IsClosed base last (map (λ (d : Done J I O). d.ended) done) →
        AreSessionsOf last (map (λ (d : Done J I O). d.ended) done) →
        (k : ℕ) (view : SessionView) → slice_get (views_of jobs done all) k ≡ Some view → AllByRecursion (WasDurable disk base last) view.received
    each_durable disk sent closed are k view at_view =
        let j = some_beside jobs (views_of jobs done all) k view (views_length jobs done all) at_view in
        let d = some_beside done jobs k j.0 (sym (zip_length IsOf jobs done all)) j.1 in
        let e = ends_at jobs done all k j.0 view d.0 j.1 at_view d.1 in
        let there = mapped (λ (x : Done J I O). x.ended) done k d.0 d.1 in
        let a = some_beside last.senders (map (λ (x : Done J I O). x.ended) done) k d.0.ended are.count there in
        let c = closed.each k a.0 d.0.ended a.1 there in
        subst (λ (l : List Sent). AllByRecursion (WasDurable disk base last) l) e.received
        (all_prefix (WasDurable disk base last) (received_of d.0.ended.receiver.pass) (sent_of a.0.pass) c.received (sent k a.0 a.1))

    -- if its station may give no orders, no session submitted one
    each_orderless : (k : ℕ) (view : SessionView) → slice_get (views_of jobs done all) k ≡ Some view → may orders (k + 1) ≡ false → has_order (commands_among view.sent) ≡ false
    each_orderless k view at_view never =
        let j = some_beside jobs (views_of jobs done all) k view (views_length jobs done all) at_view in
        let d = some_beside done jobs k j.0 (sym (zip_length IsOf jobs done all)) j.1 in
        let e = ends_at jobs done all k j.0 view d.0 j.1 at_view d.1 in
        let none = ap (λ (v : SessionView). v.sent) (new_at k j.0 j.1).1 in
        let may_not = ap (λ (speaker : Speaker). speaker.orders) (speaker_is k j.0 j.1) ∙ never in
        ap (λ l. has_order (commands_among l)) (e.submits.1 ∙ ap (λ l. l ++ e.submits.0) none) ∙ e.submits.2 may_not

    -- all of it
    pub has_served : (disk : D → View) (opened store : StoreView Global D) (n : ℕ) → opened.broken ≡ false →
        (opened.broken ≡ false → HasBeenHonest disk opened → IsStoredIn Global disk opened) → n ≡ length ports → IsNewFlusher n opened first →
        HasFlushed disk base first last → store ≡ last.store →
        (ended : List (Ended J)) (runs : List (StationRun I O)) → ended ≡ map (λ (d : Done J I O). d.ended) done → runs ≡ map given_of done →
        IsClosed base last ended → HasServedStations disk J base orders turns unread written opened ports store runs
    has_served disk opened store n whole is_kept count begun flushed store_is ended runs is_ended is_runs closed =
        let jobs_length : length jobs ≡ length ports = sym (map_length (λ (x : Job J I O). x.port) jobs) ∙ ap length with_ports in
        let sound_first : first.store.broken ≡ false = ap (λ (s : StoreView Global D). s.broken) begun.store ∙ whole in
        let runs_length : length runs ≡ length ports = ap length is_runs ∙ map_length given_of done ∙ zip_length IsOf jobs done all ∙ jobs_length in
        let there : (k : ℕ) (port : Port I O) (run : StationRun I O) (view : SessionView) → slice_get ports k ≡ Some port →
        slice_get runs k ≡ Some run → slice_get (views_of jobs done all) k ≡ Some view → EndsAt k port run view =
        λ k port run view at_port at_run at_view. ends_there k port run view at_port (subst (λ (l : List (StationRun I O)). slice_get l k ≡ Some run) is_runs at_run) at_view in
        let on_disk : IsOnDisk disk opened → IsStoredFor disk base first =
        λ on. let it = on_honest disk opened (is_kept whole) on in stored_first disk base opened n first whole begun it.0 it.1 in
        let durable : IsOnDisk disk opened → (k : ℕ) (view : SessionView) → slice_get (views_of jobs done all) k ≡ Some view →
        AllByRecursion (WasDurable disk base last) view.received =
        λ on. each_durable disk (run_durable disk base first last (flushed.lasting (on_disk on)) (none_durable disk))
        (subst (λ l. IsClosed base last l) is_ended closed) (sessions_ended flushed.same) in
        let borne = each_borne (subst (λ l. IsClosed base last l) is_ended closed) (sessions_ended flushed.same) in
        let begins = subst (λ m. IsNewFlusher m opened first) count begun in
        let core = core_run disk base (length ports) opened first last whole begins flushed.rounds in
        record {
          first = first;
          last = last;
          begun = begins;
          rounds = flushed.rounds;
          ended = flushed.ended;
          at_once = flushed.at_once;
          core = core;
          settled = flushed.settled;
          store_is = store_is;
          kept = is_kept whole;
          stored = λ on. flushed.stored (on_disk on);
          any_moment = λ on. at_ends (λ s t. LeavesOnly (disk s.disk) (disk t.disk) (OpensBetween base first last)) (flushed.any_moment (on_disk on) sound_first);
          lasting = λ on. flushed.lasting (on_disk on);
          later = at_ends (λ s t. (disk s.disk).failures ≤ (disk t.disk).failures) flushed.later;
          failed = λ broken. at_ends (λ s t. HasFailed (disk s.disk) (disk t.disk)) (flushed.failed sound_first (sym (ap (λ (s : StoreView Global D). s.broken) store_is) ∙ broken));
          views = views_of jobs done all;
          count = (runs_length, views_length jobs done all ∙ jobs_length);
          each = λ k port run view at_port at_run at_view. each_run k port run view (there k port run view at_port at_run at_view);
          ends = λ k run at_run. each_ends k run (subst (λ (l : List (StationRun I O)). slice_get l k ≡ Some run) is_runs at_run);
          memory = λ k run view at_run at_view. each_memory k run view (subst (λ (l : List (StationRun I O)). slice_get l k ≡ Some run) is_runs at_run) at_view;
          taken = each_taken (subst (λ l. IsClosed base last l) is_ended closed) (sessions_ended flushed.same);
          received = each_received core.answers core.answered (subst (λ l. IsClosed base last l) is_ended closed) (sessions_ended flushed.same);
          told = λ k port run view at_port at_run at_view. each_told k port run view (there k port run view at_port at_run at_view);
          synced = λ on k port run view at_port at_run at_view.
              written_after disk J base last (speaker_at orders k) view run.passed (unread port.reader) (written port.writer) (written run.writer)
              run.ran
              (each_told k port run view (there k port run view at_port at_run at_view)) (durable on k view at_view);
          closed = borne;
          orderless = λ k view at_view never.
              let none = each_orderless k view at_view never in
              (none, sublist_without (of_station (k + 1) last.durable) (commands_among view.sent) (borne k view at_view).order none);
          durable = durable;
        }
      where
        -- what is known of the stores of the first and the last flusher is known of these two
        at_ends : (P : StoreView Global D → StoreView Global D → Type 0) → P first.store last.store → P opened store
        at_ends P h = subst (λ t. P opened t) (sym store_is) (subst (λ s. P s last.store) begun.store h)

use Rattle.std.proofs.Common.{List, length, refl, sym, subst, arith}
use Rattle.std.specs.contracts.alloc.Global as Heap
use Rattle.std.specs.contracts.impls.GlobalAllocator.TheImpl.{ghosts}
use Rattle.base.proofs.Lists.{zip_length}
use Rattle.centre_core.specs.contracts.command.Command as command
use Rattle.recovery.specs.Lives.{view_of as store_view}
use Rattle.recovery.proofs.Determined.{stored_by}
use Rattle.flusher.specs.Closed.{AreSessionsOf}
use Rattle.flusher.specs.Opened.{IsNewFlusher}
use Rattle.flusher.specs.Runs.{HasSameEnds, HasTakenEnds}
use Rattle.flusher.specs.Served.{IsSettled}
use Rattle.flusher.specs.View.{view_of_flusher}
use Rattle.flusher.specs.declared.session.Ended.{Ended}
use Rattle.stations.specs.Flushed.{HasFlushed}
use Rattle.stations.proofs.Served.{has_served, sessions_ended}
use Rattle.stations.proofs.many_stations.serve_opened.Goals as goal

pub jobs_of-jobs-requires-clause-count : goal.jobs_of-jobs-requires-clause-count
jobs_of-jobs-requires-clause-count g c = omega (arith, c.requires.sessions.count, c.requires.flusher.count, c.args.ports.ok.0)

pub jobs_of-jobs-requires-clause-room : goal.jobs_of-jobs-requires-clause-room
jobs_of-jobs-requires-clause-room g c = omega (arith, c.requires.sessions.count, c.requires.flusher.count, c.args.opened.1.ok.0, c.requires.room, c.args.room.room.0)

pub serve_all-held-requires-clause-room : goal.serve_all-held-requires-clause-room
serve_all-held-requires-clause-room g c =
    omega (
      arith,
      c.jobs_of-jobs.ensures.count,
      c.requires.sessions.count,
      c.requires.flusher.count,
      c.args.opened.1.ok.0,
      c.requires.room,
      c.args.room.threads_room,
    )

pub split_done-ended-requires-clause-room : goal.split_done-ended-requires-clause-room
split_done-ended-requires-clause-room g c =
    let count = zip_length _ c.jobs_of-jobs.result.items c.serve_all-held.result.1.items c.serve_all-held.ensures.done in (
      omega (
        arith,
        count,
        c.jobs_of-jobs.ensures.count,
        c.jobs_of-jobs.result.ok.0,
        c.serve_all-held.result.1.ok.0,
        c.requires.sessions.count,
        c.requires.flusher.count,
        c.args.opened.1.ok.0,
        c.requires.room,
        c.args.room.room.1,
      ),
      omega (
        arith,
        count,
        c.jobs_of-jobs.ensures.count,
        c.jobs_of-jobs.result.ok.0,
        c.serve_all-held.result.1.ok.0,
        c.requires.sessions.count,
        c.requires.flusher.count,
        c.args.opened.1.ok.0,
        c.requires.room,
        c.args.room.room.2,
      ),
    )

pub store_of-store-requires-clause-settled : goal.store_of-store-requires-clause-settled
store_of-store-requires-clause-settled g c = subst (λ f. IsSettled g.J.Centre.base (view_of_flusher f)) (sym c.into_flusher.ensures) c.serve_all-held.ensures.flushed.settled

pub store_of-store-requires-clause-ended : goal.store_of-store-requires-clause-ended
store_of-store-requires-clause-ended g c = subst (λ f. HasTakenEnds (view_of_flusher f)) (sym c.into_flusher.ensures) c.serve_all-held.ensures.flushed.ended

pub store_of-store-requires-clause-sessions : goal.store_of-store-requires-clause-sessions
store_of-store-requires-clause-sessions g c =
    let first = view_of_flusher c.args.opened.0 in
    let last = view_of_flusher c.into_flusher.result in
    let same = subst (λ f. HasSameEnds first (view_of_flusher f)) (sym c.into_flusher.ensures) c.serve_all-held.ensures.flushed.same in
    subst (λ (l : List (Ended g.row.J.Denot)). AreSessionsOf last l) (sym c.split_done-ended.ensures.ended)
    (sessions_ended g.J.Centre.base g.I.Read.remaining g.O.Write.contents first last c.args.opened.1.items c.args.ports.items c.jobs_of-jobs.result.items
    c.serve_all-held.result.1.items c.jobs_of-jobs.ensures.sessions c.jobs_of-jobs.ensures.ports c.requires.sessions c.serve_all-held.ensures.done
    c.args.terms.orders c.jobs_of-jobs.ensures.orders c.args.terms.turns c.jobs_of-jobs.ensures.turns same)

pub returns : goal.returns
returns g c =
    let first = view_of_flusher c.args.opened.0 in
    let last = view_of_flusher c.into_flusher.result in
    has_served g.J.Centre.base g.I.Read.remaining g.O.Write.contents first last c.args.opened.1.items c.args.ports.items c.jobs_of-jobs.result.items
    c.serve_all-held.result.1.items c.jobs_of-jobs.ensures.sessions c.jobs_of-jobs.ensures.ports c.requires.sessions c.serve_all-held.ensures.done
    c.args.terms.orders c.jobs_of-jobs.ensures.orders c.args.terms.turns c.jobs_of-jobs.ensures.turns
    g.D.Disk.view first.store (store_view c.store_of-store.result) (length c.args.ports.items) c.requires.sound
    (stored_by (command.the_row Heap.the_row ghosts).coded g.met.D.Disk.sound c.args.opened.0.committer.store) refl
    (subst (λ n. IsNewFlusher n first.store first) c.args.ports.ok.0 c.requires.flusher)
    (subst (λ f. HasFlushed g.D.Disk.view g.J.Centre.base first (view_of_flusher f)) (sym c.into_flusher.ensures) c.serve_all-held.ensures.flushed)
    c.store_of-store.ensures.store c.split_done-ended.result.0.items c.split_done-ended.result.1.items c.split_done-ended.ensures.ended c.split_done-ended.ensures.runs c.store_of-store.ensures.closed

use Rattle.std.proofs.Common.{List, true≢false, refl, sym, ◌∙◌, subst}
use Rattle.std.specs.Prelude.{All}
use Rattle.std.specs.declared.alloc.Global.{Global}
use mathlib.Core.List.{IsPrefix}
use Rattle.centre_core.specs.Asked.{Asked}
use Rattle.station_queue.specs.Ends.{Taking}
use Rattle.station_queue.specs.Order.{AreAllSent}
use Rattle.flusher.specs.View.{view_of_flusher}
use Rattle.flusher.specs.declared.session.Ended.{Ended}
use Rattle.flusher.proofs.Closed.{all_closed, of_the_channels, of_the_queue}
use Rattle.flusher.proofs.Runs.{ends_are_taken, flags_are_set}
use Rattle.flusher.proofs.closing.close.Goals as goal

pub returns-then-not-has_ended-clause-refused : goal.returns-then-not-has_ended-clause-refused
returns-then-not-has_ended-clause-refused g c =
    let f = c.args.flusher in
    (refl, refl, λ has. true≢false (sym (c.has_ended.ensures.1 (flags_are_set (view_of_flusher f) f.stations f.flags c.requires.settled.ended has)) ∙ c.if-not-has_ended.true))

pub settle_each-requires-clause-queue : goal.settle_each-requires-clause-queue
settle_each-requires-clause-queue g c = of_the_queue (view_of_flusher c.args.flusher) c.args.ended.items c.requires.sessions

pub settle_each-requires-clause-channels : goal.settle_each-requires-clause-channels
settle_each-requires-clause-channels g c = of_the_channels (view_of_flusher c.args.flusher) c.args.ended.items c.requires.sessions

pub returns-clause-store : goal.returns-clause-store
returns-clause-store g c = refl

pub returns-clause-closed : goal.returns-clause-closed
returns-clause-closed g c =
    let f = c.args.flusher in
    let total = c.total.ensures.total in
    let has = ends_are_taken (view_of_flusher f) f.stations f.flags c.requires.settled.ended (c.has_ended.ensures.0 c.if-not-has_ended.false) in
    let sent = subst (λ (t : Taking). AreAllSent t.taken total.0 t.settled) c.settle_each.ensures.settled total.1 in
    let seen = subst (λ (q : List (Ended g.row.J.Denot) × List (Asked Global)). All (λ (e : Ended g.row.J.Denot). IsPrefix e.viewer q.1) q.0)
    (λ j. (c.deref.ensures.value j, c.published.ensures j)) c.wait_within_each-2.ensures in
    all_closed (view_of_flusher f) c.args.ended.items c.requires.sessions g.J.Centre.base f.taker.settled total.0 c.requires.settled has sent c.settle_each.ensures.received seen

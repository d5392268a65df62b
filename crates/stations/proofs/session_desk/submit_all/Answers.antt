use Rattle.std.proofs.Common.{◌≡◌, true, List, sym, subst, arith}
use Rattle.std.specs.Prelude.{All, Result}
use Rattle.std.specs.declared.alloc.Global.{Global}
use Rattle.registration.specs.Numbers.{Station}
use Rattle.centre_core.specs.Asked.{Asked}
use Rattle.centre_core.specs.declared.reply.Reply.{Reply}
use Rattle.desk.specs.declared.outage.Outage.{Outage}
use Rattle.desk.specs.Rules.{AreApplied}
use Rattle.flusher.specs.Sessions.{view_of_session}
use Rattle.stations.specs.OfSession.{at_session, of_session}
use Rattle.stations.specs.Orders.{is_allowed}
use Rattle.stations.proofs.Submissions.{applied_together, as_many}
use Rattle.stations.proofs.session_desk.submit_all.Goals as goal

pub returns-clause-applies : goal.returns-clause-applies
returns-clause-applies g c =
    let base = g.J.Centre.base in
    let J = g.row.J.Denot in
    let old = c.args.session.now in
    let new = c.submit_all.new.self in
    let of = subst (λ n. All (λ (command : Asked Global). (command.station ≡ n) × (is_allowed c.args.means.now.orders command ≡ true))
    c.args.commands.now) c.station.ensures c.in-Some.ensures.station in
    let same : old.sender.station ≡ new.sender.station = sym c.submit_all.ensures.same.station in
    let done = applied_together J base c.args.means.now.orders old.sender.station c.args.commands.now (view_of_session old) (view_of_session new) c.submit_all.new.answers.items of c.submit_all.ensures.submitted in
    subst (λ (q : Station × List (Result (Reply Global) Outage)).
    AreApplied (of_session J base c.args.means.now.orders) (at_session old) c.args.commands.now q.1
    (record { station = q.0; view = view_of_session new })) (λ i. (same i, sym c.put_results.ensures.added i)) done

pub put_results-requires-clause-room : goal.put_results-requires-clause-room
put_results-requires-clause-room g c =
    let many = as_many g.J.Centre.base c.args.commands.now (view_of_session c.args.session.now) (view_of_session c.submit_all.new.self) c.submit_all.new.answers.items c.submit_all.ensures.submitted in
    omega (arith, many, c.clear.ensures.capacity, c.requires.room)

pub returns-clause-session : goal.returns-clause-session
returns-clause-session g c = record { same = c.submit_all.ensures.same; seen = c.submit_all.ensures.seen }

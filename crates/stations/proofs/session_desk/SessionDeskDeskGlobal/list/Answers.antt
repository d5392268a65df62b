use Rattle.std.proofs.Common.{subst, IfErr, OnOk, vec_capacity, vec_len}
use Rattle.desk.specs.Listed.{IsListed, IsUnlisted}
use Rattle.flusher.specs.declared.session.Session.{Session}
use Rattle.stations.specs.OfSession.{at_session, of_session}
use Rattle.stations.proofs.Ordered.{goes_on_reading}
use Rattle.stations.proofs.session_desk.SessionDeskDeskGlobal.list.Goals as goal

pub returns-clause-listed : goal.returns-clause-listed
returns-clause-listed g c =
    subst (λ (s : Session g.row.J.Denot). OnOk c.list-listed.result (IsListed (of_session g.row.J.Denot g.J.Centre.base g.K.Began.may_order) (at_session s)
    c.args.listing.now c.args.out.now.items c.list-listed.new.out.items (at_session c.list-listed.new.session))) c.self.view_is c.list-listed.ensures.listed

pub returns-clause-unlisted : goal.returns-clause-unlisted
returns-clause-unlisted g c =
    subst (λ (s : Session g.row.J.Denot). IfErr c.list-listed.result (λ word. IsUnlisted (of_session g.row.J.Denot g.J.Centre.base g.K.Began.may_order) (at_session s)
    c.args.listing.now (vec_len c.args.out.now) (vec_capacity c.args.out.now) word (at_session c.list-listed.new.session))) c.self.view_is c.list-listed.ensures.unlisted

pub returns-clause-unchanged : goal.returns-clause-unchanged
returns-clause-unchanged g c = c.list-listed.ensures.kept

pub returns-clause-capacity : goal.returns-clause-capacity
returns-clause-capacity g c = c.list-listed.ensures.capacity

pub invariant_of-self : goal.invariant_of-self
invariant_of-self g c =
    let listed = c.list-listed in
    (goes_on_reading g.K.Began.may_order g.K.Began.began c.self.inside.session listed.new.session c.self.invariant.0 listed.ensures.session, c.self.invariant.1)

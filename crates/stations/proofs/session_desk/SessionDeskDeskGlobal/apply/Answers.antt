use Rattle.std.proofs.Common.{Bool, subst}
use Rattle.stations.specs.OfSession.{Applies, at_session}
use Rattle.stations.proofs.Ordered.{applied_submits, goes_on}
use Rattle.stations.proofs.session_desk.SessionDeskDeskGlobal.apply.Goals as goal

pub invariant_of-self : goal.invariant_of-self
invariant_of-self g c =
    let J = g.row.J.Denot in
    let base = g.J.Centre.base in
    let may_order = g.K.Began.may_order in
    let old = c.self.inside.session in
    let new = c.submit-replied.new.session in
    let applied = subst (λ (o : Bool). Applies J base o (at_session old) c.args.command.now c.submit-replied.result (at_session new)) c.self.invariant.1 c.submit-replied.ensures.applies in (
      goes_on may_order g.K.Began.began old new c.self.invariant.0 c.submit-replied.ensures.session.same c.submit-replied.ensures.session.seen
          (applied_submits may_order J base (at_session old) (at_session new) c.args.command.now c.submit-replied.result applied),
      c.self.invariant.1,
    )

use Rattle.std.proofs.Common.{Bool, subst}
use Rattle.desk.specs.Rules.{AreApplied}
use Rattle.stations.specs.OfSession.{at_session, of_session}
use Rattle.stations.proofs.Ordered.{all_submit, goes_on}
use Rattle.stations.proofs.session_desk.SessionDeskDeskGlobal.apply_all.Goals as goal

pub invariant_of-self : goal.invariant_of-self
invariant_of-self g c =
    let J = g.row.J.Denot in
    let base = g.J.Centre.base in
    let may_order = g.K.Began.may_order in
    let old = c.self.inside.session in
    let new = c.submit_all.new.session in
    let applied = subst (λ (o : Bool). AreApplied (of_session J base o) (at_session old) c.args.commands.now c.submit_all.new.replies.items
    (at_session new)) c.self.invariant.1 c.submit_all.ensures.applies in (
      goes_on may_order g.K.Began.began old new c.self.invariant.0 c.submit_all.ensures.session.same c.submit_all.ensures.session.seen
          (all_submit may_order J base (at_session old) (at_session new) c.args.commands.now c.submit_all.new.replies.items applied),
      c.self.invariant.1,
    )

use Rattle.stations.proofs.Ordered.{goes_on_reading}
use Rattle.stations.proofs.session_desk.SessionDeskDeskGlobal.query.Goals as goal

pub invariant_of-self : goal.invariant_of-self
invariant_of-self g c =
    let read = c.read-query_answer in
    (goes_on_reading g.K.Began.may_order g.K.Began.began c.self.inside.session read.new.session c.self.invariant.0 read.ensures.session, c.self.invariant.1)

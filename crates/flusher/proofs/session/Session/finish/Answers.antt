use Rattle.std.proofs.Common.{◌≡◌, true, sym, subst}
use Rattle.flusher.specs.Submitted.{is_ended}
use Rattle.flusher.proofs.Submitting.{then_ended}
use Rattle.flusher.proofs.session.Session.finish.Goals as goal

pub invariant_of-result : goal.invariant_of-result
invariant_of-result g c = record {
  ended = subst (λ l. is_ended l ≡ true) (sym c.send.ensures.sent) (then_ended c.args.self.sender.sent c.station-station.result c.args.self.submitted);
}

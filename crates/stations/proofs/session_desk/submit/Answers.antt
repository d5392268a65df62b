use Rattle.std.proofs.Common.{rules, ◌≡◌, ◌∙◌, true, inl, subst}
use Rattle.centre_core.proofs.SameLaws.{under_own}
use Rattle.flusher.specs.Sessions.{view_of_session}
use Rattle.flusher.specs.Submitted.{IsSubmission}
use Rattle.stations.specs.Orders.{is_allowed}
use Rattle.stations.proofs.session_desk.submit.Goals as goal

pub returns-in-Ok-clause-applies : goal.returns-in-Ok-clause-applies
returns-in-Ok-clause-applies g c =
    let own : c.in-Ok.own ≡ c.args.command.now = c.in-Ok.ensures.ok ∙ under_own c.args.command.now in
    let same : c.args.command.now.station ≡ c.args.session.now.sender.station = search rules in
    let allowed : is_allowed c.args.means.now.orders c.args.command.now ≡ true = search rules in (
      c.submit.ensures.same.station,
      inl (
        same,
        allowed,
        record {
          answer = c.submit.result;
          result_is = c.result_of.ensures;
          submission = subst (λ d. IsSubmission g.J.Centre.base d (view_of_session c.args.session.now) (view_of_session c.submit.new.self) c.submit.result) own c.submit.ensures.submitted;
        },
      ),
    )

pub returns-in-Ok-clause-session : goal.returns-in-Ok-clause-session
returns-in-Ok-clause-session g c = record { same = c.submit.ensures.same; seen = c.submit.ensures.seen }

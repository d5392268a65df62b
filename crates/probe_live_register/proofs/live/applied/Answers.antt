use Rattle.std.proofs.Common.{rules, ◌≡◌, ap, ◌∙◌}
use Rattle.std.specs.Arc.{arc_value}
use Rattle.centre_core.specs.History.{next}
use Rattle.probe_live_register.proofs.Judged.{after_accepted}
use Rattle.probe_live_register.proofs.live.applied.Goals as goal

pub returns : goal.returns
returns g c done =
    let d : c.deref.result.now ≡ arc_value c.args.command = search rules in
    after_accepted g.J.Centre.base c.args.register.now c.judge.new.register c.args.publisher.now.appended c.appended.new.publisher.appended (arc_value c.args.command) c.requires
    (c.in-Some.ensures.accepted.1 ∙ ap (λ k. next c.args.register.now k) d) (c.appended.ensures done)

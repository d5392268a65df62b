use Rattle.std.proofs.Common.{rules, ◌≡◌, ◌∙◌}
use Rattle.centre_core.proofs.StationLaws.{found_at}
use Rattle.centre_core.proofs.StepLaws.{again_step}
use Rattle.centre_core.proofs.tables.Tables.settled.Goals as goal

pub returns-then-eq-clause-ok : goal.returns-then-eq-clause-ok
returns-then-eq-clause-ok g c =
    let found = found_at c.args.self.now c.args.command.now.station c.index.result.now (search rules) (search rules) (search rules) in
    again_step c.args.self.now c.args.command.now c.in-Some.last c.in_ok-kept_reply.field-0 (search rules) (found ∙ c.in-Some.is) (search rules)
    c.in_ok-kept_reply.ensures.ok

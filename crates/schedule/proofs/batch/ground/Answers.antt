use Rattle.std.specs.Prelude.{◌≡◌, IfOk}
use Rattle.std.proofs.Common.{subst}
use Rattle.centre_core.specs.State.{empty}
use Rattle.schedule.proofs.Limits.{greatest_made}
use Rattle.schedule.proofs.batch.ground.Goals as goal

pub returns : goal.returns
returns g c = subst (λ l. IfOk c.new.result (λ register. register ≡ empty l)) (greatest_made _) c.new.ensures

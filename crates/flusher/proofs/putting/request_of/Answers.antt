use Rattle.std.proofs.Common.{◌≡◌, ◌∙◌, subst}
use Rattle.std.specs.Arc.{arc_value}
use Rattle.std.specs.Prelude.{IfSome}
use Rattle.centre_core.proofs.SameLaws.{under_own}
use Rattle.flusher.proofs.putting.request_of.Goals as goal

pub returns : goal.returns
returns c =
    subst (λ d. IfSome c.request_in.result (λ r. arc_value r.command ≡ d)) (c.in-Ok.ensures.ok ∙ under_own c.args.command.now) c.request_in.ensures

use Rattle.std.proofs.Common.{◌∙◌}
use Rattle.registration.proofs.ByNumber.{found_in}
use Rattle.registration.proofs.radios.Radios.find.Goals as goal

pub returns : goal.returns
returns g c = c.copied.ensures ∙ c.get.ensures.value ∙ found_in _ _ _ _ c.self.view_is c.self.invariant c.number.ensures.value c.number.ensures.below

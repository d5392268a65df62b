use Rattle.std.proofs.Common.{ap, ◌∙◌}
use mathlib.Core.Bool.{false≢true}
use Rattle.std.specs.Option.{option_map}
use Rattle.identity.specs.Path.{id_path}
use Rattle.registration.proofs.ByNumber.{last_there, small_last, no_last}
use Rattle.registration.proofs.radios.Radios.last.Goals as goal

pub returns-in_err-number : goal.returns-in_err-number
returns-in_err-number g c =
    ap (option_map id_path) c.from_residual.ensures
    ∙ no_last c.self.inside.by_number.entries _ c.self.view_is c.self.invariant (λ some. false≢true (c.in_err-number.ensures.variant.1 some))

pub itsi_of-requires : goal.itsi_of-requires
itsi_of-requires g c = small_last c.self.inside.by_number.entries _ _ c.self.invariant c.in_ok-number.ensures.last

pub returns : goal.returns
returns g c = last_there _ _ _ _ _ c.self.view_is c.self.invariant c.in_ok-number.ensures.last c.itsi_of.ensures

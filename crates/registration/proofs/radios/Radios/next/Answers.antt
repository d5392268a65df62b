use Rattle.std.specs.Option.{option_map}
use Rattle.registration.specs.Listed.{under_its_bits}
use Rattle.std.proofs.Common.{sym, ap, ◌∙◌}
use Rattle.registration.proofs.ByNumber.{next_there, no_next, small_there}
use Rattle.registration.proofs.radios.Radios.next.Goals as goal

pub returns-in_err-number : goal.returns-in_err-number
returns-in_err-number g c =
    ap (option_map under_its_bits) c.from_residual.ensures
    ∙ no_next _ _ _ _ c.self.view_is c.self.invariant c.first_past.ensures.value c.first_past.ensures.below (sym (c.range.ensures.between tt) ∙ c.in_err-number.ensures.steps.0)

pub itsi_of-requires : goal.itsi_of-requires
itsi_of-requires g c = small_there _ _ c.first_past.result _ _ c.self.invariant (sym (c.range.ensures.between tt) ∙ c.in_ok-number.ensures.steps)

pub returns : goal.returns
returns g c = next_there _ _ _ _ _ _ _ _ c.self.view_is c.self.invariant c.first_past.ensures.value c.first_past.ensures.below
    (sym (c.range.ensures.between tt) ∙ c.in_ok-number.ensures.steps) c.itsi_of.ensures

use Rattle.std.proofs.Common.{◌∙◌}
use Rattle.registration.proofs.ByNumber.{begun, one_more, rest_small, all_listed}
use Rattle.registration.proofs.radios.Radios.entries.Goals as goal

pub loop-number-init : goal.loop-number-init
loop-number-init g c =
    begun c.self.inside.by_number.entries _ _ _ c.self.view_is c.self.invariant (c.into_iter-number-iterator.ensures.into_iter_gives ∙ c.iter-number-items.ensures.rest) c.in_ok-list.ensures.items

pub itsi_of-requires : goal.itsi_of-requires
itsi_of-requires g c = (rest_small _ _ _ _ c.in-Some.ensures.steps c.loop-number.invariant.1).0

pub loop-number-preserved : goal.loop-number-preserved
loop-number-preserved g c =
    (one_more _ _ _ _ _ _ _ _ c.in_ok-push.ensures.items c.itsi_of.ensures c.in-Some.ensures.steps c.loop-number.invariant.0, (rest_small _ _ _ _ c.in-Some.ensures.steps c.loop-number.invariant.1).1)

pub returns : goal.returns
returns g c = all_listed _ _ _ c.in-None.ensures.steps.0 c.loop-number.invariant.0

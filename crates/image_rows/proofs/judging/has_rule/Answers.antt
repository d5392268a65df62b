use Rattle.std.proofs.Common.{◌∙◌}
use Rattle.image_rows.proofs.Last.{rule_there, rule_not_there}
use Rattle.image_rows.proofs.judging.has_rule.Goals as goal

pub returns-in-Some : goal.returns-in-Some
returns-in-Some g c = c.same.ensures.test ∙ rule_there c.args.registry.now.rules c.args.prefix.now c.bits.result _ c.requires c.bits.ensures.bits c.in-Some.ensures

pub returns-in-None : goal.returns-in-None
returns-in-None g c = rule_not_there c.args.registry.now.rules c.args.prefix.now c.bits.result c.bits.ensures.bits c.in-None.ensures

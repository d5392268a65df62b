use Rattle.centre_core.proofs.EffectLaws.{rule_cleared_state}
use Rattle.centre_core.proofs.tables.Tables.clear_rule.Goals as goal

pub invariant_of-self : goal.invariant_of-self
invariant_of-self g c =
    rule_cleared_state (record {
      registered = c.self.inside.registry;
      groups = c.self.inside.groups;
      mail = c.self.inside.mail;
      served =
          c.self.inside.served.items;
      count = c.self.inside.count;
    }) _ c.args.prefix.now c.clear_rule.ensures.gone c.self.invariant

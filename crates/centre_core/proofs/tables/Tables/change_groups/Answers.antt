use Rattle.centre_core.proofs.EffectLaws.{groups_changed_state}
use Rattle.centre_core.proofs.tables.Tables.change_groups.Goals as goal

pub invariant_of-self-2 : goal.invariant_of-self-2
invariant_of-self-2 g c =
    groups_changed_state (record {
      registered = c.self.inside.registry;
      groups = c.self.inside.groups;
      mail = c.self.inside.mail;
      served =
          c.self.inside.served.items;
      count = c.self.inside.count;
    }) _ c.args.itsi c.args.mode c.args.items.now c.in-Ok.ensures.ok.0
    c.in-Ok.ensures.ok.1 c.self.invariant

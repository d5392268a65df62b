use Rattle.centre_core.proofs.EffectLaws.{radio_detached_state}
use Rattle.centre_core.proofs.tables.Tables.detach.Goals as goal

pub invariant_of-self-2 : goal.invariant_of-self-2
invariant_of-self-2 g c =
    radio_detached_state (record {
      registered = c.self.inside.registry;
      groups = c.self.inside.groups;
      mail = c.self.inside.mail;
      served =
          c.self.inside.served.items;
      count = c.self.inside.count;
    }) _ c.args.itsi c.in_default.ensures.ok.1 c.self.invariant

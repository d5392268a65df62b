use Rattle.mailbox.specs.declared.key.Kind.TheVariants.{Report}
use Rattle.mailbox.specs.Item.{answered, is_at}
use Rattle.centre_core.proofs.MailEffects.{removal_state}
use Rattle.centre_core.proofs.tables.Tables.acknowledge.Goals as goal

pub invariant_of-self-2 : goal.invariant_of-self-2
invariant_of-self-2 g c =
    removal_state (record {
      registered = c.self.inside.registry;
      groups = c.self.inside.groups;
      mail = c.self.inside.mail;
      served =
          c.self.inside.served.items;
      count = c.self.inside.count;
    }) (is_at (answered c.args.envelope.now Report)) _ c.in_default.ensures.ok.1
    c.self.invariant

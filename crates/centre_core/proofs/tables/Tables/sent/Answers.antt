use Rattle.mailbox.specs.Item.{is_confirmed}
use Rattle.centre_core.proofs.MailEffects.{removal_state}
use Rattle.centre_core.proofs.tables.Tables.sent.Goals as goal

pub invariant_of-self-2 : goal.invariant_of-self-2
invariant_of-self-2 g c =
    removal_state (record {
      registered = c.self.inside.registry;
      groups = c.self.inside.groups;
      mail = c.self.inside.mail;
      served =
          c.self.inside.served.items;
      count = c.self.inside.count;
    }) (is_confirmed c.args.key.now) _ c.in_default.ensures.ok.1 c.self.invariant

use Rattle.mailbox.specs.Item.{is_expired}
use Rattle.centre_core.proofs.MailEffects.{removal_state}
use Rattle.centre_core.proofs.tables.Tables.expire.Goals as goal

pub invariant_of-self : goal.invariant_of-self
invariant_of-self g c =
    removal_state (record {
      registered = c.self.inside.registry;
      groups = c.self.inside.groups;
      mail = c.self.inside.mail;
      served =
          c.self.inside.served.items;
      count = c.self.inside.count;
    }) (is_expired c.command.inside.moment) _ c.expire.ensures c.self.invariant

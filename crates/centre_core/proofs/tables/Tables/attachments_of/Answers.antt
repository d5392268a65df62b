use Rattle.centre_core.proofs.tables.Tables.attachments_of.Goals as goal

pub returns : goal.returns
returns g c = rw (← c.self.view_is) c.groups_of.ensures

use Rattle.recovery.proofs.Lived.{life_holds, life_lasts, none_lost}
use Rattle.recovery.proofs.lives.lasts.Goals as goal

pub returns-clause-on_disk : goal.returns-clause-on_disk
returns-clause-on_disk g c limits = life_lasts g.D.Disk.view g.met.D.Disk.sound limits

pub returns-clause-in_store : goal.returns-clause-in_store
returns-clause-in_store g c limits = life_holds g.D.Disk.view g.met.D.Disk.sound limits

pub returns-clause-messages : goal.returns-clause-messages
returns-clause-messages g c = none_lost

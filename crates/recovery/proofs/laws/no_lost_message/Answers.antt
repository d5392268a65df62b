use Rattle.recovery.proofs.Lasting.{none_lost_made_on_disk, none_lost_on_disk}
use Rattle.recovery.proofs.laws.no_lost_message.Goals as goal

pub returns-clause-waiting : goal.returns-clause-waiting
returns-clause-waiting g c = none_lost_on_disk

pub returns-clause-made : goal.returns-clause-made
returns-clause-made g c = none_lost_made_on_disk

use Rattle.settings.specs.Naming.{texts}
use Rattle.settings.proofs.Names.{from_the_first}
use Rattle.settings.proofs.naming.first_twice.Goals as goal

pub loop-index-init : goal.loop-index-init
loop-index-init c = from_the_first (texts c.args.names.now)

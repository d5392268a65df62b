use Rattle.centre_core.specs.contracts.command.Command as command
use Rattle.recovery.proofs.Determined.{stored_by}
use Rattle.recovery.proofs.lives.stores.Goals as goal

pub returns : goal.returns
returns g c = stored_by (command.the_row g.row.A g.A.Allocator).coded g.met.D.Disk.sound c.args._store.now

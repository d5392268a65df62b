use Rattle.recovery.specs.Lives.{closes, view_of}
use Rattle.recovery.proofs.store.Store.into_disk.Goals as goal

pub returns-clause-call : goal.returns-clause-call
returns-clause-call g c = closes (view_of c.args.self)

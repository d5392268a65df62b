use Rattle.console.proofs.Stored.{broken_after}
use Rattle.console.proofs.laws.broken_after_device.Goals as goal

pub returns : goal.returns
returns g c = broken_after

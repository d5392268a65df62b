use Rattle.console.proofs.Stored.{at_device}
use Rattle.console.proofs.laws.register_at_device.Goals as goal

pub returns : goal.returns
returns g c = at_device

use Rattle.gated_journal.proofs.Began.{reads_so}
use Rattle.gated_journal.proofs.laws.reads_as_held.Goals as goal

pub returns : goal.returns
returns g c disk place before entries honest settled = reads_so (g.D.Disk.view disk) place before entries (g.met.D.Disk.sound disk honest) settled

use Rattle.gated_journal.proofs.Began.{was_read}
use Rattle.gated_journal.proofs.laws.replayed.Goals as goal

pub returns : goal.returns
returns g c disk place before entries begins within counts durable reads = was_read (g.D.Disk.view disk) place before entries begins within counts durable reads

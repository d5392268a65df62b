use Rattle.gated_journal.proofs.Began.{begun}
use Rattle.gated_journal.proofs.laws.begun.Goals as goal

pub returns : goal.returns
returns g c disk first end before form lt closed = begun (g.D.Disk.view disk) first end before form lt closed

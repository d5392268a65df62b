use Rattle.stations.proofs.RunLived.{run_lived}
use Rattle.stations.proofs.lives.run_lives.Goals as goal

pub returns : goal.returns
returns g c orders turns = run_lived g.D.Disk.view g.met.D.Disk.sound g.row.J.Denot g.J.Centre.base orders turns g.I.Read.remaining g.O.Write.contents

use Rattle.sds_tl.proofs.Written.{room_to_write}
use Rattle.sds_tl.proofs.laws.written_again.Goals as goal

pub returns : goal.returns
returns g c = room_to_write g.row.A.Denot

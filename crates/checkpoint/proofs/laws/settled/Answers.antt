use Rattle.sector_disk.proofs.Moments.{only_image}
use Rattle.checkpoint.proofs.laws.settled.Goals as goal

pub returns : goal.returns
returns g c disk image clear is = only_image (g.D.Disk.view disk) clear image is

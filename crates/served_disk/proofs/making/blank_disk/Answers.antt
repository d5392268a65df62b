use Rattle.std.proofs.Common.{Err, ap}
use Rattle.served_disk.proofs.Reasons.{of_created}
use Rattle.served_disk.proofs.making.blank_disk.Goals as goal

pub returns-in-Err-clause-kinds : goal.returns-in-Err-clause-kinds
returns-in-Err-clause-kinds g c = of_created c.in-Err.fault c.args.name.now c.of_file.result.fault c.of_file.ensures.fault (λ is. c.in-Err.ensures.kind (ap (λ e. Err e) is))

use Rattle.bench_registers.proofs.Rebuilt.{borrowed_own, borrowed_in_order}
use Rattle.bench_registers.proofs.building.borrowed_can_be_restored.Goals as goal

pub returns-clause-own : goal.returns-clause-own
returns-clause-own c = borrowed_own c.args.groups.now c.args.itsi

pub returns-clause-in_order : goal.returns-clause-in_order
returns-clause-in_order c = borrowed_in_order c.args.groups.now c.args.itsi

use Rattle.checkpoint.proofs.Added.{is_settled, on_side_with}
use Rattle.checkpoint.proofs.laws.records_added.Goals as goal

pub returns-clause-before : goal.returns-clause-before
returns-clause-before g c disk layout side form base held each gate = is_settled layout side form base (g.D.Disk.view disk) held each gate

pub returns-clause-after : goal.returns-clause-after
returns-clause-after g c disk layout side form base held more image each torn half gate = on_side_with layout side form base held more torn.0 image (each torn.0 torn.1) torn.2 half gate

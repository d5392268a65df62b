use Rattle.sds_tl.proofs.Spelling.{value_takes, no_fault}
use Rattle.sds_tl.proofs.laws.spelt_without_fault.Goals as goal

pub returns-clause-spelt : goal.returns-clause-spelt
returns-clause-spelt g c = value_takes g.row.A.Denot

pub returns-clause-no_fault : goal.returns-clause-no_fault
returns-clause-no_fault g c = no_fault g.row.A.Denot

use Rattle.sds_tl.proofs.Faults.{fault_of_bits, reading_of_bits, heading_of_bits, clearing_of_bits, writing_of_length}
use Rattle.sds_tl.proofs.laws.faults_of_bits.Goals as goal

pub returns-clause-fault : goal.returns-clause-fault
returns-clause-fault g c = fault_of_bits

pub returns-clause-read : goal.returns-clause-read
returns-clause-read g c = reading_of_bits g.row.A.Denot

pub returns-clause-headed : goal.returns-clause-headed
returns-clause-headed g c = heading_of_bits

pub returns-clause-cleared : goal.returns-clause-cleared
returns-clause-cleared g c = clearing_of_bits

pub returns-clause-written : goal.returns-clause-written
returns-clause-written g c = writing_of_length g.row.A.Denot

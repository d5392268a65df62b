use Rattle.mm_pdus.proofs.FaultLaws.{up_of_bits, down_of_bits}
use Rattle.mm_pdus.proofs.laws.faults_of_bits.Goals as goal

pub returns-clause-up : goal.returns-clause-up
returns-clause-up g c = up_of_bits

pub returns-clause-down : goal.returns-clause-down
returns-clause-down g c = down_of_bits

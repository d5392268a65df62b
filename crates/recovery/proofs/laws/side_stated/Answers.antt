use Rattle.recovery.proofs.Sided.{side_found}
use Rattle.recovery.proofs.Faults.{equal_epochs, first_lost, none_open, second_lost}
use Rattle.recovery.proofs.laws.side_stated.Goals as goal

pub returns-clause-current : goal.returns-clause-current
returns-clause-current c = side_found

pub returns-clause-none : goal.returns-clause-none
returns-clause-none c = none_open

pub returns-clause-first : goal.returns-clause-first
returns-clause-first c = first_lost

pub returns-clause-second : goal.returns-clause-second
returns-clause-second c = second_lost

pub returns-clause-equal : goal.returns-clause-equal
returns-clause-equal c layout epoch image = equal_epochs layout image epoch

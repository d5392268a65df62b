use Rattle.centre_core.proofs.RangeLaws.{empty_is_in_range, next_is_in_range}
use Rattle.centre_core.proofs.laws.ranges.Goals as goal

pub returns-clause-empty : goal.returns-clause-empty
returns-clause-empty g c = empty_is_in_range

pub returns-clause-step : goal.returns-clause-step
returns-clause-step g c = next_is_in_range _

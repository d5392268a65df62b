use Rattle.centre_core.proofs.StationLaws.{accepted_are_last}
use Rattle.centre_core.proofs.HistoryLaws.{histories_are_numbered, last_accepted_are_last}
use Rattle.centre_core.proofs.laws.histories.Goals as goal

pub returns-clause-kept : goal.returns-clause-kept
returns-clause-kept g c = accepted_are_last

pub returns-clause-numbered : goal.returns-clause-numbered
returns-clause-numbered g c = histories_are_numbered

pub returns-clause-last : goal.returns-clause-last
returns-clause-last g c = last_accepted_are_last

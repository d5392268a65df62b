use Rattle.console.proofs.OwnLines.{all_marks, all_own, all_service}
use Rattle.console.proofs.Taken.{all_commands, all_queries, all_listings}
use Rattle.console.proofs.laws.all_that_is_spelled.Goals as goal

pub returns-clause-commands : goal.returns-clause-commands
returns-clause-commands g c = all_commands

pub returns-clause-queries : goal.returns-clause-queries
returns-clause-queries g c = all_queries

pub returns-clause-listings : goal.returns-clause-listings
returns-clause-listings g c = all_listings

pub returns-clause-marks : goal.returns-clause-marks
returns-clause-marks g c = all_marks _

pub returns-clause-station : goal.returns-clause-station
returns-clause-station g c = all_own _

pub returns-clause-service : goal.returns-clause-service
returns-clause-service g c = all_service _

use Rattle.console.proofs.Spelled.{only_commands, only_queries, only_listings, only_marks, only_own, only_service, nothing_forbidden}
use Rattle.console.proofs.laws.only_what_is_spelled.Goals as goal

pub returns-clause-commands : goal.returns-clause-commands
returns-clause-commands g c = only_commands _

pub returns-clause-queries : goal.returns-clause-queries
returns-clause-queries g c = only_queries _

pub returns-clause-listings : goal.returns-clause-listings
returns-clause-listings g c = only_listings _

pub returns-clause-marks : goal.returns-clause-marks
returns-clause-marks g c = only_marks _

pub returns-clause-station : goal.returns-clause-station
returns-clause-station g c = only_own _

pub returns-clause-service : goal.returns-clause-service
returns-clause-service g c = only_service _

pub returns-clause-forbidden : goal.returns-clause-forbidden
returns-clause-forbidden g c = nothing_forbidden _

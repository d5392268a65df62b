use Rattle.sds_tl.proofs.Cleared.{cleared_is_canon, cleared_spells, heading-cleared, cleared-message}
use Rattle.sds_tl.proofs.laws.cleared_again.Goals as goal

pub returns-clause-canonical : goal.returns-clause-canonical
returns-clause-canonical g c = cleared_is_canon g.row.A.Denot

pub returns-clause-spelt : goal.returns-clause-spelt
returns-clause-spelt g c = cleared_spells g.row.A.Denot

pub returns-clause-headed : goal.returns-clause-headed
returns-clause-headed g c = heading-cleared g.row.A.Denot

pub returns-clause-message : goal.returns-clause-message
returns-clause-message g c = cleared-message

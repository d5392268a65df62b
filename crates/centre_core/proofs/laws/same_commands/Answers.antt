use Rattle.centre_core.proofs.SameLaws.{same_again, names_are_same, accepts_are_same, after_is_same, fresh_is_same, histories_are_same}
use Rattle.centre_core.proofs.laws.same_commands.Goals as goal

pub returns-clause-again : goal.returns-clause-again
returns-clause-again g c = same_again g.row.B.Denot

pub returns-clause-names : goal.returns-clause-names
returns-clause-names g c = names_are_same g.row.B.Denot

pub returns-clause-accepts : goal.returns-clause-accepts
returns-clause-accepts g c = accepts_are_same g.row.B.Denot

pub returns-clause-after : goal.returns-clause-after
returns-clause-after g c = after_is_same g.row.B.Denot

pub returns-clause-fresh : goal.returns-clause-fresh
returns-clause-fresh g c = fresh_is_same g.row.B.Denot

pub returns-clause-histories : goal.returns-clause-histories
returns-clause-histories g c = histories_are_same g.row.B.Denot

use Rattle.sds_tl.proofs.Spelling as spelling
use Rattle.sds_tl.proofs.laws.one_value.Goals as goal

pub returns : goal.returns
returns g c = spelling.one_value g.row.A.Denot

use Rattle.sds_tl.proofs.Spelling.{reading_again}
use Rattle.sds_tl.proofs.Written.{writing_spells}
use Rattle.sds_tl.proofs.laws.read_back.Goals as goal

pub returns-clause-spelt : goal.returns-clause-spelt
returns-clause-spelt g c = writing_spells g.row.A.Denot

pub returns-clause-read : goal.returns-clause-read
returns-clause-read g c = λ sds bits range is. reading_again g.row.A.Denot sds bits (writing_spells g.row.A.Denot sds bits range is)

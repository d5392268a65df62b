use Rattle.sds_tl.proofs.Written.{is_spelt}
use Rattle.sds_tl.proofs.writing.write.Goals as goal

pub returns-clause-spelt : goal.returns-clause-spelt
returns-clause-spelt g c = is_spelt g.row.B.Denot c.args.sds.now c.write_sds.result c.write_sds.ensures.range c.write_sds.ensures.exact

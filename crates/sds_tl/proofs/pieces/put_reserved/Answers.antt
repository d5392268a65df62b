use Rattle.identity.specs.Inside.NumberLaws.{num-zero}
use Rattle.sds_tl.proofs.pieces.put_reserved.Goals as goal

pub returns-clause-ok : goal.returns-clause-ok
returns-clause-ok g c = rw (num-zero c.args.width) at c.put.ensures.ok

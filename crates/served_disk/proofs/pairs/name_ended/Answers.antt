use Rattle.std.proofs.Common.{rules}
use Rattle.served_disk.specs.Pairs.{AreNamesOf}
use Rattle.served_disk.proofs.Zipped.{zipped_set}
use Rattle.served_disk.proofs.pairs.name_ended.Goals as goal

pub loop-index-preserved : goal.loop-index-preserved
loop-index-preserved g c =
    let more = zipped_set AreNamesOf c.args.pairs.now c.loop-index.index c.index-pairs-index.result c.loop-index.names c.names.result
    (search rules) (search rules) (search rules) c.loop-index.invariant.1 c.names.ensures in
    (search rules, more)

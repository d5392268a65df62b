use Rattle.std.proofs.Common.{rules}
use Rattle.served_disk.specs.Pairs.{AreNamesOf}
use Rattle.served_disk.proofs.Zipped.{zipped_more}
use Rattle.served_disk.proofs.pairs.names_of.Goals as goal

pub loop-pair-preserved : goal.loop-pair-preserved
loop-pair-preserved g c =
    let more = zipped_more AreNamesOf c.args.pairs.now c.loop-pair.pair-index c.pair-item.result c.loop-pair.names.items _ c.names.result
    (search rules) (search rules) c.loop-pair.invariant.2 c.names.ensures c.push_reserved.ensures.items in
    (search rules, search rules, more)

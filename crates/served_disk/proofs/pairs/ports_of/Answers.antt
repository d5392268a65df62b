use Rattle.std.proofs.Common.{rules}
use Rattle.served_disk.specs.Pairs.{IsPortOf}
use Rattle.served_disk.proofs.Zipped.{numbered_all, numbered_more}
use Rattle.served_disk.proofs.pairs.ports_of.Goals as goal

pub loop-index-preserved : goal.loop-index-preserved
loop-index-preserved g c =
    let more = numbered_more (IsPortOf c.args.log) c.args.pairs.now c.loop-index.index c.index-pairs-index.result c.loop-index.ports.items _ _
    (search rules) (search rules) c.loop-index.invariant.2 (search rules) c.push_reserved.ensures.items in
    (search rules, search rules, more)

pub returns-clause-ports : goal.returns-clause-ports
returns-clause-ports g c = numbered_all (IsPortOf c.args.log) c.args.pairs.now c.loop-index.index c.loop-index.ports.items (search rules) c.loop-index.invariant.2

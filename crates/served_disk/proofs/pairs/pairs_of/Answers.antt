use Rattle.std.proofs.Common.{rules}
use Rattle.served_disk.specs.Pairs.{IsPairOf}
use Rattle.served_disk.proofs.Zipped.{zipped_more}
use Rattle.served_disk.proofs.pairs.pairs_of.Goals as goal

pub loop-input-preserved : goal.loop-input-preserved
loop-input-preserved c =
    let more = zipped_more IsPairOf c.args.named.now c.loop-input.input-index _ c.loop-input.pairs.items _ c.new.result
    (search rules) (search rules) c.loop-input.invariant.2 c.new.ensures c.push_reserved.ensures.items in
    (search rules, search rules, more)

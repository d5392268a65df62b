use Rattle.prefix_tree.proofs.Numbers.{side_number}
use Rattle.prefix_tree.proofs.path.side.Goals as goal

pub returns : goal.returns
returns c = rw (c.len.ensures.value, c.len-2.ensures.value) (side_number c.args.short.now c.args.long.now _ c.number.ensures.value c.requires.shorter c.requires.within)

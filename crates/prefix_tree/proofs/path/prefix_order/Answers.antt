use Rattle.std.proofs.Common.{◌∙◌, arith}
use Rattle.prefix_tree.proofs.Order.{in_order}
use Rattle.prefix_tree.proofs.path.prefix_order.Goals as goal

pub returns : goal.returns
returns c =
    c.then.ensures
    ∙ rw (c.cmp-by_bits.ensures, c.cmp.ensures, c.len.ensures.value, c.len-2.ensures.value)
    (in_order c.args.left.now c.args.right.now _ _ c.bits.ensures.below c.bits-2.ensures.below (omega arith) (omega arith) c.bits.ensures.bits
    c.bits-2.ensures.bits)

use Rattle.console.specs.Answer.{item_text}
use Rattle.base.proofs.Results.{on_err}
use Rattle.listings.proofs.Listed.{no_room, prefix_with_more}
use Rattle.console.proofs.lists.put_items.Goals as goal

pub returns-in_err-put_item-clause-full : goal.returns-in_err-put_item-clause-full
returns-in_err-put_item-clause-full g c = on_err c.from_residual.result (no_room item_text c.args.items.now c.loop-item.item-index c.item-item.result c.loop-item-test.true c.item-item.is
    c.args.out.now.items c.loop-item.out.items _ _ _ _ c.args.out.now.ok.0 c.loop-item.out.ok.0 c.loop-item.invariant.0 c.loop-item.invariant.1 c.in_err-put_item.ensures.full)

pub returns-in_err-put_item-clause-err : goal.returns-in_err-put_item-clause-err
returns-in_err-put_item-clause-err g c =
    on_err c.from_residual.result
    (prefix_with_more c.args.out.now.items _ c.loop-item.out.items c.put_item.new.out.items c.loop-item.invariant.0 c.in_err-put_item.ensures.err)

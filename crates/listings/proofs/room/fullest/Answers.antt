use Rattle.std.proofs.Common.{◌+◌, ◌-◌, length, arith, sym, ap, ◌∙◌}
use Rattle.std.specs.Option.{option_copied}
use Rattle.listings.proofs.Fullest.{from_first, one_on}
use Rattle.listings.proofs.room.fullest.Goals as goal

pub loop-init : goal.loop-init
loop-init g c = from_first c.args.mail.now (c.len-end.result - 0) c.in_order.ensures (omega (arith, c.len-end.ensures))

pub loop-preserved : goal.loop-preserved
loop-preserved g c =
    one_on c.args.mail.now (c.len-end.result - (c.loop.counter + 1)) (c.len-end.result - c.loop.counter) (omega (arith, c.loop-test.true)) c.loop.kept c.loop.after c.loop.invariant
    c.in-Some.item.now (ap option_copied (sym c.in-Some.is) ∙ c.next.ensures) c.number.result c.number.ensures c.key-key.result c.key-key.ensures
    _ (ap length c.items_of-count.ensures.items) c.fuller-kept.result c.fuller-kept.ensures

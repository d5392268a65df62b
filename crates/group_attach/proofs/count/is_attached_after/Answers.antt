use Rattle.std.proofs.Common.{arith, ◌∙◌}
use Rattle.group_attach.specs.Applied.{at_start}
use Rattle.group_attach.specs.Inside.ListedMap.{map_of}
use Rattle.group_attach.proofs.Steps.{attached_more}
use Rattle.group_attach.proofs.count.is_attached_after.Goals as goal

pub loop-item-preserved : goal.loop-item-preserved
loop-item-preserved g c =
    c.attached_to_after-attached.ensures
    ∙ attached_more c.args.registry.now c.args.itsi c.args.gtsi (at_start (map_of c.args.entries.now) c.args.itsi c.args.mode) c.args.items.now
    c.loop-item.item-index c.item-item.result c.loop-item.attached (omega (arith, c.loop-item-test.true)) c.item-item.is c.loop-item.invariant

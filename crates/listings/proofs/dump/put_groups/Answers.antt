use Rattle.std.proofs.Common.{take}
use Rattle.std.specs.List.{flat_map}
use Rattle.base.proofs.Results.{on_err}
use Rattle.listings.specs.Dump.{group_words}
use Rattle.listings.proofs.Listed.{no_room, prefix_with_more}
use Rattle.listings.proofs.dump.put_groups.Goals as goal

pub returns-in_err-put_group-clause-err : goal.returns-in_err-put_group-clause-err
returns-in_err-put_group-clause-err g c = on_err c.from_residual.result
    (prefix_with_more c.args.out.now.items (flat_map group_words (take c.loop-group.group-index c.args.groups.now)) c.loop-group.out.items
    c.put_group.new.out.items c.loop-group.invariant.0 c.in_err-put_group.ensures.err)

pub returns-in_err-put_group-clause-full : goal.returns-in_err-put_group-clause-full
returns-in_err-put_group-clause-full g c = on_err c.from_residual.result (no_room group_words c.args.groups.now c.loop-group.group-index c.group-item.result c.loop-group-test.true c.group-item.is
    c.args.out.now.items c.loop-group.out.items _ _ _ _ c.args.out.now.ok.0 c.loop-group.out.ok.0 c.loop-group.invariant.0 c.loop-group.invariant.1 c.in_err-put_group.ensures.full)

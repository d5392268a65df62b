use Rattle.image_rows.proofs.InTurn.{begun, one_more}
use Rattle.image_rows.proofs.in_turn.rows.Goals as goal

pub loop-coming-init : goal.loop-coming-init
loop-coming-init g c = begun c.args.epoch c.args.register.now c.registers.ensures.state c.registers.ensures.ranges c.new-list.result.items
    c.row_after-coming.result c.new-list.ensures.items c.row_after-coming.ensures

pub loop-coming-preserved : goal.loop-coming-preserved
loop-coming-preserved g c =
    one_more c.args.epoch c.args.register.now c.loop-coming.list.items c.push.new.self.items c.loop-coming.coming c.in-Some.next
    c.loop-coming.invariant c.in-Some.is c.in_ok-push.ensures.items c.row_after-coming-in-Some.result c.row_after-coming-in-Some.ensures

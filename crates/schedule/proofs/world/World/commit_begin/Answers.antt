use Rattle.schedule.proofs.Running.{begun}
use Rattle.base.proofs.Bools.{both_true, not_true}
use Rattle.schedule.proofs.world.World.commit_begin.Goals as goal

pub invariant_of-self-2 : goal.invariant_of-self-2
invariant_of-self-2 g c =
    let ok = rw (← c.self.view_is) at c.requires in
    let still = both_true _ _ (both_true _ _ ok).0 in
    begun c.self.inside.accepted.items c.append.new.self.items c.self.inside.batch.items c.in_ok-register.news.items c.self.inside.durable
    c.self.inside.down c.self.inside.in_flight c.self.inside.register c.replace.new.dest c.new.result still.1 (not_true _ still.0)
    c.self.invariant.0 c.self.invariant.1 c.self.invariant.2 c.in_default.ensures.items
    (cc (c.replace.ensures.after, c.in_ok-register.ensures.0, c.deref.ensures.value)) (cc (c.in_ok-register.ensures.2, c.deref.ensures.value))
    (cc (c.new.ensures, c.in_ok-register.ensures.1, c.deref.ensures.value))

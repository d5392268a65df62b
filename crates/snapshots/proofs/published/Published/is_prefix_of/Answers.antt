use Rattle.std.proofs.Common.{List, ap, subst}
use mathlib.Core.List.{IsPrefix}
use Rattle.std.specs.declared.alloc.Global.{Global}
use Rattle.centre_core.specs.Asked.{Asked}
use Rattle.snapshots.proofs.Prefixes.{two_beginnings}
use Rattle.snapshots.proofs.published.Published.is_prefix_of.Goals as goal

pub returns : goal.returns
returns g c =
    let both = c.learn.new.self.log in
    let this : IsPrefix c.self.inside.list.log both = subst (λ (l : List (Asked Global)). IsPrefix l both) (ap (λ s. s.log) c.again-both.ensures) c.learn.ensures.2 in
    let that : IsPrefix c.other.inside.list.log both = c.learn.ensures.3 in
    rw (← c.self.view_is, ← c.other.view_is)
    (two_beginnings c.self.inside.list.log c.other.inside.list.log both this that c.self.inside.count c.other.inside.count c.self.invariant.0
    c.other.invariant.0)

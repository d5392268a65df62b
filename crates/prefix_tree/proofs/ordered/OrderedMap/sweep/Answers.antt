use Rattle.std.proofs.Common.{None, refl, sym, ◌∙◌}
use Rattle.prefix_tree.proofs.OrderedLaws.{changed_in, absent}
use Rattle.prefix_tree.proofs.ordered.OrderedMap.sweep.Goals as goal

pub returns-then-not-stays : goal.returns-then-not-stays
returns-then-not-stays g c =
    changed_in c.self.inside.by_prefix.entries c.args.self.now c.args.key.now c.args.key.now c.self.view_is refl c.remove.new.self.entries None c.remove.ensures.updates.0
    ∙ sym (absent c.args.self.now c.args.key.now (c.requires c.if-not-stays.true))

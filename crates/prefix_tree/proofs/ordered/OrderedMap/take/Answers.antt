use Rattle.std.proofs.Common.{Some, None, ◌∙◌}
use Rattle.prefix_tree.proofs.OrderedLaws.{found_in, changed_in}
use Rattle.prefix_tree.proofs.ordered.OrderedMap.take.Goals as goal

pub returns-in_err-held-clause-before : goal.returns-in_err-held-clause-before
returns-in_err-held-clause-before g c = c.from_residual.ensures ∙
    found_in c.self.inside.by_prefix.entries c.args.self.now c.new.result c.args.prefix.now c.self.view_is c.new.ensures None
    c.in_err-held.ensures.value

pub returns-in_err-held-clause-removed : goal.returns-in_err-held-clause-removed
returns-in_err-held-clause-removed g c = changed_in c.self.inside.by_prefix.entries c.args.self.now c.new.result c.args.prefix.now c.self.view_is
    c.new.ensures c.remove.new.self.entries None c.remove.ensures.updates.0

pub returns-clause-before : goal.returns-clause-before
returns-clause-before g c = found_in c.self.inside.by_prefix.entries c.args.self.now c.new.result c.args.prefix.now c.self.view_is c.new.ensures (Some c.in_ok-held.held) c.in_ok-held.ensures.value

pub returns-clause-removed : goal.returns-clause-removed
returns-clause-removed g c = changed_in c.self.inside.by_prefix.entries c.args.self.now c.new.result c.args.prefix.now c.self.view_is c.new.ensures
    c.remove.new.self.entries None c.remove.ensures.updates.0

use Rattle.prefix_tree.proofs.NodeLaws.{read_zero, read_one, zero_under, one_under}
use Rattle.prefix_tree.proofs.node.Node.below.Goals as goal

pub returns-then-one-clause-under : goal.returns-then-one-clause-under
returns-then-one-clause-under g c = rw (c.if-one.true) (one_under c.self.inside _ c.self.view_is c.requires)

pub returns-else-one-clause-under : goal.returns-else-one-clause-under
returns-else-one-clause-under g c = rw (c.if-one.false) (zero_under c.self.inside _ c.self.view_is c.requires)

pub returns-then-one-clause-table : goal.returns-then-one-clause-table
returns-then-one-clause-table g c = rw (c.if-one.true) (read_one c.self.inside _ c.self.view_is c.requires)

pub returns-else-one-clause-table : goal.returns-else-one-clause-table
returns-else-one-clause-table g c = rw (c.if-one.false) (read_zero c.self.inside _ c.self.view_is c.requires)

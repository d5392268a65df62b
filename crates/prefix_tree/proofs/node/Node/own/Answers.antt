use Rattle.std.proofs.Common.{sym, ◌∙◌}
use Rattle.prefix_tree.proofs.NodeLaws.{read_here}
use Rattle.prefix_tree.proofs.node.Node.own.Goals as goal

pub returns-in-Some : goal.returns-in-Some
returns-in-Some g c = sym (read_here c.self.inside _ c.self.view_is c.requires ∙ c.in-Some.is)

pub returns-in-None : goal.returns-in-None
returns-in-None g c = sym (read_here c.self.inside _ c.self.view_is c.requires ∙ c.in-None.is)

use Rattle.std.proofs.Common.{rules}
use Rattle.prefix_tree.proofs.JoinLaws.{place_parts}
use Rattle.prefix_tree.proofs.node.Node.is_full.Goals as goal

pub returns-then-is_some : goal.returns-then-is_some
returns-then-is_some g c = let parts = place_parts c.self.inside _ c.self.view_is c.requires in rw (parts) (search rules)

pub returns-then-is_some-2 : goal.returns-then-is_some-2
returns-then-is_some-2 g c = let parts = place_parts c.self.inside _ c.self.view_is c.requires in rw (parts) (search rules)

pub returns-else-is_some-2 : goal.returns-else-is_some-2
returns-else-is_some-2 g c = let parts = place_parts c.self.inside _ c.self.view_is c.requires in rw (parts) (search rules)

use Rattle.std.proofs.Common.{refl, sym, ◌∙◌}
use Rattle.prefix_tree.proofs.NodeLaws.{table_is, read_here, write_here}
use Rattle.prefix_tree.proofs.BorrowLaws.{all_some, own_like, same_like}
use Rattle.prefix_tree.proofs.node.Node.own_mut.Goals as goal

pub returns : goal.returns
returns g c = (
  (
    refl,
    λ w. (all_some c.as_mut.result (write_here c.self.inside _ c.self.view_is c.requires _ w refl), own_like c.self.inside _ c.self.view_is c.requires w),
    (table_is c.self.inside _ c.self.view_is, same_like c.self.inside _ c.self.view_is c.requires),
  ),
  record { writes_back = tt; value = c.as_mut.ensures.value ∙ sym (read_here c.self.inside _ c.self.view_is c.requires) },
)

use Rattle.std.proofs.Common.{◌++◌, ap, ◌∙◌}
use Rattle.std.specs.FinMap as map
use Rattle.prefix_tree.specs.Walk.{seen}
use Rattle.prefix_tree.proofs.tree.PrefixTree.walk.Goals as goal

pub returns : goal.returns
returns g c =
    c.in_ok-push_entries.ensures ∙ ap (λ es. seen es ++ map.entries c.self.inside.root.table) c.new-list.ensures.items ∙ ap map.entries c.self.view_is

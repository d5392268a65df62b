use Rattle.std.proofs.Common.{◌++◌, ap, ◌∙◌}
use Rattle.std.specs.FinMap as map
use Rattle.prefix_tree.proofs.tree.PrefixTree.entries.Goals as goal

pub returns : goal.returns
returns g c =
    c.in_ok-copy_entries.ensures ∙ ap (λ es. es ++ map.entries c.self.inside.root.table) c.new-list.ensures.items ∙ ap map.entries c.self.view_is

use Rattle.prefix_tree.proofs.tree.PrefixTree.change.Given as goal

abbrev pub ghosts-change_from : goal.ghosts-change_from
ghosts-change_from g a = record { name = a.blank.name; parts = a.blank.parts }

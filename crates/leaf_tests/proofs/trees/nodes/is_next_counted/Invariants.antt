use Rattle.leaf_tests.proofs.trees.nodes.is_next_counted.Given as goal

abbrev pub ghosts-next : goal.ghosts-next
ghosts-next a = record { name = a.blank.name; parts = a.blank.parts }

use Rattle.leaf_tests.proofs.trees.side_by_side.alike.Given as goal

abbrev pub ghosts-removed : goal.ghosts-removed
ghosts-removed a = record { name = a.blank.name; parts = a.blank.parts }

abbrev pub ghosts-write : goal.ghosts-write
ghosts-write a = record { name = a.blank.name; parts = a.blank.parts }

abbrev pub ghosts-longest : goal.ghosts-longest
ghosts-longest a = record { name = a.blank.name; parts = a.blank.parts }

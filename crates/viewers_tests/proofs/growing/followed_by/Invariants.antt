use Rattle.viewers_tests.proofs.growing.followed_by.Given as goal

abbrev pub ghosts-followed : goal.ghosts-followed
ghosts-followed g a = record { base = a.register; book = a.log.seen.book }

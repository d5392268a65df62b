use Rattle.viewers_tests.proofs.staying.is_kept.Given as goal

abbrev pub ghosts-stayed : goal.ghosts-stayed
ghosts-stayed g a = record { base = a.register; book = a.log.seen.book }

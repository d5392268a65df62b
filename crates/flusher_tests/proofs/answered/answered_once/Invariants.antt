use Rattle.flusher_tests.proofs.answered.answered_once.Given as goal

abbrev pub ghosts-answered : goal.ghosts-answered
ghosts-answered g a = record { base = a.store.register; book = a.log.seen.book }

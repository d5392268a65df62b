use Rattle.flusher_tests.proofs.empty.idle_once.Given as goal

abbrev pub ghosts-idle : goal.ghosts-idle
ghosts-idle g a = record { base = a.store.register; book = a.log.seen.book }

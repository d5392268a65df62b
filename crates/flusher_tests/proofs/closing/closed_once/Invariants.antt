use Rattle.flusher_tests.proofs.closing.closed_once.Given as goal

abbrev pub ghosts-closed : goal.ghosts-closed
ghosts-closed g a = record { base = a.store.register; book = a.log.seen.book }

use Rattle.flusher_tests.proofs.failing.failed_at.Given as goal

abbrev pub ghosts-failed : goal.ghosts-failed
ghosts-failed g a = record { base = a.store.register; book = a.log.seen.book }

use Rattle.flusher_tests.proofs.held.accepted_once.Given as goal

abbrev pub ghosts-accepted_by_both : goal.ghosts-accepted_by_both
ghosts-accepted_by_both g a = record { base = a.store.register; book = a.log.seen.book }

use Rattle.flusher_tests.proofs.gapless.is_gapless.Given as goal

abbrev pub ghosts-numbered : goal.ghosts-numbered
ghosts-numbered g a = record { base = a.store.register; book = a.log.seen.book }

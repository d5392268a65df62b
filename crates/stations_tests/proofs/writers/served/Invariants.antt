use Rattle.stations_tests.proofs.writers.served.Given as goal

abbrev pub ghosts-both : goal.ghosts-both
ghosts-both g a = record { base = a.store.register; book = a.terms.log.seen.book }

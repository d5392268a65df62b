use Rattle.flusher_tests.proofs.listing.listed_once.Given as goal

abbrev pub ghosts-listed : goal.ghosts-listed
ghosts-listed g a = record { base = a.store.register; book = a.log.seen.book }

use Rattle.viewers_tests.proofs.listing.listed_once.Given as goal

abbrev pub ghosts-listed : goal.ghosts-listed
ghosts-listed g a = record { base = a.register; book = a.log.seen.book }

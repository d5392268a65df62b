use Rattle.viewers_tests.proofs.inside.are_met.Given as goal

abbrev pub ghosts-met : goal.ghosts-met
ghosts-met g a = record { base = a.register; book = a.log.seen.book }

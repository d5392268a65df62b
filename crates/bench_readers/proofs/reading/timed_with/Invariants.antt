use Rattle.bench_readers.proofs.reading.timed_with.Given as goal

abbrev pub ghosts-timed : goal.ghosts-timed
ghosts-timed g a = record { base = a.register; book = a.log.seen.book }

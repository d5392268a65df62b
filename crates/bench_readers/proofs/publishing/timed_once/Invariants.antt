use Rattle.bench_readers.proofs.publishing.timed_once.Given as goal

abbrev pub ghosts-timed : goal.ghosts-timed
ghosts-timed g a = record { base = a.register; book = a.log.seen.book }

use Rattle.bench_readers.proofs.publications.done_once.Given as goal

abbrev pub ghosts-done : goal.ghosts-done
ghosts-done g a = record { base = a.register; book = a.log.seen.book }

use Rattle.bench_sessions.proofs.refused.served_again.Given as goal

abbrev pub ghosts-served : goal.ghosts-served
ghosts-served g a = record { base = a.store.register; book = a.log.seen.book }

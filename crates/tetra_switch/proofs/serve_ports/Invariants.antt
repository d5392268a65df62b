use Rattle.tetra_switch.proofs.serve_ports.Given as goal

abbrev pub ghosts-serve_stations : goal.ghosts-serve_stations
ghosts-serve_stations g a = record { base = a.store.register; book = a.terms.log.seen.book }

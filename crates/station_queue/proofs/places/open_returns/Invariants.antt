use Rattle.station_queue.proofs.places.open_returns.Given as goal

abbrev pub ghosts-opened : goal.ghosts-opened
ghosts-opened a = record { queue = a.queue.now.table.shared.table_id }

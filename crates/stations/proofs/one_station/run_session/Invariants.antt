use Rattle.std.proofs.Common.{Some}
use Rattle.stations.specs.GoesOn.{beginning_of}
use Rattle.stations.proofs.one_station.run_session.Given as goal

abbrev pub ghosts-run_begun : goal.ghosts-run_begun
ghosts-run_begun g a = record { began = Some (beginning_of a.session); may_order = a.serving.now.orders }

use Rattle.std.proofs.Common.{◌≡◌, ◌≤◌, List, ◌++◌, length, vec_capacity}
use Rattle.console.specs.Service.{station_lines}
use Rattle.console.specs.declared.figures.StationFigures.{StationFigures}
use Rattle.console.proofs.service.put_stations.Given as goal

-- the lines so far
abbrev pub invariant-loop-place : goal.invariant-loop-place
invariant-loop-place g l = (each : List StationFigures) × (length each ≡ l.place) × (l.out.items ≡ l.initial.out.items ++ station_lines 1 each)
    × (l.place ≤ l.count) × (vec_capacity l.initial.out ≤ vec_capacity l.out)

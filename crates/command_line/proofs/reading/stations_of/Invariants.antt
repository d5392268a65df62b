use Rattle.std.proofs.Common.{◌≡◌, Some, map, take}
use Rattle.command_line.specs.Asked.{stations_in}
use Rattle.command_line.proofs.reading.stations_of.Given as goal

-- the words so far
abbrev pub invariant-loop-index : goal.invariant-loop-index
invariant-loop-index l = stations_in (map (λ word. word.now) (take l.index l.words)) ≡ Some l.stations.items

use Rattle.std.proofs.Common.{◌≡◌, ◌<◌, ◌^◌, ◌++◌}
use Rattle.std.specs.List.{All}
use Rattle.std.specs.Map.{keys_of}
use Rattle.std.specs.FinMap as map
use Rattle.registration.specs.Listed.{under_bits}
use Rattle.registration.proofs.radios.Radios.entries.Given as goal

abbrev pub invariant-loop-number : goal.invariant-loop-number
invariant-loop-number g l = (under_bits l.list.items ++ under_bits l.number-iterator ≡ map.entries l.self) × All (λ number. number < 2 ^ 48) (keys_of l.number-iterator)

-- The order of the durable commands.
use Rattle.std.specs.Prelude.{◌==◌, cond, List, [], ◌∷◌}
use Rattle.std.specs.declared.alloc.Global.{Global}
use mathlib.Core.List.{Sublist}
use Rattle.registration.specs.Numbers.{Station}
use Rattle.centre_core.specs.Asked.{Asked}
use Rattle.station_queue.specs.declared.entry.Entry.{Entry}
use Rattle.flusher.specs.Shared.{commands_among}

-- the commands of a station, in order
abbrev pub of_station : Station → List (Asked Global) → List (Asked Global)
of_station s [] = []
of_station s (c ∷ cs) = cond (c.station == s) (c ∷ of_station s cs) (of_station s cs)

-- the durable commands are some of those among the entries that were taken, in the same order
abbrev pub AreInOrder : List (Asked Global) → List Entry → Type 0
AreInOrder durable taken = Sublist durable (commands_among taken)

-- What the queue holds.
use Rattle.std.specs.Prelude.{◌==◌, ◌/◌, cond, ℕ, List, [], ◌∷◌}
use Rattle.std.specs.Arc.{arc_value}
use Rattle.registration.specs.Numbers.{Station}
use Rattle.station_queue.specs.declared.entry.Entry.{Entry}
use Rattle.station_queue.specs.declared.entry.Entry.TheVariants.{Submitted, Ended}

-- the station whose entry it is
abbrev pub station_of : Entry → Station
station_of (Submitted request) = (arc_value request.command).station
station_of (Ended station) = station

-- the entries of a station, in order
abbrev pub entries_of : Station → List Entry → List Entry
entries_of s [] = []
entries_of s (x ∷ xs) = cond (station_of x == s) (x ∷ entries_of s xs) (entries_of s xs)

-- how many entries each of so many stations may have in the queue of 64 at a time
abbrev pub share_of : ℕ → ℕ
share_of stations = 64 / stations

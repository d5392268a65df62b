-- The ends of sessions among the entries that were taken.
use Rattle.std.specs.Prelude.{◌≡◌, ◌↔◌, ℕ, ◌+◌, Bool, IsTrue, List, Contains, slice_get, Some}
use Rattle.station_queue.specs.declared.entry.Entry.{Entry}
use Rattle.station_queue.specs.declared.entry.Entry.TheVariants.{Ended}

-- these are flags of stations, the first of station 1: each is set exactly if the end of its station's session was taken
abbrev pub AreEnded : List Bool → List Entry → Type 0
AreEnded ended taken = (k : ℕ) (flag : Bool) → slice_get ended k ≡ Some flag → IsTrue flag ↔ Contains taken (Ended (k + 1))

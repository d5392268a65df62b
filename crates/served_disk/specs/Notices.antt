-- What a service reports on standard error.
use Rattle.std.specs.Prelude.{◌++◌, ℕ, List, Option, codes, decimal, filter, if◌then◌else◌, length, nat_eq, option_map}
use Rattle.registration.specs.Numbers.{Station}
use Rattle.sector_disk.specs.Numbers.{Byte}
use Rattle.served_disk.specs.declared.notice.Notice.{Notice}
use Rattle.served_disk.specs.declared.notice.Notice.TheVariants as notice
use Rattle.served_disk.specs.declared.pairs.Pair.{Pair}
use Rattle.served_disk.specs.Counts.{at_station}
use Rattle.served_disk.specs.Faults.{fault_text}

-- the words after the number of stations
abbrev pub stations_word : ℕ → List Byte
stations_word number = if nat_eq number 1 then codes " station, count " else codes " stations, count "

-- this many stations are served, over a register that has accepted `count` commands
abbrev pub serving_text : ℕ → ℕ → List Byte
serving_text stations count = codes "serving " ++ decimal stations ++ stations_word stations ++ decimal count ++ codes "\n"

-- the lines of a station are served, from IN to OUT
abbrev pub started_text : ℕ → List Byte → List Byte → List Byte
started_text station input output = codes "station " ++ decimal station ++ codes " serves " ++ input ++ codes " " ++ output ++ codes "\n"

-- the run of a station has ended
abbrev pub ended_text : ℕ → List Byte
ended_text station = codes "station " ++ decimal station ++ codes " ended\n"

-- the line of a notice; of a fault, also that of its cause
abbrev pub notice_text : Notice → List Byte
notice_text (notice.Fault fault) = fault_text fault
notice_text (notice.Serving stations count) = serving_text stations count
notice_text (notice.Started station input output) = started_text station input.now output.now
notice_text (notice.Ended station) = ended_text station

-- how many of these stations have lines: those that are not left out
abbrev pub served_in : List Pair → ℕ
served_in pairs = length (filter (λ (pair : Pair). pair.is_served) pairs)

-- the pair of this station in the list of all stations' pairs, if there is such a station
abbrev pub pair_of : List Pair → Station → Option Pair
pair_of pairs station = at_station pairs station

-- the notice that the lines of this station are served, if there is such a station
abbrev pub started_in : List Pair → Station → Option Notice
started_in pairs station = option_map (λ (pair : Pair). notice.Started station pair.input pair.output) (pair_of pairs station)

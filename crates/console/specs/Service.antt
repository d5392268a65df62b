-- The form of the answer to the query `service`. Which figures are in it is not stated: they depend on the run.
use Rattle.std.specs.Prelude.{◌≡◌, ◌⊎◌, ℕ, ◌+◌, ◌-◌, ◌^◌, Bool, true, false, List, [], ◌∷◌, ◌++◌, Option, Some, None, Result, Ok, Err, Vec, length, min, codes, decimal}
use Rattle.std.specs.declared.alloc.Global.{Global}
use Rattle.identity.specs.Numbers.{Byte}
use Rattle.centre_core.specs.declared.reply.Reply.{Reply}
use Rattle.centre_core.specs.declared.reply.Reply.TheVariants as reply
use Rattle.console.specs.declared.figures.ReplyCounts.{ReplyCounts}
use Rattle.console.specs.declared.figures.ServiceFigures.{ServiceFigures}
use Rattle.console.specs.declared.figures.StationFigures.{StationFigures}
use Rattle.console.specs.declared.figures.StoreFigures.{StoreFigures}

-- a line with one figure, after its name and a space
abbrev pub figure_line : List Byte → ℕ → List Byte
figure_line name figure = name ++ decimal figure ++ codes "\n"

-- The lines before those of so many stations. The first has the number of lines that follow it. The others are of the service as a whole.
abbrev pub service_words : ℕ → ℕ → StoreFigures → List Byte
service_words stations rounds store =
    figure_line (codes "service ") (6 + stations) ++ figure_line (codes "rounds ") rounds ++ figure_line (codes "commands ") store.commands
    ++ figure_line (codes "syncs ") store.syncs ++ figure_line (codes "checkpoints ") store.checkpoints
    ++ figure_line (codes "epoch ") store.epoch ++ figure_line (codes "free ") store.free

-- whether a station waits, at the end of its line
abbrev pub waits_text : Bool → List Byte
waits_text true = codes " waits yes\n"
waits_text false = codes " waits no\n"

-- a station's line as far as the commands that were accepted
abbrev pub station_begin : ℕ → StationFigures → List Byte
station_begin number figures = codes "station " ++ decimal number ++ codes " lines " ++ decimal figures.lines ++ codes " accepted " ++ decimal figures.accepted

-- the rest of a station's line
abbrev pub station_end : StationFigures → List Byte
station_end figures = codes " refused " ++ decimal figures.refused ++ codes " kept " ++ decimal figures.kept ++ waits_text figures.waits

-- the line of the station of this number
abbrev pub station_line : ℕ → StationFigures → List Byte
station_line number figures = station_begin number figures ++ station_end figures

-- the lines of stations, of which the first has this number
abbrev pub station_lines : ℕ → List StationFigures → List Byte
station_lines number [] = []
station_lines number (figures ∷ more) = station_line number figures ++ station_lines (number + 1) more

-- the lines have the form of an answer to `service`: that no stations are served, or some figures, with a line for each station in order
abbrev pub IsService : List Byte → Type 0
IsService lines = (lines ≡ codes "service 0\n")
    ⊎ ((rounds : ℕ) × (store : StoreFigures) × (stations : List StationFigures) × (lines ≡ service_words (length stations) rounds store ++ station_lines 1 stations))

-- one more; a count stays at the greatest number of 64 bits
abbrev pub counted : ℕ → ℕ
counted count = min (count + 1) (2 ^ 64 - 1)

-- no reply is counted yet
abbrev pub no_replies : ReplyCounts
no_replies = record { accepted = 0; refused = 0; kept = 0 }

-- these counts and one reply more, by its kind
abbrev pub with_reply : {B : Type 0} → ReplyCounts → Reply B → ReplyCounts
with_reply counts (reply.Accepted number pdu) = record { accepted = counted counts.accepted; refused = counts.refused; kept = counts.kept }
with_reply counts (reply.Kept number pdu) = record { accepted = counts.accepted; refused = counts.refused; kept = counted counts.kept }
with_reply counts (reply.Refused refusal) = record { accepted = counts.accepted; refused = counted counts.refused; kept = counts.kept }

-- these counts, and one reply more if the result is a reply
abbrev pub with_result : {B E : Type 0} → ReplyCounts → Result (Reply B) E → ReplyCounts
with_result counts (Ok replied) = with_reply counts replied
with_result counts (Err outage) = counts

-- how many items a list has, if there is one
abbrev pub count_in : {T : Type 0} → Option (Vec T Global) → ℕ
count_in None = 0
count_in (Some each) = length each.items

-- how many stations a service has by its figures
abbrev pub stations_of : ServiceFigures → ℕ
stations_of figures = count_in figures.stations

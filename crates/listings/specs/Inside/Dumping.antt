-- The text of a register in the parts that are written one after another.
use Rattle.std.specs.Prelude.{◌+◌, List, [], ◌∷◌, ◌++◌, length, Option, Some, None, codes, decimal}
use Rattle.std.specs.List.{flat_map}
use Rattle.identity.specs.Numbers.{Byte}
use Rattle.registration.specs.Numbers.{Station}
use Rattle.centre_core.specs.State.{State, LastAccepted}
use Rattle.listings.specs.declared.listing.Table.{Table}
use Rattle.listings.specs.declared.listing.Table.TheVariants as table
use Rattle.listings.specs.Entries.{entries_of}
use Rattle.listings.specs.Dump.{count_line, dump_lines, dumped_line, first_line, last_line}

-- the number of the lines
abbrev pub number_text : State → List Byte
number_text s = codes "dump " ++ decimal (length (dump_lines s)) ++ codes "\n"

-- the number of the lines, and the two lines before those of rows
unfoldable pub head_text : State → List Byte
head_text s = number_text s ++ first_line s.registered.limits ++ count_line s

-- the lines of a table
abbrev pub rows_text : State → Table → List Byte
rows_text s table = flat_map (dumped_line s.groups) (entries_of s table)

-- the lines of the rules, the radios and the items
unfoldable pub tables_text : State → List Byte
tables_text s = rows_text s table.Rules ++ rows_text s (table.Radios None) ++ rows_text s table.Items

-- the line of a station, if it has an accepted command
abbrev pub last_text : Station → Option LastAccepted → List Byte
last_text station None = []
last_text station (Some last) = last_line station last

-- the lines of the stations from this one on
abbrev pub lasts_text : Station → List (Option LastAccepted) → List Byte
lasts_text station [] = []
lasts_text station (last ∷ served) = last_text station last ++ lasts_text (station + 1) served

-- What a side with damaged sectors loses, in one line.
use Rattle.std.specs.Prelude.{ℕ, Bool, true, false, List, ◌++◌, length, filter, find, option_map, Option, Some, None, codes, decimal}
use Rattle.std.specs.List.{list_any}
use Rattle.sector_disk.specs.Numbers.{Byte, Sector}
use Rattle.checkpoint.specs.declared.side.Side.{Side}
use Rattle.recovery.specs.declared.damaged.Damage.{Damage}
use Rattle.recovery.specs.declared.damaged.DamageKind.{DamageKind}
use Rattle.recovery.specs.declared.damaged.DamageKind.TheVariants as kind
use Rattle.served_disk.specs.Showing.{side_text}

-- both are rows of the same kind
abbrev pub is_row_of : DamageKind → DamageKind → Bool
is_row_of kind.Rule kind.Rule = true
is_row_of kind.Radio kind.Radio = true
is_row_of kind.Item kind.Item = true
is_row_of kind.Station kind.Station = true
is_row_of _ _ = false

-- the sector is to hold the header of an image
abbrev pub is_header : DamageKind → Bool
is_header kind.Header = true
is_header _ = false

-- the sector is to hold a record, or a gate that no record follows
abbrev pub is_of_records : DamageKind → Bool
is_of_records (kind.Record commands) = true
is_of_records kind.Gate = true
is_of_records _ = false

-- how many damaged sectors are to hold a row of this kind
abbrev pub rows_in : DamageKind → List Damage → ℕ
rows_in row damaged = length (filter (λ it. is_row_of row it.kind) damaged)

-- the first damaged sector that is to hold a record or a gate: from there on records are lost
abbrev pub records_from : List Damage → Option Sector
records_from damaged = option_map (λ it. it.sector) (find (λ it. is_of_records it.kind) damaged)

-- whether the header is damaged, without which nothing can be read
abbrev pub loses_all : List Damage → Bool
loses_all damaged = list_any (λ it. is_header it.kind) damaged

-- how many entries of each kind are lost with the damaged rows
unfoldable pub rows_text : List Damage → List Byte
rows_text damaged = codes " loses rules " ++ decimal (rows_in kind.Rule damaged) ++ codes " radios " ++ decimal (rows_in kind.Radio damaged)
    ++ codes " items " ++ decimal (rows_in kind.Item damaged) ++ codes " stations " ++ decimal (rows_in kind.Station damaged)

-- from which sector on records are lost, or that none are
abbrev pub records_text : Option Sector → List Byte
records_text None = codes " records none\n"
records_text (Some at) = codes " records from " ++ decimal at ++ codes "\n"

-- what a side loses: all, or the entries of damaged rows and the records
abbrev pub loss_by : Bool → List Damage → List Byte
loss_by true damaged = codes " loses all\n"
loss_by false damaged = rows_text damaged ++ records_text (records_from damaged)

-- the line of what a side loses: its name, and then what it loses
abbrev pub loss_line : Side → List Damage → List Byte
loss_line side damaged = codes "side " ++ side_text side ++ loss_by (loses_all damaged) damaged

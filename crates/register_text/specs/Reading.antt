-- How a line is read. Its words give a row, and the row's bytes are read as a disk's sectors are. The line must be that row's one spelling.
use Rattle.std.specs.Prelude.{ℕ, ◌*◌, Bool, true, false, List, [], ◌∷◌, length, Option, Some, None, option_map, nat_le, if◌then◌else◌, codes}
use Rattle.std.specs.Result.{result_ok}
use Rattle.std.specs.Str.{bytes_eq}
use Rattle.identity.specs.Numbers.{Itsi, Gtsi, Byte}
use Rattle.identity.specs.Path.{Path}
use Rattle.identity.specs.NumberText.{reading_number}
use Rattle.mm_pdus.specs.declared.lifetime.Lifetime.{Lifetime}
use Rattle.registration.specs.Numbers.{Area, Station}
use Rattle.registration.specs.declared.radio.Radio.{Radio}
use Rattle.registration.specs.declared.rule.Rule.{Rule}
use Rattle.mailbox.specs.declared.key.Key.{Key}
use Rattle.mailbox.specs.Values.{latest_deadline}
use Rattle.group_attach.specs.Applied.{most_of_radio}
use Rattle.centre_core.specs.Numbers.{Sequence}
use Rattle.command_bytes.specs.Fields.{◌>>=◌}
use Rattle.console.specs.Reading.{words, identity_in, prefix_in, rule_in, area_in, lifetime_in, station_in, sequence_in, pdu_in, key_in}
use Rattle.image_rows.specs.Rows.{Row, HeaderRow, RuleRow, RadioRow, MailRow, ServedRow, Group}
use Rattle.image_rows.specs.RowText.{sector_of}
use Rattle.image_rows.specs.RowReading.{row_in}
use Rattle.register_text.specs.Lines.{row_line}

-- the number that a word spells, if it is at most `most`
abbrev pub number_in : ℕ → List Byte → Option ℕ
number_in most word = result_ok (reading_number most word)

-- the greatest number of 4 bytes
abbrev pub most_4 : ℕ
most_4 = 4294967295

-- the greatest number of 8 bytes
abbrev pub most_8 : ℕ
most_8 = 18446744073709551615

-- ---- each kind of row

-- a header of epoch 1 with these five numbers, if all of them are there
abbrev pub header_of : Option ℕ → Option ℕ → Option ℕ → Option ℕ → Option ℕ → Option Row
header_of (Some count) (Some rules) (Some radios) (Some mail) (Some served) =
    Some (HeaderRow (record { epoch = 1; count = count; rules = rules; radios = radios; mail = mail; served = served }))
header_of count rules radios mail served = None

-- the header that the words `N rules N radios N items N stations N` give
abbrev pub header_in : List (List Byte) → Option Row
header_in (count ∷ a ∷ rules ∷ b ∷ radios ∷ c ∷ mail ∷ d ∷ served ∷ []) =
    header_of (number_in most_8 count) (number_in most_4 rules) (number_in most_4 radios) (number_in most_4 mail) (number_in most_4 served)
header_in words = None

-- the row of a rule under its prefix, if both are there
abbrev pub rule_row_of : Option Path → Option Rule → Option Row
rule_row_of (Some prefix) (Some rule) = Some (RuleRow prefix rule)
rule_row_of prefix rule = None

-- the row of a rule that the words `PREFIX LOW HIGH LIFE KEEP` give
abbrev pub rule_row_in : List (List Byte) → Option Row
rule_row_in (prefix ∷ low ∷ high ∷ lifetime ∷ keep ∷ []) = rule_row_of (prefix_in prefix) (rule_in low high lifetime keep)
rule_row_in words = None

-- whether a radio is present, if the word is `present` or `absent`
abbrev pub presence_in : List Byte → Option Bool
presence_in word = if bytes_eq word (codes "present") then Some true else if bytes_eq word (codes "absent") then Some false else None

-- a group of a radio with these parts, if all of them are there
abbrev pub group_of : Option Gtsi → Option ℕ → Option Lifetime → Option Group
group_of (Some gtsi) (Some class) (Some lifetime) = Some (gtsi, (class, lifetime))
group_of gtsi class lifetime = None

-- the group that the words `GTSI CLASS LIFE` give
abbrev pub group_in : List Byte → List Byte → List Byte → Option Group
group_in gtsi class lifetime = group_of (identity_in gtsi) (number_in 7 class) (lifetime_in lifetime)

-- the group that a list of three words gives; any other list gives none
abbrev pub one_group_in : List (List Byte) → Option Group
one_group_in (gtsi ∷ class ∷ lifetime ∷ []) = group_in gtsi class lifetime
one_group_in words = None

-- The groups, each of three words. One or two words at the end are ignored here.
abbrev pub groups_in : List (List Byte) → Option (List Group)
groups_in (gtsi ∷ class ∷ lifetime ∷ words) = group_in gtsi class lifetime >>= λ group. groups_in words >>= λ groups. Some (group ∷ groups)
groups_in words = Some []

-- where a radio is, if all three parts are there
abbrev pub place_of : Option Station → Option Area → Option Bool → Option Radio
place_of (Some station) (Some area) (Some present) = Some (record { station = station; area = area; present = present })
place_of station area present = None

-- where a radio is, by its three words
abbrev pub place_in : List Byte → List Byte → List Byte → Option Radio
place_in station area present = place_of (station_in station) (area_in area) (presence_in present)

-- the row of a radio and its groups, if all parts are there
abbrev pub radio_of : Option Itsi → Option Radio → Option (List Group) → Option Row
radio_of (Some itsi) (Some radio) (Some groups) = Some (RadioRow itsi radio groups)
radio_of itsi radio groups = None

-- The row of a radio that the words `ITSI station N la N present` or `... absent` and then those of its groups give. The groups are no more than
-- a radio may have.
abbrev pub radio_in : List (List Byte) → Option Row
radio_in (itsi ∷ a ∷ station ∷ b ∷ area ∷ present ∷ words) =
    if nat_le (length words) (3 * most_of_radio) then radio_of (identity_in itsi) (place_in station area present) (groups_in words) else None
radio_in words = None

-- the group of a copy: one word, or none for an item that is no copy
abbrev pub copied_in : List (List Byte) → Option (Option Gtsi)
copied_in [] = Some None
copied_in (gtsi ∷ []) = option_map Some (identity_in gtsi)
copied_in words = None

-- the row of an item, or of a copy of a message to a group, if all parts are there
abbrev pub item_of : Option ℕ → Option Key → Option ℕ → Option (Option Gtsi) → Option (List Bool) → Option Row
item_of (Some number) (Some key) (Some deadline) (Some group) (Some pdu) =
    Some (MailRow (record { key = key; number = number; deadline = deadline; pdu = pdu; group = group }))
item_of number key deadline group pdu = None

-- the row of an item that the words `NUMBER DEST KIND SOURCE REF DEADLINE PDU` give, and then the group of a copy
abbrev pub item_in : List (List Byte) → Option Row
item_in (number ∷ destination ∷ kind ∷ source ∷ reference ∷ deadline ∷ pdu ∷ group) =
    item_of (number_in most_8 number) (key_in destination source reference kind) (number_in latest_deadline deadline) (copied_in group) (pdu_in pdu)
item_in words = None

-- the PDU of a reply; the word `-` stands for none
abbrev pub reply_in : List Byte → Option (Option (List Bool))
reply_in word = if bytes_eq word (codes "-") then Some None else option_map Some (pdu_in word)

-- the row of a station's last accepted command, if all parts are there
abbrev pub last_of : Option Station → Option Sequence → Option ℕ → Option (Option (List Bool)) → Option Row
last_of (Some station) (Some sequence) (Some number) (Some pdu) = Some (ServedRow station (record { sequence = sequence; number = number; pdu = pdu }))
last_of station sequence number pdu = None

-- the row of a station's last accepted command that the words `STATION SEQ NUMBER PDU` give
abbrev pub last_in : List (List Byte) → Option Row
last_in (station ∷ sequence ∷ number ∷ pdu ∷ []) = last_of (station_in station) (sequence_in sequence) (number_in most_8 number) (reply_in pdu)
last_in words = None

-- ---- the whole

-- the row that the words after its keyword give, by that keyword
abbrev pub fields_in : List Byte → List (List Byte) → Option Row
fields_in name words =
    if bytes_eq name (codes "count") then header_in words
    else if bytes_eq name (codes "rule") then rule_row_in words
    else if bytes_eq name (codes "radio") then radio_in words
    else if bytes_eq name (codes "item") then item_in words
    else if bytes_eq name (codes "last") then last_in words
    else None

-- the row that the words give
abbrev pub row_given : List (List Byte) → Option Row
row_given [] = None
row_given (name ∷ words) = fields_in name words

-- the sector of the row that the words give
abbrev pub sector_in : List (List Byte) → Option (List Byte)
sector_in words = option_map sector_of (row_given words)

-- the row that a sector is read as, if there is one
abbrev pub found_row : Option (List Byte) → Option Row
found_row None = None
found_row (Some sector) = row_in sector

-- the row, if the line is its line
abbrev pub if_spelt : List Byte → Row → Option Row
if_spelt line row = if bytes_eq (row_line row) line then Some row else None

-- the row that a line spells
unfoldable pub line_row : List Byte → Option Row
line_row line = sector_in (words line) >>= λ sector. row_in sector >>= if_spelt line

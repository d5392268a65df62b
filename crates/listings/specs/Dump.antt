-- The text of a whole register (docs/formats/text.md), a line for each row. Each line has its line feed here.
use Rattle.std.specs.Prelude.{◌+◌, List, [], ◌∷◌, ◌++◌, length, map as each, count_by, Option, Some, None, codes, decimal}
use Rattle.std.specs.List.{flat_map}
use Rattle.std.specs.Option.{is_some}
use Rattle.std.specs.FinMap as map
use Rattle.identity.specs.Numbers.{Itsi, Byte}
use Rattle.identity.specs.IdentityText.{identity_text}
use Rattle.mm_pdus.specs.Values.{lifetime_number}
use Rattle.registration.specs.Numbers.{Station}
use Rattle.registration.specs.declared.limits.Limits.{Limits}
use Rattle.registration.specs.declared.radio.Radio.{Radio}
use Rattle.group_attach.specs.Attached.{Attached, groups_of}
use Rattle.group_attach.specs.declared.attachment.Attachment.{Attachment}
use Rattle.centre_core.specs.State.{State, LastAccepted}
use Rattle.listings.specs.declared.listing.Table.TheVariants as table
use Rattle.listings.specs.Lines.{entry_line, place_words}
use Rattle.listings.specs.Words.{pdu_text}
use Rattle.listings.specs.Entries.{Entry, RuleEntry, RadioEntry, ItemEntry, entries_of}

-- the first line: the form, its version, and the limits
unfoldable pub first_line : Limits → List Byte
first_line l =
    codes "tetra-switch register 1 rules " ++ decimal l.rules ++ codes " radios " ++ decimal l.radios
    ++ codes " items " ++ decimal l.mail ++ codes " stations " ++ decimal l.stations ++ codes "\n"

-- the line of the accepted commands, and of how many lines of each kind follow
unfoldable pub count_line : State → List Byte
count_line s =
    codes "count " ++ decimal s.count ++ codes " rules " ++ decimal (map.len s.registered.rules) ++ codes " radios " ++ decimal (map.len s.registered.radios)
    ++ codes " items " ++ decimal (length s.mail.items) ++ codes " stations " ++ decimal (count_by is_some s.served) ++ codes "\n"

-- a group of a radio: GTSI CLASS LIFE, each after a space
abbrev pub group_words : Attachment → List Byte
group_words a = codes " " ++ identity_text a.gtsi ++ codes " " ++ decimal a.class ++ codes " " ++ decimal (lifetime_number a.lifetime)

-- the line of a radio with its groups
abbrev pub radio_line : Itsi → Radio → List Attachment → List Byte
radio_line itsi radio groups = place_words itsi radio ++ flat_map group_words groups ++ codes "\n"

-- the line of an entry: that of a listing, but a radio's has its groups too
abbrev pub dumped_line : Attached → Entry → List Byte
dumped_line groups (RuleEntry prefix rule) = entry_line (RuleEntry prefix rule)
dumped_line groups (RadioEntry itsi radio) = radio_line itsi radio (groups_of groups itsi)
dumped_line groups (ItemEntry w) = entry_line (ItemEntry w)

-- the line of a station's last accepted command
abbrev pub last_line : Station → LastAccepted → List Byte
last_line station last =
    codes "last " ++ decimal station ++ codes " " ++ decimal last.sequence ++ codes " " ++ decimal last.number ++ codes " " ++ pdu_text last.pdu ++ codes "\n"

-- the lines of the stations from this one on that have an accepted command
abbrev pub last_lines : Station → List (Option LastAccepted) → List (List Byte)
last_lines station [] = []
last_lines station (None ∷ served) = last_lines (station + 1) served
last_lines station (Some last ∷ served) = last_line station last ∷ last_lines (station + 1) served

-- all entries of a register that have a line: the rules, the radios and the items
abbrev pub dumped_entries : State → List Entry
dumped_entries s = entries_of s table.Rules ++ (entries_of s (table.Radios None) ++ entries_of s table.Items)

-- the lines of a register's text
unfoldable pub dump_lines : State → List (List Byte)
dump_lines s = first_line s.registered.limits ∷ count_line s ∷ (each (dumped_line s.groups) (dumped_entries s) ++ last_lines 1 s.served)

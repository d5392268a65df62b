-- The text of a listing.
use Rattle.std.specs.Prelude.{◌≡◌, ◌<◌, ◌+◌, ℕ, Bool, true, false, List, ◌++◌, length, count_by, Option, Some, None, codes, decimal}
use Rattle.std.specs.Option.{is_some}
use Rattle.std.specs.FinMap as map
use Rattle.identity.specs.Numbers.{Itsi, Byte}
use Rattle.identity.specs.IdentityText.{identity_text, prefix_text}
use Rattle.mailbox.specs.Refusals.{most_for_one}
use Rattle.centre_core.specs.State.{State, LastAccepted}
use Rattle.centre_core.specs.Step.{last_at}
use Rattle.listings.specs.declared.listing.Listing.{Listing}
use Rattle.listings.specs.declared.listing.Listing.TheVariants as listing
use Rattle.listings.specs.declared.listing.Table.{Table}
use Rattle.listings.specs.declared.listing.Table.TheVariants as table
use Rattle.listings.specs.Parts.{answer_room}
use Rattle.listings.specs.Words.{pdu_text}
use Rattle.listings.specs.Lines.{entry_line, list_text}
use Rattle.listings.specs.Entries.{entries_of}
use Rattle.listings.specs.Fullest.{fullest}
use Rattle.listings.specs.Dump.{dump_lines}

-- what is listed, before the number of the lines that follow
abbrev pub table_words : Table → List Byte
table_words table.Rules = codes "rules "
table_words (table.Radios None) = codes "radios "
table_words (table.Radios (Some prefix)) = codes "radios " ++ prefix_text prefix ++ codes " "
table_words table.Items = codes "items "
table_words (table.Due moment) = codes "due " ++ decimal moment ++ codes " "
table_words (table.WaitingAt station) = codes "waiting " ++ decimal station ++ codes " "

-- the entry of a station's last accepted command: its sequence, its number, and the PDU of its reply
abbrev pub last_words : Option LastAccepted → List Byte
last_words None = codes "none"
last_words (Some last) = decimal last.sequence ++ codes " " ++ decimal last.number ++ codes " " ++ pdu_text last.pdu

-- so many are used of a limit
abbrev pub used : ℕ → ℕ → List Byte
used n limit = decimal n ++ codes "/" ++ decimal limit

-- the fullest mailbox, and how many items may wait for one destination
abbrev pub fullest_words : Option (Itsi × ℕ) → List Byte
fullest_words None = codes "none"
fullest_words (Some box) = identity_text box.0 ++ codes " " ++ used box.1 most_for_one

-- how many rules, radios, items and stations are used, each of its limit. A station is used once a command of it was accepted
unfoldable pub used_words : State → List Byte
used_words s =
    codes "room rules " ++ used (map.len s.registered.rules) s.registered.limits.rules
    ++ codes " radios " ++ used (map.len s.registered.radios) s.registered.limits.radios
    ++ codes " items " ++ used (length s.mail.items) s.registered.limits.mail
    ++ codes " stations " ++ used (count_by is_some s.served) s.registered.limits.stations

-- what is used of each limit, and the fullest mailbox
abbrev pub room_words : State → List Byte
room_words s = used_words s ++ codes " fullest " ++ fullest_words (fullest s.mail.items)

-- the number of the lines of a register's text, then these lines
abbrev pub dump_text : State → List Byte
dump_text s = codes "dump " ++ list_text (λ line. line) (dump_lines s)

-- the text of a listing of a register in this state
abbrev pub listing_text : State → Listing → List Byte
listing_text s (listing.Entries table) = table_words table ++ list_text entry_line (entries_of s table)
listing_text s (listing.Last station) = codes "last " ++ decimal station ++ codes " " ++ last_words (last_at s station) ++ codes "\n"
listing_text s listing.Room = room_words s ++ codes "\n"
listing_text s listing.Dump = dump_text s

-- the listing is one line
abbrev pub is_line : Listing → Bool
is_line (listing.Entries table) = false
is_line (listing.Last station) = true
is_line listing.Room = true
is_line listing.Dump = false

-- a text of this length, with a capacity of so many bytes, has no room for the listing too, and if that is one line, none for
-- answer_room bytes
abbrev pub LacksRoom : ℕ → ℕ → State → Listing → Type 0
LacksRoom size capacity s l = (capacity < size + length (listing_text s l)) × (is_line l ≡ true → capacity < size + answer_room)

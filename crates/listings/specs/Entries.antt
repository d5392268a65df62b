-- The entries of a register's tables, in order.
use Rattle.std.specs.Prelude.{◌==◌, ◌&&◌, Bool, true, false, List, map as each, Option, Some, None}
use Rattle.std.specs.List.{filter}
use Rattle.std.specs.FinMap as map
use Rattle.identity.specs.Numbers.{Itsi}
use Rattle.identity.specs.Number.{number}
use Rattle.identity.specs.Path.{Path, begins}
use Rattle.registration.specs.declared.rule.Rule.{Rule}
use Rattle.registration.specs.declared.radio.Radio.{Radio}
use Rattle.registration.specs.Numbers.{Station}
use Rattle.registration.specs.Registered.{Registered, radio_of}
use Rattle.mailbox.specs.Item.{is_expired}
use Rattle.mailbox.specs.Values.{Item}
use Rattle.centre_core.specs.State.{State}
use Rattle.listings.specs.declared.listing.Table.{Table}
use Rattle.listings.specs.declared.listing.Table.TheVariants as table

-- a rule under its prefix; a radio's number and where it is; a waiting item
pub data Entry : Type 0 where
  RuleEntry : Path → Rule → Entry
  RadioEntry : Itsi → Radio → Entry
  ItemEntry : Item → Entry

-- the entry of a rule under its prefix
abbrev pub rule_entry : Path × Rule → Entry
rule_entry e = RuleEntry e.0 e.1

-- the entry of a radio, whose path is the bits of its number
abbrev pub radio_entry : Path × Radio → Entry
radio_entry e = RadioEntry (number e.0) e.1

-- whether the prefix, if one is given, begins a path
abbrev pub is_under : Option Path → Path → Bool
is_under None path = true
is_under (Some prefix) path = begins prefix path

-- whether a radio is registered, and present at this station
abbrev pub is_present_at : Station → Option Radio → Bool
is_present_at station None = false
is_present_at station (Some radio) = radio.present && (radio.station == station)

-- whether an item waits at a station: the radio of its destination is registered, and present there
abbrev pub waits_at : Registered → Station → Item → Bool
waits_at r station w = is_present_at station (radio_of r w.key.destination)

-- The entries of a table: the rules by prefix; the radios by number, those under the prefix if one is given; the waiting items,
-- oldest first; those of them whose deadline is at most the moment; those of them that wait at the station.
abbrev pub entries_of : State → Table → List Entry
entries_of s table.Rules = each rule_entry (map.entries s.registered.rules)
entries_of s (table.Radios prefix) = each radio_entry (filter (λ e. is_under prefix e.0) (map.entries s.registered.radios))
entries_of s table.Items = each ItemEntry s.mail.items
entries_of s (table.Due moment) = each ItemEntry (filter (is_expired moment) s.mail.items)
entries_of s (table.WaitingAt station) = each ItemEntry (filter (waits_at s.registered station) s.mail.items)

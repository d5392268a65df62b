-- The entries of a table one after another: each is the first after the place of the one before.
use Rattle.std.specs.Prelude.{◌≡◌, ℕ, nat_lt, Bool, true, if◌then◌else◌, length, Option, Some, None}
use Rattle.std.specs.List.{All, filter}
use Rattle.std.specs.Option.{option_map}
use Rattle.std.specs.FinMap as map
use Rattle.identity.specs.Numbers.{Itsi}
use Rattle.identity.specs.Path.{Path, id_path, path_cmp, begins}
use Rattle.prefix_tree.specs.Following.{next_of}
use Rattle.prefix_tree.specs.Table.{PathMap}
use Rattle.prefix_tree.specs.Next.{next_entry}
use Rattle.registration.specs.Registered.{Registered}
use Rattle.registration.specs.declared.radio.Radio.{Radio}
use Rattle.registration.specs.Numbers.{Station}
use Rattle.mailbox.specs.Numbers.{Number}
use Rattle.mailbox.specs.declared.key.Key.{Key}
use Rattle.mailbox.specs.Values.{Item, Mailed}
use Rattle.mailbox.specs.Order.{named, named_cmp, next_item, next_due}
use Rattle.centre_core.specs.State.{State}
use Rattle.listings.specs.declared.listing.Table.{Table}
use Rattle.listings.specs.declared.listing.Table.TheVariants as table
use Rattle.listings.specs.declared.walk.TablePlace.{TablePlace}
use Rattle.listings.specs.declared.walk.TablePlace.TheVariants as place
use Rattle.listings.specs.declared.walk.Entry.{Entry as BorrowedEntry}
use Rattle.listings.specs.declared.walk.Entry.TheVariants as borrowed
use Rattle.listings.specs.Entries.{Entry, RuleEntry, RadioEntry, ItemEntry, is_under, rule_entry, radio_entry, waits_at}

-- a borrowed entry as a value
abbrev pub entry_of : {B : Type 0} → BorrowedEntry B → Entry
entry_of (borrowed.Rule prefix rule) = RuleEntry prefix rule
entry_of (borrowed.Radio itsi radio) = RadioEntry itsi radio
entry_of (borrowed.Item item) = ItemEntry item.now

-- where an entry is in its table
abbrev pub place_of : Entry → TablePlace
place_of (RuleEntry prefix rule) = place.Rule prefix
place_of (RadioEntry itsi radio) = place.Radio itsi
place_of (ItemEntry w) = place.Item w.number w.key

-- the number is greater than that of this radio, if there is one
abbrev pub is_past : Option Itsi → ℕ → Bool
is_past None n = true
is_past (Some itsi) n = nat_lt itsi n

-- the entry, if the prefix begins its path
abbrev pub if_under : {V : Type 0} → Path → Option (Path × V) → Option (Path × V)
if_under prefix None = None
if_under prefix (Some e) = if begins prefix e.0 then Some e else None

-- each radio is under the 48 bits of an identity
abbrev pub AreIdentities : PathMap Radio → Type 0
AreIdentities radios = All (λ e. length e.0 ≡ 48) (map.entries radios)

-- the first radio under the prefix after this one, or the first of all
abbrev pub radio_after : Registered → Option Path → Option Itsi → Option (Path × Radio)
radio_after s prefix after = next_of path_cmp (λ e. e.0) (filter (λ e. is_under prefix e.0) (map.entries s.radios)) (option_map id_path after)

-- the first item after this number and key that waits at the station, or the first of all that do
abbrev pub waiting_from : Registered → Mailed → Station → Option (Number × Key) → Option Item
waiting_from r m station after = next_of named_cmp named (filter (waits_at r station) m.items) after

-- the same of a state
abbrev pub next_waiting : State → Station → Option (Number × Key) → Option Item
next_waiting s station after = waiting_from s.registered s.mail station after

-- the first entry of a table after a place, or the first of all; none after a place of another table
abbrev pub entry_after : State → Table → Option TablePlace → Option Entry
entry_after s table.Rules None = option_map rule_entry (next_entry s.registered.rules None)
entry_after s table.Rules (Some (place.Rule prefix)) = option_map rule_entry (next_entry s.registered.rules (Some prefix))
entry_after s (table.Radios prefix) None = option_map radio_entry (radio_after s.registered prefix None)
entry_after s (table.Radios prefix) (Some (place.Radio itsi)) = option_map radio_entry (radio_after s.registered prefix (Some itsi))
entry_after s table.Items None = option_map ItemEntry (next_item s.mail None)
entry_after s table.Items (Some (place.Item number key)) = option_map ItemEntry (next_item s.mail (Some (number, key)))
entry_after s (table.Due moment) None = option_map ItemEntry (next_due s.mail moment None)
entry_after s (table.Due moment) (Some (place.Item number key)) = option_map ItemEntry (next_due s.mail moment (Some (number, key)))
entry_after s (table.WaitingAt station) None = option_map ItemEntry (next_waiting s station None)
entry_after s (table.WaitingAt station) (Some (place.Item number key)) = option_map ItemEntry (next_waiting s station (Some (number, key)))
entry_after s table other = None

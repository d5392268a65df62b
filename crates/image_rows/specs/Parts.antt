-- The row after a place, by the tables: the next entry of the place's part, or else the first one of a later part.
use Rattle.std.specs.Prelude.{◌+◌, ◌<◌, ◌^◌, List, [], ◌∷◌, drop, Option, Some, None}
use Rattle.std.specs.Option.{option_map, option_or}
use Rattle.identity.specs.Numbers.{Itsi}
use Rattle.identity.specs.Path.{Path, id_path}
use Rattle.prefix_tree.specs.Next.{next_entry}
use Rattle.registration.specs.Numbers.{Station}
use Rattle.mailbox.specs.Numbers.{Number}
use Rattle.mailbox.specs.declared.key.Key.{Key}
use Rattle.mailbox.specs.Order.{next_item}
use Rattle.centre_core.specs.State.{State}
use Rattle.image_rows.specs.Numbers.{Epoch}
use Rattle.image_rows.specs.declared.place.RowPlace.{RowPlace}
use Rattle.image_rows.specs.declared.place.RowPlace.TheVariants as place
use Rattle.image_rows.specs.Rows.{Row, HeaderRow, MailRow, rule_row, radio_row, served_rows, header_of}

-- the first of these rows, if there is one
abbrev pub first : List Row → Option Row
first [] = None
first (row ∷ rows) = Some row

-- the row of the first station after this one that has an accepted command
abbrev pub after_station : State → Station → Option Row
after_station s station = first (served_rows (station + 1) (drop station s.served))

-- the row of the first item after this one, or of all, or else the first one after the items
abbrev pub after_item : State → Option (Number × Key) → Option Row
after_item s after = option_or (option_map MailRow (next_item s.mail after)) (after_station s 0)

-- the row of the first radio after this one, or of all, or else the first one after the radios
abbrev pub after_radio : State → Option Itsi → Option Row
after_radio s after = option_or (option_map (radio_row s.groups) (next_entry s.registered.radios (option_map id_path after))) (after_item s None)

-- the row of the first rule after this one, or of all, or else the first one after the rules
abbrev pub after_rule : State → Option Path → Option Row
after_rule s after = option_or (option_map rule_row (next_entry s.registered.rules after)) (after_radio s None)

-- the row after a place of the image; the first of all is the header
abbrev pub row_by_tables : Epoch → State → Option RowPlace → Option Row
row_by_tables epoch s None = Some (HeaderRow (header_of epoch s))
row_by_tables epoch s (Some place.Header) = after_rule s None
row_by_tables epoch s (Some (place.Rule prefix)) = after_rule s (Some prefix)
row_by_tables epoch s (Some (place.Radio itsi)) = after_radio s (Some itsi)
row_by_tables epoch s (Some (place.Mail number key)) = after_item s (Some (number, key))
row_by_tables epoch s (Some (place.Served station)) = after_station s station

-- a radio's number has 48 bits
abbrev pub PlaceInRange : Option RowPlace → Type 0
PlaceInRange None = Unit {0}
PlaceInRange (Some place.Header) = Unit {0}
PlaceInRange (Some (place.Rule prefix)) = Unit {0}
PlaceInRange (Some (place.Radio itsi)) = itsi < 2 ^ 48
PlaceInRange (Some (place.Mail number key)) = Unit {0}
PlaceInRange (Some (place.Served station)) = Unit {0}

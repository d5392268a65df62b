-- The rows of a state one after another: each is the first after the place of the one before.
use Rattle.std.specs.Prelude.{ℕ, List, [], ◌∷◌, map as each, Option}
use Rattle.std.specs.Int.{from_bool}
use Rattle.std.specs.Ordering.{nat_cmp}
use Rattle.std.specs.declared.cmp.Ordering.{Ordering}
use Rattle.std.specs.Cmp.Lexicographic.{slice_cmp}
use Rattle.prefix_tree.specs.Following.{next_of}
use Rattle.mailbox.specs.Order.{place_at}
use Rattle.centre_core.specs.State.{State}
use Rattle.image_rows.specs.Numbers.{Epoch}
use Rattle.image_rows.specs.declared.place.RowPlace.{RowPlace}
use Rattle.image_rows.specs.declared.place.RowPlace.TheVariants as place
use Rattle.image_rows.specs.Rows.{Row, HeaderRow, RuleRow, RadioRow, MailRow, ServedRow, rows_of}

-- where a row is in its image
abbrev pub place_of : Row → RowPlace
place_of (HeaderRow h) = place.Header
place_of (RuleRow prefix rule) = place.Rule prefix
place_of (RadioRow itsi radio groups) = place.Radio itsi
place_of (MailRow w) = place.Mail w.number w.key
place_of (ServedRow station last) = place.Served station

-- which part of the image the place is in
abbrev pub part_of : RowPlace → ℕ
part_of place.Header = 0
part_of (place.Rule prefix) = 1
part_of (place.Radio itsi) = 2
part_of (place.Mail number key) = 3
part_of (place.Served station) = 4

-- where in its part: by prefix, by number, by number and key, by station
abbrev pub within_part : RowPlace → List ℕ
within_part place.Header = []
within_part (place.Rule prefix) = each from_bool prefix
within_part (place.Radio itsi) = itsi ∷ []
within_part (place.Mail number key) = place_at number key
within_part (place.Served station) = station ∷ []

-- by part, then within it
abbrev pub place_cmp : RowPlace → RowPlace → Ordering
place_cmp p q = slice_cmp nat_cmp (part_of p ∷ within_part p) (part_of q ∷ within_part q)

-- the first row after a place, which may have no row itself, or the first row of all
abbrev pub row_after : Epoch → State → Option RowPlace → Option Row
row_after epoch s after = next_of place_cmp place_of (rows_of epoch s) after

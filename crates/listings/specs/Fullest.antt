-- The fullest mailbox.
use Rattle.std.specs.Prelude.{ℕ, Bool, List, count_by, nat_le, Option}
use Rattle.std.specs.List.{find, list_all}
use Rattle.std.specs.Option.{option_map}
use Rattle.identity.specs.Numbers.{Itsi}
use Rattle.mailbox.specs.Item.{is_to}
use Rattle.mailbox.specs.Values.{Item}

-- how many of these items wait for the destination of this one
abbrev pub beside : List Item → Item → ℕ
beside items w = count_by (is_to w.key.destination) items

-- no more items wait for any destination than for that of this item
abbrev pub is_in_fullest : List Item → Item → Bool
is_in_fullest items w = list_all (λ other. nat_le (beside items other) (beside items w)) items

-- the destination for which most items wait, and how many; of several the one whose first item comes first. None where nothing waits
abbrev pub fullest : List Item → Option (Itsi × ℕ)
fullest items = option_map (λ w. (w.key.destination, beside items w)) (find (is_in_fullest items) items)

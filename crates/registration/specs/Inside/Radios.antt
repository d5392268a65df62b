-- How the known radios are stored: in a list by their identities' numbers.
use Rattle.std.specs.Prelude.{ℕ, ◌+◌, ◌<◌, ◌^◌, List, Option, Some, None}
use Rattle.std.specs.List.{All}
use Rattle.std.specs.List.Sorted.{IsStrictlySortedBy}
use Rattle.std.specs.Map.{keys_of}
use Rattle.std.specs.Ordering.{nat_cmp}
use Rattle.std.specs.FinMap as map
use Rattle.identity.specs.Numbers.{Itsi}
use Rattle.prefix_tree.specs.Table.{PathMap}
use Rattle.registration.specs.declared.radio.Radio.{Radio}
use Rattle.registration.specs.Listed.{under_bits}

-- the radios under the bits of their identities
abbrev pub radios_of : List (Itsi × Radio) → PathMap Radio
radios_of radios = map.from_entries (under_bits radios)

-- the numbers rise, so that none occurs twice, and each is an identity's
abbrev pub AreInOrder : List (Itsi × Radio) → Type 0
AreInOrder radios = IsStrictlySortedBy nat_cmp (keys_of radios) × All (λ number. number < 2 ^ 48) (keys_of radios)

-- the least number after an identity, or the least of all
abbrev pub past : Option Itsi → ℕ
past None = 0
past (Some itsi) = itsi + 1

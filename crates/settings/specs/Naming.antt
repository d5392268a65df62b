-- Names in order, each with its place, and the first place whose name is at an earlier place too. Names are compared
-- byte by byte.
use Rattle.std.specs.Prelude.{◌-◌, Bool, List, Option, option_map, map, take, find, bytes_eq, String, string_bytes}
use Rattle.std.specs.Borrow.{Bor}
use Rattle.std.specs.List.{enumerate_from, list_any}
use Rattle.indexmap.specs.IndexMap.{IndexMap}
use Rattle.settings.specs.Numbers.{Byte, Place}

-- the bytes of each name
abbrev pub texts : List (Bor (List Byte)) → List (List Byte)
texts names = map (λ name. name.now) names

-- each name with its place, the first at 1
abbrev pub placed : List (List Byte) → List (Place × List Byte)
placed names = enumerate_from 1 names

-- the entries of a map from names to places, in its order
abbrev pub entries_of : {A S : Type 0} → IndexMap (String A) Place S → List (Place × List Byte)
entries_of places = map (λ entry. (entry.1, string_bytes entry.0)) places.entries

-- the names that have a place
abbrev pub names_of : List (Place × List Byte) → List (List Byte)
names_of places = map (λ place. place.1) places

-- the name is one of these
abbrev pub is_among : List (List Byte) → List Byte → Bool
is_among names name = list_any (bytes_eq name) names

-- the name at this place is at an earlier place too
abbrev pub came_earlier : List (List Byte) → Place × List Byte → Bool
came_earlier names place = is_among (take (place.0 - 1) names) place.1

-- the first place whose name is at an earlier place too
unfoldable pub first_twice : List (List Byte) → Option Place
first_twice names = option_map (λ place. place.0) (find (came_earlier names) (placed names))

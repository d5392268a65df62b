-- Finite maps under prefixes, and the longest prefix that begins an identity.
use Rattle.std.specs.Prelude.{◌≡◌, ℕ, zero, suc, ◌+◌, ◌<◌, length, take, Option, Some, None, IsTrue}
use Rattle.std.specs.Option.{option_map, option_or}
use Rattle.std.specs.Coded.{Coded, coded_bool, coded_list}
use Rattle.std.specs.FinMap as map
use Rattle.identity.specs.Path.{Path, path_cmp, begins}

-- a finite map from prefixes to values of V, in the order of the prefixes
abbrev pub PathMap : Type 0 → Type 0
PathMap V = map.FinMap path_cmp V

-- the path, with the value that is under it
abbrev pub entry_at : {V : Type 0} → PathMap V → Path → Option (Path × V)
entry_at m p = option_map (λ v. (p, v)) (map.get m p)

-- what the map has at the longest of the path's beginnings of fewer than n bits that is in the map
unfoldable pub longest_below : {V : Type 0} → PathMap V → Path → ℕ → Option (Path × V)
longest_below m q zero = None
longest_below m q (suc n) = option_or (entry_at m (take n q)) (longest_below m q n)

-- the entry under the longest prefix in the map that begins the path
unfoldable pub longest : {V : Type 0} → PathMap V → Path → Option (Path × V)
longest m q = longest_below m q (length q + 1)

-- the entry is in the map, it begins the path, and no longer prefix in the map does
pub record IsLongest {V : Type 0} (m : PathMap V) (q : Path) (entry : Path × V) : Type 0 where
  pub in_map : map.get m entry.0 ≡ Some entry.1
  pub begins_path : IsTrue (begins entry.0 q)
  pub no_longer : (p : Path) → IsTrue (begins p q) → length entry.0 < length p → map.get m p ≡ None

-- this is such an entry, or there is none that begins the path
abbrev pub NamesLongest : {V : Type 0} → PathMap V → Path → Option (Path × V) → Type 0
NamesLongest m q None = (p : Path) → IsTrue (begins p q) → map.get m p ≡ None
NamesLongest m q (Some entry) = IsLongest m q entry

-- how such a map is stored, for proofs
abbrev pub coded_path : Coded Path
coded_path = coded_list coded_bool

-- a map, by how its paths and its values are stored
abbrev pub coded_table : {V : Type 0} → Coded V → Coded (PathMap V)
coded_table v = map.code coded_path v

-- The map that a list of entries in order makes.
use Rattle.std.specs.Prelude.{List, IsTrue}
use Rattle.std.specs.FinMap as map
use Rattle.identity.specs.Path.{Path, path_cmp}
use Rattle.prefix_tree.specs.Table.{PathMap}

-- the prefixes rise, so that none occurs twice
abbrev pub IsInOrder : {V : Type 0} → List (Path × V) → Type 0
IsInOrder es = IsTrue (map.is_sorted path_cmp es)

-- the map that they make
abbrev pub map_of : {V : Type 0} → List (Path × V) → PathMap V
map_of es = map.from_sorted es

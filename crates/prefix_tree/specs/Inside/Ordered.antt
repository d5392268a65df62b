-- How a map is kept in order: in a list of prefixes, each with its value, or with none.
use Rattle.std.specs.Prelude.{List, [], ◌∷◌, Option, Some, None}
use Rattle.std.specs.FinMap as map
use Rattle.identity.specs.Path.{Path}
use Rattle.prefix_tree.specs.declared.ordered.Held.{Held}
use Rattle.prefix_tree.specs.Table.{PathMap}
use Rattle.prefix_tree.specs.Change.{with_value}

-- the value that is held, if any is
abbrev pub held : {V : Type 0} → Option (Held V) → Option V
held None = None
held (Some h) = h.value

-- the map with these under their prefixes; where a prefix occurs twice, the first one counts
abbrev pub map_held : {V : Type 0} → List (Path × Held V) → PathMap V
map_held [] = map.empty
map_held (e ∷ es) = with_value (map_held es) e.0 e.1.value

-- The nodes of a tree with a node only where prefixes part or one ends, by its map alone.
use Rattle.std.specs.Prelude.{ℕ, ◌+◌, Bool, true, false, ◌&&◌, ◌||◌, cond, length, drop, List, [], ◌∷◌, ◌++◌}
use Rattle.std.specs.Option.{is_some}
use Rattle.std.specs.FinMap as map
use Rattle.identity.specs.Path.{Path, begins}
use Rattle.prefix_tree.specs.Table.{PathMap}

-- the path begins the key of some of these entries
abbrev pub any_under : {V : Type 0} → Path → List (Path × V) → Bool
any_under p [] = false
any_under p (e ∷ es) = begins p e.0 || any_under p es

-- the path begins some key of the map
unfoldable pub goes_on : {V : Type 0} → PathMap V → Path → Bool
goes_on m p = any_under p (map.entries m)

-- the path with one bit more
abbrev pub longer : Path → Bool → Path
longer p b = p ++ b ∷ []

-- where the tree has a node besides its root: at each key, and where keys go on with either bit
unfoldable pub is_place : {V : Type 0} → PathMap V → Path → Bool
is_place m p = is_some (map.get m p) || goes_on m (longer p false) && goes_on m (longer p true)

-- how many nodes are visited beyond p on the way to p and then q: where the way has a node (at p by `place`), the next one below it
unfoldable pub visits : {V : Type 0} → PathMap V → Path → Bool → Path → ℕ
visits m p place [] = 0
visits m p place (b ∷ q) = cond (place && goes_on m (longer p b)) 1 0 + visits m (longer p b) (is_place m (longer p b)) q

-- how many nodes are visited beyond the node at p on the way to q
unfoldable pub visits_beyond : {V : Type 0} → PathMap V → Path → Path → ℕ
visits_beyond m p q = visits m p true (drop (length p) q)

-- how many nodes are visited on the way to a path, the root with them
unfoldable pub nodes_on_way : {V : Type 0} → PathMap V → Path → ℕ
nodes_on_way m q = 1 + visits_beyond m [] q

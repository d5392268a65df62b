-- The first entry, and the first one after a path, in the order of the walk.
use Rattle.std.specs.Prelude.{ℕ, List, Option, Some, None}
use Rattle.std.specs.FinMap as map
use Rattle.identity.specs.Path.{Path, path_cmp}
use Rattle.prefix_tree.specs.Table.{PathMap}
use Rattle.prefix_tree.specs.Following.{next_of, one_by_one}

-- the first of these entries
abbrev pub first_entry : {V : Type 0} → List (Path × V) → Option (Path × V)
first_entry es = next_of path_cmp (λ e. e.0) es None

-- the first of these entries that comes after the path
abbrev pub entry_past : {V : Type 0} → Path → List (Path × V) → Option (Path × V)
entry_past q es = next_of path_cmp (λ e. e.0) es (Some q)

-- the first entry after the path, or the first of all
abbrev pub next_entry : {V : Type 0} → PathMap V → Option Path → Option (Path × V)
next_entry m after = next_of path_cmp (λ e. e.0) (map.entries m) after

-- the entries that are found by going from each to the next, n of them at most
abbrev pub followed : {V : Type 0} → PathMap V → ℕ → Option Path → List (Path × V)
followed m n after = one_by_one (next_entry m) (λ e. e.0) n after

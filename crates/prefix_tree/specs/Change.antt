-- What a map becomes where a closure changes one of its values, or drops it.
use Rattle.std.specs.Prelude.{◌≡◌, Option, Some, None}
use Rattle.std.specs.FinMap as map
use Rattle.identity.specs.Path.{Path}
use Rattle.prefix_tree.specs.Table.{PathMap}

-- the map with this under the path, or with nothing there
abbrev pub with_value : {V : Type 0} → PathMap V → Path → Option V → PathMap V
with_value m p None = map.remove m p
with_value m p (Some v) = map.insert m p v

-- of a value, if there is one, the closure makes this answer, and this is left of it
abbrev pub Makes : {V R : Type 0} → (V → R × Option V → Type 0) → Option V → Option R → Option V → Type 0
Makes post None answer left = (answer ≡ None) × (left ≡ None)
Makes {R = R} post (Some v) answer left = (r : R) × (answer ≡ Some r) × post v (r, left)

-- the closure makes this answer of the value under the path, if there is one, and the map has under the path what is left of it
abbrev pub IsChanged : {V R : Type 0} → (V → R × Option V → Type 0) → PathMap V → Path → PathMap V → Option R → Type 0
IsChanged {V} post old p new answer = (left : Option V) × (new ≡ with_value old p left) × Makes post (map.get old p) answer left

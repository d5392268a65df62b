-- How places come back to a station: by a small queue of its own, which knows of which queue they are.
use Rattle.std.specs.Prelude.{◌≡◌, ◌⊎◌, ℕ, List, [], ◌∷◌, All}
use mathlib.Core.Option.{some}
use lib.ListN.{get_elem?}
use Rattle.atomic_table.specs.Seated.{TableId}

-- any queue
abbrev pub some_queue : TableId
some_queue = record { words = 0; slots = 0; views_name = 0; atom = 0; block = 0; offset = 0; slot_names = [] }

-- All places here are of one queue, and each pass knows which. Before that is said, there is one pass and no place.
abbrev pub AreOfOneQueue : List TableId → List (List TableId) → Type 0
AreOfOneQueue items views =
    ((items ≡ []) × (views ≡ [] ∷ []))
    ⊎ ((queue : TableId) × All (λ x. x ≡ queue) items × ((pass : ℕ) (v : List TableId) → get_elem? views pass ≡ some v → v ≡ queue ∷ []))

-- What a walk over a map's entries gives.
use Rattle.std.specs.Prelude.{List, map as each}
use Rattle.std.specs.Borrow.{Bor}
use Rattle.identity.specs.Path.{Path}

-- entries with borrowed values, as entries with these values
abbrev pub seen : {V : Type 0} → List (Path × Bor V) → List (Path × V)
seen es = each (λ e. (e.0, e.1.now)) es

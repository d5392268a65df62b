-- Refusals in the order in which they are judged.
use Rattle.std.specs.Prelude.{Bool, List, [], ◌∷◌, Option, Some, None, if◌then◌else◌}
use Rattle.std.specs.Option.{option_or}

-- this refusal, where it applies
abbrev pub refused_if : {R : Type 0} → Bool → R → Option R
refused_if applies refusal = if applies then Some refusal else None

-- the first of the refusals that applies, or none
abbrev pub first_of : {R : Type 0} → List (Option R) → Option R
first_of [] = None
first_of (refusal ∷ []) = refusal
first_of (refusal ∷ next ∷ others) = option_or refusal (first_of (next ∷ others))

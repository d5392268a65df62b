-- Damage that is added after other damage.
use Rattle.std.proofs.Common.{◌≡◌, ◌+◌, ℕ, List, ◌++◌, ◌∙◌, ap, add-one, append_assoc}
use Rattle.image_rows.specs.Rows.{Header}
use Rattle.recovery.specs.declared.damaged.Damage.{Damage}
use Rattle.recovery.specs.Damage.{Begins, row_damage, rows_damage}

-- what comes after does not change the first
pub keeps_first : (first : ℕ) (old added new : List Damage) → new ≡ old ++ added → Begins first old → Begins first new
keeps_first first old added new is (what, why, more, begins) = (what, why, more ++ added, is ∙ ap (λ (d : List Damage). d ++ added) begins)

-- one row more
pub rows_more : (image : List (List ℕ)) (slot : ℕ) (h : Header) (place n : ℕ) (old before new : List Damage) → before ≡ old ++ rows_damage image slot h place n
    → new ≡ before ++ row_damage image slot h (place + n) → new ≡ old ++ rows_damage image slot h place (n + 1)
unfolding rows_damage
rows_more image slot h place n old before new was is =
    rw (add-one, is, was) (append_assoc old (rows_damage image slot h place n) (row_damage image slot h (place + n)))

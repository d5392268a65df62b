-- The row after a place, as its sector is read.
use Rattle.std.proofs.Common.{◌≡◌, ℕ, List, Option, Some, None, refl, ap, ◌∙◌, arith}
use Rattle.std.specs.Option.{option_map}
use Rattle.base.proofs.Options.{some_is}
use Rattle.prefix_tree.specs.Following.{is_after}
use Rattle.centre_core.specs.State.{State, IsState}
use Rattle.centre_core.specs.StateRanges.{StateInRange}
use Rattle.image_rows.specs.declared.place.RowPlace.{RowPlace}
use Rattle.image_rows.specs.Rows.{Row, rows_of}
use Rattle.image_rows.specs.RowReading.{IsRow, row_in}
use Rattle.image_rows.specs.InTurn.{placed_row}
use Rattle.image_rows.specs.Walking.{place_of, place_cmp, row_after}
use Rattle.image_rows.proofs.Images.{are_rows}
use Rattle.image_rows.proofs.InTurn.{found_is}
use Rattle.register_text.proofs.Again.{sector_read}

reported_by : (s : State) (after : Option RowPlace) (reported : RowPlace × List ℕ) → IsState s → StateInRange s → (o : Option Row) →
    row_after 1 s after ≡ o → Some reported ≡ option_map placed_row o → (Some reported.0 ≡ option_map place_of o) × (row_in reported.1 ≡ o)
reported_by s after reported state ranges None found e = absurd cc
reported_by s after reported state ranges (Some row) found e =
    let same : reported ≡ placed_row row = some_is reported (placed_row row) e in
    let is : IsRow row = found_is IsRow (is_after place_cmp place_of after) (rows_of 1 s) row found (are_rows 1 s (omega arith) (omega arith) state ranges) in
    (ap (λ (t : RowPlace × List ℕ). Some t.0) same, ap (λ (t : RowPlace × List ℕ). row_in t.1) same ∙ sector_read row is)

-- what is reported is the row's place, and its sector is read as the row
pub reported_line : (s : State) (after : Option RowPlace) (reported : RowPlace × List ℕ) → IsState s → StateInRange s → Some reported ≡ option_map placed_row (row_after 1 s after)
    → (Some reported.0 ≡ option_map place_of (row_after 1 s after)) × (row_in reported.1 ≡ row_after 1 s after)
reported_line s after reported state ranges is = reported_by s after reported state ranges (row_after 1 s after) refl is

-- The rows of an image, one after another.
use Rattle.std.proofs.Common.{◌≡◌, Bool, true, false, ℕ, zero, suc, ◌+◌, ◌-◌, ◌<◌, ◌≤◌, List, [], ◌∷◌, drop, length, Option, Some, None, refl, sym, ap, ◌∙◌, arith}
use Rattle.std.specs.Prelude.{map as each}
use Rattle.std.specs.Option.{is_none, is_some, option_map}
use Rattle.std.specs.Prelude.{nat_eq, not}
use Rattle.std.proofs.lemmas.Bool.Decides.{nat_tests}
use Rattle.sector_disk.specs.Disk.{sector}
use Rattle.prefix_tree.specs.Following.{one_by_one, then_on}
use Rattle.centre_core.specs.State.{State, IsState}
use Rattle.centre_core.specs.StateRanges.{StateInRange}
use Rattle.image_rows.specs.declared.place.RowPlace.{RowPlace}
use Rattle.image_rows.specs.Rows.{Row, rows_of}
use Rattle.image_rows.specs.RowText.{sector_of}
use Rattle.image_rows.specs.InTurn.{placed_row}
use Rattle.image_rows.specs.Walking.{place_of, row_after}
use Rattle.image_rows.proofs.Walking.{rows_walk}
use Rattle.checkpoint.specs.Calls.{row_sector}
use Rattle.checkpoint.specs.Progress.{IsProgress}
use Rattle.checkpoint.specs.declared.progress.ImageProgress.{ImageProgress}

-- what `is_none` answers
pub none_is : {T : Type 0} (o : Option T) (r : Bool) → is_some o ≡ not r → r ≡ is_none o
none_is None true e = refl
none_is None false e = absurd cc
none_is (Some x) true e = absurd cc
none_is (Some x) false e = refl

-- what is at a place of a list
record At (rows : List Row) (k : ℕ) (row : Row) (rest : List Row) : Type 0 where
  pub lt : k < length rows
  pub is : sector (each sector_of rows) k ≡ sector_of row
  pub more : drop (suc k) rows ≡ rest

at_drop : (rows : List Row) (k : ℕ) (row : Row) (rest : List Row) → drop k rows ≡ row ∷ rest → At rows k row rest
at_drop [] zero row rest e = absurd cc
at_drop [] (suc k) row rest e = absurd cc
at_drop (r ∷ rows) zero row rest e =
    let first : r ≡ row = cc in
    let others : rows ≡ rest = cc in
    record { lt = omega arith; is = ap sector_of first; more = others }
at_drop (r ∷ rows) (suc k) row rest e = let on = at_drop rows k row rest e in record { lt = omega (arith, on.lt); is = on.is; more = on.more }

none_left : (rows : List Row) (k : ℕ) → [] ≡ drop k rows → length rows ≤ k
none_left [] k e = omega arith
none_left (r ∷ rows) zero e = absurd cc
none_left (r ∷ rows) (suc k) e = let on = none_left rows k e in omega (arith, on)

module _ (epoch : ℕ) (state : State) where
  -- k rows were written, and this comes next
  pub record Walk (stated : Option (RowPlace × List ℕ)) (k : ℕ) : Type 0 where
    pub after : Option RowPlace
    pub is : stated ≡ option_map placed_row (row_after epoch state after)
    pub few : k ≤ length (rows_of epoch state)
    pub on : one_by_one (row_after epoch state) place_of (length (rows_of epoch state) + 1 - k) after ≡ drop k (rows_of epoch state)

  pub walk_begun : IsState state → StateInRange state → (stated : Option (RowPlace × List ℕ)) → stated ≡ option_map placed_row (row_after epoch state None) → Walk stated 0
  walk_begun state_is ranges stated is =
      let all : length (rows_of epoch state) + 1 - 0 ≡ length (rows_of epoch state) + 1 = omega arith in
      record { after = None; is = is; few = omega arith; on = rw all (rows_walk epoch state (length (rows_of epoch state) + 1) state_is ranges (omega arith)) }

  -- that row is the next one, and then comes another
  pub record Goes (k : ℕ) (bytes : List ℕ) (stated : Option (RowPlace × List ℕ)) : Type 0 where
    pub lt : k < length (rows_of epoch state)
    pub is : bytes ≡ row_sector (epoch, state) k
    pub more : Walk stated (k + 1)

  one_more : (k : ℕ) (place : RowPlace) (bytes : List ℕ) (new : Option (RowPlace × List ℕ)) (row : Row) →
      Some (place, bytes) ≡ Some (placed_row row) → new ≡ option_map placed_row (row_after epoch state (Some place)) →
      k ≤ length (rows_of epoch state)
      → row ∷ one_by_one (row_after epoch state) place_of (length (rows_of epoch state) - k) (Some (place_of row)) ≡ drop k (rows_of epoch state) → Goes k bytes new
  one_more k place bytes new row e next_is few on =
      let pair : (place, bytes) ≡ placed_row row = cc in
      let here : place ≡ place_of row = ap (λ (x : RowPlace × List ℕ). x.0) pair in
      let text : bytes ≡ sector_of row = ap (λ (x : RowPlace × List ℕ). x.1) pair in
      let next : k + 1 ≡ suc k = omega arith in
      let left : length (rows_of epoch state) + 1 - suc k ≡ length (rows_of epoch state) - k = omega arith in
      let at = at_drop (rows_of epoch state) k row (one_by_one (row_after epoch state) place_of (length (rows_of epoch state) - k) (Some (place_of row))) (sym on) in
      record {
        lt = at.lt;
        is = text ∙ sym at.is;
        more = record { after = Some place; is = next_is; few = omega (arith, at.lt); on = rw (next, left, here) (sym at.more) };
      }

  counted : (k : ℕ) → k ≤ length (rows_of epoch state) → length (rows_of epoch state) + 1 - k ≡ suc (length (rows_of epoch state) - k)
  counted k few = omega (arith, few)

  pub walk_on : (stated new : Option (RowPlace × List ℕ)) (k : ℕ) (place : RowPlace) (bytes : List ℕ) → Walk stated k → stated ≡ Some (place, bytes) →
      new ≡ option_map placed_row (row_after epoch state (Some place)) → Goes k bytes new
  walk_on stated new k place bytes walk e next_is =
      let on = rw (counted k walk.few) at walk.on in
      elim (row_after epoch state walk.after) as (λ o. Some (place, bytes) ≡ option_map placed_row o →
      then_on (λ x. one_by_one (row_after epoch state) place_of (length (rows_of epoch state) - k) (Some (place_of x))) o ≡ drop k
      (rows_of epoch state) → Goes k bytes new) [
        | None ↦ λ none is. absurd cc
        | Some row ↦ λ some is. one_more k place bytes new row some next_is walk.few is
      ] (sym e ∙ walk.is) on

  pub walk_done : (stated : Option (RowPlace × List ℕ)) (k : ℕ) → Walk stated k → stated ≡ None → k ≡ length (rows_of epoch state)
  walk_done stated k walk e =
      let on = rw (counted k walk.few) at walk.on in
      elim (row_after epoch state walk.after) as
      (λ o. None ≡ option_map placed_row o →
      then_on (λ x. one_by_one (row_after epoch state) place_of (length (rows_of epoch state) - k) (Some (place_of x))) o ≡ drop k
      (rows_of epoch state) → k ≡ length (rows_of epoch state)) [
        | None ↦ λ none is. let past = none_left (rows_of epoch state) k is in let few = walk.few in omega (arith, past, few)
        | Some row ↦ λ some is. absurd cc
      ] (sym e ∙ walk.is) on

  -- the row that comes next
  pub walk_here : (stated : Option (RowPlace × List ℕ)) (k : ℕ) (next : RowPlace × List ℕ) → Walk stated k → stated ≡ Some next →
      Goes k next.1 (option_map placed_row (row_after epoch state (Some next.0)))
  walk_here stated k next walk e = walk_on stated (option_map placed_row (row_after epoch state (Some next.0))) k next.0 next.1 walk e refl

  -- ---- a few rows at a time

  pub as_walk : (progress : ImageProgress) → IsProgress epoch state progress → (stated : Option (RowPlace × List ℕ)) →
      stated ≡ option_map placed_row (row_after epoch state progress.last) → Walk stated progress.written
  as_walk progress is stated e = record { after = progress.last; is = e; few = is.few; on = is.on }

  -- the next row is written
  pub progress_on : (progress : ImageProgress) → IsProgress epoch state progress → (place : RowPlace) (bytes : List ℕ) → Some (place, bytes) ≡ option_map placed_row (row_after epoch state progress.last)
      → (progress.written < length (rows_of epoch state)) × (bytes ≡ row_sector (epoch, state) progress.written) ×
      IsProgress epoch state (record progress { written = progress.written + 1; last = Some place })
  progress_on progress is place bytes e =
      let on = rw (counted progress.written is.few) at is.on in
      elim (row_after epoch state progress.last) as (λ o. Some (place, bytes) ≡ option_map placed_row o →
      then_on (λ x. one_by_one (row_after epoch state) place_of (length (rows_of epoch state) - progress.written) (Some (place_of x))) o ≡ drop
      progress.written (rows_of epoch state) → (progress.written < length (rows_of epoch state)) ×
      (bytes ≡ row_sector (epoch, state) progress.written) ×
      IsProgress epoch state (record progress { written = progress.written + 1; last = Some place })) [
        | None ↦ λ none is. absurd cc
        | Some row ↦ λ some rest. one_written progress.written place bytes row some is.few rest
      ] e on
    where
      one_written : (k : ℕ) (place : RowPlace) (bytes : List ℕ) (row : Row) → Some (place, bytes) ≡ Some (placed_row row) →
          k ≤ length (rows_of epoch state) → row ∷ one_by_one (row_after epoch state) place_of (length (rows_of epoch state) - k)
          (Some (place_of row)) ≡ drop k (rows_of epoch state)
          → (k < length (rows_of epoch state)) × (bytes ≡ row_sector (epoch, state) k) × IsProgress epoch state (record progress { written = k + 1; last = Some place })
      one_written k place bytes row e few on =
          let pair : (place, bytes) ≡ placed_row row = cc in
          let here : place ≡ place_of row = ap (λ (x : RowPlace × List ℕ). x.0) pair in
          let text : bytes ≡ sector_of row = ap (λ (x : RowPlace × List ℕ). x.1) pair in
          let next : k + 1 ≡ suc k = omega arith in
          let left : length (rows_of epoch state) + 1 - suc k ≡ length (rows_of epoch state) - k = omega arith in
          let at = at_drop (rows_of epoch state) k row (one_by_one (row_after epoch state) place_of (length (rows_of epoch state) - k) (Some (place_of row))) (sym on) in (
            at.lt,
            text ∙ sym at.is,
            record { few = omega (arith, at.lt); on = rw (next, left, here) (sym at.more) },
          )

  -- no row is left
  pub progress_done : (progress : ImageProgress) → IsProgress epoch state progress → None ≡ option_map placed_row (row_after epoch state progress.last) → progress.written ≡ length (rows_of epoch state)
  progress_done progress is e = walk_done None progress.written (as_walk progress is None e) refl

  -- one is left
  pub progress_left : (progress : ImageProgress) → IsProgress epoch state progress → (next : RowPlace × List ℕ) →
      Some next ≡ option_map placed_row (row_after epoch state progress.last) → progress.written < length (rows_of epoch state)
  progress_left progress is next e = (progress_on progress is next.0 next.1 e).0

  -- whether none is left
  pub whole_where_none : (progress : ImageProgress) → IsProgress epoch state progress →
      is_none (option_map placed_row (row_after epoch state progress.last)) ≡ nat_eq progress.written (length (rows_of epoch state))
  whole_where_none progress is =
      elim (option_map placed_row (row_after epoch state progress.last)) as (λ o. o ≡ option_map placed_row (row_after epoch state progress.last) →
      is_none o ≡ nat_eq progress.written (length (rows_of epoch state))) [
        | None ↦ λ e. let done = progress_done progress is e in grind (arith, nat_tests)
        | Some next ↦ λ e. let left = progress_left progress is next e in grind (arith, nat_tests)
      ] refl

pub progress_begun : (epoch : ℕ) (state : State) → IsState state → StateInRange state → (progress : ImageProgress) → progress.written ≡ 0 → progress.last ≡ None → IsProgress epoch state progress
progress_begun epoch state is ranges progress written last =
    let all : length (rows_of epoch state) + 1 - 0 ≡ length (rows_of epoch state) + 1 = omega arith in
    record { few = omega (arith, written); on = rw (written, last, all) (rows_walk epoch state (length (rows_of epoch state) + 1) is ranges (omega arith)) }

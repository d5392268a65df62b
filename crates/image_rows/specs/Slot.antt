-- How sectors are read that begin with an image, whatever follows it.
use Rattle.std.specs.Prelude.{◌≡◌, ℕ, ◌+◌, List, [], ◌∷◌, ◌++◌, length, map as each, Option, Some, None, Result, Ok, Err}
use Rattle.registration.specs.declared.limits.Limits.{Limits}
use Rattle.centre_core.specs.State.{State}
use Rattle.image_rows.specs.Numbers.{Epoch}
use Rattle.image_rows.specs.Rows.{Row}
use Rattle.image_rows.specs.Loading.{◌>>=◌, Loading, row_taken, all_taken, begun, finished, state_of_rows}

-- what sectors are read as: an image, its epoch and its state, or the place of the first sector at fault
abbrev pub SlotRead : Type 0
SlotRead = Result (ℕ × State) ℕ

-- the image, once the last row has come; else what the rest is read as
abbrev pub or_later : Option (Epoch × State) → SlotRead → SlotRead
or_later (Some image) later = Ok image
or_later None later = later

-- takes a sector's row, and reads on unless it was the last; with no such row the sector at this place is at fault
abbrev pub with_row : ℕ → Option Loading → (Loading → SlotRead) → SlotRead
with_row place None more = Err place
with_row place (Some l) more = or_later (finished l) (more l)

-- takes row after row until all that the header states have come: the epoch and the state, or the place of the first
-- sector that is no row or can't come there
abbrev pub read_from : ℕ → Loading → List (Option Row) → SlotRead
read_from place l [] = Err place
read_from place l (sector ∷ sectors) = with_row place (sector >>= row_taken l) (λ n. read_from (place + 1) n sectors)

-- how a slot's sectors are read, each a row or none
abbrev pub slot_read : Limits → List (Option Row) → SlotRead
slot_read limits sectors = read_from 0 (begun limits) sectors

-- the sectors begin with rows that make this image
pub record BeginsWith (limits : Limits) (sectors : List (Option Row)) (image : Epoch × State) : Type 0 where
  pub rows : List Row
  pub following : List (Option Row)
  pub are : sectors ≡ each Some rows ++ following
  pub state_is : state_of_rows limits rows ≡ Some image

-- the first of these sectors can't be taken
abbrev pub Stops : Loading → List (Option Row) → Type 0
Stops l [] = Unit {0}
Stops l (sector ∷ sectors) = (sector >>= row_taken l) ≡ None

-- so many sectors are rows that may come; the next one is no row, or may not come, or is missing
pub record FirstBad (limits : Limits) (sectors : List (Option Row)) (place : ℕ) : Type 0 where
  pub rows : List Row
  pub following : List (Option Row)
  pub so_far : Loading
  pub are : sectors ≡ each Some rows ++ following
  pub so_many : length rows ≡ place
  pub taken : all_taken (begun limits) rows ≡ Some so_far
  pub bad : Stops so_far following

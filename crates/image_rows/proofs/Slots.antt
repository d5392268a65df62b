-- A slot is read as the image with which it begins.
use Rattle.std.proofs.Common.{◌≡◌, ℕ, ◌+◌, List, [], ◌∷◌, ◌++◌, length, Option, Some, None, Result, Ok, Err, refl, ap, ◌∙◌, arith}
use Rattle.std.specs.Prelude.{map as each}
use Rattle.std.specs.List.{All}
use Rattle.std.proofs.lemmas.List.Elements.{All-head, All-tail, All-push, All-nil}
use Rattle.registration.specs.declared.limits.Limits.{Limits}
use Rattle.centre_core.specs.State.{State}
use Rattle.image_rows.specs.Rows.{Row, RowInRange}
use Rattle.image_rows.specs.Loading.{◌>>=◌, Loading, row_taken, all_taken, begun, finished, state_of_rows}
use Rattle.image_rows.specs.Slot.{or_later, with_row, read_from, slot_read, BeginsWith, FirstBad, Stops}
use Rattle.image_rows.proofs.Rules.{all_taken-append}
use Rattle.image_rows.proofs.Exactly.{bind_some}
use Rattle.image_rows.proofs.Counts.{none_longer}

-- the rows so far, and one more
abbrev Reached : Limits → List Row → Loading → Type 0
Reached limits rows l = all_taken (begun limits) rows ≡ Some l

then_all : (limits : Limits) (prefix rows : List Row) (l : Loading) → Reached limits prefix l → all_taken (begun limits) (prefix ++ rows) ≡ all_taken l rows
then_all limits prefix rows l reached = all_taken-append (begun limits) prefix rows ∙ ap (λ r. r >>= λ m. all_taken m rows) reached

one_further : (limits : Limits) (prefix : List Row) (l n : Loading) (row : Row) → Reached limits prefix l → row_taken l row ≡ Some n → Reached limits (prefix ++ row ∷ []) n
one_further limits prefix l n row reached is = then_all limits prefix (row ∷ []) l reached ∙ ap (λ r. r >>= λ m. all_taken m []) is

-- an image that is whole has no rows after it
not_whole : (limits : Limits) (prefix : List Row) (row : Row) (rows : List Row) (l : Loading) (image : ℕ × State) → All RowInRange prefix →
    All RowInRange (row ∷ rows) → Reached limits prefix l → (all_taken l (row ∷ rows) >>= finished) ≡ Some image → finished l ≡ None
not_whole limits prefix row rows l image low high reached is =
    elim (finished l) as (λ o. finished l ≡ o → o ≡ None) [
      | None ↦ λ e. refl
      | Some short ↦ λ e.
          let stands : state_of_rows limits prefix ≡ Some short = ap (λ r. r >>= finished) reached ∙ e in
          let longer : state_of_rows limits (prefix ++ row ∷ rows) ≡ Some image = ap (λ r. r >>= finished) (then_all limits prefix (row ∷ rows) l reached) ∙ is in
          let none : row ∷ rows ≡ [] = none_longer limits prefix (row ∷ rows) short.0 image.0 short.1 image.1 low high stands longer in
          absurd cc
    ] refl

-- the last row ends the reading
ends : (place : ℕ) (n : Loading) (following : List (Option Row)) (image : ℕ × State) → finished n ≡ Some image → with_row place (Some n) (λ m. read_from (place + 1) m following) ≡ Ok image
ends place n following image e = rw e refl

goes_on : (place : ℕ) (n : Loading) (following : List (Option Row)) → finished n ≡ None → with_row place (Some n) (λ m. read_from (place + 1) m following) ≡ read_from (place + 1) n following
goes_on place n following e = rw e refl

one_step : (l : Loading) (row : Row) (rows : List Row) (image : ℕ × State) → (all_taken l (row ∷ rows) >>= finished) ≡ Some image → (n : Loading) ×
    (row_taken l row ≡ Some n) × ((all_taken n rows >>= finished) ≡ Some image)
one_step l row rows image is =
    let whole = bind_some (all_taken l (row ∷ rows)) finished image is in
    let first = bind_some (row_taken l row) (λ n. all_taken n rows) whole.0 whole.1 in
    (first.0, first.1, ap (λ r. r >>= finished) first.2 ∙ whole.2)

reads_from : (limits : Limits) (prefix : List Row) (row : Row) (rows : List Row) (following : List (Option Row)) (place : ℕ) (l : Loading)
    (image : ℕ × State) → All RowInRange prefix → All RowInRange (row ∷ rows) → Reached limits prefix l
    → (all_taken l (row ∷ rows) >>= finished) ≡ Some image → read_from place l (each Some (row ∷ rows) ++ following) ≡ Ok image
reads_from limits prefix row [] following place l image low high reached is =
    let step = one_step l row [] image is in
    ap (λ r. with_row place r (λ m. read_from (place + 1) m following)) step.1 ∙ ends place step.0 following image step.2
reads_from limits prefix row (next ∷ rest) following place l image low high reached is =
    let step = one_step l row (next ∷ rest) image is in
    let further = one_further limits prefix l step.0 row reached step.1 in
    let longer = All-push RowInRange prefix row low (All-head RowInRange row (next ∷ rest) high) in
    let others = All-tail RowInRange row (next ∷ rest) high in
    ap (λ r. with_row place r (λ m. read_from (place + 1) m (each Some (next ∷ rest) ++ following))) step.1
    ∙ goes_on place step.0 (each Some (next ∷ rest) ++ following) (not_whole limits (prefix ++ row ∷ []) next rest step.0 image longer others further step.2)
    ∙ reads_from limits (prefix ++ row ∷ []) next rest following (place + 1) step.0 image longer others further step.2

pub slot_reads : (limits : Limits) (rows : List Row) (following : List (Option Row)) (image : ℕ × State) → All RowInRange rows →
    state_of_rows limits rows ≡ Some image → slot_read limits (each Some rows ++ following) ≡ Ok image
unfolding finished
slot_reads limits [] following image ranges is = absurd cc
slot_reads limits (row ∷ rows) following image ranges is = reads_from limits [] row rows following 0 (begun limits) image (All-nil RowInRange) ranges refl is

-- ---- what it is read as, it is

pub record Found (l : Loading) (sectors : List (Option Row)) (image : ℕ × State) : Type 0 where
  pub rows : List Row
  pub following : List (Option Row)
  pub are : sectors ≡ each Some rows ++ following
  pub state_is : (all_taken l rows >>= finished) ≡ Some image

ok_is : (x y : ℕ × State) → (let r : Result (ℕ × State) ℕ = Ok x in r) ≡ Ok y → x ≡ y
ok_is x y e = cc

err_is : (x y : ℕ) → (let r : Result (ℕ × State) ℕ = Err x in r) ≡ Err y → x ≡ y
err_is x y e = cc

found_from : (place : ℕ) (l : Loading) (sectors : List (Option Row)) (image : ℕ × State) → read_from place l sectors ≡ Ok image → Found l sectors image
found_from place l [] image is = absurd cc
found_from place l (None ∷ sectors) image is = absurd cc
found_from place l (Some row ∷ sectors) image is =
    elim (row_taken l row) as (λ r. row_taken l row ≡ r → with_row place r (λ n. read_from (place + 1) n sectors) ≡ Ok image → Found l (Some row ∷ sectors) image) [
      | None ↦ λ e none. absurd cc
      | Some n ↦ λ e on.
          elim (finished n) as (λ o. finished n ≡ o → or_later o (read_from (place + 1) n sectors) ≡ Ok image → Found l (Some row ∷ sectors) image) [
            | Some last ↦ λ done here.
                record {
                  rows = row ∷ [];
                  following = sectors;
                  are = refl;
                  state_is = ap (λ r. (r >>= λ m. all_taken m []) >>= finished) e ∙ done ∙
                      ap Some (ok_is last image here);
                }
            | None ↦ λ more later.
                let rest = found_from (place + 1) n sectors image later in
                record {
                  rows = row ∷ rest.rows;
                  following = rest.following;
                  are = ap (λ (xs : List (Option Row)). Some row ∷ xs) rest.are;
                  state_is =
                      ap (λ r. (r >>= λ m. all_taken m rest.rows) >>= finished) e ∙ rest.state_is;
                }
          ] refl on
    ] refl is

pub slot_begins : (limits : Limits) (sectors : List (Option Row)) (image : ℕ × State) → slot_read limits sectors ≡ Ok image → BeginsWith limits sectors image
slot_begins limits sectors image is = let f = found_from 0 (begun limits) sectors image is in record { rows = f.rows; following = f.following; are = f.are; state_is = f.state_is }

-- ---- the first bad sector

pub record Stopped (l : Loading) (sectors : List (Option Row)) (place at : ℕ) : Type 0 where
  pub rows : List Row
  pub following : List (Option Row)
  pub so_far : Loading
  pub are : sectors ≡ each Some rows ++ following
  pub so_many : place + length rows ≡ at
  pub taken : all_taken l rows ≡ Some so_far
  pub bad : Stops so_far following

stopped_from : (place : ℕ) (l : Loading) (sectors : List (Option Row)) (at : ℕ) → read_from place l sectors ≡ Err at → Stopped l sectors place at
stopped_from place l [] at is = let e = err_is place at is in record { rows = []; following = []; so_far = l; are = refl; so_many = omega (arith, e); taken = refl; bad = tt }
stopped_from place l (None ∷ sectors) at is = let e = err_is place at is in
    record { rows = []; following = None ∷ sectors; so_far = l; are = refl; so_many = omega (arith, e); taken = refl; bad = refl }
stopped_from place l (Some row ∷ sectors) at is =
    elim (row_taken l row) as (λ r. row_taken l row ≡ r → with_row place r (λ n. read_from (place + 1) n sectors) ≡ Err at → Stopped l (Some row ∷ sectors) place at) [
      | None ↦ λ e none. let same = err_is place at none in record { rows = []; following = Some row ∷ sectors; so_far = l; are = refl; so_many = omega (arith, same); taken = refl; bad = e }
      | Some n ↦ λ e on.
          elim (finished n) as (λ o. finished n ≡ o → or_later o (read_from (place + 1) n sectors) ≡ Err at → Stopped l (Some row ∷ sectors) place at) [
            | Some last ↦ λ done here. absurd cc
            | None ↦ λ more later.
                let rest = stopped_from (place + 1) n sectors at later in
                let many = rest.so_many in
                record {
                  rows = row ∷ rest.rows;
                  following = rest.following;
                  so_far = rest.so_far;
                  are =
                      ap (λ (xs : List (Option Row)). Some row ∷ xs) rest.are;
                  so_many = omega (arith, many);
                  taken =
                      ap (λ r. r >>= λ m. all_taken m rest.rows) e ∙ rest.taken;
                  bad = rest.bad;
                }
          ] refl on
    ] refl is

pub slot_stops : (limits : Limits) (sectors : List (Option Row)) (place : ℕ) → slot_read limits sectors ≡ Err place → FirstBad limits sectors place
slot_stops limits sectors place is =
    let f = stopped_from 0 (begun limits) sectors place is in
    let many = f.so_many in
    record { rows = f.rows; following = f.following; so_far = f.so_far; are = f.are; so_many = omega (arith, many); taken = f.taken; bad = f.bad }

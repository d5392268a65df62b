-- The sectors of a state are read as it, and what is read as a state spells its rows.
use Rattle.std.proofs.Common.{◌≡◌, ℕ, ◌+◌, ◌<◌, ◌≤◌, true, List, [], ◌∷◌, ◌++◌, length, replicate, Option, Some, None, Ok, refl, ap, subst, ◌∙◌, ◌-◌}
use Rattle.std.specs.Prelude.{map as each}
use Rattle.std.specs.List.{All, AllZip}
use Rattle.std.specs.FinMap as map
use Rattle.std.proofs.lemmas.List.{map-append}
use Rattle.std.proofs.lemmas.List.Elements.{All-nil, All-cons, All-head, All-tail, All-append, All-map}
use Rattle.identity.specs.Packed.{AreBytes}
use Rattle.registration.specs.declared.limits.Limits.{Limits}
use Rattle.centre_core.specs.State.{State, IsState}
use Rattle.centre_core.specs.StateRanges.{StateInRange}
use Rattle.image_rows.specs.Rows.{Row, RowInRange, HeaderRow, MailRow, ServedRow, last_epoch, header_of, rule_row, radio_row, served_rows, rows_of}
use Rattle.image_rows.specs.RowText.{row_bytes, sector_of}
use Rattle.image_rows.specs.RowReading.{IsRow, Spells as SpellsRow, is_known, row_in}
use Rattle.image_rows.specs.Slot.{slot_read}
use Rattle.image_rows.specs.Image.{sectors_of, slot_of, IsSpelt}
use Rattle.image_rows.proofs.Stations.{Entries}
use Rattle.image_rows.proofs.Ranges.{rows_in_range}
use Rattle.image_rows.proofs.RowsOfState.{rows_make_state}
use Rattle.image_rows.proofs.Exactly.{only_these_rows}
use Rattle.image_rows.proofs.Settled.{row_is_spelt, written_is_read}
use Rattle.image_rows.proofs.Slots.{slot_reads, slot_begins}

abbrev Known : Row → Type 0
Known row = is_known row ≡ true

served_known : (k : ℕ) (os : Entries) → All Known (served_rows k os)
served_known k [] = All-nil Known
served_known k (None ∷ os) = served_known (k + 1) os
served_known k (Some last ∷ os) = All-cons Known (ServedRow k last) (served_rows (k + 1) os) refl (served_known (k + 1) os)

-- each row of a state has bytes
pub are_rows : (epoch : ℕ) (s : State) → 0 < epoch → epoch ≤ last_epoch → IsState s → StateInRange s → All IsRow (rows_of epoch s)
are_rows epoch s some most is ranges =
    let in_range = rows_in_range epoch s some most is ranges in
    let rules = All-map Known rule_row (map.entries s.registered.rules) (λ k d below. refl) in
    let radios = All-map Known (radio_row s.groups) (map.entries s.registered.radios) (λ k d below. refl) in
    let mail = All-map Known MailRow s.mail.items (λ k d below. (is.mail.in_order.spelt k d below).head) in
    let known = All-cons Known (HeaderRow (header_of epoch s)) _ refl (All-append Known _ _ rules (All-append Known _ _ radios (All-append Known _ _ mail (served_known 1 s.served)))) in
    λ k d below. record { range = in_range k d below; known = known k d below }

read_all : (rows : List Row) → All IsRow rows → each row_in (each sector_of rows) ≡ each Some rows
unfolding sector_of
read_all [] all = refl
read_all (row ∷ rows) all =
    let here : row_in (sector_of row) ≡ Some row = written_is_read row (replicate (512 - length (row_bytes row)) 0) (All-head IsRow row rows all) in
    λ i. here i ∷ read_all rows (All-tail IsRow row rows all) i

pub written_is_image : (epoch : ℕ) (s : State) (following : List (List ℕ)) → 0 < epoch → epoch ≤ last_epoch → IsState s → StateInRange s →
    slot_of s.registered.limits (sectors_of epoch s ++ following) ≡ Ok (epoch, s)
written_is_image epoch s following some most is ranges =
    let rows = rows_of epoch s in
    ap (slot_read s.registered.limits) (map-append row_in (each sector_of rows) following ∙
    ap (λ (l : List (Option Row)). l ++ each row_in following) (read_all rows (are_rows epoch s some most is ranges)))
    ∙ slot_reads s.registered.limits rows (each row_in following) (epoch, s) (rows_in_range epoch s some most is ranges) (rows_make_state epoch s is ranges)

-- sectors that are read as these rows, and whatever follows
record Parted (sectors : List (List ℕ)) (rows : List Row) : Type 0 where
  prefix : List (List ℕ)
  following : List (List ℕ)
  are : sectors ≡ prefix ++ following
  spelt : AllZip SpellsRow rows prefix
  ranges : All RowInRange rows

same_head : (a : Option Row) (row : Row) (xs ys : List (Option Row)) → a ∷ xs ≡ Some row ∷ ys → (a ≡ Some row) × (xs ≡ ys)
same_head a row xs ys e = (cc, cc)

parted : (sectors : List (List ℕ)) (rows : List Row) (following : List (Option Row)) → All AreBytes sectors → each row_in sectors ≡ each Some rows ++ following → Parted sectors rows
parted sectors [] following bytes e = record { prefix = []; following = sectors; are = refl; spelt = tt; ranges = All-nil RowInRange }
parted [] (row ∷ rows) following bytes e = absurd cc
parted (sector ∷ sectors) (row ∷ rows) following bytes e =
    let first = same_head (row_in sector) row (each row_in sectors) (each Some rows ++ following) e in
    let here = row_is_spelt row sector (All-head AreBytes sector sectors bytes) first.0 in
    let rest = parted sectors rows following (All-tail AreBytes sector sectors bytes) first.1 in
    record {
      prefix = sector ∷ rest.prefix;
      following = rest.following;
      are = ap (λ (l : List (List ℕ)). sector ∷ l) rest.are;
      spelt = (here.1, rest.spelt);
      ranges = All-cons RowInRange row rows here.0.range rest.ranges;
    }

pub image_is_spelt : (limits : Limits) (sectors : List (List ℕ)) (epoch : ℕ) (s : State) → All AreBytes sectors →
    slot_of limits sectors ≡ Ok (epoch, s) → IsState s × StateInRange s × (s.registered.limits ≡ limits) × IsSpelt sectors epoch s
image_is_spelt limits sectors epoch s bytes e =
    let begins = slot_begins limits (each row_in sectors) (epoch, s) e in
    let parts = parted sectors begins.rows begins.following bytes begins.are in
    let only = only_these_rows limits begins.rows epoch s parts.ranges begins.state_is in (
      only.1,
      only.2,
      only.3,
      record { prefix = parts.prefix; following = parts.following; are = parts.are; spelt = subst (λ (rows : List Row). AllZip SpellsRow rows parts.prefix) only.0 parts.spelt },
    )

-- The rows of a state one after another: the parts that a row is stated by, and all rows in a list.
use Rattle.std.proofs.Common.{◌≡◌, ℕ, zero, suc, ◌+◌, ◌<◌, ◌≤◌, ◌^◌, Bool, true, false, cond, List, [], ◌∷◌, ◌++◌, length, Option, Some, None, refl, sym, ap, subst, ◌∙◌, arith, append_assoc}
use Rattle.std.specs.Prelude.{map as each}
use Rattle.std.specs.List.{All, find}
use Rattle.std.specs.Option.{option_map, option_or}
use Rattle.std.proofs.lemmas.List.{length-append}
use Rattle.std.proofs.lemmas.List.Elements.{All-head, All-tail}
use Rattle.std.specs.FinMap as map
use Rattle.identity.specs.Number.{number}
use Rattle.identity.specs.Path.{Path, id_path}
use Rattle.identity.specs.Inside.PathLaws.{number-id_path}
use Rattle.prefix_tree.specs.Following.{is_after, one_by_one, then_on}
use Rattle.prefix_tree.specs.Next.{next_entry}
use Rattle.registration.specs.Registered.{Registered}
use Rattle.registration.specs.declared.radio.Radio.{Radio}
use Rattle.group_attach.specs.declared.attachment.Attachment.{Attachment}
use Rattle.group_attach.specs.Applied.{most_of_radio}
use Rattle.group_attach.specs.Attached.{Attached, of_radio, attachment_of, groups_of as attachments_of}
use Rattle.mailbox.specs.Values.{Item, Mailed}
use Rattle.mailbox.specs.declared.key.Key.{Key}
use Rattle.mailbox.specs.Order.{named, named_cmp, next_item}
use Rattle.identity.specs.BitsText.{most_bits}
use Rattle.centre_core.specs.State.{State, IsState}
use Rattle.centre_core.specs.StateRanges.{StateInRange, ItemInRange}
use Rattle.image_rows.specs.declared.place.RowPlace.{RowPlace}
use Rattle.image_rows.specs.Rows.{Row, RadioRow, groups_of, radio_row, rows_of}
use Rattle.image_rows.specs.RowText.{group_in, sector_of}
use Rattle.image_rows.specs.Image.{sectors_of}
use Rattle.image_rows.specs.Walking.{place_of, row_after}
use Rattle.image_rows.specs.Parts.{after_item, after_radio, row_by_tables, PlaceInRange}
use Rattle.image_rows.specs.InTurn.{placed_row}
use Rattle.image_rows.proofs.ByParts.{row_is_by_tables}
use Rattle.image_rows.proofs.Fits.{same_groups}
use Rattle.image_rows.proofs.Groups.{length_each}
use Rattle.image_rows.proofs.Walking.{rows_walk}

-- what holds of all holds of the one that is found
pub found_is : {X : Type 0} (P : X → Type 0) (p : X → Bool) (xs : List X) (x : X) → find p xs ≡ Some x → All P xs → P x
found_is P p [] x is all = absurd cc
found_is P p (y ∷ ys) x is all =
    elim (p y) as (λ b. cond b (Some y) (find p ys) ≡ Some x → P x) [
      | true ↦ λ e. let same : y ≡ x = cc in subst P same (All-head P y ys all)
      | false ↦ λ e. found_is P p ys x e (All-tail P y ys all)
    ] is

-- ---- rules, radios and what waits

-- what the row at the place is stated from, it is stated from
pub stated_at : (epoch : ℕ) (s : State) (after : Option RowPlace) (p : RowPlace) (coming : Option (RowPlace × List ℕ)) → StateInRange s →
    after ≡ Some p → PlaceInRange (Some p) → coming ≡ option_map placed_row (row_by_tables epoch s (Some p)) →
    coming ≡ option_map placed_row (row_after epoch s after)
stated_at epoch s after p coming ranges is fits here = here ∙ ap (option_map placed_row) (sym (row_is_by_tables epoch s (Some p) ranges fits) ∙ ap (row_after epoch s) (sym is))

pub pdu_fits : (s : State) (m : Mailed) (after : Option (ℕ × Key)) (w : Item) → StateInRange s → m ≡ s.mail → Some w ≡ next_item m after → length w.pdu ≤ most_bits
pdu_fits s m after w ranges is found =
    let all : All ItemInRange m.items = subst (λ (n : Mailed). All ItemInRange n.items) (sym is) ranges.mail in
    let fits = (found_is ItemInRange (is_after named_cmp named after) m.items w (sym found) all).pdu in
    omega (arith, fits)

pub few_groups : (s : State) (m : Attached) (itsi : ℕ) (l : List Attachment) → IsState s → m ≡ s.groups → l ≡ attachments_of m itsi → length l ≤ most_of_radio
few_groups s m itsi l state is list =
    let a : length l ≡ length (map.entries (of_radio s.groups itsi)) = ap length list ∙ length_each attachment_of (map.entries (of_radio m itsi)) ∙
    ap (λ (n : Attached). length (map.entries (of_radio n itsi))) is in
    let b = map.len-entries (of_radio s.groups itsi) in
    let c = state.attachments.0 itsi in
    omega (arith, a, b, c)

pub radio_found : (s : State) (r : Registered) (m : Attached) (after : Option ℕ) (itsi : ℕ) (radio : Radio) (l : List Attachment)
    (coming : RowPlace × List ℕ) → itsi < 2 ^ 48 → r ≡ s.registered → m ≡ s.groups →
    Some (id_path itsi, radio) ≡ next_entry r.radios (option_map id_path after) → l ≡ attachments_of m itsi
    → coming ≡ placed_row (RadioRow itsi radio (each group_in l)) → Some coming ≡ option_map placed_row (after_radio s after)
radio_found s r m after itsi radio l coming below same_r same_m found list is =
    let own : number (id_path itsi) ≡ itsi = number-id_path itsi below in
    let groups : each group_in l ≡ groups_of s.groups itsi = ap (each group_in) list ∙ same_groups m itsi ∙ ap (λ (n : Attached). groups_of n itsi) same_m in
    let row : coming ≡ placed_row (radio_row s.groups (id_path itsi, radio)) = is ∙ (λ i. placed_row (RadioRow itsi radio (groups i))) ∙
    (λ i. placed_row (RadioRow (sym own i) radio (groups_of s.groups (sym own i)))) in
    ap Some row
    ∙ ap (λ (e : Option (Path × Radio)). option_map placed_row (option_or (option_map (radio_row s.groups) e) (after_item s None)))
    (found ∙ ap (λ (n : Registered). next_entry n.radios (option_map id_path after)) same_r)

-- ---- all rows

not_none : {A P : Type 0} (a : A) → None ≡ Some a → P
not_none a e = absurd cc

same_parts : {A B : Type 0} (p q : A × B) → Some p ≡ Some q → (p.0 ≡ q.0) × (p.1 ≡ q.1)
same_parts p q e = (cc, cc)

-- how far a list of rows has come: the row that was stated last comes next, after which so many are left at most
pub record Going (epoch : ℕ) (s : State) (list : List (List ℕ)) (coming : Option (RowPlace × List ℕ)) : Type 0 where
  pub after : Option RowPlace
  pub is : coming ≡ option_map placed_row (row_after epoch s after)
  pub left : ℕ
  pub counted : length list + left ≡ length (rows_of epoch s) + 1
  pub so_far : list ++ each sector_of (one_by_one (row_after epoch s) place_of left after) ≡ sectors_of epoch s

module _ (epoch : ℕ) (s : State) where
  pub begun : IsState s → StateInRange s → (list : List (List ℕ)) (coming : Option (RowPlace × List ℕ)) → list ≡ [] →
      coming ≡ option_map placed_row (row_after epoch s None) → Going epoch s list coming
  begun state ranges list coming empty is =
      let from_none : Going epoch s [] coming = record {
        after = None;
        is = is;
        left = length (rows_of epoch s) + 1;
        counted = omega arith;
        so_far = ap (each sector_of) (rows_walk epoch s (length (rows_of epoch s) + 1) state ranges (omega arith));
      } in
      subst (λ (l : List (List ℕ)). Going epoch s l coming) (sym empty) from_none

  -- there is a row left where one was stated
  so_many : (list : List (List ℕ)) (rest : List Row) → list ++ each sector_of rest ≡ sectors_of epoch s → length list + length rest ≡ length (rows_of epoch s)
  so_many list rest so_far =
      let a = length-append list (each sector_of rest) in
      let b = length_each sector_of rest in
      let c = length_each sector_of (rows_of epoch s) in
      let d = ap length so_far in
      omega (arith, a, b, c, d)

  step : (list : List (List ℕ)) (after : Option RowPlace) (left : ℕ) (found : Option Row) (place : RowPlace) (row : List ℕ) →
      found ≡ row_after epoch s after → option_map placed_row found ≡ Some (place, row) → length list + left ≡ length (rows_of epoch s) + 1
      → list ++ each sector_of (one_by_one (row_after epoch s) place_of left after) ≡ sectors_of epoch s → (coming : Option (RowPlace × List ℕ)) →
      coming ≡ option_map placed_row (row_after epoch s (Some place)) → Going epoch s (list ++ row ∷ []) coming
  step list after zero found place row here is counted so_far coming next = let a = so_many list [] so_far in absurd (omega (arith, a, counted))
  step list after (suc left) None place row here is counted so_far coming next = not_none _ is
  step list after (suc left) (Some r) place row here is counted so_far coming next =
      let same = same_parts (placed_row r) (place, row) is in
      let at_place = same.0 in
      let bytes = same.1 in
      record {
        after = Some place;
        is = next;
        left = left;
        counted = let a = length-append list (row ∷ []) in omega (arith, a, counted);
        so_far =
            append_assoc list (row ∷ []) _
            ∙ (λ i. list ++ (sym bytes i ∷ each sector_of (one_by_one (row_after epoch s) place_of left (Some (sym at_place i)))))
            ∙ (λ i. list ++ each sector_of (then_on (λ x. one_by_one (row_after epoch s) place_of left (Some (place_of x))) (here i)))
            ∙ so_far;
      }

  pub one_more : (list new : List (List ℕ)) (coming : Option (RowPlace × List ℕ)) (p : RowPlace × List ℕ) → Going epoch s list coming →
      coming ≡ Some p → new ≡ list ++ p.1 ∷ [] → (next : Option (RowPlace × List ℕ)) → next ≡ option_map placed_row (row_after epoch s (Some p.0)) →
      Going epoch s new next
  one_more list new coming p going is longer next next_is =
      subst (λ (l : List (List ℕ)). Going epoch s l next) (sym longer)
      (step list going.after going.left (row_after epoch s going.after) p.0 p.1 refl (sym going.is ∙ is) going.counted going.so_far next next_is)

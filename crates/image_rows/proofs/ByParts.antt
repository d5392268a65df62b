-- The row after a place is the next entry of its part, or the first one of a later part.
use Rattle.std.proofs.Common.{◌≡◌, ℕ, zero, suc, ◌+◌, ◌<◌, ◌≤◌, ◌^◌, Bool, true, false, cond, List, [], ◌∷◌, ◌++◌, drop, Option, Some, None, refl, sym, ap, ◌∙◌, arith}
use Rattle.std.specs.Prelude.{map as each}
use Rattle.std.specs.List.{All, find}
use Rattle.std.specs.Option.{option_map, option_or}
use Rattle.std.specs.Ordering.{nat_cmp, is_lt, ordering_then, MatchOrdering}
use Rattle.std.specs.declared.cmp.Ordering.{Ordering}
use Rattle.std.specs.declared.cmp.Ordering.TheVariants.{Less, Equal, Greater}
use Rattle.std.specs.Cmp.{nat_cmp_is, ranks}
use Rattle.std.specs.Cmp.Lexicographic.{slice_cmp}
use Rattle.std.specs.FinMap as map
use Rattle.std.proofs.lemmas.List.Elements.{All-head, All-tail, All-weaker}
use Rattle.std.proofs.lemmas.List.Folds.{find-append}
use Rattle.identity.specs.Number.{number}
use Rattle.identity.specs.Path.{Path, path_cmp, id_path}
use Rattle.identity.specs.Inside.PathLaws.{length-id_path, number-id_path}
use Rattle.prefix_tree.specs.Following.{is_after, next_of}
use Rattle.prefix_tree.proofs.Order.{by_number}
use Rattle.registration.specs.declared.rule.Rule.{Rule}
use Rattle.registration.specs.declared.radio.Radio.{Radio}
use Rattle.mailbox.specs.Values.{Item}
use Rattle.mailbox.specs.declared.key.Key.{Key}
use Rattle.mailbox.specs.Order.{named, named_cmp}
use Rattle.centre_core.specs.State.{State}
use Rattle.centre_core.specs.StateRanges.{StateInRange, RadioInRange}
use Rattle.image_rows.specs.declared.place.RowPlace.{RowPlace}
use Rattle.image_rows.specs.declared.place.RowPlace.TheVariants as place
use Rattle.image_rows.specs.Rows.{Row, MailRow, ServedRow, rule_row, radio_row, served_rows}
use Rattle.image_rows.specs.Walking.{place_of, part_of, within_part, place_cmp, row_after}
use Rattle.image_rows.specs.Parts.{first, after_station, after_item, after_radio, after_rule, row_by_tables, PlaceInRange}
use Rattle.image_rows.proofs.Stations.{Entries}
use Rattle.image_rows.proofs.Walking.{UpTo, Past, parts_rise, by_bits, later_stations, rule_rows, radio_rows, mail_rows, to_rules, to_radios, to_mail, past_header, past_rules, past_radios, past_mail}

-- the first of these rows after the place
abbrev found : List Row → Option RowPlace → Option Row
found rows after = next_of place_cmp place_of rows after

not_less : (x y : ℕ) → y ≤ x → is_lt (nat_cmp x y) ≡ false
not_less x y le = elim (nat_cmp x y) as (λ o. MatchOrdering o (x < y) (x ≡ y) (y < x) → is_lt o ≡ false) [
  | Less ↦ λ below. absurd (omega (arith, le, below))
  | Equal ↦ λ same. refl
  | Greater ↦ λ above. refl
] (ranks x y)

not_after : (p q : RowPlace) → part_of q < part_of p → is_lt (place_cmp p q) ≡ false
not_after p q below = ap (λ o. is_lt (ordering_then o (slice_cmp nat_cmp (within_part p) (within_part q)))) (sym (nat_cmp_is (part_of p) (part_of q) Greater below))

none_in : (part : ℕ) (p : RowPlace) (rows : List Row) → UpTo part rows → part < part_of p → found rows (Some p) ≡ None
none_in part p [] low below = refl
none_in part p (row ∷ rows) low below =
    let here = All-head (λ r. part_of (place_of r) ≤ part) row rows low in
    ap (λ b. cond b (Some row) (found rows (Some p))) (not_after p (place_of row) (omega (arith, here, below))) ∙ none_in part p rows (All-tail (λ r. part_of (place_of r) ≤ part) row rows low) below

-- the place is after these rows
skipped : (part : ℕ) (p : RowPlace) (xs ys : List Row) → UpTo part xs → part < part_of p → found (xs ++ ys) (Some p) ≡ found ys (Some p)
skipped part p xs ys low below = find-append (is_after place_cmp place_of (Some p)) xs ys ∙ ap (λ o. option_or o (found ys (Some p))) (none_in part p xs low below)

-- the place is before all of them
all_after : (p : RowPlace) (rows : List Row) → All (λ row. place_cmp p (place_of row) ≡ Less) rows → found rows (Some p) ≡ first rows
all_after p [] all = refl
all_after p (row ∷ rows) all = ap (λ o. cond (is_lt o) (Some row) (found rows (Some p))) (All-head (λ r. place_cmp p (place_of r) ≡ Less) row rows all)

of_later : (p : RowPlace) (rows : List Row) → Past (part_of p) rows → found rows (Some p) ≡ first rows
of_later p rows past = all_after p rows (All-weaker (λ row. part_of p < part_of (place_of row)) (λ row. place_cmp p (place_of row) ≡ Less) (λ row lt. parts_rise p (place_of row) lt) rows past)

find_each : {X Y : Type 0} (f : X → Y) (p : Y → Bool) (q : X → Bool) (xs : List X) → All (λ x. p (f x) ≡ q x) xs → find p (each f xs) ≡ option_map f (find q xs)
find_each f p q [] all = refl
find_each {X} {Y} f p q (x ∷ xs) all =
    ap (λ b. cond b (Some (f x)) (find p (each f xs))) (All-head (λ y. p (f y) ≡ q y) x xs all)
    ∙ (elim (q x) as (λ b. cond b (Some (f x)) (find p (each f xs)) ≡ option_map f (cond b (Some x) (find q xs))) [
      | true ↦ refl
      | false ↦ find_each f p q xs (All-tail (λ y. p (f y) ≡ q y) x xs all)
    ])

-- a single number decides
alone : (o : Ordering) → is_lt (ordering_then o Equal) ≡ is_lt o
alone Less = refl
alone Equal = refl
alone Greater = refl

-- ---- within each part

module _ (s : State) where
  in_rules : (after : Path) → found (rule_rows s) (Some (place.Rule after)) ≡ option_map rule_row (next_of path_cmp (λ e. e.0) (map.entries s.registered.rules) (Some after))
  in_rules after = find_each rule_row (is_after place_cmp place_of (Some (place.Rule after))) (is_after path_cmp (λ e. e.0) (Some after))
      (map.entries s.registered.rules) (λ k d below. ap is_lt (by_bits after _))

  in_mail : (n : ℕ) (key : Key) → found (mail_rows s) (Some (place.Mail n key)) ≡ option_map MailRow (next_of named_cmp named s.mail.items (Some (n, key)))
  in_mail n key = find_each MailRow (is_after place_cmp place_of (Some (place.Mail n key))) (is_after named_cmp named (Some (n, key))) s.mail.items (λ k d below. refl)

  in_radios : (itsi : ℕ) → itsi < 2 ^ 48 → StateInRange s → found (radio_rows s) (Some (place.Radio itsi)) ≡ option_map (radio_row s.groups)
      (next_of path_cmp (λ e. e.0) (map.entries s.registered.radios) (Some (id_path itsi)))
  in_radios itsi fits ranges =
      find_each (radio_row s.groups) (is_after place_cmp place_of (Some (place.Radio itsi))) (is_after path_cmp (λ e. e.0) (Some (id_path itsi))) (map.entries s.registered.radios)
      (All-weaker (λ e. RadioInRange s.registered.limits.stations e.0 e.1)
      (λ e. is_lt (place_cmp (place.Radio itsi) (place.Radio (number e.0))) ≡ is_lt (path_cmp (id_path itsi) e.0)) same
      (map.entries s.registered.radios) ranges.radios)
    where
      same : (e : Path × Radio) → RadioInRange s.registered.limits.stations e.0 e.1 → is_lt (place_cmp (place.Radio itsi) (place.Radio (number e.0))) ≡ is_lt (path_cmp (id_path itsi) e.0)
      same e range =
          alone (nat_cmp itsi (number e.0))
          ∙ ap is_lt (sym (by_number (id_path itsi) e.0 (length-id_path itsi ∙ sym range.0) ∙ ap (λ n. nat_cmp n (number e.0)) (number-id_path itsi fits)))

-- the stations after one
in_stations : (station k n : ℕ) (os : Entries) → k + n ≡ station + 1 → found (served_rows k os) (Some (place.Served station)) ≡ first (served_rows (station + 1) (drop n os))
in_stations station k zero os e =
    all_after (place.Served station) (served_rows k os) (later_stations station k os (omega (arith, e)))
    ∙ (let same : k ≡ station + 1 = omega (arith, e) in ap (λ j. first (served_rows j os)) same)
in_stations station k (suc n) [] e = refl
in_stations station k (suc n) (None ∷ os) e = in_stations station (k + 1) n os (omega (arith, e))
in_stations station k (suc n) (Some last ∷ os) e =
    ap (λ b. cond b (Some (ServedRow k last)) (found (served_rows (k + 1) os) (Some (place.Served station)))) (following station k (omega (arith, e)))
    ∙ in_stations station (k + 1) n os (omega (arith, e))
  where
    following : (x y : ℕ) → y ≤ x → is_lt (place_cmp (place.Served x) (place.Served y)) ≡ false
    following x y le = alone (nat_cmp x y) ∙ not_less x y le

-- ---- part after part

module _ (s : State) where
  first_item : first (mail_rows s ++ served_rows 1 s.served) ≡ after_item s None
  first_item = first_of s.mail.items
    where
      first_of : (ws : List Item) → first (each MailRow ws ++ served_rows 1 s.served) ≡ option_or (option_map MailRow (next_of named_cmp named ws None)) (after_station s 0)
      first_of [] = refl
      first_of (w ∷ ws) = refl

  first_radio : first (radio_rows s ++ (mail_rows s ++ served_rows 1 s.served)) ≡ after_radio s None
  first_radio = first_of (map.entries s.registered.radios)
    where
      first_of : (es : List (Path × Radio)) → first (each (radio_row s.groups) es ++ (mail_rows s ++ served_rows 1 s.served)) ≡ option_or
          (option_map (radio_row s.groups) (next_of path_cmp (λ e. e.0) es None)) (after_item s None)
      first_of [] = first_item
      first_of (e ∷ es) = refl

  first_rule : first (rule_rows s ++ (radio_rows s ++ (mail_rows s ++ served_rows 1 s.served))) ≡ after_rule s None
  first_rule = first_of (map.entries s.registered.rules)
    where
      first_of : (es : List (Path × Rule)) → first (each rule_row es ++ (radio_rows s ++ (mail_rows s ++ served_rows 1 s.served))) ≡ option_or
          (option_map rule_row (next_of path_cmp (λ e. e.0) es None)) (after_radio s None)
      first_of [] = first_radio
      first_of (e ∷ es) = refl

pub row_is_by_tables : (epoch : ℕ) (s : State) (after : Option RowPlace) → StateInRange s → PlaceInRange after → row_after epoch s after ≡ row_by_tables epoch s after
row_is_by_tables epoch s None ranges fits = refl
row_is_by_tables epoch s (Some place.Header) ranges fits = of_later place.Header _ (past_header s) ∙ first_rule s
row_is_by_tables epoch s (Some (place.Rule prefix)) ranges fits =
    find-append (is_after place_cmp place_of (Some (place.Rule prefix))) (rule_rows s) _
    ∙ (λ i. option_or (in_rules s prefix i) ((of_later (place.Rule prefix) _ (past_rules s) ∙ first_radio s) i))
row_is_by_tables epoch s (Some (place.Radio itsi)) ranges fits =
    skipped 1 (place.Radio itsi) (rule_rows s) _ (to_rules s) (omega arith)
    ∙ find-append (is_after place_cmp place_of (Some (place.Radio itsi))) (radio_rows s) _
    ∙ (λ i. option_or (in_radios s itsi fits ranges i) ((of_later (place.Radio itsi) _ (past_radios s) ∙ first_item s) i))
row_is_by_tables epoch s (Some (place.Mail n key)) ranges fits =
    skipped 1 (place.Mail n key) (rule_rows s) _ (to_rules s) (omega arith)
    ∙ skipped 2 (place.Mail n key) (radio_rows s) _ (to_radios s) (omega arith)
    ∙ find-append (is_after place_cmp place_of (Some (place.Mail n key))) (mail_rows s) _
    ∙ (λ i. option_or (in_mail s n key i) (of_later (place.Mail n key) _ (past_mail s) i))
row_is_by_tables epoch s (Some (place.Served station)) ranges fits =
    skipped 1 (place.Served station) (rule_rows s) _ (to_rules s) (omega arith)
    ∙ skipped 2 (place.Served station) (radio_rows s) _ (to_radios s) (omega arith)
    ∙ skipped 3 (place.Served station) (mail_rows s) _ (to_mail s) (omega arith)
    ∙ in_stations station 1 station s.served (omega arith)

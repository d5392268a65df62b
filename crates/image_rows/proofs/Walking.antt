-- The rows found one after another are the rows of the state.
use Rattle.std.proofs.Common.{◌≡◌, ℕ, ◌+◌, ◌<◌, ◌≤◌, true, false, List, [], ◌∷◌, ◌++◌, length, get_or, Some, None, refl, sym, ap, ◌∙◌, arith}
use Rattle.std.specs.Prelude.{map as each}
use Rattle.std.specs.List.{All, AllPairs}
use Rattle.std.specs.Int.{from_bool}
use Rattle.std.specs.Ordering.{nat_cmp, ordering_then}
use Rattle.std.specs.declared.cmp.Ordering.TheVariants.{Less, Equal}
use Rattle.std.specs.Cmp.{IsTotalOrder, on_total, nat_cmp_is}
use Rattle.std.specs.Cmp.Lexicographic.{slice_cmp}
use Rattle.std.specs.FinMap as map
use Rattle.std.proofs.lemmas.Cmp.{nat_list_cmp_total}
use Rattle.std.proofs.lemmas.List.Elements.{All-nil, All-cons, All-head, All-tail, All-append, All-map, All-weaker, All-get_or}
use Rattle.std.proofs.lemmas.List.Kept.{AllPairs-cons}
use Rattle.identity.specs.Path.{Path, path_cmp}
use Rattle.prefix_tree.specs.Following.{AreRising, one_by_one}
use Rattle.prefix_tree.proofs.Following.{sorted_rise, all_one_by_one}
use Rattle.prefix_tree.proofs.Order.{by_number}
use Rattle.registration.specs.declared.radio.Radio.{Radio}
use Rattle.mailbox.proofs.Lists.{pairs_head, pairs_tail}
use Rattle.centre_core.specs.State.{State, IsState}
use Rattle.centre_core.specs.StateRanges.{StateInRange, RadioInRange}
use Rattle.image_rows.specs.declared.place.RowPlace.{RowPlace}
use Rattle.image_rows.specs.declared.place.RowPlace.TheVariants as place
use Rattle.image_rows.specs.Rows.{Row, HeaderRow, MailRow, rule_row, radio_row, served_rows, rows_of, header_of}
use Rattle.image_rows.specs.Walking.{place_of, part_of, within_part, place_cmp, row_after}
use Rattle.image_rows.proofs.Stations.{Entries}

pub places_total : IsTotalOrder place_cmp
places_total = on_total (λ p. part_of p ∷ within_part p) nat_list_cmp_total

pub nat_less : (x y : ℕ) → x < y → nat_cmp x y ≡ Less
nat_less x y below = sym (nat_cmp_is x y Less below)

-- places of different parts
pub parts_rise : (p q : RowPlace) → part_of p < part_of q → place_cmp p q ≡ Less
parts_rise p q below = ap (λ o. ordering_then o (slice_cmp nat_cmp (within_part p) (within_part q))) (nat_less (part_of p) (part_of q) below)

-- prefixes by their bits as numbers
pub by_bits : (p q : Path) → slice_cmp nat_cmp (each from_bool p) (each from_bool q) ≡ path_cmp p q
by_bits [] [] = refl
by_bits [] (b ∷ q) = refl
by_bits (a ∷ p) [] = refl
by_bits (true ∷ p) (true ∷ q) = by_bits p q
by_bits (true ∷ p) (false ∷ q) = refl
by_bits (false ∷ p) (true ∷ q) = refl
by_bits (false ∷ p) (false ∷ q) = by_bits p q

module _ {X : Type 0} (R : X → X → Type 0) where
  pairs_append : (xs ys : List X) → AllPairs R xs → AllPairs R ys → All (λ x. All (R x) ys) xs → AllPairs R (xs ++ ys)
  pairs_append [] ys first second across = second
  pairs_append (x ∷ xs) ys first second across =
      AllPairs-cons R x (xs ++ ys) (All-append (R x) xs ys (pairs_head R x xs first) (All-head (λ x. All (R x) ys) x xs across))
      (pairs_append xs ys (pairs_tail R x xs first) second (All-tail (λ x. All (R x) ys) x xs across))

module _ {X Y : Type 0} (R : Y → Y → Type 0) (f : X → Y) where
  pairs_each : (xs : List X) → AllPairs (λ a b. R (f a) (f b)) xs → AllPairs R (each f xs)
  pairs_each [] pairs = λ i j d less below. absurd (omega (arith, below))
  pairs_each (x ∷ xs) pairs = AllPairs-cons R (f x) (each f xs) (All-map (R (f x)) f xs (pairs_head (λ a b. R (f a) (f b)) x xs pairs)) (pairs_each xs (pairs_tail (λ a b. R (f a) (f b)) x xs pairs))

abbrev IsBefore : Row → Row → Type 0
IsBefore a b = place_cmp (place_of a) (place_of b) ≡ Less

-- rows of a part up to this one, and rows of later parts
abbrev pub UpTo : ℕ → List Row → Type 0
UpTo part rows = All (λ row. part_of (place_of row) ≤ part) rows

abbrev pub Past : ℕ → List Row → Type 0
Past part rows = All (λ row. part < part_of (place_of row)) rows

part_then_part : (part : ℕ) (xs ys : List Row) → UpTo part xs → Past part ys → AllPairs IsBefore xs → AllPairs IsBefore ys → AllPairs IsBefore (xs ++ ys)
part_then_part part xs ys low high first second =
    pairs_append IsBefore xs ys first second
    (All-weaker (λ x. part_of (place_of x) ≤ part) (λ x. All (IsBefore x) ys)
    (λ x le. All-weaker (λ y. part < part_of (place_of y)) (IsBefore x) (λ y lt. parts_rise (place_of x) (place_of y) (omega (arith, le, lt))) ys
    high) xs low)

-- the stations
pub later_stations : (station k : ℕ) (os : Entries) → station < k → All (λ row. place_cmp (place.Served station) (place_of row) ≡ Less) (served_rows k os)
later_stations station k [] below = All-nil (λ row. place_cmp (place.Served station) (place_of row) ≡ Less)
later_stations station k (None ∷ os) below = later_stations station (k + 1) os (omega (arith, below))
later_stations station k (Some last ∷ os) below =
    All-cons (λ row. place_cmp (place.Served station) (place_of row) ≡ Less) _ (served_rows (k + 1) os)
    (ap (λ o. ordering_then o Equal) (nat_less station k below)) (later_stations station (k + 1) os (omega (arith, below)))

stations_rise : (k : ℕ) (os : Entries) → AllPairs IsBefore (served_rows k os)
stations_rise k [] = λ i j d less below. absurd (omega (arith, below))
stations_rise k (None ∷ os) = stations_rise (k + 1) os
stations_rise k (Some last ∷ os) = AllPairs-cons IsBefore _ (served_rows (k + 1) os) (later_stations k (k + 1) os (omega arith)) (stations_rise (k + 1) os)

past_three : (k : ℕ) (os : Entries) → Past 3 (served_rows k os)
past_three k [] = All-nil (λ row. 3 < part_of (place_of row))
past_three k (None ∷ os) = past_three (k + 1) os
past_three k (Some last ∷ os) = All-cons (λ row. 3 < part_of (place_of row)) _ (served_rows (k + 1) os) (omega arith) (past_three (k + 1) os)

later : (part past : ℕ) (rows : List Row) → part ≤ past → Past past rows → Past part rows
later part past rows le all = All-weaker (λ row. past < part_of (place_of row)) (λ row. part < part_of (place_of row)) (λ row lt. omega (arith, le, lt)) rows all

-- ---- the parts of an image

abbrev pub rule_rows : State → List Row
rule_rows s = each rule_row (map.entries s.registered.rules)

abbrev pub radio_rows : State → List Row
radio_rows s = each (radio_row s.groups) (map.entries s.registered.radios)

abbrev pub mail_rows : State → List Row
mail_rows s = each MailRow s.mail.items

pub to_rules : (s : State) → UpTo 1 (rule_rows s)
to_rules s = All-map (λ row. part_of (place_of row) ≤ 1) rule_row (map.entries s.registered.rules) (λ k d below. omega arith)

pub to_radios : (s : State) → UpTo 2 (radio_rows s)
to_radios s = All-map (λ row. part_of (place_of row) ≤ 2) (radio_row s.groups) (map.entries s.registered.radios) (λ k d below. omega arith)

pub to_mail : (s : State) → UpTo 3 (mail_rows s)
to_mail s = All-map (λ row. part_of (place_of row) ≤ 3) MailRow s.mail.items (λ k d below. omega arith)

pub past_mail : (s : State) → Past 3 (served_rows 1 s.served)
past_mail s = past_three 1 s.served

pub past_radios : (s : State) → Past 2 (mail_rows s ++ served_rows 1 s.served)
past_radios s =
    All-append (λ row. 2 < part_of (place_of row)) (mail_rows s) (served_rows 1 s.served)
    (All-map (λ row. 2 < part_of (place_of row)) MailRow s.mail.items (λ k d below. omega arith))
    (later 2 3 (served_rows 1 s.served) (omega arith) (past_mail s))

pub past_rules : (s : State) → Past 1 (radio_rows s ++ (mail_rows s ++ served_rows 1 s.served))
past_rules s =
    All-append (λ row. 1 < part_of (place_of row)) (radio_rows s) (mail_rows s ++ served_rows 1 s.served)
    (All-map (λ row. 1 < part_of (place_of row)) (radio_row s.groups) (map.entries s.registered.radios) (λ k d below. omega arith))
    (later 1 2 _ (omega arith) (past_radios s))

pub past_header : (s : State) → Past 0 (rule_rows s ++ (radio_rows s ++ (mail_rows s ++ served_rows 1 s.served)))
past_header s =
    All-append (λ row. 0 < part_of (place_of row)) (rule_rows s) _
    (All-map (λ row. 0 < part_of (place_of row)) rule_row (map.entries s.registered.rules) (λ k d below. omega arith))
    (later 0 1 _ (omega arith) (past_rules s))

pub rows_rise : (epoch : ℕ) (s : State) → IsState s → StateInRange s → AreRising place_cmp place_of (rows_of epoch s)
rows_rise epoch s is ranges =
    let es = map.entries s.registered.rules in
    let fs = map.entries s.registered.radios in
    let rules_rise : AllPairs IsBefore (rule_rows s) =
    pairs_each IsBefore rule_row es (λ i j d less below. by_bits (get_or es i d).0 (get_or es j d).0 ∙
    sorted_rise path_cmp es (map.entries_sorted s.registered.rules) i j d less below) in
    let whole = λ (k : ℕ) (d : Path × Radio) (below : k < length fs). (All-get_or (λ e. RadioInRange s.registered.limits.stations e.0 e.1) fs k d below ranges.radios).0 in
    let radios_rise : AllPairs IsBefore (radio_rows s) =
    pairs_each IsBefore (radio_row s.groups) fs (λ i j d less below. ap (λ o. ordering_then o Equal)
    (sym (by_number (get_or fs i d).0 (get_or fs j d).0 (whole i d (omega (arith, less, below)) ∙ sym (whole j d below))) ∙
    sorted_rise path_cmp fs (map.entries_sorted s.registered.radios) i j d less below)) in
    let mail_rises : AllPairs IsBefore (mail_rows s) = pairs_each IsBefore MailRow s.mail.items is.mail.in_order.ordered in
    AllPairs-cons IsBefore (HeaderRow (header_of epoch s)) _
    (All-weaker (λ row. 0 < part_of (place_of row)) (IsBefore (HeaderRow (header_of epoch s))) (λ row lt. parts_rise place.Header (place_of row) lt)
    _ (past_header s))
    (part_then_part 1 (rule_rows s) _ (to_rules s) (past_rules s) rules_rise
    (part_then_part 2 (radio_rows s) _ (to_radios s) (past_radios s) radios_rise
    (part_then_part 3 (mail_rows s) _ (to_mail s) (past_mail s) mail_rises (stations_rise 1 s.served))))

pub rows_walk : (epoch : ℕ) (s : State) (n : ℕ) → IsState s → StateInRange s → length (rows_of epoch s) ≤ n → one_by_one (row_after epoch s) place_of n None ≡ rows_of epoch s
rows_walk epoch s n is ranges le = all_one_by_one place_cmp places_total place_of (rows_of epoch s) n (rows_rise epoch s is ranges) le

-- How many rows an image has.
use Rattle.std.proofs.Common.{◌≡◌, ℕ, ◌+◌, ◌≤◌, List, [], ◌∷◌, ◌++◌, length, Some, None, refl, sym, ap, ◌∙◌, arith}
use Rattle.std.specs.Prelude.{map as each}
use Rattle.std.specs.List.{All}
use Rattle.std.specs.Option.{is_some}
use Rattle.std.specs.FinMap as map
use Rattle.std.proofs.lemmas.List.{length-append}
use Rattle.std.proofs.lemmas.List.Elements.{All-append}
use Rattle.std.proofs.lemmas.List.Sums.{count_by-le-length}
use Rattle.base.proofs.Lists.{nil_of_length}
use Rattle.registration.specs.declared.limits.Limits.{Limits}
use Rattle.centre_core.specs.State.{State, IsState}
use Rattle.image_rows.specs.Rows.{Row, RowInRange, HeaderRow, MailRow, Header, row_count, rule_row, radio_row, served_rows, rows_of, header_of, how_many}
use Rattle.image_rows.specs.Loading.{state_of_rows}
use Rattle.image_rows.proofs.Exactly.{only_these_rows}
use Rattle.image_rows.proofs.Groups.{length_each}
use Rattle.image_rows.proofs.Stations.{Entries, how_many-cons}

served_counted : (k : ℕ) (os : Entries) → length (served_rows k os) ≡ how_many os
served_counted k [] = refl
served_counted k (None ∷ os) = let a = served_counted (k + 1) os in let b = how_many-cons None os in omega (arith, a, b)
served_counted k (Some last ∷ os) = let a = served_counted (k + 1) os in let b = how_many-cons (Some last) os in omega (arith, a, b)

pub rows_counted : (epoch : ℕ) (s : State) → length (rows_of epoch s) ≡ row_count (header_of epoch s)
rows_counted epoch s =
    let rules = each rule_row (map.entries s.registered.rules) in
    let radios = each (radio_row s.groups) (map.entries s.registered.radios) in
    let mail = each MailRow s.mail.items in
    let served = served_rows 1 s.served in
    let a : length rules ≡ map.len s.registered.rules = length_each rule_row (map.entries s.registered.rules) ∙ sym (map.len-entries s.registered.rules) in
    let b : length radios ≡ map.len s.registered.radios = length_each (radio_row s.groups) (map.entries s.registered.radios) ∙ sym (map.len-entries s.registered.radios) in
    let c : length mail ≡ length s.mail.items = length_each MailRow s.mail.items in
    let d = served_counted 1 s.served in
    let e = length-append rules (radios ++ (mail ++ served)) in
    let f = length-append radios (mail ++ served) in
    let g = length-append mail served in
    omega (arith, a, b, c, d, e, f, g)

pub rows_fit : (epoch : ℕ) (s : State) → IsState s → length (rows_of epoch s) ≤ 1 + s.registered.limits.rules + s.registered.limits.radios + s.registered.limits.mail + s.registered.limits.stations
rows_fit epoch s is =
    let stated = rows_counted epoch s in
    let served = count_by-le-length is_some s.served in
    omega (arith, stated, is.within.rules, is.within.radios, is.mail.in_order.fits, is.mail.room, served, is.stations)

same_first : (h k : Header) (xs ys : List Row) → HeaderRow h ∷ xs ≡ HeaderRow k ∷ ys → h ≡ k
same_first h k xs ys e = cc

-- an image states how long it is, so nothing can follow it
pub none_longer : (limits : Limits) (rows more : List Row) (epoch later : ℕ) (s t : State) → All RowInRange rows → All RowInRange more →
    state_of_rows limits rows ≡ Some (epoch, s) → state_of_rows limits (rows ++ more) ≡ Some (later, t) → more ≡ []
none_longer limits rows more epoch later s t some others short long =
    let is : rows ≡ rows_of epoch s = (only_these_rows limits rows epoch s some short).0 in
    let with_more : rows ++ more ≡ rows_of later t = (only_these_rows limits (rows ++ more) later t (All-append RowInRange rows more some others) long).0 in
    let header : header_of epoch s ≡ header_of later t = same_first (header_of epoch s) (header_of later t) _ _ (sym (ap (λ (l : List Row). l ++ more) is) ∙ with_more) in
    let a = ap length is in
    let b = ap length with_more in
    let c = rows_counted epoch s in
    let d = rows_counted later t in
    let e = ap row_count header in
    let f = length-append rows more in
    nil_of_length more (omega (arith, a, b, c, d, e, f))

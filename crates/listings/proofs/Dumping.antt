-- The lines of a register's text, part by part and one after another.
use Rattle.std.proofs.Common.{◌≡◌, ℕ, cond, ◌+◌, ◌<◌, ◌≤◌, List, [], ◌∷◌, ◌++◌, length, drop, get_or, Option, Some, None, refl, sym, ap, ◌∙◌, arith, add-one, drop-cons, append_assoc, length-append}
use Rattle.std.specs.Prelude.{codes, decimal, count_by, map as each}
use Rattle.std.proofs.lemmas.List.{append-nil, length-map}
use Rattle.std.proofs.lemmas.List.Concat.{flat_map-append}
use Rattle.std.proofs.lemmas.List.Sums.{count_by-le-length, sum_by-cons}
use Rattle.std.specs.List.{flat_map}
use Rattle.std.specs.Option.{is_some}
use Rattle.std.specs.FinMap as map
use Rattle.identity.specs.Numbers.{Byte}
use Rattle.registration.specs.declared.limits.Limits.{Limits}
use Rattle.centre_core.specs.State.{State, IsState, LastAccepted}
use Rattle.centre_core.specs.StateRanges.{StateInRange}
use Rattle.listings.specs.declared.listing.Table.TheVariants as table
use Rattle.listings.specs.Entries.{Entry, ItemEntry, entries_of}
use Rattle.listings.specs.Dump.{count_line, dump_lines, dumped_entries, dumped_line, first_line, last_lines}
use Rattle.listings.specs.Inside.Dumping.{head_text, last_text, lasts_text, tables_text}
use Rattle.listings.specs.Texts.{dump_text}
use Rattle.listings.proofs.Walks.{rules_counted, radios_counted}

-- ---- the first two lines

-- the parts of the first line, one after another
abbrev first_parts : (rules radios items stations : ℕ) → List Byte
first_parts rules radios items stations =
    codes "tetra-switch register 1 rules " ++ (decimal rules ++ (codes " radios " ++ (decimal radios ++ (codes " items " ++ (decimal items
    ++ (codes " stations " ++ (decimal stations ++ (codes "\n" ++ []))))))))

abbrev first_whole : (rules radios items stations : ℕ) → List Byte
first_whole rules radios items stations =
    codes "tetra-switch register 1 rules " ++ decimal rules ++ codes " radios " ++ decimal radios
    ++ codes " items " ++ decimal items ++ codes " stations " ++ decimal stations ++ codes "\n"

first_parts_are : (a b c d : ℕ) → first_parts a b c d ≡ first_whole a b c d
first_parts_are a b c d = simp (append_assoc, append-nil)

pub first_is : (l : Limits) (rules radios items stations : ℕ) → rules ≡ l.rules → radios ≡ l.radios → items ≡ l.mail → stations ≡ l.stations
    → first_parts rules radios items stations ≡ first_line l
unfolding first_line
first_is l a b c d ea eb ec ed = first_parts_are a b c d ∙ (λ i. first_whole (ea i) (eb i) (ec i) (ed i))

-- the parts of the second line, one after another
abbrev count_parts : (count rules radios items stations : ℕ) → List Byte
count_parts count rules radios items stations =
    codes "count " ++ (decimal count ++ (codes " rules " ++ (decimal rules ++ (codes " radios " ++ (decimal radios ++ (codes " items " ++ (decimal items
    ++ (codes " stations " ++ (decimal stations ++ (codes "\n" ++ []))))))))))

abbrev count_whole : (count rules radios items stations : ℕ) → List Byte
count_whole count rules radios items stations =
    codes "count " ++ decimal count ++ codes " rules " ++ decimal rules ++ codes " radios " ++ decimal radios
    ++ codes " items " ++ decimal items ++ codes " stations " ++ decimal stations ++ codes "\n"

count_parts_are : (n a b c d : ℕ) → count_parts n a b c d ≡ count_whole n a b c d
count_parts_are n a b c d = simp (append_assoc, append-nil)

pub count_is : (s : State) (count rules radios items stations : ℕ) → count ≡ s.count → rules ≡ map.len s.registered.rules → radios ≡ map.len s.registered.radios
    → items ≡ length s.mail.items → stations ≡ count_by is_some s.served → count_parts count rules radios items stations ≡ count_line s
unfolding count_line
count_is s n a b c d en ea eb ec ed = count_parts_are n a b c d ∙ (λ i. count_whole (en i) (ea i) (eb i) (ec i) (ed i))

-- ---- how many lines there are

counted_more : (o : Option LastAccepted) (os : List (Option LastAccepted)) → count_by is_some (o ∷ os) ≡ cond (is_some o) 1 0 + count_by is_some os
counted_more o os = sum_by-cons (λ o. cond (is_some o) 1 0) o os

lasts_counted : (n : ℕ) (served : List (Option LastAccepted)) → length (last_lines n served) ≡ count_by is_some served
lasts_counted n [] = refl
lasts_counted n (None ∷ served) = let a = lasts_counted (n + 1) served in let b = counted_more None served in omega (arith, a, b)
lasts_counted n (Some last ∷ served) = let a = lasts_counted (n + 1) served in let b = counted_more (Some last) served in omega (arith, a, b)

pub lines_counted : (s : State) → length (dump_lines s) ≡ 2 + map.len s.registered.rules + map.len s.registered.radios + length s.mail.items + count_by is_some s.served
unfolding dump_lines
lines_counted s =
    let rules = entries_of s table.Rules in
    let radios = entries_of s (table.Radios None) in
    let items = entries_of s table.Items in
    let a = rules_counted s in
    let b = radios_counted s in
    let c : length items ≡ length s.mail.items = length-map s.mail.items ItemEntry in
    let d = lasts_counted 1 s.served in
    let e = length-append rules (radios ++ items) in
    let f = length-append radios items in
    let g = length-map (dumped_entries s) (dumped_line s.groups) in
    let h = length-append (each (dumped_line s.groups) (dumped_entries s)) (last_lines 1 s.served) in
    omega (arith, a, b, c, d, e, f, g, h)

-- the sum of the numbers of items and stations is small
pub few_lines : (s : State) → IsState s → StateInRange s → length s.mail.items + count_by is_some s.served ≤ 70000
few_lines s state ranges =
    let used = count_by-le-length is_some s.served in
    omega (arith, state.mail.in_order.fits, state.mail.room, ranges.limits.most_mail, used, state.stations, ranges.limits.most_stations)

-- ---- the lines as one text

lasts_are : (n : ℕ) (served : List (Option LastAccepted)) → lasts_text n served ≡ flat_map (λ line. line) (last_lines n served)
lasts_are n [] = refl
lasts_are n (None ∷ served) = lasts_are (n + 1) served
lasts_are n (Some last ∷ served) = ap (λ t. last_text n (Some last) ++ t) (lasts_are (n + 1) served)

each_flat : (f : Entry → List ℕ) (es : List Entry) → flat_map (λ line. line) (each f es) ≡ flat_map f es
each_flat f [] = refl
each_flat f (e ∷ es) = ap (λ t. f e ++ t) (each_flat f es)

tables_are : (s : State) → tables_text s ≡ flat_map (λ line. line) (each (dumped_line s.groups) (dumped_entries s))
unfolding tables_text
tables_are s =
    let f = dumped_line s.groups in
    let rules = entries_of s table.Rules in
    let radios = entries_of s (table.Radios None) in
    let items = entries_of s table.Items in
    append_assoc (flat_map f rules) (flat_map f radios) (flat_map f items)
    ∙ ap (λ t. flat_map f rules ++ t) (sym (flat_map-append f radios items))
    ∙ sym (flat_map-append f rules (radios ++ items))
    ∙ sym (each_flat f (dumped_entries s))

joined : (number first count tables lasts : List ℕ) → number ++ first ++ count ++ tables ++ lasts ≡ number ++ (first ++ (count ++ (tables ++ lasts)))
joined number first count tables lasts = simp append_assoc

words_first : (a b c rest : List ℕ) → (a ++ b ++ c) ++ rest ≡ a ++ (b ++ c ++ rest)
words_first a b c rest = simp append_assoc

-- the parts that are written are the whole text
pub text_is : (s : State) → head_text s ++ tables_text s ++ lasts_text 1 s.served ≡ dump_text s
unfolding dump_lines head_text
text_is s =
    let rows = each (dumped_line s.groups) (dumped_entries s) in
    let lasts = last_lines 1 s.served in
    let number = decimal (length (dump_lines s)) in
    let lines : flat_map (λ line. line) (rows ++ lasts) ≡ tables_text s ++ lasts_text 1 s.served =
    flat_map-append (λ line. line) rows lasts ∙ (λ i. sym (tables_are s) i ++ sym (lasts_are 1 s.served) i) in
    joined (codes "dump " ++ number ++ codes "\n") (first_line s.registered.limits) (count_line s) (tables_text s) (lasts_text 1 s.served)
    ∙ ap (λ t. (codes "dump " ++ number ++ codes "\n") ++ (first_line s.registered.limits ++ (count_line s ++ t))) (sym lines)
    ∙ words_first (codes "dump ") number (codes "\n") (first_line s.registered.limits ++ (count_line s ++ flat_map (λ line. line) (rows ++ lasts)))

-- ---- the stations one after another

-- the lines of the stations from the one at this place on
abbrev pub lasts_left : List (Option LastAccepted) → ℕ → List Byte
lasts_left served at = lasts_text (at + 1) (drop at served)

pub one_last : (served : List (Option LastAccepted)) (at : ℕ) (o : Option LastAccepted) → at < length served → o ≡ get_or served at o
    → lasts_left served at ≡ last_text (at + 1) o ++ lasts_left served (at + 1)
one_last served at o inside here =
    let cut : drop at served ≡ get_or served at o ∷ drop (at + 1) served = rw add-one (drop-cons served at o inside) in
    ap (lasts_text (at + 1)) (cut ∙ ap (λ x. x ∷ drop (at + 1) served) (sym here))

-- there was no room for one of them, and so none for all
pub no_last : (old now done here left rest whole : List ℕ) (had has room rooms : ℕ) → now ≡ old ++ done → done ++ left ≡ whole → left ≡ here ++ rest → had ≡ length old → has ≡ length now
    → room ≤ rooms → rooms < has + length here → room < had + length whole
no_last old now done here left rest whole had has room rooms put so cut length_old length_now grown full =
    let a = ap length put ∙ length-append old done in
    let b = ap length (sym so) ∙ length-append done left in
    let c = ap length cut ∙ length-append here rest in
    omega (arith, a, b, c, length_old, length_now, grown, full)

-- The text of what is used of each limit, part by part.
use Rattle.std.proofs.Common.{◌≡◌, ℕ, ◌<◌, ◌≤◌, ◌^◌, List, [], ◌++◌, length, ◌∙◌, append_assoc, length-append, arith}
use Rattle.std.specs.Prelude.{codes, decimal, count_by}
use Rattle.std.proofs.lemmas.List.{append-nil}
use Rattle.std.specs.Option.{is_some}
use Rattle.std.specs.FinMap as map
use Rattle.identity.specs.Numbers.{Byte}
use Rattle.identity.proofs.Lengths.{decimal_fits}
use Rattle.centre_core.specs.State.{State}
use Rattle.listings.specs.Texts.{used, used_words}

-- the parts, one after another
abbrev parts : (rules most_rules radios most_radios items most_items stations most_stations : ℕ) → List Byte
parts rules most_rules radios most_radios items most_items stations most_stations =
    codes "room rules " ++ (decimal rules ++ (codes "/" ++ (decimal most_rules ++ (codes " radios " ++ (decimal radios ++ (codes "/" ++ (decimal most_radios
    ++ (codes " items " ++ (decimal items ++ (codes "/" ++ (decimal most_items ++ (codes " stations " ++ (decimal stations ++ (codes "/" ++ (decimal most_stations ++ [])))))))))))))))

abbrev whole : (rules most_rules radios most_radios items most_items stations most_stations : ℕ) → List Byte
whole rules most_rules radios most_radios items most_items stations most_stations =
    codes "room rules " ++ used rules most_rules ++ codes " radios " ++ used radios most_radios
    ++ codes " items " ++ used items most_items ++ codes " stations " ++ used stations most_stations

-- numbers of 64 bits take at most 20 digits each
pub parts_fit : (a b c d e f g h : ℕ) → a < 2 ^ 64 → b < 2 ^ 64 → c < 2 ^ 64 → d < 2 ^ 64 → e < 2 ^ 64 → f < 2 ^ 64 → g < 2 ^ 64 → h < 2 ^ 64 → length (parts a b c d e f g h) ≤ 200
parts_fit a b c d e f g h la lb lc ld le lf lg lh =
    let fa = decimal_fits a la in
    let fb = decimal_fits b lb in
    let fc = decimal_fits c lc in
    let fd = decimal_fits d ld in
    let fe = decimal_fits e le in
    let ff = decimal_fits f lf in
    let fg = decimal_fits g lg in
    let fh = decimal_fits h lh in
    simp length-append (omega arith)

parts_are_whole : (a b c d e f g h : ℕ) → parts a b c d e f g h ≡ whole a b c d e f g h
parts_are_whole a b c d e f g h = simp (append_assoc, append-nil)

pub used_parts : (s : State) (rules most_rules radios most_radios items most_items stations most_stations : ℕ)
    → rules ≡ map.len s.registered.rules → most_rules ≡ s.registered.limits.rules → radios ≡ map.len s.registered.radios → most_radios ≡ s.registered.limits.radios
    → items ≡ length s.mail.items → most_items ≡ s.registered.limits.mail → stations ≡ count_by is_some s.served → most_stations ≡ s.registered.limits.stations
    → parts rules most_rules radios most_radios items most_items stations most_stations ≡ used_words s
unfolding used_words
used_parts s a b c d e f g h ea eb ec ed ee ef eg eh = parts_are_whole a b c d e f g h ∙ (λ i. whole (ea i) (eb i) (ec i) (ed i) (ee i) (ef i) (eg i) (eh i))

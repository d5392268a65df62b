-- The stations that words name.
use Rattle.std.proofs.Common.{◌≡◌, ◌∙◌, ◌++◌, ◌∷◌, ◌+◌, ◌<◌, ◌^◌, ◌&&◌, [], ℕ, zero, suc, Bool, true, false, List, Option, Some, None, Err, arith, refl, ap, sym}
use Rattle.std.proofs.Common.{length, map, take, get_or, lt-ltb, ltb-true, nat_lt}
use Rattle.std.specs.Borrow.{Bor}
use Rattle.std.specs.Char.{digit_value}
use Rattle.std.specs.List.{list_all}
use Rattle.std.specs.Str.Parse.{AllDigits, IsNumeral, ParsesUnsigned, digits_value, without_leading_plus}
use Rattle.std.proofs.lemmas.List.{map-append, take_more}
use Rattle.base.proofs.Bools.{both_true}
use Rattle.clap.specs.Words.{Text}
use Rattle.command_line.specs.Asked.{both, is_numeral, is_station, station_in, stations_in}

abbrev text_of : Bor Text → Text
text_of word = word.now

abbrev Stations : Type 0
Stations = List ℕ

none_not_some : (ns : Stations) → ◌≡◌ {A = Option Stations} None (Some ns) → ⊥
none_not_some ns same = cc

same_value : (ns ms : Stations) → ◌≡◌ {A = Option Stations} (Some ns) (Some ms) → ns ≡ ms
same_value ns ms same = cc

-- a station before others
abbrev before : Option ℕ → Option Stations → Option Stations
before = both (λ station stations. station ∷ stations)

-- one station more
one_more_of : (first : Option ℕ) (o p : Option Stations) (n : ℕ) (ns : Stations) → before first o ≡ Some ns
    → ((ms : Stations) → o ≡ Some ms → p ≡ Some (ms ++ n ∷ [])) → before first p ≡ Some (ns ++ n ∷ [])
one_more_of None o p n ns is more = absurd (none_not_some ns is)
one_more_of (Some f) None p n ns is more = absurd (none_not_some ns is)
one_more_of (Some f) (Some ms) p n ns is more =
    ap (before (Some f)) (more ms refl) ∙ ap (λ (l : Stations). Some (l ++ n ∷ [])) (same_value (f ∷ ms) ns is)

one_more : (xs : List Text) (ns : Stations) (x : Text) (n : ℕ) → stations_in xs ≡ Some ns → station_in x ≡ Some n
    → stations_in (xs ++ x ∷ []) ≡ Some (ns ++ n ∷ [])
unfolding stations_in
one_more [] ns x n is this = ap (λ o. before o (Some [])) this ∙ ap (λ (l : Stations). Some (l ++ n ∷ [])) (same_value [] ns is)
one_more (y ∷ xs) ns x n is this =
    one_more_of (station_in y) (stations_in xs) (stations_in (xs ++ x ∷ [])) n ns is (λ ms so. one_more xs ms x n so this)

before_none : (first : Option ℕ) → before first None ≡ None
before_none None = refl
before_none (Some f) = refl

-- no stations, if one word names none
lacks : (xs rest : List Text) (x : Text) → station_in x ≡ None → stations_in (xs ++ x ∷ rest) ≡ None
unfolding stations_in
lacks [] rest x this = ap (λ o. before o (stations_in rest)) this
lacks (y ∷ xs) rest x this = ap (before (station_in y)) (lacks xs rest x this) ∙ before_none (station_in y)

-- the words up to one more
pub station_more : (words : List (Bor Text)) (ns : Stations) (i : ℕ) (d : Bor Text) (n : ℕ) → i < length words
    → stations_in (map text_of (take i words)) ≡ Some ns → station_in (get_or words i d).now ≡ Some n
    → stations_in (map text_of (take (i + 1) words)) ≡ Some (ns ++ n ∷ [])
station_more words ns i d n within is this =
    ap (λ l. stations_in (map text_of l)) (take_more words i d within)
    ∙ ap stations_in (map-append text_of (take i words) (get_or words i d ∷ []))
    ∙ one_more (map text_of (take i words)) ns (get_or words i d).now n is this

-- a word among them that names none
pub station_lacks : (words : List (Bor Text)) (i : ℕ) (d : Bor Text) → i < length words → station_in (get_or words i d).now ≡ None
    → stations_in (map text_of words) ≡ None
unfolding stations_in
station_lacks [] i d within this = absurd (omega (arith, within))
station_lacks (word ∷ words) zero d within this = lacks [] (map text_of words) word.now this
station_lacks (word ∷ words) (suc i) d within this = lacks_after (station_in word.now) (station_lacks words i d (omega (arith, within)) this)
  where
    lacks_after : (first : Option ℕ) → stations_in (map text_of words) ≡ None → before first (stations_in (map text_of words)) ≡ None
    lacks_after first so = ap (before first) so ∙ before_none first

-- ---- one word

digits_pass : (ds : List ℕ) → AllDigits 10 ds → list_all (λ d. nat_lt (digit_value d) 10) ds ≡ true
digits_pass [] h = refl
digits_pass (d ∷ ds) h = rw (lt-ltb (digit_value d) 10 h.0) (digits_pass ds h.1)

digits_from : (ds : List ℕ) → list_all (λ d. nat_lt (digit_value d) 10) ds ≡ true → AllDigits 10 ds
digits_from [] e = tt
digits_from (d ∷ ds) e = let parts = both_true _ _ e in (ltb-true _ _ parts.0, digits_from ds parts.1)

-- a word that is read as a number of a station
pub station_read : (text : Text) (n : ℕ) → (IsNumeral 10 (without_leading_plus text) × (digits_value 10 (without_leading_plus text) < 2 ^ 16)) × (n ≡ digits_value 10 (without_leading_plus text))
    → 0 < n → Some n ≡ station_in text
station_read text n h from_one =
    let ds = without_leading_plus text in
    let value : 0 < digits_value 10 ds = rw (sym h.1) from_one in
    rw (lt-ltb 0 (length ds) h.0.0.0, digits_pass ds h.0.0.1, lt-ltb 0 (digits_value 10 ds) value, lt-ltb (digits_value 10 ds) 65536 (omega (arith, h.0.1))) (ap Some h.1)

-- a word that is not read as such a number
pub station_unread : {E : Type 0} (text : Text) (e : E) → ParsesUnsigned 16 10 text (Err e) → None ≡ station_in text
station_unread text e h = go (is_numeral ds && is_station (digits_value 10 ds)) refl
  where
    ds : Text
    ds = without_leading_plus text

    go : (b : Bool) → (is_numeral ds && is_station (digits_value 10 ds)) ≡ b → None ≡ station_in text
    go false t = rw t refl
    go true t =
        let outer = both_true _ _ t in
        let inner = both_true _ _ outer.0 in
        let within = both_true _ _ outer.1 in
        absurd (h ((ltb-true _ _ inner.0, digits_from ds inner.1), ltb-true _ _ within.1))

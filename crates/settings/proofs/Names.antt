-- Names gone through in order: what is so far, and the first that came earlier.
use Rattle.std.proofs.Common.{◌≡◌, ◌≢◌, ℕ, ◌+◌, ◌-◌, ◌<◌, ◌≤◌, Bool, true, false, ◌||◌, cond, List, [], ◌∷◌, ◌++◌, length, map, take, drop, get_or}
use Rattle.std.proofs.Common.{find, Option, Some, None, is_some, option_map, String, string_bytes, true≢false, Result, Ok, Err, IfErr, refl, ap, sym}
use Rattle.std.proofs.Common.{subst, ◌∙◌, arith}
use Rattle.std.specs.Borrow.{Bor}
use Rattle.std.specs.Cmp.Lexicographic.{nat_list_eq_equiv}
use Rattle.std.specs.Prelude.{bytes_eq}
use Rattle.std.specs.List.{enumerate_from, list_any}
use Rattle.std.specs.Map.{lookup}
use Rattle.std.specs.Result.{IsErrAnd}
use Rattle.std.specs.String.{string_eq}
use Rattle.std.proofs.lemmas.List.{drop_more, take_more, length-take-le, length-map, map-append}
use Rattle.std.proofs.lemmas.Option.{none-some, same_Some}
use Rattle.settings.specs.declared.naming.NameFault.{NameFault}
use Rattle.settings.specs.declared.naming.NameFault.TheVariants.{Twice, NoMemory}
use Rattle.std.proofs.lemmas.List.FromFn.{length-enumerate_from}
use Rattle.settings.specs.Naming.{first_twice, is_among, names_of, placed, came_earlier, texts}

-- the first place after i whose name came earlier
abbrev pub twice_after : List (List ℕ) → ℕ → Option ℕ
twice_after names i = option_map (λ p. p.0) (find (came_earlier names) (enumerate_from (i + 1) (drop i names)))

pub from_the_first : (names : List (List ℕ)) → first_twice names ≡ twice_after names 0
unfolding first_twice
from_the_first names = refl

pub twice_step : (names : List (List ℕ)) (i : ℕ) → i < length names
    → twice_after names i ≡ cond (is_among (take i names) (get_or names i [])) (Some (i + 1)) (twice_after names (i + 1))
twice_step names i within =
    let at : i + 1 - 1 ≡ i = omega arith in
    ap (λ rest. option_map (λ p. p.0) (find (came_earlier names) (enumerate_from (i + 1) rest))) (drop_more names i [] within)
    ∙ by (is_among (take (i + 1 - 1) names) (get_or names i [])) (is_among (take i names) (get_or names i [])) (ap (λ n. is_among (take n names) (get_or names i [])) at)
  where
    by : (b c : Bool) → b ≡ c →
        option_map (λ p. p.0) (cond b (Some (i + 1, get_or names i [])) (find (came_earlier names) (enumerate_from (i + 1 + 1) (drop (i + 1) names))))
        ≡ cond c (Some (i + 1)) (twice_after names (i + 1))
    by true true same = refl
    by false false same = refl
    by true false same = absurd (true≢false same)
    by false true same = absurd (true≢false (sym same))

-- one name more, and its place
placed_more : (n : ℕ) (names : List (List ℕ)) (name : List ℕ) → enumerate_from n (names ++ name ∷ []) ≡ enumerate_from n names ++ (length names + n, name) ∷ []
placed_more n [] name = ap (λ at. (at, name) ∷ []) (omega arith)
placed_more n (first ∷ rest) name = ap (λ places. (n, first) ∷ places) (placed_more (n + 1) rest name ∙ ap (λ at. enumerate_from (n + 1) rest ++ (at, name) ∷ []) (omega arith))

-- the names of places are the names
pub names_placed : (n : ℕ) (names : List (List ℕ)) → names_of (enumerate_from n names) ≡ names
names_placed n [] = refl
names_placed n (first ∷ rest) = ap (λ names. first ∷ names) (names_placed (n + 1) rest)

-- each of the first i names has a place
pub so_many : (names : List (List ℕ)) (i at : ℕ) (places : List (ℕ × List ℕ)) → i < length names → places ≡ placed (take i names) → at ≡ length places → at ≡ i
so_many names i at places within before end = end ∙ ap length before ∙ length-enumerate_from 1 (take i names) ∙ length-take-le i names (omega (arith, within))

-- a name that comes next among those that have a place
pub one_more : (names : List (List ℕ)) (i at : ℕ) (name : List ℕ) (old new : List (ℕ × List ℕ))
    → i < length names → name ≡ get_or names i [] → old ≡ placed (take i names) → at ≡ length old → new ≡ old ++ (at + 1, name) ∷ []
    → new ≡ placed (take (i + 1) names)
one_more names i at name old new within is before end added =
    let many : at ≡ length (take i names) = so_many names i at old within before end ∙ sym (length-take-le i names (omega (arith, within))) in
    added ∙ ap (λ o. o ++ (at + 1, name) ∷ []) before
    ∙ ap (λ n. placed (take i names) ++ (n + 1, name) ∷ []) many
    ∙ sym (placed_more 1 (take i names) name)
    ∙ ap (λ x. placed (take i names ++ x ∷ [])) is
    ∙ ap placed (sym (take_more names i [] within))

-- whether that name came earlier settles whether its place is the first
pub judged : (names : List (List ℕ)) (i : ℕ) (name : List ℕ) (places : List (ℕ × List ℕ)) (came : Bool)
    → i < length names → name ≡ get_or names i [] → places ≡ placed (take i names) → is_among (names_of places) name ≡ came
    → twice_after names i ≡ cond came (Some (i + 1)) (twice_after names (i + 1))
judged names i name places came within is before reported =
    let so_far : names_of places ≡ take i names = ap names_of before ∙ names_placed 1 (take i names) in
    let same : is_among (take i names) (get_or names i []) ≡ is_among (names_of places) name = (λ j. is_among (sym so_far j) (sym is j)) in
    twice_step names i within ∙ ap (λ b. cond b (Some (i + 1)) (twice_after names (i + 1))) (same ∙ reported)

-- an entry of a map as the place that it shows
abbrev pub as_place : {A : Type 0} → String A × ℕ → ℕ × List ℕ
as_place entry = (entry.1, string_bytes entry.0)

-- a map finds a name where it is among those that it holds
pub found_among : {A : Type 0} (entries : List (String A × ℕ)) (name : List ℕ)
    → is_some (lookup (λ key. bytes_eq name (string_bytes key)) entries) ≡ is_among (names_of (map as_place entries)) name
found_among [] name = refl
found_among (entry ∷ rest) name = by (bytes_eq name (string_bytes entry.0)) (found_among rest name)
  where
    by : (b : Bool) → is_some (lookup (λ key. bytes_eq name (string_bytes key)) rest) ≡ is_among (names_of (map as_place rest)) name →
        is_some (cond b (Some entry.1) (lookup (λ key. bytes_eq name (string_bytes key)) rest)) ≡ (b || is_among (names_of (map as_place rest)) name)
    by true found = refl
    by false found = found

-- where the map does not find it, it finds no key of that text
pub no_such_key : {A : Type 0} (entries : List (String A × ℕ)) (name : List ℕ) (key : String A) → string_bytes key ≡ name
    → is_some (lookup (λ other. bytes_eq name (string_bytes other)) entries) ≡ false → lookup (string_eq key) entries ≡ None
no_such_key entries name key is found = ap (λ text. lookup (λ other. bytes_eq text (string_bytes other)) entries) is ∙ none_of _ found
  where
    none_of : (o : Option ℕ) → is_some o ≡ false → o ≡ None
    none_of None found = refl
    none_of (Some x) found = absurd (true≢false found)

-- the map's places after a name's key and its place came last
pub shown_more : {A : Type 0} (entries : List (String A × ℕ)) (key : String A) (at before : ℕ) (name : List ℕ) → string_bytes key ≡ name → at ≡ before
    → map as_place (entries ++ (key, at + 1) ∷ []) ≡ map as_place entries ++ (before + 1, name) ∷ []
shown_more entries key at before name is end =
    map-append as_place entries ((key, at + 1) ∷ [])
    ∙ (λ j. map as_place entries ++ (end j + 1, is j) ∷ [])

-- equality of texts asked the other way round
pub among_flipped : (names : List (Bor (List ℕ))) (name : List ℕ) → list_any (λ earlier. bytes_eq earlier.now name) names ≡ is_among (texts names) name
among_flipped [] name = refl
among_flipped (first ∷ rest) name = (λ j. nat_list_eq_equiv.symm first.now name j || among_flipped rest name j)

-- what a `?` passes on is the fault that was met
pub same_fault : {T E : Type 0} (result : Result T E) (fault : E) (P : E → Type 0) → IsErrAnd result (λ e. e ≡ fault) → P fault → IfErr result P
same_fault (Ok x) fault P is holds = absurd is
same_fault (Err e) fault P is holds = subst P (sym is) holds

-- a place found among names is one of theirs
found_within : (test : ℕ × List ℕ → Bool) (n : ℕ) (names : List (List ℕ)) (place : ℕ) → option_map (λ p. p.0) (find test (enumerate_from n names)) ≡ Some place
    → (n ≤ place) × (place < n + length names)
found_within test n [] place is = absurd (none-some place is)
found_within test n (first ∷ rest) place is = by (test (n, first)) (found_within test (n + 1) rest place) is
  where
    by : (b : Bool) → (option_map (λ p. p.0) (find test (enumerate_from (n + 1) rest)) ≡ Some place → (n + 1 ≤ place) × (place < n + 1 + length rest))
        → option_map (λ p. p.0) (cond b (Some (n, first)) (find test (enumerate_from (n + 1) rest))) ≡ Some place → (n ≤ place) × (place < n + length (first ∷ rest))
    by true later here = let same : n ≡ place = same_Some _ _ here in (omega (arith, same), omega (arith, same))
    by false later there = let bounds = later there in (omega (arith, bounds.0), omega (arith, bounds.1))

-- the first place whose name came earlier is one of the names'
pub twice_within : (names : List (List ℕ)) (place : ℕ) → first_twice names ≡ Some place → (1 ≤ place) × (place ≤ length names)
unfolding first_twice
twice_within names place is =
    let bounds = found_within (came_earlier names) 1 names place is in
    (bounds.0, omega (arith, bounds.1))

is_place : NameFault → Bool
is_place (Twice place) = true
is_place NoMemory = false

place_in : NameFault → ℕ
place_in (Twice place) = place
place_in NoMemory = 0

-- and so is the place of a fault that is reported as the first
pub reported_within : (names : List (Bor (List ℕ))) (fault : NameFault) → (fault ≢ NoMemory → option_map Twice (first_twice (texts names)) ≡ Some fault)
    → (place : ℕ) → fault ≡ Twice place → (1 ≤ place) × (place ≤ length names)
unfolding place_in is_place
reported_within names fault reported place is =
    by (first_twice (texts names)) refl (reported (λ none. true≢false (ap is_place (sym is ∙ none))) ∙ ap Some is)
  where
    by : (first : Option ℕ) → first_twice (texts names) ≡ first → option_map Twice first ≡ Some (Twice place) → (1 ≤ place) × (place ≤ length names)
    by None found same = absurd (none-some _ same)
    by (Some p) found same =
        let bounds = twice_within (texts names) place (found ∙ ap Some (ap place_in (same_Some _ _ same))) in
        (bounds.0, omega (arith, bounds.1, length-map names (λ name. name.now)))

-- Words two by two.
use Rattle.std.proofs.Common.{◌≡◌, ◌∙◌, ◌+◌, ◌*◌, ◌<◌, ◌++◌, ◌∷◌, [], ℕ, List, Option, Some, None, arith, refl, ap, sym, length, map, take, get_or, append_assoc}
use Rattle.std.specs.Prelude.{option_map}
use Rattle.std.specs.Borrow.{Bor}
use Rattle.std.proofs.lemmas.List.{map-append, take_all, take_more}
use Rattle.clap.specs.Words.{Text}
use Rattle.command_line.specs.Asked.{paired, pair_texts}

abbrev Pairs : Type 0
Pairs = List (Text × Text)

abbrev text_of : Bor Text → Text
text_of word = word.now

none_not_some : (ps : Pairs) → ◌≡◌ {A = Option Pairs} None (Some ps) → ⊥
none_not_some ps same = cc

same_value : (ps qs : Pairs) → ◌≡◌ {A = Option Pairs} (Some ps) (Some qs) → ps ≡ qs
same_value ps qs same = cc

-- what a pair was put before
rest_of : (o : Option Pairs) (first : Text × Text) (ps : Pairs) → option_map (λ pairs. first ∷ pairs) o ≡ Some ps → (qs : Pairs) × (o ≡ Some qs) × (first ∷ qs ≡ ps)
rest_of None first ps is = absurd (none_not_some ps is)
rest_of (Some qs) first ps is = (qs, refl, same_value (first ∷ qs) ps is)

-- two words more
two_more : (xs : List Text) (ps : Pairs) (a b : Text) → paired xs ≡ Some ps → paired (xs ++ a ∷ b ∷ []) ≡ Some (ps ++ (a, b) ∷ [])
unfolding paired
two_more [] ps a b is = ap (λ (l : Pairs). Some (l ++ (a, b) ∷ [])) (same_value [] ps is)
two_more (x ∷ []) ps a b is = absurd (none_not_some ps is)
two_more (x ∷ y ∷ xs) ps a b is =
    let rest = rest_of (paired xs) (x, y) ps is in
    ap (λ (o : Option Pairs). option_map (λ pairs. (x, y) ∷ pairs) o) (two_more xs rest.0 a b rest.1)
    ∙ ap (λ (l : Pairs). Some (l ++ (a, b) ∷ [])) rest.2

-- one word more has no other
one_more : (xs : List Text) (ps : Pairs) (a : Text) → paired xs ≡ Some ps → paired (xs ++ a ∷ []) ≡ None
unfolding paired
one_more [] ps a is = refl
one_more (x ∷ []) ps a is = absurd (none_not_some ps is)
one_more (x ∷ y ∷ xs) ps a is =
    let rest = rest_of (paired xs) (x, y) ps is in
    ap (λ (o : Option Pairs). option_map (λ pairs. (x, y) ∷ pairs) o) (one_more xs rest.0 a rest.1)

-- the first words, two by two, and two more of them
pub pair_more : (words : List (Bor Text)) (pairs : List (Bor Text × Bor Text)) (i : ℕ) (d e : Bor Text) → 2 * i + 1 < length words
    → paired (map text_of (take (2 * i) words)) ≡ Some (pair_texts pairs)
    → paired (map text_of (take (2 * (i + 1)) words)) ≡ Some (pair_texts (pairs ++ (get_or words (2 * i) d, get_or words (2 * i + 1) e) ∷ []))
pair_more words pairs i d e within is =
    let a = get_or words (2 * i) d in
    let b = get_or words (2 * i + 1) e in
    let first = take (2 * i) words in
    let all : take (2 * (i + 1)) words ≡ first ++ a ∷ b ∷ [] =
    ap (λ k. take k words) (omega arith) ∙ take_more words (2 * i + 1) e within
    ∙ ap (λ l. l ++ b ∷ []) (take_more words (2 * i) d (omega (arith, within))) ∙ append_assoc first (a ∷ []) (b ∷ []) in
    ap (λ l. paired (map text_of l)) all
    ∙ ap paired (map-append text_of first (a ∷ b ∷ []))
    ∙ two_more (map text_of first) (pair_texts pairs) a.now b.now is
    ∙ ap Some (sym (map-append (λ (pair : Bor Text × Bor Text). (pair.0.now, pair.1.now)) pairs ((a, b) ∷ [])))

-- all of an even number of words
pub all_paired : (words : List (Bor Text)) (h : ℕ) (ps : Pairs) → length words ≡ 2 * h
    → paired (map text_of (take (2 * h) words)) ≡ Some ps → paired (map text_of words) ≡ Some ps
all_paired words h ps many is = ap (λ l. paired (map text_of l)) (sym (take_all (2 * h) words (omega (arith, many)))) ∙ is

-- all but the last of an odd number
pub last_alone : (words : List (Bor Text)) (h : ℕ) (ps : Pairs) → length words ≡ 2 * h + 1
    → paired (map text_of (take (2 * h) words)) ≡ Some ps → paired (map text_of words) ≡ None
last_alone [] h ps many is = absurd (omega (arith, many))
last_alone (word ∷ rest) h ps many is =
    let words = word ∷ rest in
    let first = take (2 * h) words in
    let last = get_or words (2 * h) word in
    ap (λ l. paired (map text_of l)) (sym (take_all (2 * h + 1) words (omega (arith, many))) ∙ take_more words (2 * h) word (omega (arith, many)))
    ∙ ap paired (map-append text_of first (last ∷ []))
    ∙ one_more (map text_of first) ps last.now is

-- Lines and words, a part at a time.
use Rattle.std.proofs.Common.{◌≡◌, ℕ, ◌+◌, ◌<◌, ◌≤◌, Bool, true, false, cond, List, [], ◌∷◌, ◌++◌, length, take, drop, get_or, add-one, drop-cons, append_assoc, refl, sym, ◌∙◌, ap, arith, Some}
use Rattle.std.proofs.lemmas.List.Splits.{slice_split_none, slice_split_at}
use Rattle.std.specs.List.{slice_split, onto_first, All, slice_get}
use Rattle.std.proofs.lemmas.List.{take-append-drop, length-append}
use Rattle.std.proofs.lemmas.List.Elements.{All-append}
use Rattle.std.proofs.lemmas.Option.{get_or_from_slice_get}
use Rattle.std.specs.Prelude.{◌==◌}
use Rattle.console.specs.Reading.{Lacks, words}
use Rattle.std.specs.Str.Lines.{lines, lines_of_parts, strip_carriage_return}

abbrev pub is_feed : ℕ → Bool
is_feed b = b == 10

abbrev pub is_space : ℕ → Bool
is_space b = b == 32

-- a list has a first part, however it is split
abbrev pub IsNonempty : List (List ℕ) → Type 0
IsNonempty parts = (x : List ℕ) × (more : List (List ℕ)) × (parts ≡ x ∷ more)

pub onto_nonempty : (b : ℕ) (parts : List (List ℕ)) → IsNonempty (onto_first b parts)
onto_nonempty b [] = (b ∷ [], [], refl)
onto_nonempty b (part ∷ parts) = (b ∷ part, parts, refl)

pub split_nonempty : (p : ℕ → Bool) (xs : List ℕ) → IsNonempty (slice_split p xs)
split_nonempty p [] = ([], [], refl)
split_nonempty p (x ∷ xs) = elim (p x) as (λ v. IsNonempty (cond v ([] ∷ slice_split p xs) (onto_first x (slice_split p xs)))) [
  | true ↦ ([], slice_split p xs, refl)
  | false ↦ onto_nonempty x (slice_split p xs)
]

pub parts_step : (line : List ℕ) (parts : List (List ℕ)) → IsNonempty parts → lines_of_parts (line ∷ parts) ≡ strip_carriage_return line ∷ lines_of_parts parts
parts_step line parts some = rw some.2 refl

-- a line that a line feed ends
pub lines_step : (line rest : List ℕ) → All (λ b. is_feed b ≡ false) line → lines (line ++ 10 ∷ rest) ≡ strip_carriage_return line ∷ lines rest
lines_step line rest none = ap lines_of_parts (slice_split_at is_feed line 10 rest none refl) ∙ parts_step line (slice_split is_feed rest) (split_nonempty is_feed rest)

-- a last line without one
pub lines_last : (b : ℕ) (line : List ℕ) → All (λ b. is_feed b ≡ false) (b ∷ line) → lines (b ∷ line) ≡ (b ∷ line) ∷ []
lines_last b line none = ap lines_of_parts (slice_split_none is_feed (b ∷ line) none) ∙ grind arith

-- a line has the word before its first space, and the words after it
pub words_none : (line : List ℕ) → Lacks 32 line → words line ≡ line ∷ []
words_none line none = slice_split_none is_space line none

pub words_some : (line : List ℕ) (at : ℕ) → at < length line → Lacks 32 (take at line) → slice_get line at ≡ Some 32 → words line ≡ take at line ∷ words (drop (at + 1) line)
words_some line at inside none here =
    let cut : drop at line ≡ get_or line at 0 ∷ drop (at + 1) line = rw add-one (drop-cons line at 0 inside) in
    let whole : take at line ++ 32 ∷ drop (at + 1) line ≡ line =
    ap (λ b. take at line ++ b ∷ drop (at + 1) line) (sym (get_or_from_slice_get line at 32 0 here)) ∙ ap (λ end. take at line ++ end) (sym cut) ∙ take-append-drop at line in
    ap words (sym whole) ∙ slice_split_at is_space (take at line) 32 (drop (at + 1) line) none refl

-- what a line feed ends, after bytes that end no line
pub line_ended : (taken line run rest : List ℕ) (done : List (List ℕ)) → All (λ b. is_feed b ≡ false) line → All (λ b. is_feed b ≡ false) run →
    lines (taken ++ ((run ++ 10 ∷ []) ++ rest)) ≡ done ++ lines (line ++ ((run ++ 10 ∷ []) ++ rest)) →
    lines (taken ++ (run ++ 10 ∷ []) ++ rest) ≡ done ++ strip_carriage_return (line ++ run) ∷ lines rest
line_ended taken line run rest done none plain split =
    ap lines (append_assoc taken (run ++ 10 ∷ []) rest) ∙ split
    ∙ ap (λ l. done ++ lines l) (ap (λ end. line ++ end) (append_assoc run (10 ∷ []) rest) ∙ sym (append_assoc line run (10 ∷ rest)))
    ∙ ap (λ ls. done ++ ls) (lines_step (line ++ run) rest (All-append (λ b. is_feed b ≡ false) line run none plain))

-- words before those of a rest
pub more_words : (line rest : List ℕ) (prefix : List (List ℕ)) → words line ≡ prefix ++ words rest → 8 ≤ length prefix → 8 < length (words line)
more_words line rest prefix all many =
    let some = split_nonempty is_space rest in
    let count : length (words line) ≡ length prefix + length (words rest) = ap length all ∙ length-append prefix (words rest) in
    let one : length (words rest) ≡ length some.1 + 1 = ap length some.2 ∙ omega arith in
    omega (arith, count, one, many)

-- Texts and numbers of lists, an element at a time.
use Rattle.std.proofs.Common.{◌≡◌, ℕ, ◌+◌, ◌<◌, ◌≤◌, List, ◌∷◌, ◌++◌, length, take, drop, get_or, sum_by, add-one, drop-cons, sym, ◌∙◌, ap, arith, append_assoc, length-append}
use Rattle.std.proofs.lemmas.List.{take-append-drop}
use Rattle.std.proofs.lemmas.List.Concat.{flat_map-append}
use Rattle.std.proofs.lemmas.List.Sums.{sum_by_more_le}
use Rattle.std.proofs.Math.Seq.{take-append_seam}
use Rattle.std.specs.List.{flat_map}
use Rattle.identity.specs.NumberText.{IsPrefixOf}

split_at : {T : Type 0} (xs : List T) (i : ℕ) (x : T) → i < length xs → x ≡ get_or xs i x → xs ≡ take i xs ++ x ∷ drop (i + 1) xs
split_at xs i x inside here =
    let cut : drop i xs ≡ get_or xs i x ∷ drop (i + 1) xs = rw add-one (drop-cons xs i x inside) in
    sym (take-append-drop i xs) ∙ ap (λ r. take i xs ++ r) (cut ∙ ap (λ y. y ∷ drop (i + 1) xs) (sym here))

-- the text of an element and those of the ones before it are no longer than that of all
pub text_before : {T : Type 0} (text : T → List ℕ) (xs : List T) (i : ℕ) (x : T) → i < length xs → x ≡ get_or xs i x →
    length (flat_map text (take i xs)) + length (text x) ≤ length (flat_map text xs)
text_before text xs i x inside here =
    let whole : length (flat_map text xs) ≡ length (flat_map text (take i xs)) + (length (text x) + length (flat_map text (drop (i + 1) xs))) =
    ap (λ ys. length (flat_map text ys)) (split_at xs i x inside here) ∙ ap length (flat_map-append text (take i xs) (x ∷ drop (i + 1) xs))
    ∙ length-append (flat_map text (take i xs)) (text x ++ flat_map text (drop (i + 1) xs))
    ∙ ap (λ n. length (flat_map text (take i xs)) + n) (length-append (text x) (flat_map text (drop (i + 1) xs))) in
    omega (arith, whole)

-- there was no room for one of the texts that are put after each other, and so none for all
pub no_room : {T : Type 0} (text : T → List ℕ) (xs : List T) (i : ℕ) (x : T) → i < length xs → x ≡ get_or xs i x →
    (old now : List ℕ) (had has room rooms : ℕ) → had ≡ length old → has ≡ length now → now ≡ old ++ flat_map text (take i xs) → room ≤ rooms →
    rooms < has + length (text x) → room < had + length (flat_map text xs)
no_room text xs i x inside here old now had has room rooms length_old length_now put grown full =
    let before = text_before text xs i x inside here in
    let so_far : length now ≡ length old + length (flat_map text (take i xs)) = ap length put ∙ length-append old (flat_map text (take i xs)) in
    omega (arith, before, so_far, length_old, length_now, grown, full)

-- so is it with numbers that are added
pub room_before : {T : Type 0} (room : T → ℕ) (xs : List T) (i : ℕ) (x : T) → i < length xs → x ≡ get_or xs i x →
    sum_by room (take i xs) + room x ≤ sum_by room xs
room_before room xs i x inside here =
    let most = sum_by_more_le room xs i x inside in
    let same : room x ≡ room (get_or xs i x) = ap room here in
    omega (arith, most, same)

-- what was there before more was put is there still
pub prefix_with_more : (old more now new : List ℕ) → now ≡ old ++ more → IsPrefixOf now new → IsPrefixOf old new
prefix_with_more old more now new put prefix =
    let whole : new ≡ old ++ (more ++ drop (length now) new) = sym (take-append-drop (length now) new) ∙
    ap (λ xs. xs ++ drop (length now) new) (prefix ∙ put) ∙ append_assoc old more (drop (length now) new) in
    ap (λ xs. take (length old) xs) whole ∙ take-append_seam old (more ++ drop (length now) new)

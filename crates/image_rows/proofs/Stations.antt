-- The rows of the stations, taken one after another, give what is kept of them.
use Rattle.std.proofs.Common.{◌≡◌, ℕ, zero, suc, ◌+◌, ◌-◌, ◌<◌, ◌≤◌, true, cond, List, [], ◌∷◌, ◌++◌, length, drop, replicate, Option, Some, None, refl, sym, ap, ◌∙◌, append_assoc, arith}
use Rattle.std.specs.Prelude.{slice_set}
use Rattle.std.specs.List.{All}
use Rattle.std.specs.Option.{is_some}
use Rattle.std.proofs.lemmas.Bool.{lt-ltb, le-leb}
use Rattle.std.proofs.lemmas.List.{length-append, length_push, drop_at}
use Rattle.std.proofs.lemmas.List.Elements.{All-head, All-tail}
use Rattle.std.proofs.lemmas.List.Sums.{sum_by-append, sum_by-cons}
use Rattle.base.proofs.Bools.{and_is_true}
use Rattle.centre_core.specs.State.{State, LastAccepted, IsOfAccepted}
use Rattle.image_rows.specs.Rows.{Header, ServedRow, served_rows, how_many}
use Rattle.image_rows.specs.Loading.{◌>>=◌, Loading, row_taken, all_taken, mail_done, taken_served, served_may, are_free}
use Rattle.image_rows.proofs.Rules.{at}

abbrev pub Entries : Type 0
Entries = List (Option LastAccepted)

-- so many stations of which nothing is kept
abbrev pub blanks : ℕ → Entries
blanks n = replicate n None

pub free_blanks : (n : ℕ) → are_free (blanks n) ≡ true
free_blanks zero = refl
free_blanks (suc n) = free_blanks n

abbrev one_if : Option LastAccepted → ℕ
one_if o = cond (is_some o) 1 0

pub how_many-append : (xs ys : Entries) → how_many (xs ++ ys) ≡ how_many xs + how_many ys
how_many-append xs ys = sum_by-append one_if xs ys

pub how_many-cons : (o : Option LastAccepted) (os : Entries) → how_many (o ∷ os) ≡ one_if o + how_many os
how_many-cons o os = sum_by-cons one_if o os

pub none_in_blanks : (n : ℕ) → how_many (blanks n) ≡ 0
none_in_blanks zero = refl
none_in_blanks (suc n) = let a = how_many-cons None (blanks n) in let b = none_in_blanks n in omega (arith, a, b)

pub set_there : (xs ys : Entries) (o p : Option LastAccepted) → slice_set (xs ++ o ∷ ys) (length xs) p ≡ xs ++ p ∷ ys
set_there [] ys o p = refl
set_there (x ∷ xs) ys o p = ap (λ (l : Entries). x ∷ l) (set_there xs ys o p)

abbrev pub with_served : State → Entries → State
with_served s served = record s { served = served }

-- the stations that are left
pub served_taken : (h : Header) (s : State) (prefix os : Entries) → mail_done h s ≡ true → h.served ≡ how_many (prefix ++ os) → All (IsOfAccepted s.count) os → s.served ≡ prefix ++ blanks (length os)
    → all_taken (at h s) (served_rows (length prefix + 1) os) ≡ Some (at h (with_served s (prefix ++ os)))
unfolding row_taken
served_taken h s prefix [] placed stated numbered is = ap (λ (l : Entries). Some (at h (with_served s l))) is
served_taken h s prefix (None ∷ os) placed stated numbered is =
    let longer : Entries = prefix ++ None ∷ [] in
    let regrouped : longer ++ os ≡ prefix ++ None ∷ os = append_assoc prefix (None ∷ []) os in
    ap (λ k. all_taken (at h s) (served_rows (k + 1) os)) (sym (length_push prefix None))
    ∙ served_taken h s longer os placed (stated ∙ ap how_many (sym regrouped)) (All-tail (IsOfAccepted s.count) None os numbered) (is ∙ sym (append_assoc prefix (None ∷ []) (blanks (length os))))
    ∙ ap (λ (l : Entries). Some (at h (with_served s l))) regrouped
served_taken h s prefix (Some last ∷ os) placed stated numbered is =
    let station = length prefix + 1 in
    let place : station - 1 ≡ length prefix = omega arith in
    let rest : Entries = blanks (length os) in
    let now : s.served ≡ prefix ++ None ∷ rest = is in
    let free : are_free (drop (station - 1) s.served) ≡ true = ap (λ k. are_free (drop k s.served)) place ∙
    ap (λ (l : Entries). are_free (drop (length prefix) l)) now ∙ ap are_free (drop_at prefix (None ∷ rest) (length prefix) refl) ∙
    free_blanks (length os) in
    let fewer : how_many s.served < h.served =
    let a = ap how_many now in let b = how_many-append prefix (None ∷ rest) in let c = none_in_blanks (suc (length os)) in let d =
    how_many-append prefix (Some last ∷ os) in let e = how_many-cons (Some last) os in omega (arith, a, b, c, d, e, stated) in
    let within : station ≤ length s.served = let a = ap length now in let b = length-append prefix (None ∷ rest) in omega (arith, a, b) in
    let number = All-head (IsOfAccepted s.count) (Some last) os numbered in
    let may : served_may h s station last ≡ true =
    and_is_true _ _ (and_is_true _ _
    (and_is_true _ _ (and_is_true _ _ (and_is_true _ _ placed (lt-ltb _ _ fewer)) (lt-ltb 0 station (omega arith))) (le-leb _ _ within)) free)
    (and_is_true _ _ (lt-ltb _ _ number.0) (le-leb _ _ number.1)) in
    let n : State = taken_served s station last in
    let here : row_taken (at h s) (ServedRow station last) ≡ Some (at h n) = rw may refl in
    let longer : Entries = prefix ++ Some last ∷ [] in
    let regrouped : longer ++ os ≡ prefix ++ Some last ∷ os = append_assoc prefix (Some last ∷ []) os in
    let set : n.served ≡ longer ++ rest = ap (λ k. slice_set s.served k (Some last)) place ∙
    ap (λ (l : Entries). slice_set l (length prefix) (Some last)) now ∙ set_there prefix rest None (Some last) ∙
    sym (append_assoc prefix (Some last ∷ []) rest) in
    ap (λ (r : Option Loading). r >>= λ n. all_taken n (served_rows (station + 1) os)) here
    ∙ ap (λ k. all_taken (at h n) (served_rows (k + 1) os)) (sym (length_push prefix (Some last)))
    ∙ served_taken h n longer os placed (stated ∙ ap how_many (sym regrouped)) (All-tail (IsOfAccepted s.count) (Some last) os numbered) set
    ∙ ap (λ (l : Entries). Some (at h (with_served s l))) regrouped

-- Bytes that are written a part at a time.
use Rattle.std.proofs.Common.{◌≡◌, ℕ, ◌+◌, ◌-◌, ◌≤◌, ◌<◌, ◌∷◌, get_or, slice_get, Some, sym, ap, ◌∙◌, List, [], ◌++◌, length, take, drop, arith, append_assoc}
use Rattle.std.proofs.lemmas.List.{drop_all, drop-drop, take_all, take_more, take-append-drop, append-nil}
use Rattle.std.proofs.lemmas.Option.{get_or_from_slice_get}
use Rattle.std.proofs.Math.Seq.{take-add}
use Rattle.std.proofs.lemmas.Grind.{common_steps}

-- what is left of bytes, and what is left after more of them
pub left_of : (bytes : List ℕ) (at : ℕ) → take (length bytes - at) (drop at bytes) ≡ drop at bytes
left_of bytes at = take_all (length bytes - at) (drop at bytes) (grind (arith, common_steps))

pub left_later : (bytes : List ℕ) (at n : ℕ) → drop n (take (length bytes - at) (drop at bytes)) ≡ drop (at + n) bytes
left_later bytes at n = ap (drop n) (left_of bytes at) ∙ drop-drop n at bytes

-- nothing is left at the end
pub none_left : (bytes : List ℕ) (at : ℕ) → at ≡ length bytes → drop at bytes ≡ []
none_left bytes at all = drop_all at bytes (omega (arith, all))

-- what was taken of a piece, and what is left of it and after it
pub left_after : (taken piece rest : List ℕ) (at : ℕ) → (taken ++ take at piece) ++ (drop at piece ++ rest) ≡ (taken ++ piece) ++ rest
left_after taken piece rest at =
    append_assoc taken (take at piece) (drop at piece ++ rest)
    ∙ ap (λ xs. taken ++ xs) (sym (append_assoc (take at piece) (drop at piece) rest) ∙ ap (λ xs. xs ++ rest) (take-append-drop at piece))
    ∙ sym (append_assoc taken piece rest)

-- a prefix of a piece, a part after it up to a byte, and that byte
pub prefix_more : (piece : List ℕ) (at end byte : ℕ) → at ≤ end → end < length piece → slice_get piece end ≡ Some byte →
    (take at piece ++ take (end - at) (drop at piece)) ++ byte ∷ [] ≡ take (end + 1) piece
prefix_more piece at end byte low high here =
    let whole : at + (end - at) ≡ end = omega (arith, low) in
    let byte_is : get_or piece end 0 ≡ byte = get_or_from_slice_get piece end byte 0 here in
    ap (λ xs. xs ++ byte ∷ []) (sym (take-add at (end - at) piece) ∙ ap (λ n. take n piece) whole)
    ∙ ap (λ b. take end piece ++ b ∷ []) (sym byte_is)
    ∙ sym (take_more piece end 0 high)

pub taken_more : (taken piece : List ℕ) (at end byte : ℕ) → at ≤ end → end < length piece → slice_get piece end ≡ Some byte →
    (taken ++ take at piece) ++ (take (end - at) (drop at piece) ++ byte ∷ []) ≡ taken ++ take (end + 1) piece
taken_more taken piece at end byte low high here =
    append_assoc taken (take at piece) (take (end - at) (drop at piece) ++ byte ∷ [])
    ∙ ap (λ xs. taken ++ xs) (sym (append_assoc (take at piece) (take (end - at) (drop at piece)) (byte ∷ [])) ∙ prefix_more piece at end byte low high here)

pub taken_before : (taken piece rest : List ℕ) (at end byte : ℕ) → at ≤ end → end < length piece → slice_get piece end ≡ Some byte →
    ((taken ++ take at piece) ++ (take (end - at) (drop at piece) ++ byte ∷ [])) ++ (drop (end + 1) piece ++ rest) ≡ (taken ++ piece) ++ rest
taken_before taken piece rest at end byte low high here =
    ap (λ xs. xs ++ (drop (end + 1) piece ++ rest)) (taken_more taken piece at end byte low high here)
    ∙ left_after taken piece rest (end + 1)

pub at_the_end : (input taken left : List ℕ) → input ≡ taken ++ left → left ≡ [] → input ≡ taken
at_the_end input taken left all none = all ∙ ap (λ xs. taken ++ xs) none ∙ append-nil taken

pub passed_on : (input taken left piece rest : List ℕ) → input ≡ taken ++ left → left ≡ piece ++ rest → input ≡ (taken ++ piece) ++ rest
passed_on input taken left piece rest all cut = all ∙ ap (λ xs. taken ++ xs) cut ∙ sym (append_assoc taken piece rest)

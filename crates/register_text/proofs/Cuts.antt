-- A piece comes apart at its line feeds.
use Rattle.std.proofs.Common.{◌≡◌, ℕ, ◌+◌, ◌-◌, ◌<◌, ◌≤◌, List, ◌∷◌, ◌++◌, length, take, drop, get_or, slice_get, Some, add-one, drop-cons, append_assoc, sym, ◌∙◌, ap, arith}
use Rattle.std.proofs.lemmas.List.{take-append-drop, drop-drop}
use Rattle.std.proofs.lemmas.Option.{get_or_from_slice_get}

pub cut_at : (piece : List ℕ) (at end : ℕ) → at ≤ end → end < length piece → slice_get piece end ≡ Some 10 → drop at piece ≡ take (end - at) (drop at piece) ++ 10 ∷ drop (end + 1) piece
cut_at piece at end low high here =
    let there : at + (end - at) ≡ end = omega (arith, low) in
    let byte : get_or piece end 0 ≡ 10 = get_or_from_slice_get piece end 10 0 here in
    let cut : drop end piece ≡ get_or piece end 0 ∷ drop (end + 1) piece = rw add-one (drop-cons piece end 0 high) in
    sym (take-append-drop (end - at) (drop at piece))
    ∙ ap (λ (l : List ℕ). take (end - at) (drop at piece) ++ l) (drop-drop (end - at) at piece ∙ ap (λ (n : ℕ). drop n piece) there ∙ cut ∙ ap (λ (b : ℕ). b ∷ drop (end + 1) piece) byte)

-- the line that ends there, and what follows it
pub left_at : (piece left : List ℕ) (at end : ℕ) → at ≤ end → end < length piece → slice_get piece end ≡ Some 10
    → drop at piece ++ left ≡ take (end - at) (drop at piece) ++ 10 ∷ (drop (end + 1) piece ++ left)
left_at piece left at end low high here =
    ap (λ (l : List ℕ). l ++ left) (cut_at piece at end low high here) ∙ append_assoc (take (end - at) (drop at piece)) (10 ∷ drop (end + 1) piece) left

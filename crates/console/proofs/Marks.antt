-- Spaces as the bits of a number.
use Rattle.std.proofs.Common.{◌≡◌, ◌↔◌, ℕ, ◌+◌, ◌-◌, ◌*◌, ◌/◌, ◌%◌, ◌^◌, ◌<◌, ◌≤◌, inl, inr, Bool, true, false, cond, eqb, List, length, take, drop}
use Rattle.std.proofs.Common.{map, get_or, replicate, refl, sym, ap, ◌∙◌, arith, w8, bit_or}
use Rattle.std.specs.Int.{bit_at}
use Rattle.std.specs.Simd.Lanes.{zip2, mask_l, top}
use Rattle.std.proofs.lemmas.Simd.{length-zip2, get_or-zip2, get_or-replicate, bit_mask_l, tops_compared, mask_l-mod, get_or-chunk, length-chunk}
use Rattle.std.proofs.lemmas.Bool.{eqb-true, eq-eqb, true≢false, cases_lt}
use Rattle.std.proofs.lemmas.List.{get_or_past, length-replicate}
use Rattle.std.proofs.lemmas.Nat.Bits.{bit_at_or, bit_at_cat_low, bit_at_cat_high, bit_at-zero, bit_at-lt, bit_at_above}
use Rattle.std.proofs.Common.{pow_pos}
use Rattle.console.specs.Inside.Marks.{AreSpaces}

told : (b : Bool) → cond {A = ℕ} b 1 0 ≡ 1 → b ≡ true
told true one = refl
told false one = absurd (omega (arith, one))

-- a bit of the mask of n bytes that are compared with a mark
pub marked_chunk : (mark : ℕ) (line : List ℕ) (at n : ℕ) → at + n ≤ length line → n ≤ 64 → (k : ℕ) →
    (bit_at (mask_l (map (top 7) (zip2 (λ a b. cond (eqb a b) 255 0) (take n (drop at line)) (replicate n mark))) % 2 ^ 64) k ≡ 1) ↔ ((k < n) × (get_or line (at + k) 0 ≡ mark))
marked_chunk mark line at n within few k =
    let bytes = take n (drop at line) in
    let tests = zip2 eqb bytes (replicate n mark) in
    let size : length bytes ≡ n = length-chunk at n line within in
    let long : length tests ≡ n = length-zip2 eqb bytes (replicate n mark) (size ∙ sym (length-replicate {A = ℕ} n mark)) ∙ size in
    let whole : mask_l (map (top 7) (zip2 (λ a b. cond (eqb a b) 255 0) bytes (replicate n mark))) % 2 ^ 64 ≡ mask_l tests =
    ap (λ ms. mask_l ms % 2 ^ 64) (tops_compared w8 eqb bytes (replicate n mark)) ∙ mask_l-mod tests 64 (omega (arith, long)) in
    let bit : bit_at (mask_l tests) k ≡ cond (get_or tests k false) 1 0 = bit_mask_l tests k in
    let one : k < n → get_or tests k false ≡ eqb (get_or line (at + k) 0) mark = λ inside.
    get_or-zip2 eqb bytes (replicate n mark) k 0 0 false (omega (arith, size, inside)) (omega (arith, length-replicate {A = ℕ} n mark, inside))
    ∙ ap (λ b. eqb b (get_or (replicate n mark) k 0)) (get_or-chunk at n line k 0 inside)
    ∙ ap (λ b. eqb (get_or line (at + k) 0) b) (get_or-replicate n k mark 0 inside) in (
      λ set. let here = told (get_or tests k false) (sym bit ∙ ap (λ m. bit_at m k) (sym whole) ∙ set) in
          let inside : k < n = inside_of k n tests long here in
          (inside, eqb-true (get_or line (at + k) 0) mark (sym (one inside) ∙ here)),
      λ space. ap (λ m. bit_at m k) whole ∙ bit ∙ ap (λ b. cond b 1 0) (one space.0 ∙ eq-eqb (get_or line (at + k) 0) mark space.1),
    )
  where
    by_cases : (k n : ℕ) (tests : List Bool) → length tests ≡ n → get_or tests k false ≡ true → n ≤ k → ⊥
    by_cases k n tests long here past = true≢false (sym here ∙ get_or_past tests k false (omega (arith, long, past)))

    inside_of : (k n : ℕ) (tests : List Bool) → length tests ≡ n → get_or tests k false ≡ true → k < n
    inside_of k n tests long here = omega (arith, by_cases k n tests long here)

below_64 : (x k : ℕ) → k < 64 → bit_at (x % 2 ^ 64) k ≡ bit_at x k
below_64 x k low =
    let whole : x / 2 ^ 64 * 2 ^ 64 + x % 2 ^ 64 ≡ x = omega arith in
    sym (bit_at_cat_low (x / 2 ^ 64) 64 (x % 2 ^ 64) k low) ∙ ap (λ y. bit_at y k) whole

-- a number that is shifted up
shifted_low : (b at k : ℕ) → k < at → k < 64 → bit_at (b * 2 ^ at % 2 ^ 64) k ≡ 0
shifted_low b at k low small =
    let none : b * 2 ^ at + 0 ≡ b * 2 ^ at = omega arith in
    below_64 (b * 2 ^ at) k small ∙ ap (λ y. bit_at y k) (sym none) ∙ bit_at_cat_low b at 0 k low ∙ bit_at-zero k

shifted_high : (b at k : ℕ) → at ≤ k → k < 64 → bit_at (b * 2 ^ at % 2 ^ 64) k ≡ bit_at b (k - at)
shifted_high b at k high small =
    let none : b * 2 ^ at + 0 ≡ b * 2 ^ at = omega arith in
    below_64 (b * 2 ^ at) k small ∙ ap (λ y. bit_at y k) (sym none) ∙ bit_at_cat_high b at 0 k (pow_pos at) high

shifted_past : (b at k : ℕ) → 64 ≤ k → bit_at (b * 2 ^ at % 2 ^ 64) k ≡ 0
shifted_past b at k past = bit_at_above (b * 2 ^ at % 2 ^ 64) 64 k (omega arith) past

from_zero : (k : ℕ) → 0 + k ≡ k
from_zero k = omega arith

-- of what number of bytes a mark tells
abbrev Tells : List ℕ → ℕ → ℕ → ℕ → Type 0
Tells line at n marks = (k : ℕ) → (bit_at marks k ≡ 1) ↔ ((k < n) × (get_or line (at + k) 0 ≡ 32))

module _ (line : List ℕ) (n a b : ℕ) (first : Tells line 0 n a) (last : Tells line (length line - n) n b) (long : n ≤ length line) (short : length line ≤ n + n) (few : length line ≤ 64) where
  last_is : (k : ℕ) → bit_at (b * 2 ^ (length line - n) % 2 ^ 64) k ≡ 1 → (k < length line) × (get_or line k 0 ≡ 32)
  last_is k set = elim (cases_lt k 64) [
    | inr past ↦ absurd (omega (arith, set, shifted_past b (length line - n) k past))
    | inl small ↦ elim (cases_lt k (length line - n)) [
      | inl low ↦ absurd (omega (arith, set, shifted_low b (length line - n) k low small))
      | inr high ↦
          let here = (last (k - (length line - n))).0 (sym (shifted_high b (length line - n) k high small) ∙ set) in
          let same : length line - n + (k - (length line - n)) ≡ k = omega (arith, high) in
          (omega (arith, here.0, high, long), ap (λ i. get_or line i 0) (sym same) ∙ here.1)
    ]
  ]

  -- a mark is one of the first bytes, or one of the last
  is_space : (k : ℕ) → bit_at (bit_or a (b * 2 ^ (length line - n) % 2 ^ 64)) k ≡ 1 → (k < length line) × (get_or line k 0 ≡ 32)
  is_space k set = elim (cases_lt 0 (bit_at a k)) [
    | inl some ↦
        let here = (first k).0 (omega (arith, some, bit_at-lt a k)) in
        (omega (arith, here.0, long), ap (λ i. get_or line i 0) (sym (from_zero k)) ∙ here.1)
    | inr none ↦ last_is k (omega (arith, set, none, bit_at_or a (b * 2 ^ (length line - n) % 2 ^ 64) k))
  ]

  is_marked : (k : ℕ) → k < length line → get_or line k 0 ≡ 32 → bit_at (bit_or a (b * 2 ^ (length line - n) % 2 ^ 64)) k ≡ 1
  is_marked k within space =
      let most = bit_at-lt (bit_or a (b * 2 ^ (length line - n) % 2 ^ 64)) k in
      let both = bit_at_or a (b * 2 ^ (length line - n) % 2 ^ 64) k in
      elim (cases_lt k n) [
        | inl low ↦ omega (arith, most, both, (first k).1 (low, ap (λ i. get_or line i 0) (from_zero k) ∙ space))
        | inr high ↦
            let from : length line - n ≤ k = omega (arith, high, short) in
            let same : length line - n + (k - (length line - n)) ≡ k = omega (arith, from) in
            let there = (last (k - (length line - n))).1 (omega (arith, from, within, long), ap (λ i. get_or line i 0) same ∙ space) in
            omega (arith, most, both, shifted_high b (length line - n) k from (omega (arith, within, few)), there)
      ]

  pub all_spaces : AreSpaces line 0 (length line) (bit_or a (b * 2 ^ (length line - n) % 2 ^ 64))
  all_spaces = record {
    marked = λ k low high space. is_marked k high space;
    low = λ k set. omega arith;
    high = λ k set. (is_space k set).0;
    space = λ k set. (is_space k set).1;
  }

-- A number without its lowest bit: `n & (n - 1)`.
use Rattle.std.proofs.Common.{◌≡◌, ℕ, ◌+◌, ◌-◌, ◌*◌, ◌/◌, ◌%◌, ◌^◌, ◌<◌, inl, inr, sym, ap, ◌∙◌, arith, pow_pos}
use Rattle.std.specs.Prelude.{◌≢◌}
use Rattle.std.specs.Int.{bit_at}
use Rattle.std.specs.Int.Bits.{bit_and}
use Rattle.std.proofs.Math.Nat.{mod-add-div'}
use Rattle.std.proofs.lemmas.Bool.{cases_lt}
use Rattle.std.proofs.lemmas.Nat.{mod_below, pow_below}
use Rattle.std.proofs.lemmas.Nat.Bits.{bit_at_and, bit_at_cat_low, bit_at_cat_high, bit_at-pow_same, bit_at-pow_other, bit_at_ones_above, bit_at-lt, same_from_bits_below}

module _ (n at : ℕ) (set : bit_at n at ≡ 1) (below : (k : ℕ) → k < at → bit_at n k ≡ 0) where
  small : n % 2 ^ (at + 1) < 2 ^ (at + 1)
  small = mod_below n (2 ^ (at + 1)) (pow_pos (at + 1))

  split : n / 2 ^ (at + 1) * 2 ^ (at + 1) + n % 2 ^ (at + 1) ≡ n
  split = omega (arith, mod-add-div' n (2 ^ (at + 1)))

  of_low : (k : ℕ) → k < at + 1 → bit_at (n % 2 ^ (at + 1)) k ≡ bit_at n k
  of_low k low = sym (bit_at_cat_low (n / 2 ^ (at + 1)) (at + 1) (n % 2 ^ (at + 1)) k low) ∙ ap (λ m. bit_at m k) split

  same_low : (k : ℕ) → k < at + 1 → bit_at (n % 2 ^ (at + 1)) k ≡ bit_at (2 ^ at) k
  same_low k low = elim (cases_lt k at) [
    | inl less ↦ of_low k low ∙ below k less ∙ sym (bit_at-pow_other at k (λ same. omega (arith, same, less)))
    | inr more ↦
        let here : k ≡ at = omega (arith, low, more) in
        of_low k low ∙ ap (λ i. bit_at n i) here ∙ set ∙ sym (bit_at-pow_same at) ∙ ap (λ i. bit_at (2 ^ at) i) (sym here)
  ]

  last : n % 2 ^ (at + 1) ≡ 2 ^ at
  last = same_from_bits_below (at + 1) (n % 2 ^ (at + 1)) (2 ^ at) small (pow_below at (at + 1) (omega arith)) same_low

  lowered : n / 2 ^ (at + 1) * 2 ^ (at + 1) + (2 ^ at - 1) ≡ n - 1
  lowered = omega (arith, split, last, pow_pos at)

  gone_below : bit_at (n - 1) at ≡ 0
  gone_below = ap (λ m. bit_at m at) (sym lowered) ∙ bit_at_cat_low (n / 2 ^ (at + 1)) (at + 1) (2 ^ at - 1) at (omega arith) ∙ bit_at_ones_above at at (omega arith)

  kept_above : (k : ℕ) → at < k → bit_at (n - 1) k ≡ bit_at n k
  kept_above k more =
      let few : 2 ^ at - 1 < 2 ^ (at + 1) = omega (arith, pow_below at (at + 1) (omega arith)) in
      ap (λ m. bit_at m k) (sym lowered) ∙ bit_at_cat_high (n / 2 ^ (at + 1)) (at + 1) (2 ^ at - 1) k few (omega (arith, more))
      ∙ sym (bit_at_cat_high (n / 2 ^ (at + 1)) (at + 1) (n % 2 ^ (at + 1)) k small (omega (arith, more))) ∙ ap (λ m. bit_at m k) split

  pub lowest_gone : bit_at (bit_and n (n - 1)) at ≡ 0
  lowest_gone = omega (arith, bit_at_and n (n - 1) at, gone_below)

  pub others_kept : (k : ℕ) → k ≢ at → bit_at (bit_and n (n - 1)) k ≡ bit_at n k
  others_kept k other = elim (cases_lt k at) [
    | inl less ↦ omega (arith, bit_at_and n (n - 1) k, below k less)
    | inr more ↦ omega (arith, bit_at_and n (n - 1) k, kept_above k (omega (arith, more, other)))
  ]

-- no bit is added
pub none_added : (n k : ℕ) → bit_at (bit_and n (n - 1)) k ≡ 1 → bit_at n k ≡ 1
none_added n k here = omega (arith, bit_at_and n (n - 1) k, bit_at-lt n k, bit_at-lt (n - 1) k, here)

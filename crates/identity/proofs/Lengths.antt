-- How long the texts of numbers, identities, prefixes and bits are at most.
use Rattle.std.proofs.Common.{◌≡◌, ℕ, ◌+◌, ◌*◌, ◌/◌, ◌^◌, ◌<◌, ◌≤◌, Bool, List, [], ◌∷◌, length, decimal, arith, length-append}
use Rattle.std.proofs.lemmas.Fmt.{length-decimal-le}
use Rattle.std.proofs.lemmas.Grind.{common_steps}
use Rattle.identity.specs.Identity.{mcc_of, mnc_of, ssi_of}
use Rattle.identity.specs.IdentityText.{identity_text, prefix_text}
use Rattle.identity.specs.BitsText.{hex_of, bits_text}
use Rattle.identity.specs.Path.{Path, left_aligned}
use Rattle.identity.proofs.IdentityTexts.{aligned_below}

pub decimal_fits : (n : ℕ) → n < 2 ^ 64 → length (decimal n) ≤ 20
decimal_fits n small = length-decimal-le 20 n (omega arith) (omega (arith, small)) small

pub identity_fits : (n : ℕ) → n < 2 ^ 48 → length (identity_text n) ≤ 62
unfolding identity_text
identity_fits n small =
    let mcc = decimal_fits (mcc_of n) (grind (arith, common_steps, small)) in
    let mnc = decimal_fits (mnc_of n) (omega arith) in
    let ssi = decimal_fits (ssi_of n) (omega arith) in
    let whole : length (identity_text n) ≡ length (decimal (mcc_of n)) + 1 + length (decimal (mnc_of n)) + 1 + length (decimal (ssi_of n)) = grind (arith, length-append) in
    omega (arith, mcc, mnc, ssi, whole)

pub prefix_fits : (p : Path) → length p ≤ 48 → length (prefix_text p) ≤ 83
unfolding prefix_text
prefix_fits p short =
    let identity = identity_fits (left_aligned p) (aligned_below p short) in
    let len = decimal_fits (length p) (omega (arith, short)) in
    let whole : length (prefix_text p) ≡ length (identity_text (left_aligned p)) + 1 + length (decimal (length p)) = grind (arith, length-append) in
    omega (arith, identity, len, whole)

-- four bits a digit
pub digits_fit : (bits : List Bool) → 4 * length (hex_of bits) ≤ length bits + 3
unfolding hex_of
digits_fit [] = omega arith
digits_fit (a ∷ []) = omega arith
digits_fit (a ∷ b ∷ []) = omega arith
digits_fit (a ∷ b ∷ c ∷ []) = omega arith
digits_fit (a ∷ b ∷ c ∷ d ∷ rest) = omega (arith, digits_fit rest)

pub bits_fit : (bits : List Bool) → length bits < 2 ^ 64 → length (bits_text bits) ≤ 21 + (length bits + 3) / 4
unfolding bits_text
bits_fit bits small =
    let count = decimal_fits (length bits) small in
    let whole : length (bits_text bits) ≡ length (decimal (length bits)) + 1 + length (hex_of bits) = grind (arith, length-append) in
    omega (arith, count, digits_fit bits, whole)

pub ruleset text_fits = (decimal_fits, identity_fits, prefix_fits, bits_fit)

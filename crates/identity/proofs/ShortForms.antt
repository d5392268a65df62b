-- The form of bits whose digits are few.
use Rattle.std.proofs.Common.{◌≡◌, ℕ, ◌+◌, ◌-◌, ◌*◌, ◌%◌, ◌^◌, ◌<◌, ◌≤◌, Bool, true, false, ◌&&◌, List, ◌++◌, length, take, drop, replicate, nat_le}
use Rattle.std.proofs.Common.{nat_eq, refl, sym, ap, ◌∙◌, inl, inr, arith, Result, Some, None, Ok, Err}
use Rattle.std.specs.Prelude.{◌==◌, nat_lt, if◌then◌else◌}
use Rattle.std.specs.Char.{is_ascii_hexdigit}
use Rattle.std.specs.Int.{bytes_high_first}
use Rattle.std.specs.List.{list_all}
use Rattle.std.proofs.lemmas.Bool.{cases_lt}
use Rattle.std.proofs.lemmas.Bool.Decides.{nat_tests}
use Rattle.std.proofs.lemmas.Nat.{one_shl, shl_below}
use Rattle.std.proofs.Math.Nat.{mod-eq_of_lt}
use Rattle.base.proofs.Bools.{and_false}
use Rattle.identity.specs.Number.{num, number}
use Rattle.identity.specs.Inside.NumberLaws.{number-num_mod, drop-num}
use Rattle.identity.specs.NumberText.{is_number, value, reading_number}
use Rattle.identity.specs.Packed.{bits_of}
use Rattle.identity.specs.BitsText.{digit_bits, is_filled, bits_len}
use Rattle.identity.specs.Inside.ReadDigits.{reading_digits}
use Rattle.identity.proofs.DigitBytes.{digits_back, shifted_bits}
use Rattle.identity.specs.declared.fault.Fault.{Fault}
use Rattle.identity.specs.declared.fault.Fault.TheVariants.{BadText, OutOfRange}
use Rattle.identity.proofs.Texts.{chosen_ok, ok_same}
use Rattle.identity.proofs.Words.{bits_of_high}

-- what fills the last digit, by the number of all
last_is : (digits : List ℕ) (n v : ℕ) → n ≤ 4 * length digits → v ≡ number (digit_bits digits) → number (drop n (digit_bits digits)) ≡ v % 2 ^ (4 * length digits - n)
last_is digits n v room is =
    let w = 4 * length digits in
    let back : num w v ≡ digit_bits digits = ap (num w) is ∙ digits_back digits in
    ap (λ (l : List Bool). number (drop n l)) (sym back) ∙ ap number (drop-num n w v room) ∙ number-num_mod (w - n) v

module _ (digits : List ℕ) (n v : ℕ) (room : n ≤ 4 * length digits) (is : v ≡ number (digit_bits digits)) where
  enough : nat_le n (4 * length digits) ≡ true
  enough = grind (arith, room)

  pub too_many : 4 ≤ 4 * length digits - n → is_filled n digits ≡ false
  unfolding is_filled
  too_many few = let over : nat_lt (4 * length digits) (n + 4) ≡ false = grind (arith, few, room) in rw (enough, over) refl

  pub as_filled : 4 * length digits - n < 4 → nat_eq (v % (1 * 2 ^ (4 * length digits - n) % 2 ^ 64)) 0 ≡ is_filled n digits
  unfolding is_filled
  as_filled few =
      let tight : nat_lt (4 * length digits) (n + 4) ≡ true = grind (arith, few, room) in
      let unit : 1 * 2 ^ (4 * length digits - n) % 2 ^ 64 ≡ 2 ^ (4 * length digits - n) = one_shl (4 * length digits - n) 64 (omega (arith, few)) in
      rw (enough, tight, unit, last_is digits n v room is) refl

-- ---- how many bits there are

pub len_not_hexadecimal : (count digits : List ℕ) → list_all is_ascii_hexdigit digits ≡ false → bits_len count digits ≡ None
unfolding bits_len
len_not_hexadecimal count digits other = rw (other, and_false (is_number count)) refl

pub len_counted : (count digits : List ℕ) (n : ℕ) → list_all is_ascii_hexdigit digits ≡ true → reading_number (4 * length digits) count ≡ Ok n →
    (n ≤ 4 * length digits) × (bits_len count digits ≡ (if is_filled n digits then Some n else None))
unfolding bits_len reading_number
len_counted count digits n all read =
    let room = 4 * length digits in
    let first = chosen_ok (is_number count) (if nat_le (value count) room then Ok (value count) else Err OutOfRange) BadText n read in
    let second = chosen_ok (nat_le (value count) room) (Ok (value count)) OutOfRange n first.1 in
    let same : value count ≡ n = ok_same (value count) n second.1 in
    let form : is_number count ≡ true = first.0 in
    let within : nat_le (value count) room ≡ true = second.0 in
    let fits : value count ≤ room = grind (arith, nat_tests, within) in
    (omega (arith, fits, same), rw (form, all, same) refl)

refused : (form hexadecimal within tight zeros : Bool) (v : ℕ) (e : Fault) (read : (let r : Result ℕ Fault = (if form then (if within then Ok v else Err OutOfRange) else Err BadText) in r) ≡ Err e)
    → (if form && hexadecimal && (within && tight && zeros) then Some v else None) ≡ None
refused false hexadecimal within tight zeros v e read = refl
refused true false within tight zeros v e read = refl
refused true true false tight zeros v e read = refl
refused true true true tight zeros v e read = cc

pub len_not_counted : (count digits : List ℕ) (e : Fault) → list_all is_ascii_hexdigit digits ≡ true → reading_number (4 * length digits) count ≡ Err e → bits_len count digits ≡ None
unfolding bits_len reading_number is_filled
len_not_counted count digits e all read =
    let n = value count in
    let room = 4 * length digits in
    refused (is_number count) (list_all is_ascii_hexdigit digits) (nat_le n room) (nat_lt room (n + 4)) (number (drop n (digit_bits digits)) == 0) n e read

pub chosen_none : {V : Type 0} (b : Bool) (x : V) → None ≡ (if b then Some x else None) → b ≡ false
chosen_none true x e = cc
chosen_none false x e = refl

-- a few bits are in range
pub read_few : (count digits : List ℕ) (n : ℕ) → bits_len count digits ≡ Some n → n ≤ 64 → reading_digits count digits ≡ Ok (take n (digit_bits digits))
unfolding reading_digits
read_few count digits n is few = let within : nat_le n 2048 ≡ true = grind (arith, few) in rw (is, within) refl

-- ---- a number of a few digits in eight bytes

pub eight : (v n x : ℕ) (bytes : List ℕ) → n ≤ 16 → v < 2 ^ (4 * n) → bytes ≡ bytes_high_first 8 x → x ≡ v * 2 ^ ((64 - 4 * n) % 64) % 2 ^ 64 →
    bits_of bytes ≡ num (4 * n) v ++ replicate (64 - 4 * n) false
eight v n x bytes few fits is word =
    let k = 64 - 4 * n in
    let whole : 4 * n + k ≡ 64 = omega (arith, few) in
    let plain : x ≡ v * 2 ^ k = word ∙ elim (cases_lt 0 n) [
      | inl some ↦
          let less : k % 64 ≡ k = omega (arith, some) in
          let below : v * 2 ^ k < 2 ^ (4 * n + k) = shl_below v (4 * n) k fits in
          ap (λ (m : ℕ). v * 2 ^ m % 2 ^ 64) less ∙ mod-eq_of_lt (rw whole at below)
      | inr none ↦
          let no_digits : n ≡ 0 = omega (arith, none) in
          let small : v < 1 = (rw no_digits at fits) in
          let nothing : v ≡ 0 = omega (arith, small) in
          rw (nothing, no_digits) refl
    ] in
    ap bits_of is ∙ bits_of_high 8 x ∙ ap (num 64) plain ∙ ap (λ (w : ℕ). num w (v * 2 ^ k)) (sym whole) ∙ shifted_bits (4 * n) k v

-- Two hexadecimal digits are a byte.
use Rattle.std.proofs.Common.{◌≡◌, ℕ, zero, ◌+◌, ◌-◌, ◌*◌, ◌/◌, ◌%◌, ◌^◌, ◌<◌, ◌≤◌, Bool, true, false, ◌&&◌, List, [], ◌∷◌, ◌++◌, length, take, drop}
use Rattle.std.proofs.Common.{get_or, replicate, nat_le, refl, sym, ap, ◌∙◌, inl, inr, arith}
use Rattle.std.specs.Prelude.{◌==◌, nat_lt}
use Rattle.std.specs.Char.{digit_value}
use Rattle.std.proofs.lemmas.Nat.{shl-shr}
use Rattle.std.proofs.Math.Nat.{mul-mod_left}
use Rattle.std.proofs.lemmas.Bool.{cases_lt}
use Rattle.std.proofs.lemmas.Bool.Decides.{nat_tests}
use Rattle.std.proofs.lemmas.List.{append-nil, append_assoc, take_all, take-append-le, get_or_append_left, get_or-append_right, get_or-drop, length-append, length-replicate}
use Rattle.base.proofs.Bools.{first_true, second_true}
use Rattle.base.proofs.Lists.{zeros_get}
use Rattle.identity.specs.Number.{num, number}
use Rattle.identity.specs.Inside.NumberLaws.{num-number, num-zero, num-append, num-mod, zeros_if}
use Rattle.identity.specs.Packed.{bits_of, IsPacked}
use Rattle.identity.specs.BitsText.{digit_bits, is_filled}
use Rattle.identity.proofs.Numbers.{bits_of-append, one_byte}
use Rattle.identity.proofs.Bytes.{length-bits_of}
use Rattle.identity.proofs.BitsText.{length-digit_bits, digit_bits_more}

-- the bits of a byte are those of its halves
pub halves : (h l : ℕ) → h < 16 → l < 16 → num 8 (16 * h + l) ≡ num 4 h ++ num 4 l
halves h l high low =
    let v = 16 * h + l in
    let prefix : v / 2 ^ 4 ≡ h = omega arith in
    let back : v % 2 ^ 4 ≡ l = omega arith in
    num-append 4 4 v ∙ ap (λ (n : ℕ). num 4 n ++ num 4 v) prefix ∙ ap (λ (t : List Bool). num 4 h ++ t) (sym (num-mod 4 v) ∙ ap (num 4) back)

-- one byte more
pub byte_put : (bytes : List ℕ) (b : ℕ) → bits_of (bytes ++ b ∷ []) ≡ bits_of bytes ++ num 8 b
byte_put bytes b = bits_of-append bytes (b ∷ []) ∙ ap (λ (l : List Bool). bits_of bytes ++ l) (one_byte b)

pub no_digits : (digits : List ℕ) → bits_of [] ≡ digit_bits (take 0 digits)
unfolding bits_of digit_bits
no_digits digits = refl

-- one turn of the loop
pub two_more : (digits bytes : List ℕ) (i b : ℕ) → 2 * i + 1 < length digits → bits_of bytes ≡ digit_bits (take (2 * i) digits)
    → num 8 b ≡ num 4 (digit_value (get_or digits (2 * i) 0)) ++ num 4 (digit_value (get_or digits (2 * i + 1) 0)) → bits_of (bytes ++ b ∷ []) ≡ digit_bits (take (2 * (i + 1)) digits)
two_more digits bytes i b inside is byte =
    let first = num 4 (digit_value (get_or digits (2 * i) 0)) in
    let second = num 4 (digit_value (get_or digits (2 * i + 1) 0)) in
    let one : digit_bits (take (2 * i + 1) digits) ≡ digit_bits (take (2 * i) digits) ++ first = digit_bits_more digits (2 * i) (omega arith) in
    let two : digit_bits (take (2 * i + 1 + 1) digits) ≡ digit_bits (take (2 * i + 1) digits) ++ second = digit_bits_more digits (2 * i + 1) (omega arith) in
    let place : 2 * i + 1 + 1 ≡ 2 * (i + 1) = omega arith in
    byte_put bytes b ∙ ap (λ (l : List Bool). bits_of bytes ++ l) byte ∙ ap (λ (l : List Bool). l ++ (first ++ second)) is
    ∙ sym (append_assoc (digit_bits (take (2 * i) digits)) first second)
    ∙ ap (λ (l : List Bool). l ++ second) (sym one) ∙ sym two ∙ ap (λ (n : ℕ). digit_bits (take n digits)) place

-- ---- the digits are all

-- an even number of digits
pub even_digits : (digits bytes : List ℕ) (i : ℕ) → length digits % 2 ≡ 0 → length digits ≤ 2 * i → bits_of bytes ≡ digit_bits (take (2 * i) digits)
    → bits_of bytes ≡ digit_bits digits ++ replicate (4 * (length digits % 2)) false
even_digits digits bytes i even all is =
    is ∙ ap digit_bits (take_all (2 * i) digits all) ∙ sym (append-nil (digit_bits digits)) ∙ ap (λ (k : ℕ). digit_bits digits ++ replicate (4 * k) false) (sym even)

-- an odd number, whose last one is a high half
pub odd_digits : (digits bytes : List ℕ) (i d : ℕ) → length digits % 2 ≡ 1 → length digits ≡ 2 * i + 1 → bits_of bytes ≡ digit_bits (take (2 * i) digits)
    → d < 16 → d ≡ digit_value (get_or digits (length digits - 1) 0) → bits_of (bytes ++ 16 * d ∷ []) ≡ digit_bits digits ++ replicate (4 * (length digits % 2)) false
odd_digits digits bytes i d odd len is small value =
    let last = num 4 d in
    let place : length digits - 1 ≡ 2 * i = omega (arith, len) in
    let digit : digit_value (get_or digits (2 * i) 0) ≡ d = ap (λ (n : ℕ). digit_value (get_or digits n 0)) (sym place) ∙ sym value in
    let one : digit_bits (take (2 * i + 1) digits) ≡ digit_bits (take (2 * i) digits) ++ last = digit_bits_more digits (2 * i) (omega (arith, len)) ∙
    ap (λ (n : ℕ). digit_bits (take (2 * i) digits) ++ num 4 n) digit in
    let all : take (2 * i + 1) digits ≡ digits = take_all (2 * i + 1) digits (omega (arith, len)) in
    let plain : 16 * d ≡ 16 * d + 0 = omega arith in
    let byte : num 8 (16 * d) ≡ last ++ num 4 0 = ap (num 8) plain ∙ halves d 0 small (omega arith) in
    byte_put bytes (16 * d) ∙ ap (λ (l : List Bool). bits_of bytes ++ l) byte ∙ ap (λ (l : List Bool). l ++ (last ++ num 4 0)) is
    ∙ sym (append_assoc (digit_bits (take (2 * i) digits)) last (num 4 0))
    ∙ ap (λ (l : List Bool). l ++ num 4 0) (sym one ∙ ap digit_bits all) ∙ ap (λ (l : List Bool). digit_bits digits ++ l) (num-zero 4)
    ∙ ap (λ (k : ℕ). digit_bits digits ++ replicate (4 * k) false) (sym odd)

-- ---- bytes of filled digits are packed

no_number : (bits : List Bool) (i : ℕ) → number bits ≡ 0 → get_or bits i false ≡ false
no_number bits i none = ap (λ (l : List Bool). get_or l i false) (sym (num-number bits) ∙ ap (num (length bits)) none ∙ num-zero (length bits)) ∙ zeros_get (length bits) i

module _ (digits bytes : List ℕ) (len k : ℕ) (is : bits_of bytes ≡ digit_bits digits ++ replicate k false) (filled : is_filled len digits ≡ true) where
  pub parts : (len ≤ 4 * length digits) × (4 * length digits < len + 4) × (number (drop len (digit_bits digits)) ≡ 0)
  unfolding is_filled
  parts =
      let room = nat_le len (4 * length digits) in
      let tight = nat_lt (4 * length digits) (len + 4) in
      let zero = number (drop len (digit_bits digits)) == 0 in
      let both : (room && tight) ≡ true = first_true (room && tight) zero filled in
      let last : zero ≡ true = second_true (room && tight) zero filled in
      let one : room ≡ true = first_true room tight both in
      let two : tight ≡ true = second_true room tight both in
      (grind (arith, nat_tests, one), grind (arith, nat_tests, two), grind (arith, nat_tests, last))

  pub clear : (i : ℕ) → len ≤ i → get_or (bits_of bytes) i false ≡ false
  clear i le = ap (λ (l : List Bool). get_or l i false) is ∙ elim (cases_lt i (length (digit_bits digits))) [
    | inl lt ↦
        let at : i ≡ len + (i - len) = omega arith in
        get_or_append_left (digit_bits digits) (replicate k false) false i lt
        ∙ ap (λ (n : ℕ). get_or (digit_bits digits) n false) at
        ∙ sym (get_or-drop len (digit_bits digits) (i - len) false)
        ∙ no_number (drop len (digit_bits digits)) (i - len) parts.2
    | inr past ↦ get_or-append_right (digit_bits digits) (replicate k false) (length (digit_bits digits)) i false refl past ∙ zeros_get k (i - length (digit_bits digits))
  ]

  pub prefix : take len (bits_of bytes) ≡ take len (digit_bits digits)
  prefix = ap (take len) is ∙ take-append-le len (digit_bits digits) (replicate k false) (omega (arith, length-digit_bits digits, parts.0))

  whole : 8 * length bytes ≡ 4 * length digits + k
  whole = omega (arith, length-bits_of bytes, ap length is, length-append (digit_bits digits) (replicate k false), length-replicate k false, length-digit_bits digits)

  pub packed : k < 8 → (4 * length digits + k) % 8 ≡ 0 → IsPacked bytes len
  packed fill even = let p = parts in let w = whole in record { room = omega (arith, p.0); tight = omega (arith, p.0, p.1, even); fill = clear }

-- ---- a few digits in eight bytes

-- a number of k bits and zeros after it
pub shifted_bits : (w k value : ℕ) → num (w + k) (value * 2 ^ k) ≡ num w value ++ replicate k false
shifted_bits w k value =
    num-append w k (value * 2 ^ k) ∙ ap (λ (n : ℕ). num w n ++ num k (value * 2 ^ k)) (shl-shr value k)
    ∙ ap (λ (l : List Bool). num w value ++ l) (zeros_if k (value * 2 ^ k) (mul-mod_left value (2 ^ k)))

-- the digits are the bits of their number
pub digits_back : (digits : List ℕ) → num (4 * length digits) (number (digit_bits digits)) ≡ digit_bits digits
digits_back digits = ap (λ (w : ℕ). num w (number (digit_bits digits))) (sym (length-digit_bits digits)) ∙ num-number (digit_bits digits)

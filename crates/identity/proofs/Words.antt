-- Eight bytes as one number, and a number put into them.
use Rattle.std.proofs.Common.{◌≡◌, ℕ, zero, suc, ◌+◌, ◌-◌, ◌*◌, ◌/◌, ◌%◌, ◌^◌, ◌<◌, ◌≤◌, Bool, false, List, [], ◌∷◌, ◌++◌, length, get_or, take, drop, replicate, refl, sym, ap, ◌∙◌, inl, inr, arith}
use Rattle.std.specs.Int.{w64, byte_at, bytes_high_first, from_be_bytes}
use Rattle.std.proofs.lemmas.Bool.{cases_lt}
use Rattle.std.proofs.lemmas.List.{ext_get_or, get_or-drop, get_or-replicate, get_or_past, get_or-take, length-take, length-drop, length-replicate}
use Rattle.std.proofs.lemmas.Nat.{be_bytes_8, pow-add, pow_pos, div-add-mod', div-mul-add, mod-mul-add, mul-add-lt, div_below}
use Rattle.std.proofs.Math.Nat.{mul-div_cancel, mul-mod_left, add-mul, mul_assoc, mod-eq_of_lt}
use Rattle.std.proofs.Math.Pow.{pow_mono}
use Rattle.base.proofs.Numbers.{pow_256}
use Rattle.identity.specs.Number.{num, number}
use Rattle.identity.specs.Packed.{bits_of, Shows}
use Rattle.identity.specs.Inside.NumberLaws.{length-num, number-num, num-append, num-mod, take-num, drop-num, zeros_if, zeros_then}
use Rattle.identity.specs.Inside.Kept.{IsClear}
use Rattle.identity.proofs.Bytes.{length-bits_of}
use Rattle.identity.proofs.Numbers.{number_part, within_bytes}

byte_bits : (k n : ℕ) → num 8 (byte_at k n) ≡ num 8 (n / 2 ^ (8 * k))
byte_bits zero n = let one : n / 2 ^ (8 * 0) ≡ n = omega arith in rw one (num-mod 8 n)
byte_bits (suc k) n = rw (pow_256 (suc k)) (num-mod 8 (n / 2 ^ (8 * suc k)))

-- the bits of the bytes of a number are those of the number
pub bits_of_high : (k n : ℕ) → bits_of (bytes_high_first k n) ≡ num (8 * k) n
unfolding bits_of num
bits_of_high zero n = refl
bits_of_high (suc k) n =
    let place : 8 + 8 * k ≡ 8 * suc k = omega arith in
    (λ i. byte_bits k n i ++ bits_of_high k n i) ∙ sym (num-append 8 (8 * k) n) ∙ ap (λ (w : ℕ). num w n) place

pub word_bits : (bytes : List ℕ) → length bytes ≡ 8 → ((i : ℕ) → get_or bytes i 0 < 256) → bits_of bytes ≡ num 64 (from_be_bytes w64 bytes)
word_bits bytes eight small = ap bits_of (sym (be_bytes_8 bytes (from_be_bytes w64 bytes) eight small refl)) ∙ bits_of_high 8 (from_be_bytes w64 bytes)

-- what is shown is shown with zeros after it
padded : (bits : List Bool) (k i : ℕ) → get_or (bits ++ replicate k false) i false ≡ get_or bits i false
padded [] k i =
    elim (cases_lt i k) [
      | inl lt ↦ get_or-replicate k i false false lt
      | inr le ↦ get_or_past (replicate k false) i false (omega (arith, length-replicate k false))
    ]
padded (b ∷ bits) k zero = refl
padded (b ∷ bits) k (suc i) = padded bits k i

cleared : (bytes : List ℕ) (len : ℕ) → length bytes ≡ 8 → IsClear bytes len → drop len (bits_of bytes) ≡ replicate (64 - len) false
cleared bytes len eight clear =
    let size : length (drop len (bits_of bytes)) ≡ 64 - len = omega (arith, length-drop len (bits_of bytes), length-bits_of bytes) in
    ext_get_or false (drop len (bits_of bytes)) (replicate (64 - len) false) (omega (arith, size, length-replicate (64 - len) false))
    (λ i lt. get_or-drop len (bits_of bytes) i false ∙ clear (len + i) (omega arith) ∙ sym (get_or-replicate (64 - len) i false false (omega (arith, size))))

sum_of : (word high p c v t : ℕ) → word ≡ high * t → t ≡ p * c → word + v * c ≡ (high * p + v) * c
sum_of word high p c v t e f = ap (λ (n : ℕ). n + v * c) (e ∙ ap (λ (n : ℕ). high * n) f ∙ sym (mul_assoc high p c)) ∙ sym (add-mul (high * p) v c)

-- a number of so many bits times a power
times_lt : (v m k : ℕ) → v < 2 ^ m → v * 2 ^ k < 2 ^ (k + m)
times_lt v m k lt = let e = pow-add 2 k m in let h = mul-add-lt v (2 ^ k) 0 (2 ^ m) lt (pow_pos k) in omega (arith, e, h)

-- a number after the bits of another
after_lt : (high v len w : ℕ) → high < 2 ^ len → v < 2 ^ w → high * 2 ^ w + v < 2 ^ (w + len)
after_lt high v len w first fits = let e = pow-add 2 w len in let h = mul-add-lt high (2 ^ w) v (2 ^ len) first fits in omega (arith, e, h)

high_lt : (word len : ℕ) → word < 2 ^ 64 → len ≤ 64 → word / 2 ^ (64 - len) < 2 ^ len
high_lt word len lt le =
    let whole : 64 ≡ len + (64 - len) = omega arith in
    let e : 2 ^ 64 ≡ 2 ^ len * 2 ^ (64 - len) = ap (λ (n : ℕ). 2 ^ n) whole ∙ pow-add 2 len (64 - len) in
    div_below word (2 ^ (64 - len)) (2 ^ len) (pow_pos (64 - len)) (omega (arith, e, lt))

-- a shift by the place of the last bit: where that is 64, there is nothing to shift
pub shifted : (len w v : ℕ) → len + w ≤ 64 → v < 2 ^ w → v * 2 ^ ((64 - (len + w)) % 64) % 2 ^ 64 ≡ v * 2 ^ (64 - (len + w))
shifted len w v room fits =
    elim (cases_lt 0 (len + w)) [
      | inl lt ↦ let e : (64 - (len + w)) % 64 ≡ 64 - (len + w) = omega arith in
          let small = times_lt v w (64 - (len + w)) fits in
          let fit : 2 ^ (64 - (len + w) + w) ≤ 2 ^ 64 = pow_mono {j = 64} (omega arith) in
          ap (λ (k : ℕ). v * 2 ^ k % 2 ^ 64) e ∙ mod-eq_of_lt (omega (arith, small, fit))
      | inr le ↦ let z : w ≡ 0 = omega arith in
          let fit : v < 2 ^ 0 = (rw z at fits) in
          let none : v ≡ 0 = omega arith in
          rw none (omega arith)
    ]

-- the `w` bits of a number put after the first `len` bits of eight bytes
module _ (bytes : List ℕ) (len w v word : ℕ) (bits_are : bits_of bytes ≡ num 64 word) (eight : length bytes ≡ 8) (room : len + w ≤ 64) (fits : v < 2 ^ w) (clear : IsClear bytes len) where
  abbrev high : ℕ
  high = word / 2 ^ (64 - len)

  abbrev back : ℕ
  back = 64 - (len + w)

  tail : word % 2 ^ (64 - len) ≡ 0
  tail = zeros_then (64 - len) word (sym (drop-num len 64 word (omega arith)) ∙ ap (drop len) (sym bits_are) ∙ cleared bytes len eight clear)

  word_is : word ≡ high * 2 ^ (64 - len)
  word_is = let split = div-add-mod' word (2 ^ (64 - len)) in omega (arith, split, tail)

  powers : 2 ^ (64 - len) ≡ 2 ^ w * 2 ^ back
  powers = let e : 64 - len ≡ w + back = omega arith in rw e (pow-add 2 w back)

  sum_is : word + v * 2 ^ back ≡ (high * 2 ^ w + v) * 2 ^ back
  sum_is = sum_of word high (2 ^ w) (2 ^ back) v (2 ^ (64 - len)) word_is powers

  front : num len high ≡ take len (bits_of bytes)
  front = sym (ap (take len) bits_are ∙ take-num len 64 word (omega arith))

  both : num (len + w) (high * 2 ^ w + v) ≡ take len (bits_of bytes) ++ num w v
  both =
      num-append len w (high * 2 ^ w + v) ∙ ap (λ (n : ℕ). num len n ++ num w (high * 2 ^ w + v)) (div-mul-add high (2 ^ w) v fits) ∙ ap (λ (l : List Bool). l ++ num w (high * 2 ^ w + v)) front
      ∙ ap (λ (l : List Bool). take len (bits_of bytes) ++ l) (sym (num-mod w (high * 2 ^ w + v)) ∙ ap (num w) (mod-mul-add high (2 ^ w) v fits))

  all_bits : num 64 (word + v * 2 ^ back) ≡ (take len (bits_of bytes) ++ num w v) ++ replicate back false
  all_bits =
      let e : 64 ≡ (len + w) + back = omega arith in
      let n = (high * 2 ^ w + v) * 2 ^ back in
      ap (num 64) sum_is ∙ ap (λ (k : ℕ). num k n) e ∙ num-append (len + w) back n ∙ ap (λ (k : ℕ). num (len + w) k ++ num back n) (mul-div_cancel (high * 2 ^ w + v) (pow_pos back))
      ∙ (λ i. both i ++ zeros_if back n (mul-mod_left (high * 2 ^ w + v) (2 ^ back)) i)

  pub sum_fits : word < 2 ^ 64 → word + v * 2 ^ back < 2 ^ 64
  sum_fits lt =
      let first = high_lt word len lt (omega arith) in
      let product = times_lt (high * 2 ^ w + v) (w + len) back (after_lt high v len w first fits) in
      let whole : back + (w + len) ≡ 64 = omega arith in
      rw sum_is ((rw whole at product))

  pub number_shown : (new : List ℕ) (x : ℕ) → new ≡ bytes_high_first 8 x → x ≡ word + v * 2 ^ back → Shows new (take len (bits_of bytes) ++ num w v)
  number_shown new x is sum i =
      ap (λ (l : List Bool). get_or l i false) (ap bits_of is ∙ bits_of_high 8 x ∙ ap (num 64) sum ∙ all_bits) ∙ padded (take len (bits_of bytes) ++ num w v) back i

-- ---- a number read

-- the bits of a number that lie in the eight bytes of a word
pub number_read : (bytes : List ℕ) (at w s word k : ℕ) → 8 * s ≤ at → at + w ≤ 8 * (s + 8) → s + 8 ≤ length bytes → word < 2 ^ 64 → k ≡ 64 - (at - 8 * s) - w
    → bits_of (take 8 (drop s bytes)) ≡ num 64 word → word / 2 ^ (k % 64) % 2 ^ w ≡ number (take w (drop at (bits_of bytes)))
number_read bytes at w s word k low high room fits is_k bits_are =
    let part = bits_of (take 8 (drop s bytes)) in
    let r = at - 8 * s in
    let len : length part ≡ 64 = ap length bits_are ∙ length-num 64 word in
    let value : number part ≡ word = ap number bits_are ∙ number-num 64 word fits in
    let left : length part - (r + w) ≡ k = omega arith in
    let whole : number (take w (drop r part)) ≡ word / 2 ^ k % 2 ^ w = number_part part r w (omega arith) ∙
    ap (λ (n : ℕ). number part / 2 ^ n % 2 ^ w) left ∙ ap (λ (n : ℕ). n / 2 ^ k % 2 ^ w) value in
    turned (omega arith) ∙ sym (ap number (within_bytes bytes at w s 8 low high room) ∙ whole)
  where
    turned : k ≤ 64 → word / 2 ^ (k % 64) % 2 ^ w ≡ word / 2 ^ k % 2 ^ w
    turned le =
        elim (cases_lt k 64) [
          | inl lt ↦ let e : k % 64 ≡ k = omega arith in ap (λ (n : ℕ). word / 2 ^ n % 2 ^ w) e
          | inr ge ↦ let none : w ≡ 0 = omega arith in rw none (omega arith)
        ]

-- eight of the bytes, one by one
abbrev pub eight_at : List ℕ → ℕ → List ℕ
eight_at bytes s = get_or bytes s 0 ∷ get_or bytes (s + 1) 0 ∷ get_or bytes (s + 2) 0 ∷ get_or bytes (s + 3) 0 ∷ get_or bytes (s + 4) 0 ∷ get_or bytes
    (s + 5) 0 ∷ get_or bytes (s + 6) 0 ∷ get_or bytes (s + 7) 0 ∷ []

module _ (bytes : List ℕ) (s : ℕ) (room : s + 8 ≤ length bytes) where
  abbrev part : List ℕ
  part = take 8 (drop s bytes)

  part_len : length part ≡ 8
  part_len = omega (arith, length-take 8 (drop s bytes), length-drop s bytes)

  part_at : (i : ℕ) → i < 8 → get_or part i 0 ≡ get_or bytes (s + i) 0
  part_at i lt = get_or-take 8 (drop s bytes) i 0 lt ∙ get_or-drop s bytes i 0

  each : (i : ℕ) → i < 8 → get_or part i 0 ≡ get_or (eight_at bytes s) i 0
  each zero lt = part_at 0 lt ∙ ap (λ (n : ℕ). get_or bytes n 0) (let z : s + 0 ≡ s = omega arith in z)
  each (suc zero) lt = part_at 1 lt
  each (suc (suc zero)) lt = part_at 2 lt
  each (suc (suc (suc zero))) lt = part_at 3 lt
  each (suc (suc (suc (suc zero)))) lt = part_at 4 lt
  each (suc (suc (suc (suc (suc zero))))) lt = part_at 5 lt
  each (suc (suc (suc (suc (suc (suc zero)))))) lt = part_at 6 lt
  each (suc (suc (suc (suc (suc (suc (suc zero))))))) lt = part_at 7 lt
  each (suc (suc (suc (suc (suc (suc (suc (suc i)))))))) lt = absurd (omega arith)

  part_is : part ≡ eight_at bytes s
  part_is = ext_get_or 0 part (eight_at bytes s) part_len (λ i lt. each i (omega (arith, part_len)))

  pub word_read : (word : ℕ) → ((i : ℕ) → get_or bytes i 0 < 256) → word ≡ from_be_bytes w64 (eight_at bytes s) → bits_of part ≡ num 64 word
  word_read word small is =
      word_bits part part_len below ∙ ap (λ (l : List ℕ). num 64 (from_be_bytes w64 l)) part_is ∙ ap (num 64) (sym is)
    where
      below : (i : ℕ) → get_or part i 0 < 256
      below i =
          elim (cases_lt i 8) [
            | inl lt ↦ let e = part_at i lt in let h = small (s + i) in omega (arith, e, h)
            | inr ge ↦ let e = get_or_past part i 0 (omega (arith, part_len)) in omega (arith, e)
          ]

-- Laws of numbers as bits: each direction undoes the other, and bits split as numbers do.
use Rattle.std.proofs.Common.{◌≡◌, ℕ, zero, suc, ◌+◌, ◌*◌, ◌^◌, ◌-◌, ◌/◌, ◌%◌, ◌<◌, ◌≤◌, Bool, true, false, List}
use Rattle.std.proofs.Common.{[], ◌∷◌, ◌++◌, length, get_or, take, drop, replicate, refl, sym, ap, subst, ◌∙◌, arith}
use Rattle.std.specs.Prelude.{◌==◌}
use Rattle.std.specs.Int.{bit_at, from_bool}
use Rattle.std.proofs.lemmas.Nat.{mod-pow-add, pow_pos, shr-shr}
use Rattle.std.proofs.lemmas.List.{take_at, drop_at}
use Rattle.std.proofs.Math.Numerals.{one-add}
use Rattle.std.proofs.lemmas.Nat.Bits.{bit_at_cat_low, bit_at_cat_high, bit_at-lt, bit_at-zero}
use Rattle.std.proofs.Math.Nat.{pow-suc, mod-eq_of_lt}
use Rattle.identity.specs.Number.{num, number}

pub length-num : (w v : ℕ) → length (num w v) ≡ w
unfolding num
length-num zero v = refl
length-num (suc w) v = ap suc (length-num w v)

pub get_or-num : (w v i j : ℕ) → i + j + 1 ≡ w → get_or (num w v) i false ≡ (bit_at v j == 1)
unfolding num
get_or-num zero v i j e = absurd (omega arith)
get_or-num (suc w) v zero j e = ap (λ (k : ℕ). bit_at v k == 1) (let k : w ≡ j = omega arith in k)
get_or-num (suc w) v (suc i) j e = get_or-num w v i j (omega arith)

-- a bit is what the test for 1 says
bit_back : (n : ℕ) → n < 2 → from_bool (n == 1) ≡ n
bit_back zero lt = refl
bit_back (suc zero) lt = refl
bit_back (suc (suc n)) lt = absurd (omega arith)

pub number-num_mod : (w v : ℕ) → number (num w v) ≡ v % 2 ^ w
unfolding num number
number-num_mod zero v = omega arith
number-num_mod (suc w) v =
    rw (length-num w v, number-num_mod w v, bit_back (bit_at v w) (bit_at-lt v w), ← one-add w) (sym (mod-pow-add v 1 w))

pub number-num : (w v : ℕ) → v < 2 ^ w → number (num w v) ≡ v
number-num w v lt = number-num_mod w v ∙ mod-eq_of_lt lt

pub number-lt : (bits : List Bool) → number bits < 2 ^ length bits
unfolding number
number-lt [] = omega arith
number-lt (true ∷ bits) = let h = number-lt bits in rw (pow-suc 2 (length bits)) (omega arith)
number-lt (false ∷ bits) = let h = number-lt bits in rw (pow-suc 2 (length bits)) (omega arith)

-- higher bits do not matter
num-cat : (w k a r : ℕ) → w ≤ k → num w (a * 2 ^ k + r) ≡ num w r
unfolding num
num-cat zero k a r le = refl
num-cat (suc w) k a r le = rw (bit_at_cat_low a k r w (omega arith), num-cat w k a r (omega arith)) refl

top_bit : (b : Bool) (k r : ℕ) → r < 2 ^ k → (bit_at (from_bool b * 2 ^ k + r) k == 1) ≡ b
top_bit b k r lt =
    let e : bit_at (from_bool b * 2 ^ k + r) k ≡ bit_at (from_bool b) (k - k) = bit_at_cat_high (from_bool b) k r k lt (omega arith) in
    let z : k - k ≡ 0 = omega arith in
    rw (e, z) (top_of b)
  where
    top_of : (b : Bool) → (bit_at (from_bool b) 0 == 1) ≡ b
    top_of true = refl
    top_of false = refl

pub num-number : (bits : List Bool) → num (length bits) (number bits) ≡ bits
unfolding num number
num-number [] = refl
num-number (b ∷ bits) =
    rw (
      top_bit b (length bits) (number bits) (number-lt bits),
      num-cat (length bits) (length bits) (from_bool b) (number bits) (omega arith),
      num-number bits,
    ) refl

-- higher bits do not matter
pub num-mod : (w v : ℕ) → num w (v % 2 ^ w) ≡ num w v
num-mod w v =
    let back : num (length (num w v)) (number (num w v)) ≡ num w v = num-number (num w v) in
    rw (length-num w v, number-num_mod w v) at back

-- the bits of a longer number are those above its lowest k, and then those
pub num-append : (w k v : ℕ) → num (w + k) v ≡ num w (v / 2 ^ k) ++ num k v
unfolding num
num-append zero k v = let e : 0 + k ≡ k = omega arith in ap (λ (n : ℕ). num n v) e
num-append (suc w) k v =
    let longer : suc (w + k) ≡ suc w + k = omega arith in
    let turned : k + w ≡ w + k = omega arith in
    let shift : v / 2 ^ (w + k) ≡ v / 2 ^ k / 2 ^ w = sym (shr-shr v k w ∙ ap (λ n. v / 2 ^ n) turned) in
    subst (λ n. num n v ≡ num (suc w) (v / 2 ^ k) ++ num k v) longer (λ i. (shift i % 2 == 1) ∷ num-append w k v i)

-- 0 has only zeros
pub num-zero : (w : ℕ) → num w 0 ≡ replicate w false
unfolding num
num-zero zero = refl
num-zero (suc w) = rw (bit_at-zero w, num-zero w) refl

pub zeros_if : (w v : ℕ) → v % 2 ^ w ≡ 0 → num w v ≡ replicate w false
zeros_if w v e = sym (num-mod w v) ∙ ap (num w) e ∙ num-zero w

pub zeros_then : (w v : ℕ) → num w v ≡ replicate w false → v % 2 ^ w ≡ 0
zeros_then w v e =
    let z : 0 % 2 ^ w ≡ 0 = mod-eq_of_lt (pow_pos w) in
    sym (number-num_mod w v) ∙ ap number (e ∙ sym (num-zero w)) ∙ number-num_mod w 0 ∙ z

-- the first w of n bits, and the others
split-num : (w n v : ℕ) → w ≤ n → num n v ≡ num w (v / 2 ^ (n - w)) ++ num (n - w) v
split-num w n v le = let e : w + (n - w) ≡ n = omega arith in subst (λ m. num m v ≡ num w (v / 2 ^ (n - w)) ++ num (n - w) v) e (num-append w (n - w) v)

pub take-num : (w n v : ℕ) → w ≤ n → take w (num n v) ≡ num w (v / 2 ^ (n - w))
take-num w n v le = ap (take w) (split-num w n v le) ∙ take_at (num w (v / 2 ^ (n - w))) (num (n - w) v) w (length-num w (v / 2 ^ (n - w)))

pub drop-num : (w n v : ℕ) → w ≤ n → drop w (num n v) ≡ num (n - w) v
drop-num w n v le = ap (drop w) (split-num w n v le) ∙ drop_at (num w (v / 2 ^ (n - w))) (num (n - w) v) w (length-num w (v / 2 ^ (n - w)))

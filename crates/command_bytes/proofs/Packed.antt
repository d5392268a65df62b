-- Bits in bytes: the prefix of some bytes, what fills the last one, and bytes as one number.
use Rattle.std.proofs.Common.{◌≡◌, ℕ, zero, suc, ◌+◌, ◌-◌, ◌*◌, ◌/◌, ◌%◌, ◌^◌, ◌<◌, ◌≤◌, Bool, true, false, List, [], ◌∷◌, ◌++◌, length, slice_index}
use Rattle.std.proofs.Common.{take, drop, replicate, Some, None, refl, sym, ap, subst, ◌∙◌, arith, inl, inr}
use mathlib.Core.Bool.{false≢true}
use Rattle.std.specs.Prelude.{not, slice_index_or, ◌==◌}
use Rattle.std.specs.List.{list_all, flat_map}
use Rattle.std.specs.Int.{byte_at}
use Rattle.std.proofs.lemmas.Bool.{cases_eq, eq-eqb, ne_eqb, le-ltb, lt-ltb}
use Rattle.std.proofs.lemmas.List.{append-nil, take_at, drop-take, take-take, length-take}
use Rattle.base.proofs.Numbers.{pow_256}
use Rattle.byteorder.specs.Endian.{big_number}
use Rattle.identity.specs.Number.{num, number}
use Rattle.identity.specs.Inside.NumberLaws.{length-num, num-append, num-mod, drop-num, zeros_if, zeros_then, num-number}
use Rattle.identity.specs.Packed.{AreBytes, IsPacked, bits_of}
use Rattle.identity.proofs.Bytes.{length-bits_of}
use Rattle.identity.proofs.SameBytes.{bytes_from_bits}
use Rattle.command_bytes.specs.Fields.{◌>>=◌, big, left, unpadded, number_at, left_at}
use Rattle.command_bytes.proofs.Numbers.{are-big, big-read}
use Rattle.command_bytes.proofs.Lefts.{all_zeros, zeros_all}

-- ---- bytes as one number

bits_of-big : (w v : ℕ) → bits_of (big w v) ≡ num (8 * w) v
unfolding bits_of big num
bits_of-big zero v = refl
bits_of-big (suc w) v =
    let whole : 8 * suc w ≡ 8 + 8 * w = omega arith in
    let first : num 8 (byte_at w v) ≡ num 8 (v / 2 ^ (8 * w)) = byte w in
    ap (λ (l : List Bool). num 8 (byte_at w v) ++ l) (bits_of-big w v) ∙ ap (λ (l : List Bool). l ++ num (8 * w) v) first ∙ sym (num-append 8 (8 * w) v) ∙ ap (λ (n : ℕ). num n v) (sym whole)
  where
    byte : (k : ℕ) → num 8 (byte_at k v) ≡ num 8 (v / 2 ^ (8 * k))
    byte zero = num-mod 8 v ∙ ap (num 8) (omega arith)
    byte (suc k) = num-mod 8 (v / 256 ^ suc k) ∙ ap (λ (n : ℕ). num 8 (v / n)) (pow_256 (suc k))

-- the bits of the first bytes
pub number_bits : (w : ℕ) (bytes : List ℕ) → AreBytes bytes → w ≤ length bytes → num (8 * w) (big_number w bytes) ≡ bits_of (take w bytes)
number_bits w bytes are le = sym (bits_of-big w (big_number w bytes)) ∙ ap bits_of (big-read w bytes are le)

-- bytes that hold just these bits and zeros are these bits from the left
pub is_left : (w : ℕ) (bytes : List ℕ) (bits : List Bool) → AreBytes bytes → length bytes ≡ w → length bits ≤ 8 * w →
    bits_of bytes ≡ bits ++ replicate (8 * w - length bits) false → bytes ≡ left w bits
unfolding left
is_left w bytes bits are long le is =
    let filled = bits ++ replicate (8 * w - length bits) false in
    let len : length filled ≡ 8 * w = sym (ap length is) ∙ length-bits_of bytes ∙ ap (λ (n : ℕ). 8 * n) long in
    let back : num (8 * w) (number filled) ≡ filled = subst (λ (n : ℕ). num n (number filled) ≡ filled) len (num-number filled) in
    bytes_from_bits bytes (big w (number filled)) are (are-big w (number filled)) (is ∙ sym back ∙ sym (bits_of-big w (number filled)))

-- ---- what fills the last byte

drop_as : (n m : ℕ) (bits : List Bool) → n ≡ m → drop n bits ≡ drop m bits
drop_as n m bits e = ap (λ (k : ℕ). drop k bits) e

test : (k v : ℕ) → (v % 2 ^ k == 0) ≡ list_all not (num k v)
test k v =
    elim (cases_eq (v % 2 ^ k) 0) [
      | inl e ↦ eq-eqb _ _ e ∙ sym (ap (list_all not) (zeros_if k v e) ∙ zeros_all k)
      | inr other ↦ ne_eqb _ _ other ∙ not_all (list_all not (num k v)) refl other
    ]
  where
    not_all : (b : Bool) → list_all not (num k v) ≡ b → (v % 2 ^ k ≡ 0 → ⊥) → false ≡ list_all not (num k v)
    not_all true e other = absurd (other (zeros_then k v (all_zeros (num k v) e ∙ ap (λ (n : ℕ). replicate n false) (length-num k v))))
    not_all false e other = sym e

drop_on : (n : ℕ) (ahead following : List Bool) → length ahead ≤ n → drop n (ahead ++ following) ≡ drop (n - length ahead) following
drop_on n [] following le = drop_as n (n - 0) following (omega arith)
drop_on zero (b ∷ ahead) following le = absurd (omega arith)
drop_on (suc n) (b ∷ ahead) following le = drop_on n ahead following (omega arith) ∙ drop_as (n - length ahead) (suc n - suc (length ahead)) following (omega arith)

-- the bits after the first ones, where these end in the last byte
last_bits : (bytes : List ℕ) (len : ℕ) → 0 < length bytes → len ≤ 8 * length bytes → 8 * length bytes < len + 8 →
    drop len (bits_of bytes) ≡ num (8 * length bytes - len) (slice_index bytes (length bytes - 1))
unfolding bits_of
last_bits [] len some room tight = absurd (omega arith)
last_bits (b ∷ []) len some room tight =
    ap (drop len) (append-nil (num 8 b)) ∙ drop-num len 8 b (omega arith)
last_bits (b ∷ c ∷ bytes) len some room tight =
    let long = length-num 8 b in
    drop_on len (num 8 b) (flat_map (num 8) (c ∷ bytes)) (omega arith) ∙
    drop_as (len - length (num 8 b)) (len - 8) (flat_map (num 8) (c ∷ bytes)) (omega (arith, long)) ∙
    last_bits (c ∷ bytes) (len - 8) (omega arith) (omega arith) (omega arith)
    ∙ (λ i. num (less i) (slice_index (b ∷ c ∷ bytes) (last i)))
  where
    less : 8 * length (c ∷ bytes) - (len - 8) ≡ 8 * length (b ∷ c ∷ bytes) - len
    less = omega arith

    last : suc (length (c ∷ bytes) - 1) ≡ length (b ∷ c ∷ bytes) - 1
    last = omega arith

pub fill_test : (bytes : List ℕ) (len last k : ℕ) → 0 < length bytes → len ≤ 8 * length bytes → 8 * length bytes < len + 8 → k ≡ 8 * length bytes - len → last ≡ slice_index bytes (length bytes - 1)
    → (last % 2 ^ k == 0) ≡ list_all not (drop len (bits_of bytes))
fill_test bytes len last k some room tight is_k is_last =
    test k last ∙ ap (list_all not) ((λ i. num (is_k i) (is_last i)) ∙ sym (last_bits bytes len some room tight))

pub no_fill : (bytes : List ℕ) (len : ℕ) → length bytes ≡ 0 → true ≡ list_all not (drop len (bits_of bytes))
unfolding bits_of
no_fill [] zero e = refl
no_fill [] (suc len) e = refl
no_fill (b ∷ bytes) len e = absurd (omega arith)

-- no bit after these is 1
none_set : (bits : List Bool) (i : ℕ) → list_all not bits ≡ true → slice_index_or bits i false ≡ false
none_set [] i zeros = refl
none_set (true ∷ bits) i zeros = absurd (false≢true zeros)
none_set (false ∷ bits) zero zeros = refl
none_set (false ∷ bits) (suc i) zeros = none_set bits i zeros

filled : (len : ℕ) (bits : List Bool) (i : ℕ) → list_all not (drop len bits) ≡ true → len ≤ i → slice_index_or bits i false ≡ false
filled zero [] i zeros le = refl
filled zero (b ∷ bits) i zeros le = none_set (b ∷ bits) i zeros
filled (suc len) [] i zeros le = refl
filled (suc len) (b ∷ bits) zero zeros le = absurd (omega (arith, le))
filled (suc len) (b ∷ bits) (suc i) zeros le = filled len bits i zeros (omega (arith, le))

pub are_packed : (bytes : List ℕ) (len : ℕ) → len ≤ 8 * length bytes → 8 * length bytes < len + 8 → list_all not (drop len (bits_of bytes)) ≡ true → IsPacked bytes len
are_packed bytes len room tight zeros = record { room = room; tight = tight; fill = λ i le. filled len (bits_of bytes) i zeros le }

-- ---- bits that are read

pub left_short : (w n : ℕ) (bytes : List ℕ) → length bytes < w → left_at w n bytes ≡ None
unfolding left_at number_at
left_short w n bytes short = rw (lt-ltb (length bytes) w short) refl

left_cut : (w n : ℕ) (bytes : List ℕ) → AreBytes bytes → w ≤ length bytes → left_at w n bytes ≡ (unpadded n (bits_of (take w bytes)) >>= λ bits. Some (bits, drop w bytes))
unfolding left_at number_at
left_cut w n bytes are le = rw (le-ltb (length bytes) w le) (ap (λ (l : List Bool). unpadded n l >>= λ bits. Some (bits, drop w bytes)) (number_bits w bytes are le))

pub left_unfilled : (w n : ℕ) (bytes : List ℕ) → AreBytes bytes → w ≤ length bytes → list_all not (drop n (bits_of (take w bytes))) ≡ false → left_at w n bytes ≡ None
left_unfilled w n bytes are le e = left_cut w n bytes are le ∙ rw e refl

pub left_found : (w n : ℕ) (bytes : List ℕ) → AreBytes bytes → w ≤ length bytes → list_all not (drop n (bits_of (take w bytes))) ≡ true →
    left_at w n bytes ≡ Some (take n (bits_of (take w bytes)), drop w bytes)
left_found w n bytes are le e = left_cut w n bytes are le ∙ rw e refl

pub power : (v k : ℕ) → k < 8 → (v % (1 * 2 ^ k % 18446744073709551616) == 0) ≡ (v % 2 ^ k == 0)
power v zero lt = refl
power v (suc zero) lt = refl
power v (suc (suc zero)) lt = refl
power v (suc (suc (suc zero))) lt = refl
power v (suc (suc (suc (suc zero)))) lt = refl
power v (suc (suc (suc (suc (suc zero))))) lt = refl
power v (suc (suc (suc (suc (suc (suc zero)))))) lt = refl
power v (suc (suc (suc (suc (suc (suc (suc zero))))))) lt = refl
power v (suc (suc (suc (suc (suc (suc (suc (suc k)))))))) lt = absurd (omega arith)

-- ---- an octet of bits

octet_of : (bytes : List ℕ) (k : ℕ) → k < length bytes → take 8 (drop (8 * k) (bits_of bytes)) ≡ num 8 (slice_index bytes k)
unfolding bits_of
octet_of [] k lt = absurd (omega arith)
octet_of (b ∷ bytes) zero lt = take_at (num 8 b) (flat_map (num 8) bytes) 8 (length-num 8 b)
octet_of (b ∷ bytes) (suc k) lt =
    let long = length-num 8 b in
    ap (take 8) (drop_on (8 * suc k) (num 8 b) (flat_map (num 8) bytes) (omega (arith, long)) ∙ drop_as (8 * suc k - length (num 8 b)) (8 * k) (flat_map (num 8) bytes) (omega (arith, long)))
    ∙ octet_of bytes k (omega arith)

pub octet_in : (bytes : List ℕ) (len k : ℕ) → 8 * k + 8 ≤ len → len ≤ 8 * length bytes → take 8 (drop (8 * k) (take len (bits_of bytes))) ≡ num 8 (slice_index bytes k)
octet_in bytes len k room le =
    let cut : len ≡ 8 * k + (len - 8 * k) = omega (arith, room) in
    let inside : take len (bits_of bytes) ≡ take (8 * k + (len - 8 * k)) (bits_of bytes) = ap (λ (n : ℕ). take n (bits_of bytes)) cut in
    ap (λ (l : List Bool). take 8 (drop (8 * k) l)) inside
    ∙ ap (take 8) (drop-take (8 * k) (len - 8 * k) (bits_of bytes))
    ∙ take-take 8 (len - 8 * k) (drop (8 * k) (bits_of bytes)) (omega (arith, room))
    ∙ octet_of bytes k (omega (arith, room, le))

pub so_many : (bytes : List ℕ) (len : ℕ) (bits : List Bool) → take len (bits_of bytes) ≡ bits → len ≤ 8 * length bytes → len ≡ length bits
so_many bytes len bits is le = omega (arith, length-take len (bits_of bytes), length-bits_of bytes, ap length is, le)

-- Bits in bytes: each bit, one more bit, and more bytes.
use Rattle.std.proofs.Common.{◌≡◌, ℕ, zero, suc, ◌+◌, ◌*◌, ◌-◌, ◌/◌, ◌%◌, ◌<◌, ◌≤◌, Bool, false, List, [], ◌∷◌, ◌++◌, length, get_or, take, refl, sym, ap, ◌∙◌, inl, inr, arith, min, length-append}
use Rattle.std.specs.Prelude.{◌==◌, replicate}
use Rattle.std.specs.Int.{bit_at}
use Rattle.std.specs.List.{flat_map}
use Rattle.std.proofs.lemmas.Bool.{cases_lt}
use Rattle.std.proofs.lemmas.List.{get_or_append_left, get_or-append_right, get_or_past, length-replicate, get_or-take, length-take, take-append-le, ext_get_or, take_all}
use Rattle.std.proofs.lemmas.List.Concat.{flat_map-append}
use Rattle.std.proofs.lemmas.Grind.{div_ceil_times}
use Rattle.identity.specs.Number.{num}
use Rattle.identity.specs.Packed.{bits_of, IsPacked, Shows}
use Rattle.identity.specs.Inside.NumberLaws.{length-num, get_or-num}

pub length-bits_of : (bytes : List ℕ) → length (bits_of bytes) ≡ 8 * length bytes
unfolding bits_of
length-bits_of [] = refl
length-bits_of (b ∷ bytes) = rw (length-append (num 8 b) (flat_map (num 8) bytes), length-num 8 b) (omega (arith, length-bits_of bytes))

bit_of_split : (bytes : List ℕ) (q r : ℕ) → r < 8 → q < length bytes → get_or (bits_of bytes) (8 * q + r) false ≡ (bit_at (get_or bytes q 0) (7 - r) == 1)
unfolding bits_of
bit_of_split [] q r lt room = absurd (omega arith)
bit_of_split (b ∷ bytes) zero r lt room =
    let n = length-num 8 b in
    let start : 8 * 0 + r ≡ r = omega arith in
    rw start (get_or_append_left (num 8 b) (flat_map (num 8) bytes) false r (omega arith) ∙ get_or-num 8 b r (7 - r) (omega arith))
bit_of_split (b ∷ bytes) (suc q) r lt room =
    let back : (8 * suc q + r) - 8 ≡ 8 * q + r = omega arith in
    get_or-append_right (num 8 b) (flat_map (num 8) bytes) 8 (8 * suc q + r) false (length-num 8 b) (omega arith)
    ∙ ap (λ (k : ℕ). get_or (flat_map (num 8) bytes) k false) back
    ∙ bit_of_split bytes q r lt (omega arith)

pub bit_of : (bytes : List ℕ) (p : ℕ) → p / 8 < length bytes → get_or (bits_of bytes) p false ≡ (bit_at (get_or bytes (p / 8) 0) (7 - p % 8) == 1)
bit_of bytes p room =
    let whole : p ≡ 8 * (p / 8) + p % 8 = omega arith in
    ap (λ (k : ℕ). get_or (bits_of bytes) k false) whole ∙ bit_of_split bytes (p / 8) (p % 8) (omega arith) room

pub past : (bytes : List ℕ) (p : ℕ) → length bytes ≤ p / 8 → get_or (bits_of bytes) p false ≡ false
past bytes p le = get_or_past (bits_of bytes) p false (omega (arith, length-bits_of bytes))

-- ---- more bytes

-- zeros show nothing
pub zeros : (k p : ℕ) → get_or (bits_of (replicate k 0)) p false ≡ false
unfolding bits_of num
zeros zero p = refl
zeros (suc k) zero = refl
zeros (suc k) (suc zero) = refl
zeros (suc k) (suc (suc zero)) = refl
zeros (suc k) (suc (suc (suc zero))) = refl
zeros (suc k) (suc (suc (suc (suc zero)))) = refl
zeros (suc k) (suc (suc (suc (suc (suc zero))))) = refl
zeros (suc k) (suc (suc (suc (suc (suc (suc zero)))))) = refl
zeros (suc k) (suc (suc (suc (suc (suc (suc (suc zero))))))) = refl
zeros (suc k) (suc (suc (suc (suc (suc (suc (suc (suc p)))))))) = zeros k p

pub grown : (bytes : List ℕ) (k p : ℕ) → get_or (bits_of (bytes ++ replicate k 0)) p false ≡ get_or (bits_of bytes) p false
unfolding bits_of
grown bytes k p =
    ap (λ (l : List Bool). get_or l p false) (flat_map-append (num 8) bytes (replicate k 0)) ∙
    elim (cases_lt p (length (bits_of bytes))) [
      | inl lt ↦ get_or_append_left (bits_of bytes) (bits_of (replicate k 0)) false p lt
      | inr le ↦ get_or-append_right (bits_of bytes) (bits_of (replicate k 0)) (length (bits_of bytes)) p false refl le ∙
          zeros k (p - length (bits_of bytes)) ∙ sym (get_or_past (bits_of bytes) p false le)
    ]

-- ---- what bytes show

pub shown_is : (bytes : List ℕ) (bits : List Bool) → Shows bytes bits → length bits ≤ 8 * length bytes → take (length bits) (bits_of bytes) ≡ bits
shown_is bytes bits shows room =
    let len : length (take (length bits) (bits_of bytes)) ≡ length bits = omega (arith, length-take (length bits) (bits_of bytes), length-bits_of bytes) in
    ext_get_or false (take (length bits) (bits_of bytes)) bits len (λ i lt. get_or-take (length bits) (bits_of bytes) i false (omega arith) ∙ shows i)

pub length_packed : (bytes : List ℕ) (len : ℕ) → IsPacked bytes len → length (take len (bits_of bytes)) ≡ len
length_packed bytes len packed = let room = packed.room in omega (arith, length-take len (bits_of bytes), length-bits_of bytes)

-- the bytes of more bits show the bits that there were
pub grown_fill : (bytes : List ℕ) (k len : ℕ) → ((i : ℕ) → len ≤ i → get_or (bits_of bytes) i false ≡ false) → (i : ℕ) → len ≤ i → get_or (bits_of (bytes ++ replicate k 0)) i false ≡ false
grown_fill bytes k len fill i le = grown bytes k i ∙ fill i le

pub grown_prefix : (bytes : List ℕ) (k len : ℕ) → len ≤ 8 * length bytes → take len (bits_of (bytes ++ replicate k 0)) ≡ take len (bits_of bytes)
unfolding bits_of
grown_prefix bytes k len room =
    ap (take len) (flat_map-append (num 8) bytes (replicate k 0)) ∙ take-append-le len (flat_map (num 8) bytes) (flat_map (num 8) (replicate k 0)) (omega (arith, length-bits_of bytes))

-- bytes that show bits are packed, where they are no more than the bits need
pub packed_from : (bytes : List ℕ) (bits : List Bool) (len : ℕ) → Shows bytes bits → length bits ≡ len → len ≤ 8 * length bytes → 8 * length bytes < len + 8 → IsPacked bytes len
packed_from bytes bits len shows is_len room tight = record { room = room; tight = tight; fill = λ i le. shows i ∙ get_or_past bits i false (omega arith) }

module _ (old big : List ℕ) (len w n : ℕ) (holds : len ≤ 8 * length old) (few : 8 * length old < len + w + 8)
    (clear : (i : ℕ) → len ≤ i → get_or (bits_of old) i false ≡ false) (is_big : big ≡ take n old ++ replicate (n - length old) 0)
    (is_n : n ≡ (len + w) / 8 + min 1 ((len + w) % 8)) where
  enough : (len + w ≤ 8 * n) × (8 * n < (len + w) + 8) × (length old ≤ n)
  enough =
      let h = div_ceil_times (len + w) 8 (omega arith) in
      (omega arith, omega arith, omega arith)

  big_is : big ≡ old ++ replicate (n - length old) 0
  big_is = let h = enough in is_big ∙ ap (λ (l : List ℕ). l ++ replicate (n - length old) 0) (take_all n old h.2)

  pub big_len : length big ≡ n
  big_len = let h = enough in let p = h.2 in let z : ℕ = 0 in ap length big_is ∙ length-append old (replicate (n - length old) z) ∙ rw (length-replicate (n - length old) z) (omega arith)

  pub big_fill : (i : ℕ) → len ≤ i → get_or (bits_of big) i false ≡ false
  big_fill i le = rw big_is (grown_fill old (n - length old) len clear i le)

  big_prefix : take len (bits_of big) ≡ take len (bits_of old)
  big_prefix = rw big_is (grown_prefix old (n - length old) len holds)

  length_whole : (v : ℕ) → length (take len (bits_of big) ++ num w v) ≡ len + w
  length_whole v =
      let h = enough in
      let l = big_len in
      omega (arith, length-append (take len (bits_of big)) (num w v), length-num w v, length-take len (bits_of big), length-bits_of big, h.0)

  pub is_appended : (new : List ℕ) (v : ℕ) → length new ≡ length big → Shows new (take len (bits_of big) ++ num w v)
      → IsPacked new (len + w) × (take (len + w) (bits_of new) ≡ take len (bits_of old) ++ num w v)
  is_appended new v same shows =
      let h = enough in
      let l = big_len in
      let whole = length_whole v in
      let room : len + w ≤ 8 * length new = omega (arith, h.0) in
      let shown = shown_is new (take len (bits_of big) ++ num w v) shows (omega arith) in (
        packed_from new (take len (bits_of big) ++ num w v) (len + w) shows whole room (omega (arith, h.1)),
        (rw whole at shown) ∙ ap (λ (l : List Bool). l ++ num w v) big_prefix,
      )

-- what a resize gives, by the length of the list
pub resized : (old big : List ℕ) (n len : ℕ) → len ≡ length old → big ≡ take n old ++ replicate (n - len) 0 → big ≡ take n old ++ replicate (n - length old) 0
resized old big n len is_len e = e ∙ ap (λ (k : ℕ). take n old ++ replicate (n - k) 0) is_len

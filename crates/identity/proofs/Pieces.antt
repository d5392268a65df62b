-- Bits put into bytes, those of one byte at a time.
use Rattle.std.proofs.Common.{◌≡◌, ℕ, zero, suc, ◌+◌, ◌*◌, ◌^◌, ◌-◌, ◌/◌, ◌%◌, ◌<◌, ◌≤◌, Bool, false, List, ◌++◌, length, get_or, set, take, refl}
use Rattle.std.proofs.Common.{sym, ap, ◌∙◌, inl, inr, arith, bit_or, max, length-append}
use Rattle.std.specs.Prelude.{◌==◌, ◌||◌, replicate}
use Rattle.std.specs.Int.{bit_at}
use Rattle.std.proofs.Math.Nat.{mul-div_cancel, mul-mod_left, mod-lt, div-eq_of_lt}
use Rattle.std.proofs.Math.Seq.{take-add}
use Rattle.std.proofs.lemmas.Bool.{cases_eq, cases_lt}
use Rattle.std.proofs.lemmas.Nat.{pow_pos}
use Rattle.std.proofs.lemmas.Nat.Bits.{bit_at_or, bit_at-lt}
use Rattle.std.proofs.lemmas.List.{get_or_append_left, get_or-append_right, get_or_past, get_or-set_same, get_or-set_other, get_or-take, length-set, length-take, length-replicate, append_assoc}
use Rattle.base.proofs.Bools.{or_none}
use Rattle.base.proofs.Lists.{zeros_get}
use Rattle.identity.specs.Number.{num}
use Rattle.identity.specs.Packed.{bits_of, Shows}
use Rattle.identity.specs.Inside.NumberLaws.{length-num, get_or-num, num-mod, num-append, num-zero, zeros_if, take-num, drop-num}
use Rattle.identity.proofs.Bytes.{length-bits_of, bit_of, past, shown_is}

-- w bits of a number in a byte, after r zeros and before k
piece_bits : (r w k v : ℕ) → r + w + k ≡ 8 → num 8 (v % 2 ^ w * 2 ^ k % 2 ^ 8) ≡ replicate r false ++ (num w v ++ replicate k false)
piece_bits r w k v whole =
    let low = v % 2 ^ w in
    let x = low * 2 ^ k in
    let high : low / 2 ^ w ≡ 0 = div-eq_of_lt (mod-lt v (pow_pos w)) in
    let prefix : num (r + w) (x / 2 ^ k) ≡ replicate r false ++ num w v =
    ap (num (r + w)) (mul-div_cancel low (pow_pos k)) ∙ num-append r w low ∙ (λ i. num r (high i) ++ num-mod w v i) ∙ ap (λ (l : List Bool). l ++ num w v) (num-zero r) in
    num-mod 8 x ∙ ap (λ (n : ℕ). num n x) (sym whole) ∙ num-append (r + w) k x ∙ (λ i. prefix i ++ zeros_if k x (mul-mod_left low (2 ^ k)) i) ∙
    append_assoc (replicate r false) (num w v) (replicate k false)

greater_bit : (x y : ℕ) → x < 2 → y < 2 → (max x y == 1) ≡ ((x == 1) || (y == 1))
greater_bit zero zero a b = refl
greater_bit zero (suc zero) a b = refl
greater_bit zero (suc (suc y)) a b = absurd (omega arith)
greater_bit (suc zero) zero a b = refl
greater_bit (suc zero) (suc zero) a b = refl
greater_bit (suc zero) (suc (suc y)) a b = absurd (omega arith)
greater_bit (suc (suc x)) y a b = absurd (omega arith)

or_alone : (b c : Bool) → b ≡ false → (b || c) ≡ c
or_alone b c e = ap (λ (t : Bool). t || c) e

-- the other bytes stay
set_elsewhere : (bytes : List ℕ) (q x i : ℕ) → q < length bytes → (i / 8 ≡ q → ⊥) → get_or (bits_of (set bytes q x)) i false ≡ get_or (bits_of bytes) i false
set_elsewhere bytes q x i room other =
    let len = length-set bytes q x in
    elim (cases_lt (i / 8) (length bytes)) [
      | inr le ↦ past (set bytes q x) i (omega arith) ∙ sym (past bytes i le)
      | inl lt ↦ bit_of (set bytes q x) i (omega arith) ∙ rw (get_or-set_other bytes q (i / 8) x 0 other) (sym (bit_of bytes i lt))
    ]

module _ (bytes : List ℕ) (at w v k : ℕ) (whole : at % 8 + w + k ≡ 8) (room : at / 8 < length bytes) (fill : (i : ℕ) → at ≤ i → get_or (bits_of bytes) i false ≡ false) where
  abbrev put_in : ℕ
  put_in = v % 2 ^ w * 2 ^ k % 2 ^ 8

  abbrev laid : List Bool
  laid = replicate (at % 8) false ++ (num w v ++ replicate k false)

  prefix_len : length (take at (bits_of bytes)) ≡ at
  prefix_len = omega (arith, length-take at (bits_of bytes), length-bits_of bytes)

  -- a bit of the byte is one that was there, or one that is put
  here : (i : ℕ) → i / 8 ≡ at / 8 → get_or (bits_of (set bytes (at / 8) (bit_or (get_or bytes (at / 8) 0) put_in))) i false ≡ (get_or (bits_of bytes) i false || get_or laid (i % 8) false)
  here i same =
      let byte = get_or bytes (at / 8) 0 in
      let new = bit_or byte put_in in
      let j = 7 - i % 8 in
      let at_new : get_or (set bytes (at / 8) new) (i / 8) 0 ≡ new = rw same (get_or-set_same bytes (at / 8) new 0 room) in
      let old : (bit_at byte j == 1) ≡ get_or (bits_of bytes) i false = rw (sym same) (sym (bit_of bytes i (omega arith))) in
      let added : (bit_at put_in j == 1) ≡ get_or laid (i % 8) false = sym (get_or-num 8 put_in (i % 8) j (omega arith)) ∙
      ap (λ (l : List Bool). get_or l (i % 8) false) (piece_bits (at % 8) w k v whole) in
      bit_of (set bytes (at / 8) new) i (omega (arith, length-set bytes (at / 8) new)) ∙ ap (λ (n : ℕ). bit_at n j == 1) at_new
      ∙ ap (λ (n : ℕ). n == 1) (bit_at_or byte put_in j) ∙ greater_bit (bit_at byte j) (bit_at put_in j) (bit_at-lt byte j) (bit_at-lt put_in j) ∙ (λ n. old n || added n)

  shown_prefix : (i : ℕ) → i < at → get_or (bits_of bytes) i false ≡ get_or (take at (bits_of bytes) ++ num w v) i false
  shown_prefix i lt = sym (get_or_append_left (take at (bits_of bytes)) (num w v) false i (omega (arith, prefix_len)) ∙ get_or-take at (bits_of bytes) i false lt)

  shown_after : (i : ℕ) → at + w ≤ i → false ≡ get_or (take at (bits_of bytes) ++ num w v) i false
  shown_after i le = sym (get_or_past (take at (bits_of bytes) ++ num w v) i false (omega (arith, length-append (take at (bits_of bytes)) (num w v), prefix_len, length-num w v)))

  shown_piece : (i : ℕ) → at ≤ i → i < at + w → get_or laid (i % 8) false ≡ get_or (take at (bits_of bytes) ++ num w v) i false
  shown_piece i le lt =
      let same : i % 8 - at % 8 ≡ i - at = omega arith in
      get_or-append_right (replicate (at % 8) false) (num w v ++ replicate k false) (at % 8) (i % 8) false (length-replicate (at % 8) false) (omega arith)
      ∙ get_or_append_left (num w v) (replicate k false) false (i % 8 - at % 8) (omega (arith, length-num w v))
      ∙ ap (λ (n : ℕ). get_or (num w v) n false) same ∙ sym (get_or-append_right (take at (bits_of bytes)) (num w v) at i false prefix_len le)

  laid_before : (i : ℕ) → i / 8 ≡ at / 8 → i < at → get_or laid (i % 8) false ≡ false
  laid_before i same lt = get_or_append_left (replicate (at % 8) false) (num w v ++ replicate k false) false (i % 8) (omega (arith, length-replicate (at % 8) false)) ∙ zeros_get (at % 8) (i % 8)

  laid_after : (i : ℕ) → i / 8 ≡ at / 8 → at + w ≤ i → get_or laid (i % 8) false ≡ false
  laid_after i same le =
      get_or-append_right (replicate (at % 8) false) (num w v ++ replicate k false) (at % 8) (i % 8) false (length-replicate (at % 8) false) (omega arith)
      ∙ get_or-append_right (num w v) (replicate k false) w (i % 8 - at % 8) false (length-num w v) (omega arith) ∙ zeros_get k (i % 8 - at % 8 - w)

  pub piece_put : Shows (set bytes (at / 8) (bit_or (get_or bytes (at / 8) 0) put_in)) (take at (bits_of bytes) ++ num w v)
  piece_put i =
      elim (cases_eq (i / 8) (at / 8)) [
        | inr other ↦ set_elsewhere bytes (at / 8) (bit_or (get_or bytes (at / 8) 0) put_in) i room other ∙ elim (cases_lt i at) [
          | inl lt ↦ shown_prefix i lt
          | inr le ↦ fill i le ∙ shown_after i (omega arith)
        ]
        | inl same ↦ here i same ∙ elim (cases_lt i at) [
          | inl lt ↦ or_none (get_or (bits_of bytes) i false) (get_or laid (i % 8) false) (laid_before i same lt) ∙ shown_prefix i lt
          | inr le ↦ or_alone (get_or (bits_of bytes) i false) (get_or laid (i % 8) false) (fill i le) ∙ elim (cases_lt i (at + w)) [
            | inl lt ↦ shown_piece i le lt
            | inr ge ↦ laid_after i same ge ∙ shown_after i ge
          ]
        ]
      ]

-- some of the next bits of a number
next_bits : (w v i n : ℕ) → i + n ≤ w → take (i + n) (num w v) ≡ take i (num w v) ++ num n (v / 2 ^ (w - i - n))
next_bits w v i n room =
    take-add i n (num w v) ∙ ap (λ (l : List Bool). take i (num w v) ++ l) (ap (take n) (drop-num i w v (omega arith)) ∙ take-num n (w - i) v (omega arith))

-- one turn of the loop
module _ (bytes : List ℕ) (prefix : List Bool) (len w v i : ℕ) (is_len : length prefix ≡ len) (room : len + w ≤ 8 * length bytes) (within : i ≤ w)
    (shows : Shows bytes (prefix ++ take i (num w v))) where
  whole_len : length (prefix ++ take i (num w v)) ≡ len + i
  whole_len = omega (arith, length-append prefix (take i (num w v)), length-take i (num w v), length-num w v)

  pub put_next : (after : List ℕ) (n : ℕ) → i + n ≤ w → Shows after (take (len + i) (bits_of bytes) ++ num n (v / 2 ^ (w - i - n))) → Shows after (prefix ++ take (i + n) (num w v))
  put_next after n fits put j =
      let shown : take (len + i) (bits_of bytes) ≡ prefix ++ take i (num w v) =
      ap (λ (m : ℕ). take m (bits_of bytes)) (sym whole_len) ∙ shown_is bytes (prefix ++ take i (num w v)) shows (omega (arith, whole_len)) in
      put j ∙ ap (λ (l : List Bool). get_or l j false) (ap (λ (l : List Bool). l ++ num n (v / 2 ^ (w - i - n))) shown ∙
      append_assoc prefix (take i (num w v)) (num n (v / 2 ^ (w - i - n))) ∙ ap (λ (l : List Bool). prefix ++ l) (sym (next_bits w v i n fits)))

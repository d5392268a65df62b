-- Bits as they are kept, in place or in a list.
use Rattle.std.proofs.Common.{◌≡◌, ℕ, ◌+◌, ◌-◌, ◌*◌, ◌/◌, ◌%◌, ◌<◌, ◌≤◌, Bool, false, List, [], ◌∷◌, ◌++◌, length, take, replicate, refl, sym, ap, subst, ◌∙◌, inl, inr, arith, min}
use Rattle.std.specs.Prelude.{nat_le}
use Rattle.std.proofs.lemmas.Bool.{cases_lt, cond-true, cond-false, le-leb, lt-leb}
use Rattle.std.proofs.lemmas.Grind.{div_ceil_times}
use Rattle.std.proofs.lemmas.List.{get_or-take, get_or_past, length-take, take-take, length-append, length-replicate}
use Rattle.identity.specs.Packed.{bits_of, IsPacked, Shows}
use Rattle.identity.specs.Number.{num}
use Rattle.identity.specs.Inside.NumberLaws.{length-num}
use Rattle.identity.specs.Inside.Kept.{IsClear, kept, AreKept}
use Rattle.identity.proofs.Bytes.{length-bits_of, length_packed, shown_is, zeros, grown_fill, grown_prefix}
use Rattle.identity.proofs.Numbers.{bits_taken}

pub kept_short : (len : ℕ) (short long : List ℕ) → len ≤ 64 → kept len short long ≡ short
unfolding kept
kept_short len short long le = cond-true (nat_le len 64) short long (le-leb len 64 le)

pub kept_long : (len : ℕ) (short long : List ℕ) → 64 < len → kept len short long ≡ long
unfolding kept
kept_long len short long lt = cond-false (nat_le len 64) short long (lt-leb len 64 lt)

pub length_kept : (len : ℕ) (short long : List ℕ) → AreKept len short long → length (take len (bits_of (kept len short long))) ≡ len
length_kept len short long are =
    elim (cases_lt 64 len) [
      | inl more ↦ rw (kept_long len short long more) (length_packed long len (are.packed more))
      | inr le ↦ rw (kept_short len short long le) (omega (arith, are.eight, length-bits_of short, length-take len (bits_of short)))
    ]

-- bits that eight bytes show are kept in place
pub kept_in_place : (len : ℕ) (short long : List ℕ) → length short ≡ 8 → len ≤ 64 → IsClear short len → AreKept len short long
kept_in_place len short long eight few clear = record { eight = eight; clear = λ le. clear; packed = λ more. absurd (omega arith) }

-- the first of eight bytes, as many as the bits need
module _ (len n : ℕ) (short : List ℕ) (eight : length short ≡ 8) (few : len ≤ 64) (is_n : n ≡ len / 8 + min 1 (len % 8)) where
  sizes : (len ≤ 8 * n) × (8 * n < len + 8) × (n ≤ 8)
  sizes = let h = div_ceil_times len 8 (omega arith) in (omega arith, omega arith, omega arith)

  first_bits : bits_of (take n short) ≡ take (8 * n) (bits_of short)
  first_bits = let h = sizes in let le = h.2 in sym (bits_taken n short (omega arith))

  pub first_same : take len (bits_of (take n short)) ≡ take len (bits_of short)
  first_same = let h = sizes in ap (take len) first_bits ∙ take-take len (8 * n) (bits_of short) h.0

  pub first_packed : IsClear short len → IsPacked (take n short) len
  first_packed clear =
      let h = sizes in let low = h.0 in let tight = h.1 in let le = h.2 in
      let size : length (take n short) ≡ n = omega (arith, length-take n short) in record {
        room = omega arith;
        tight = omega arith;
        fill = λ i past. rw first_bits (elim (cases_lt i (8 * n)) [
          | inl lt ↦ get_or-take (8 * n) (bits_of short) i false lt ∙ clear i past
          | inr ge ↦ get_or_past (take (8 * n) (bits_of short)) i false (omega (arith, length-take (8 * n) (bits_of short)))
        ]);
      }

-- eight zeros are clear
pub eight_clear : (len : ℕ) → IsClear (0 ∷ 0 ∷ 0 ∷ 0 ∷ 0 ∷ 0 ∷ 0 ∷ 0 ∷ []) len
eight_clear len i le = zeros 8 i

-- the bytes that are given out: as many of the eight as the bits need, or the list
module _ (len : ℕ) (short long : List ℕ) (bits : List Bool) (are : AreKept len short long) (is : take len (bits_of (kept len short long)) ≡ bits) where
  pub is_len : len ≡ length bits
  is_len = sym (length_kept len short long are) ∙ ap length is

  pub given_short : (n : ℕ) → len ≤ 64 → n ≡ len / 8 + min 1 (len % 8) → IsPacked (take n short) (length bits) × (take (length bits) (bits_of (take n short)) ≡ bits)
  given_short n few is_n =
      let packed = first_packed len n short are.eight few is_n (are.clear few) in
      let same = first_same len n short are.eight few is_n ∙ ap (λ (l : List ℕ). take len (bits_of l)) (sym (kept_short len short long few)) ∙ is in (
        (rw is_len at packed),
        ap (λ (k : ℕ). take k (bits_of (take n short))) (sym is_len) ∙ same,
      )

  pub given_long : (bytes : List ℕ) → bytes ≡ long → 64 < len → IsPacked bytes (length bits) × (take (length bits) (bits_of bytes) ≡ bits)
  given_long bytes e more =
      let packed = are.packed more in
      let same = ap (λ (l : List ℕ). take len (bits_of l)) (e ∙ sym (kept_long len short long more)) ∙ is in (
        rw e (rw is_len at packed),
        ap (λ (k : ℕ). take k (bits_of bytes)) (sym is_len) ∙ same,
      )

-- the bytes that bits are kept in: at least eight
module _ (len : ℕ) (short long : List ℕ) (bits : List Bool) (are : AreKept len short long) (is : take len (bits_of (kept len short long)) ≡ bits) where
  pub held_short : len ≤ 64 → (length bits ≤ 8 * length short) × (take (length bits) (bits_of short) ≡ bits)
  held_short few =
      let e = is_len len short long bits are is in
      (omega (arith, e, are.eight), ap (λ (k : ℕ). take k (bits_of short)) (sym e) ∙ ap (λ (l : List ℕ). take len (bits_of l)) (sym (kept_short len short long few)) ∙ is)

  pub held_long : (bytes : List ℕ) → bytes ≡ long → 64 < len → (8 ≤ length bytes) × (length bits ≤ 8 * length bytes) × (take (length bits) (bits_of bytes) ≡ bits)
  held_long bytes same more =
      let e = is_len len short long bits are is in
      let given = given_long len short long bits are is bytes same more in
      let room = given.0.room in
      (omega (arith, e), room, given.1)

-- the eight bytes of bits in place
module _ (len : ℕ) (short long : List ℕ) (bits : List Bool) (are : AreKept len short long) (is : take len (bits_of (kept len short long)) ≡ bits) (few : length bits ≤ 64) where
  len_few : len ≤ 64
  len_few = let e = is_len len short long bits are is in omega (arith, e, few)

  pub placed_clear : IsClear short (length bits)
  placed_clear = let e = is_len len short long bits are is in subst (λ k. IsClear short k) e (are.clear len_few)

  pub placed_same : take (length bits) (bits_of short) ≡ bits
  placed_same = (held_short len short long bits are is len_few).1

-- packed bytes of up to 64 bits, and zeros after them
module _ (len : ℕ) (bytes : List ℕ) (few : len ≤ 64) (packed : IsPacked bytes len) where
  pub at_most_eight : length bytes ≤ 8
  at_most_eight = let tight = packed.tight in omega arith

  pub eight_kept : (short : List ℕ) → short ≡ bytes ++ replicate (8 - length bytes) 0 → AreKept len short bytes
  eight_kept short e =
      let n = 8 - length bytes in let z : ℕ = 0 in
      let size : length (bytes ++ replicate n z) ≡ 8 = omega (arith, length-append bytes (replicate n z), length-replicate n z, at_most_eight) in
      rw e (kept_in_place len (bytes ++ replicate n 0) bytes size few (grown_fill bytes n len packed.fill))

  pub eight_same : (short : List ℕ) → short ≡ bytes ++ replicate (8 - length bytes) 0 → take len (bits_of (kept len short bytes)) ≡ take len (bits_of bytes)
  eight_same short e = rw (kept_short len short bytes few, e) (grown_prefix bytes (8 - length bytes) len packed.room)

pub long_same : (len : ℕ) (short bytes : List ℕ) → 64 < len → take len (bits_of (kept len short bytes)) ≡ take len (bits_of bytes)
long_same len short bytes more = rw (kept_long len short bytes more) refl

pub short_same : (len : ℕ) (short bytes : List ℕ) → len ≤ 64 → take len (bits_of (kept len short bytes)) ≡ take len (bits_of short)
short_same len short bytes few = rw (kept_short len short bytes few) refl

-- ---- more bits

-- a number put after bits in place
module _ (len w v : ℕ) (short new long : List ℕ) (bits : List Bool) (are : AreKept len short long) (is : take len (bits_of (kept len short long)) ≡ bits)
    (room : len + w ≤ 64) (eight : length new ≡ 8) (shows : Shows new (take len (bits_of short) ++ num w v)) where
  whole_len : length (take len (bits_of short) ++ num w v) ≡ len + w
  whole_len = omega (arith, are.eight, length-append (take len (bits_of short)) (num w v), length-num w v, length-bits_of short, length-take len (bits_of short))

  pub put_kept : AreKept (len + w) new long
  put_kept = kept_in_place (len + w) new long eight room (λ i le. shows i ∙ get_or_past (take len (bits_of short) ++ num w v) i false (omega (arith, whole_len)))

  pub put_same : take (len + w) (bits_of (kept (len + w) new long)) ≡ bits ++ num w v
  put_same =
      let shown : take (length (take len (bits_of short) ++ num w v)) (bits_of new) ≡ take len (bits_of short) ++ num w v =
      shown_is new (take len (bits_of short) ++ num w v) shows (omega (arith, whole_len)) in
      short_same (len + w) new long room ∙ (rw whole_len at shown) ∙ ap (λ (l : List Bool). l ++ num w v) (sym (short_same len short long (omega arith)) ∙ is)

-- bits in a list after those in place
pub spilt_same : (len w v : ℕ) (short old new : List ℕ) (bits : List Bool) → take len (bits_of (kept len short old)) ≡ bits → len ≤ 64 → 64 < len + w
    → take (len + w) (bits_of new) ≡ take len (bits_of short) ++ num w v → take (len + w) (bits_of (kept (len + w) short new)) ≡ bits ++ num w v
spilt_same len w v short old new bits is few more put = long_same (len + w) short new more ∙ put ∙ ap (λ (l : List Bool). l ++ num w v) (sym (short_same len short old few) ∙ is)

-- bits in a list after others there
pub appended_same : (len w v : ℕ) (short old new : List ℕ) (bits : List Bool) → take len (bits_of (kept len short old)) ≡ bits → 64 < len
    → take (len + w) (bits_of new) ≡ take len (bits_of old) ++ num w v → take (len + w) (bits_of (kept (len + w) short new)) ≡ bits ++ num w v
appended_same len w v short old new bits is more put = long_same (len + w) short new (omega arith) ∙ put ∙ ap (λ (l : List Bool). l ++ num w v) (sym (long_same len short old more) ∙ is)

-- what is in place does not ask for the list
pub unasked : (len : ℕ) (short old new : List ℕ) → len ≤ 64 → take len (bits_of (kept len short new)) ≡ take len (bits_of (kept len short old))
unasked len short old new few = short_same len short new few ∙ sym (short_same len short old few)

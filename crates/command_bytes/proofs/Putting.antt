-- Fields as they are written.
use Rattle.std.proofs.Common.{◌≡◌, ℕ, get_or, ◌+◌, ◌-◌, ◌*◌, ◌<◌, ◌≤◌, Bool, false, List, [], ◌∷◌, ◌++◌, length, take, drop, replicate, refl, sym, ap, subst, ◌∙◌, arith}
use Rattle.std.specs.Int.{bytes_high_first}
use Rattle.std.proofs.Math.Nat.{mod-eq_of_lt}
use Rattle.std.proofs.lemmas.List.{take_all, take-append-drop, length-drop, ext_get_or, get_or-drop, length-replicate}
use Rattle.base.proofs.Lists.{zeros_get}
use Rattle.identity.specs.Packed.{AreBytes, IsPacked, bits_of}
use Rattle.identity.specs.Path.{left_aligned}
use Rattle.identity.proofs.Bytes.{length-bits_of}
use Rattle.command_bytes.specs.Fields.{big, left, bytes_for}
use Rattle.command_bytes.proofs.Numbers.{drop-big, length-big}
use Rattle.command_bytes.proofs.Packed.{is_left}

pub prefix_bits : (prefix : List Bool) → big 6 (left_aligned prefix) ≡ left 6 prefix
unfolding left left_aligned
prefix_bits prefix = refl

-- bits as they are packed are bits from the left
pub packed_left : (bytes : List ℕ) (bits : List Bool) → AreBytes bytes → IsPacked bytes (length bits) → take (length bits) (bits_of bytes) ≡ bits →
    (bytes ≡ left (bytes_for (length bits)) bits) × (length bytes ≡ bytes_for (length bits))
packed_left bytes bits are packed is = (is_left (bytes_for (length bits)) bytes bits are long (omega (arith, packed.room, long)) whole, long)
  where
    long : length bytes ≡ bytes_for (length bits)
    long = let room = packed.room in let tight = packed.tight in omega (arith, room, tight)

    rest : drop (length bits) (bits_of bytes) ≡ replicate (8 * bytes_for (length bits) - length bits) false
    rest =
        let len : length (drop (length bits) (bits_of bytes)) ≡ length (replicate (8 * bytes_for (length bits) - length bits) false) =
        omega (
          arith,
          length-drop (length bits) (bits_of bytes),
          length-bits_of bytes,
          length-replicate (8 * bytes_for (length bits) - length bits) false,
          long,
        ) in
        ext_get_or false (drop (length bits) (bits_of bytes)) (replicate (8 * bytes_for (length bits) - length bits) false) len
        (λ i lt. rw get_or-drop (packed.fill (length bits + i) (omega arith)) ∙ sym (zeros_get (8 * bytes_for (length bits) - length bits) i))

    whole : bits_of bytes ≡ bits ++ replicate (8 * bytes_for (length bits) - length bits) false
    whole = sym (take-append-drop (length bits) (bits_of bytes)) ∙ ap (λ (l : List Bool). l ++ drop (length bits) (bits_of bytes)) is ∙ ap (λ (l : List Bool). bits ++ l) rest

pub number_bytes : (w n : ℕ) → w ≤ 8 → take (8 - (8 - w)) (drop (8 - w) (bytes_high_first 8 n)) ≡ big w n
unfolding big
number_bytes w n le =
    let e : (8 - w) + w ≡ 8 = omega arith in
    let last : drop (8 - w) (bytes_high_first 8 n) ≡ big w n = subst (λ (m : ℕ). drop (8 - w) (big m n) ≡ big w n) e (drop-big (8 - w) w n) in
    ap (take (8 - (8 - w))) last ∙ take_all (8 - (8 - w)) (big w n) (omega (arith, length-big w n))

-- what comes before a command's body, byte by byte
pub head_bytes : (a b c t : ℕ) → t < 256
    → get_or (bytes_high_first 2 a) 0 0 ∷ get_or (bytes_high_first 2 a) 1 0 ∷ get_or (bytes_high_first 4 b) 0 0 ∷ get_or (bytes_high_first 4 b) 1 0
    ∷ get_or (bytes_high_first 4 b) 2 0 ∷ get_or (bytes_high_first 4 b) 3 0 ∷ get_or (bytes_high_first 4 c) 0 0 ∷ get_or (bytes_high_first 4 c) 1 0
    ∷ get_or (bytes_high_first 4 c) 2 0 ∷ get_or (bytes_high_first 4 c) 3 0 ∷ t ∷ [] ≡ big 2 a ++ big 4 b ++ big 4 c ++ big 1 t
unfolding big
head_bytes a b c t small = ap (λ (l : List ℕ). big 2 a ++ big 4 b ++ big 4 c ++ l) (last t small)
  where
    last : (t : ℕ) → t < 256 → t ∷ [] ≡ big 1 t
    last t small = ap (λ (n : ℕ). n ∷ []) (sym (mod-eq_of_lt small))

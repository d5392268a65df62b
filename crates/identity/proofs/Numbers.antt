-- Numbers read from bytes.
use Rattle.std.proofs.Common.{◌≡◌, ℕ, ◌+◌, ◌-◌, ◌*◌, ◌/◌, ◌%◌, ◌^◌, ◌≤◌, Bool, List, [], ◌∷◌, ◌++◌, length, take, drop, sym, ap, ◌∙◌, arith}
use Rattle.std.proofs.lemmas.List.{append-nil, take_at, drop_at, drop-drop, take-append-drop, length-take, length-drop}
use Rattle.std.proofs.lemmas.List.Concat.{flat_map-append}
use Rattle.identity.specs.Number.{num, number}
use Rattle.identity.specs.Inside.NumberLaws.{number-num_mod, num-number, take-num, drop-num}
use Rattle.identity.specs.Packed.{bits_of}
use Rattle.identity.proofs.Bytes.{length-bits_of}
use Rattle.identity.proofs.Reading.{prefix_of}

pub bits_of-append : (prefix back : List ℕ) → bits_of (prefix ++ back) ≡ bits_of prefix ++ bits_of back
unfolding bits_of
bits_of-append prefix back = flat_map-append (num 8) prefix back

pub one_byte : (b : ℕ) → bits_of (b ∷ []) ≡ num 8 b
unfolding bits_of
one_byte b = append-nil (num 8 b)

-- a part of bits as a part of their number
pub number_part : (bits : List Bool) (r w : ℕ) → r + w ≤ length bits → number (take w (drop r bits)) ≡ number bits / 2 ^ (length bits - (r + w)) % 2 ^ w
number_part bits r w room =
    let n = length bits in
    let v = number bits in
    let dropped : drop r bits ≡ num (n - r) v = ap (drop r) (sym (num-number bits)) ∙ drop-num r n v (omega arith) in
    let rest : n - r - w ≡ n - (r + w) = omega arith in
    ap number (ap (take w) dropped ∙ take-num w (n - r) v (omega arith)) ∙ number-num_mod w (v / 2 ^ (n - r - w)) ∙ ap (λ (k : ℕ). v / 2 ^ k % 2 ^ w) rest

bits_dropped : (s : ℕ) (bytes : List ℕ) → s ≤ length bytes → drop (8 * s) (bits_of bytes) ≡ bits_of (drop s bytes)
bits_dropped s bytes within =
    ap (λ (l : List ℕ). drop (8 * s) (bits_of l)) (sym (take-append-drop s bytes)) ∙ ap (drop (8 * s)) (bits_of-append (take s bytes) (drop s bytes))
    ∙ drop_at (bits_of (take s bytes)) (bits_of (drop s bytes)) (8 * s) (omega (arith, length-bits_of (take s bytes), length-take s bytes))

pub bits_taken : (m : ℕ) (bytes : List ℕ) → m ≤ length bytes → take (8 * m) (bits_of bytes) ≡ bits_of (take m bytes)
bits_taken m bytes within =
    ap (λ (l : List ℕ). take (8 * m) (bits_of l)) (sym (take-append-drop m bytes)) ∙ ap (take (8 * m)) (bits_of-append (take m bytes) (drop m bytes))
    ∙ take_at (bits_of (take m bytes)) (bits_of (drop m bytes)) (8 * m) (omega (arith, length-bits_of (take m bytes), length-take m bytes))

-- bits that lie in some of the bytes
pub within_bytes : (bytes : List ℕ) (at w s m : ℕ) → 8 * s ≤ at → at + w ≤ 8 * (s + m) → s + m ≤ length bytes
    → take w (drop at (bits_of bytes)) ≡ take w (drop (at - 8 * s) (bits_of (take m (drop s bytes))))
within_bytes bytes at w s m low high room =
    let r = at - 8 * s in
    let place : at ≡ 8 * s + r = omega arith in
    let rest : m ≤ length (drop s bytes) = omega (arith, length-drop s bytes) in
    let following : drop at (bits_of bytes) ≡ drop r (bits_of (drop s bytes)) =
    ap (λ (n : ℕ). drop n (bits_of bytes)) place ∙ sym (drop-drop r (8 * s) (bits_of bytes)) ∙ ap (drop r) (bits_dropped s bytes (omega arith)) in
    ap (take w) following ∙ sym (prefix_of (bits_of (drop s bytes)) r (8 * m) w (omega arith)) ∙ ap (λ (l : List Bool). take w (drop r l)) (bits_taken m (drop s bytes) rest)

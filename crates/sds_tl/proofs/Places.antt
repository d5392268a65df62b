-- Bits come apart at their places, and what was put at a place is found there.
use Rattle.std.proofs.Common.{◌≡◌, ℕ, zero, suc, ◌+◌, ◌^◌, ◌<◌, ◌≤◌, Bool, true, false, List, [], ◌∷◌, ◌++◌, length, take, drop, refl, sym, ap, ◌∙◌, arith, append_assoc}
use Rattle.std.specs.Prelude.{◌==◌}
use Rattle.std.specs.Int.{from_bool}
use Rattle.std.proofs.lemmas.List.{take_at, drop_at, drop-drop, take-append-drop, length-take-le, length-drop}
use Rattle.identity.specs.Number.{num, number}
use Rattle.identity.specs.Inside.NumberLaws.{length-num, number-num, num-number, number-lt}
use Rattle.sds_tl.specs.Reading.{field, flag}

pub one_bit : (b : Bool) → num 1 (from_bool b) ≡ b ∷ []
unfolding num
one_bit true = refl
one_bit false = refl

-- w bits, written as the number that they are, and those after them
pub piece_back : (w : ℕ) (bits : List Bool) → w ≤ length bits → num w (number (take w bits)) ++ drop w bits ≡ bits
piece_back w bits le =
    let len : length (take w bits) ≡ w = length-take-le w bits le in
    let prefix : num w (number (take w bits)) ≡ take w bits = ap (λ (n : ℕ). num n (number (take w bits))) (sym len) ∙ num-number (take w bits) in
    ap (λ (t : List Bool). t ++ drop w bits) prefix ∙ take-append-drop w bits

-- what a piece that is read and put on leaves
pub copied : (writer reader writer' reader' : List Bool) (w piece : ℕ) → w ≤ length reader → piece ≡ number (take w reader) → writer' ≡ writer ++ num w piece → reader' ≡ drop w reader
    → writer' ++ reader' ≡ writer ++ reader
copied writer reader writer' reader' w piece le is put rest =
    rw (put, rest, is) (append_assoc writer (num w (number (take w reader))) (drop w reader) ∙ ap (λ (t : List Bool). writer ++ t) (piece_back w reader le))

pub field_small : (at w : ℕ) (bits : List Bool) → at + w ≤ length bits → field at w bits < 2 ^ w
field_small at w bits le =
    let room : w ≤ length (drop at bits) = omega (arith, length-drop at bits) in
    let h = number-lt (take w (drop at bits)) in
    rw (length-take-le w (drop at bits) room) at h

-- the field at a place, and the bits after it
pub split : (at w : ℕ) (bits : List Bool) → at + w ≤ length bits → drop at bits ≡ num w (field at w bits) ++ drop (at + w) bits
split at w bits le =
    let room : w ≤ length (drop at bits) = omega (arith, length-drop at bits) in
    sym (piece_back w (drop at bits) room) ∙ ap (λ (t : List Bool). num w (field at w bits) ++ t) (drop-drop w at bits)

bit_of : (n : ℕ) → n < 2 → num 1 n ≡ (n == 1) ∷ []
unfolding num
bit_of zero lt = refl
bit_of (suc zero) lt = refl
bit_of (suc (suc n)) lt = absurd (omega arith)

-- the bit at a place, and the bits after it
pub split_bit : (at : ℕ) (bits : List Bool) → at + 1 ≤ length bits → drop at bits ≡ flag at bits ∷ drop (at + 1) bits
split_bit at bits le = split at 1 bits le ∙ ap (λ (t : List Bool). t ++ drop (at + 1) bits) (bit_of (field at 1 bits) (field_small at 1 bits le))

-- What is at a place is found there, and so are the bits after it.
pub found : (at w v : ℕ) (bits following : List Bool) → v < 2 ^ w → drop at bits ≡ num w v ++ following → (field at w bits ≡ v) × (drop (at + w) bits ≡ following)
found at w v bits following lt is = (
  ap (λ (t : List Bool). number (take w t)) is ∙ ap number (take_at (num w v) following w (length-num w v)) ∙ number-num w v lt,
  sym (drop-drop w at bits) ∙ ap (drop w) is ∙ drop_at (num w v) following w (length-num w v),
)

bit_back : (b : Bool) → (number (b ∷ []) == 1) ≡ b
unfolding number
bit_back true = refl
bit_back false = refl

pub found_bit : (at : ℕ) (b : Bool) (bits following : List Bool) → drop at bits ≡ b ∷ following → (flag at bits ≡ b) × (drop (at + 1) bits ≡ following)
found_bit at b bits following is = (ap (λ (t : List Bool). number (take 1 t) == 1) is ∙ bit_back b, sym (drop-drop 1 at bits) ∙ ap (drop 1) is)

-- the bits after a part of this width
pub skipped : (at w : ℕ) (part bits following : List Bool) → length part ≡ w → drop at bits ≡ part ++ following → drop (at + w) bits ≡ following
skipped at w part bits following len is = sym (drop-drop w at bits) ∙ ap (drop w) is ∙ drop_at part following w len

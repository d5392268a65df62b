-- The text of up to 64 bits, from the digits of eight bytes.
use Rattle.std.proofs.Common.{◌≡◌, ℕ, zero, suc, ◌+◌, ◌-◌, ◌*◌, ◌/◌, ◌%◌, ◌≤◌, min, Bool, List, [], ◌∷◌, ◌++◌, length, get_or, take, drop, decimal, refl, sym, ap, ◌∙◌, arith}
use Rattle.identity.specs.Number.{num}
use Rattle.identity.specs.Packed.{bits_of}
use Rattle.identity.specs.BitsText.{hex_of, bits_text}
use Rattle.identity.specs.Inside.Kept.{IsClear}
use Rattle.identity.proofs.Bytes.{length-bits_of}
use Rattle.identity.proofs.HexPairs.{hexes, hex_prefix, length-hex_of, count_of_digits}

-- the two digits of the byte at a place, before others
abbrev pair_before : List ℕ → ℕ → List ℕ → List ℕ
pair_before bytes i digits = get_or (hex_of (num 8 (get_or bytes i 0))) 0 0 ∷ get_or (hex_of (num 8 (get_or bytes i 0))) 1 0 ∷ digits

eight_pairs : (bytes : List ℕ) → length bytes ≡ 8
    → hexes bytes ≡ pair_before bytes 0 (pair_before bytes 1 (pair_before bytes 2 (pair_before bytes 3 (pair_before bytes 4 (pair_before bytes 5 (pair_before bytes 6 (pair_before bytes 7 [])))))))
unfolding hex_of bits_of num
eight_pairs [] e = absurd (omega (arith, e))
eight_pairs (a ∷ []) e = absurd (omega (arith, e))
eight_pairs (a ∷ b ∷ []) e = absurd (omega (arith, e))
eight_pairs (a ∷ b ∷ c ∷ []) e = absurd (omega (arith, e))
eight_pairs (a ∷ b ∷ c ∷ d ∷ []) e = absurd (omega (arith, e))
eight_pairs (a ∷ b ∷ c ∷ d ∷ f ∷ []) e = absurd (omega (arith, e))
eight_pairs (a ∷ b ∷ c ∷ d ∷ f ∷ g ∷ []) e = absurd (omega (arith, e))
eight_pairs (a ∷ b ∷ c ∷ d ∷ f ∷ g ∷ h ∷ []) e = absurd (omega (arith, e))
eight_pairs (a ∷ b ∷ c ∷ d ∷ f ∷ g ∷ h ∷ k ∷ []) e = refl
eight_pairs (a ∷ b ∷ c ∷ d ∷ f ∷ g ∷ h ∷ k ∷ m ∷ bytes) e = absurd (omega (arith, e))

three_items : (head : List ℕ) → length head ≡ 3 → head ≡ get_or head 0 0 ∷ get_or head 1 0 ∷ get_or head 2 0 ∷ []
three_items [] e = absurd (omega (arith, e))
three_items (a ∷ []) e = absurd (omega (arith, e))
three_items (a ∷ b ∷ []) e = absurd (omega (arith, e))
three_items (a ∷ b ∷ c ∷ []) e = refl
three_items (a ∷ b ∷ c ∷ d ∷ head) e = absurd (omega (arith, e))

-- three bytes and the digits of eight
pub laid : (head bytes p q r s t u v w : List ℕ) → length head ≡ 3 → length bytes ≡ 8
    → p ≡ hex_of (num 8 (get_or bytes 0 0)) → q ≡ hex_of (num 8 (get_or bytes 1 0)) → r ≡ hex_of (num 8 (get_or bytes 2 0)) → s ≡ hex_of (num 8 (get_or bytes 3 0))
    → t ≡ hex_of (num 8 (get_or bytes 4 0)) → u ≡ hex_of (num 8 (get_or bytes 5 0)) → v ≡ hex_of (num 8 (get_or bytes 6 0)) → w ≡ hex_of (num 8 (get_or bytes 7 0))
    → get_or head 0 0 ∷ get_or head 1 0 ∷ get_or head 2 0 ∷ get_or p 0 0 ∷ get_or p 1 0 ∷ get_or q 0 0 ∷ get_or q 1 0 ∷ get_or r 0 0 ∷ get_or r 1 0 ∷ get_or s 0 0 ∷ get_or s 1 0
    ∷ get_or t 0 0 ∷ get_or t 1 0 ∷ get_or u 0 0 ∷ get_or u 1 0 ∷ get_or v 0 0 ∷ get_or v 1 0 ∷ get_or w 0 0 ∷ get_or w 1 0 ∷ [] ≡ head ++ hexes bytes
laid head bytes p q r s t u v w three eight ps qs rs ss ts us vs ws =
    (λ i. get_or head 0 0 ∷ get_or head 1 0 ∷ get_or head 2 0 ∷ get_or (ps i) 0 0 ∷ get_or (ps i) 1 0 ∷ get_or (qs i) 0 0 ∷ get_or (qs i) 1 0 ∷ get_or
    (rs i) 0 0 ∷ get_or (rs i) 1 0 ∷ get_or (ss i) 0 0 ∷ get_or (ss i) 1 0
    ∷ get_or (ts i) 0 0 ∷ get_or (ts i) 1 0 ∷ get_or (us i) 0 0 ∷ get_or (us i) 1 0 ∷ get_or (vs i) 0 0 ∷ get_or (vs i) 1 0 ∷ get_or (ws i) 0 0 ∷ get_or (ws i) 1 0 ∷ [])
    ∙ ap (λ (l : List ℕ). get_or head 0 0 ∷ get_or head 1 0 ∷ get_or head 2 0 ∷ l) (sym (eight_pairs bytes eight))
    ∙ ap (λ (l : List ℕ). l ++ hexes bytes) (sym (three_items head three))

-- the digits of up to 64 bits are the first of the sixteen
few_digits_of : (bytes : List ℕ) (bits : List Bool) (n : ℕ) → length bits ≤ 64 → length bytes ≡ 8 → IsClear bytes (length bits) → take (length bits) (bits_of bytes) ≡ bits
    → n ≡ length bits / 4 + min 1 (length bits % 4) → take n (hexes bytes) ≡ hex_of bits
few_digits_of bytes bits n few eight clear is count =
    let m = length (hex_of bits) in
    let len = length-hex_of bits in
    let enough : 4 * m ≤ length (bits_of bytes) = omega (arith, few, eight, len.1, length-bits_of bytes) in
    ap (λ (k : ℕ). take k (hexes bytes)) (sym (count_of_digits bits n count))
    ∙ sym (ap hex_of (sym is) ∙ hex_prefix (bits_of bytes) (length bits) m clear len.0 len.1 enough)

-- from the first digit that is shown on
from_shown : (start n : ℕ) (x y : ℕ) (digits : List ℕ) → start ≤ 1 → take (3 + n - start) (drop start (x ∷ y ∷ 58 ∷ digits)) ≡ drop start (x ∷ y ∷ []) ++ 58 ∷ take n digits
from_shown zero n x y digits le = let e : 3 + n - 0 ≡ suc (suc (suc n)) = omega arith in ap (λ (k : ℕ). take k (x ∷ y ∷ 58 ∷ digits)) e
from_shown (suc zero) n x y digits le = let e : 3 + n - 1 ≡ suc (suc n) = omega arith in ap (λ (k : ℕ). take k (y ∷ 58 ∷ digits)) e
from_shown (suc (suc k)) n x y digits le = absurd (omega (arith, le))

pub few_text : (bytes text : List ℕ) (bits : List Bool) (len start n : ℕ) → len ≡ length bits → length bits ≤ 64 → length bytes ≡ 8 →
    IsClear bytes (length bits) → take (length bits) (bits_of bytes) ≡ bits
    → n ≡ length bits / 4 + min 1 (length bits % 4) → start ≤ 1 → decimal len ≡ drop start ((48 + len / 10) ∷ (48 + len % 10) ∷ [])
    → text ≡ (48 + len / 10) ∷ (48 + len % 10) ∷ 58 ∷ hexes bytes → take (3 + n - start) (drop start text) ≡ bits_text bits
unfolding bits_text
few_text bytes text bits len start n is_len few eight clear is count le shown laid_out =
    ap (λ (l : List ℕ). take (3 + n - start) (drop start l)) laid_out
    ∙ from_shown start n (48 + len / 10) (48 + len % 10) (hexes bytes) le
    ∙ ap (λ (l : List ℕ). l ++ 58 ∷ take n (hexes bytes)) (sym shown)
    ∙ ap (λ (k : ℕ). decimal k ++ 58 ∷ take n (hexes bytes)) is_len
    ∙ ap (λ (l : List ℕ). decimal (length bits) ++ 58 ∷ l) (few_digits_of bytes bits n few eight clear is count)

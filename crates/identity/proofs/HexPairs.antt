-- The digits of bytes: two of each. The digits of bits are the first of them.
use Rattle.std.proofs.Common.{◌≡◌, ℕ, zero, suc, ◌+◌, ◌-◌, ◌*◌, ◌/◌, ◌%◌, ◌<◌, ◌≤◌, min, Bool, true, false, List, [], ◌∷◌, ◌++◌, length, get_or, take}
use Rattle.std.proofs.Common.{drop, replicate, refl, sym, ap, ◌∙◌, arith, rules}
use Rattle.std.specs.Fmt.{digit_glyph}
use Rattle.std.proofs.lemmas.List.{append-nil, drop_all, length-drop, length-replicate, take_at, take_more, take_all, take-append-drop, length-append, length-take}
use Rattle.std.proofs.lemmas.Slice.{overwrites}
use borrow.Rule.Slice.PartMut.{put_mid}
use Rattle.identity.specs.Number.{num, number}
use Rattle.identity.specs.Packed.{bits_of, IsPacked}
use Rattle.identity.specs.BitsText.{hex_of}
use Rattle.identity.proofs.Bytes.{length-bits_of}
use Rattle.identity.proofs.Numbers.{one_byte}

-- all the digits of bytes
abbrev pub hexes : List ℕ → List ℕ
hexes bytes = hex_of (bits_of bytes)

hexes-append : (xs ys : List ℕ) → hexes (xs ++ ys) ≡ hexes xs ++ hexes ys
unfolding hex_of bits_of num
hexes-append [] ys = refl
hexes-append (x ∷ xs) ys = ap (λ (l : List ℕ). hex_of (num 8 x) ++ l) (hexes-append xs ys)

pub length-hexes : (bytes : List ℕ) → length (hexes bytes) ≡ 2 * length bytes
unfolding hex_of bits_of num
length-hexes [] = refl
length-hexes (x ∷ bytes) = omega (arith, length-hexes bytes)

pub hexes-take : (bytes : List ℕ) (i : ℕ) → i ≤ length bytes → take (2 * i) (hexes bytes) ≡ hexes (take i bytes)
hexes-take bytes i inside =
    ap (λ (l : List ℕ). take (2 * i) (hexes l)) (sym (take-append-drop i bytes)) ∙ ap (take (2 * i)) (hexes-append (take i bytes) (drop i bytes))
    ∙ take_at (hexes (take i bytes)) (hexes (drop i bytes)) (2 * i) (omega (arith, length-hexes (take i bytes), length-take i bytes))

-- two digits more
pub pair_more : (bytes : List ℕ) (i : ℕ) → i < length bytes → take (2 * (i + 1)) (hexes bytes) ≡ take (2 * i) (hexes bytes) ++ hex_of (num 8 (get_or bytes i 0))
pair_more bytes i inside =
    hexes-take bytes (i + 1) (omega (arith, inside)) ∙ ap hexes (take_more bytes i 0 inside) ∙ hexes-append (take i bytes) (get_or bytes i 0 ∷ [])
    ∙ ap (λ (l : List ℕ). hexes (take i bytes) ++ l) (ap hex_of (one_byte (get_or bytes i 0)))
    ∙ ap (λ (l : List ℕ). l ++ hex_of (num 8 (get_or bytes i 0))) (sym (hexes-take bytes i (omega (arith, inside))))

-- the first digit of the next byte
pub one_more : (bytes : List ℕ) (i : ℕ) → i < length bytes → take (2 * i + 1) (hexes bytes) ≡ take (2 * i) (hexes bytes) ++ get_or (hex_of (num 8 (get_or bytes i 0))) 0 0 ∷ []
unfolding hex_of bits_of num
one_more [] i inside = absurd (omega arith)
one_more (x ∷ bytes) zero inside = refl
one_more (x ∷ bytes) (suc i) inside =
    let a : 2 * suc i + 1 ≡ suc (suc (2 * i + 1)) = omega arith in
    let b : 2 * suc i ≡ suc (suc (2 * i)) = omega arith in
    rw (a, b) (ap (λ (l : List ℕ). get_or (hex_of (num 8 x)) 0 0 ∷ get_or (hex_of (num 8 x)) 1 0 ∷ l) (one_more bytes i (omega (arith, inside))))

-- ---- the digits of the first bits, where what follows them is zeros

pub hex_prefix : (bits : List Bool) (len m : ℕ) → ((i : ℕ) → len ≤ i → get_or bits i false ≡ false) → len ≤ 4 * m → 4 * m < len + 4 →
    4 * m ≤ length bits → hex_of (take len bits) ≡ take m (hex_of bits)
unfolding hex_of
hex_prefix bits zero zero blank enough few room = refl
hex_prefix bits (suc len) zero blank enough few room = absurd (omega arith)
hex_prefix bits zero (suc m) blank enough few room = absurd (omega arith)
hex_prefix [] len (suc m) blank enough few room = absurd (omega arith)
hex_prefix (a ∷ []) len (suc m) blank enough few room = absurd (omega arith)
hex_prefix (a ∷ b ∷ []) len (suc m) blank enough few room = absurd (omega arith)
hex_prefix (a ∷ b ∷ c ∷ []) len (suc m) blank enough few room = absurd (omega arith)
hex_prefix (a ∷ b ∷ c ∷ d ∷ bits) (suc zero) (suc m) blank enough few room =
    let none : m ≡ 0 = omega arith in
    rw (none, blank 1 (omega arith), blank 2 (omega arith), blank 3 (omega arith)) refl
hex_prefix (a ∷ b ∷ c ∷ d ∷ bits) (suc (suc zero)) (suc m) blank enough few room =
    let none : m ≡ 0 = omega arith in
    rw (none, blank 2 (omega arith), blank 3 (omega arith)) refl
hex_prefix (a ∷ b ∷ c ∷ d ∷ bits) (suc (suc (suc zero))) (suc m) blank enough few room =
    let none : m ≡ 0 = omega arith in
    rw (none, blank 3 (omega arith)) refl
hex_prefix (a ∷ b ∷ c ∷ d ∷ bits) (suc (suc (suc (suc len)))) (suc m) blank enough few room =
    ap (λ (l : List ℕ). digit_glyph true (number (a ∷ b ∷ c ∷ d ∷ [])) ∷ l)
    (hex_prefix bits len m (λ i le. blank (suc (suc (suc (suc i)))) (omega (arith, le))) (omega arith) (omega arith) (omega arith))

pub length-hex_of : (bits : List Bool) → (length bits ≤ 4 * length (hex_of bits)) × (4 * length (hex_of bits) < length bits + 4)
unfolding hex_of
length-hex_of [] = (omega arith, omega arith)
length-hex_of (a ∷ []) = (omega arith, omega arith)
length-hex_of (a ∷ b ∷ []) = (omega arith, omega arith)
length-hex_of (a ∷ b ∷ c ∷ []) = (omega arith, omega arith)
length-hex_of (a ∷ b ∷ c ∷ d ∷ bits) = let rest = length-hex_of bits in (omega (arith, rest.0), omega (arith, rest.1))

-- as many digits as four bits a digit need
pub count_of_digits : (bits : List Bool) (n : ℕ) → n ≡ length bits / 4 + min 1 (length bits % 4) → length (hex_of bits) ≡ n
count_of_digits bits n is = let len = length-hex_of bits in omega (arith, is, len.0, len.1)

-- the digits of packed bits are the first of their bytes
pub packed_digits : (bytes : List ℕ) (bits : List Bool) → IsPacked bytes (length bits) → take (length bits) (bits_of bytes) ≡ bits
    → (length (hex_of bits) ≤ 2 * length bytes) × (take (length (hex_of bits)) (hexes bytes) ≡ hex_of bits)
packed_digits bytes bits packed is =
    let m = length (hex_of bits) in
    let len = length-hex_of bits in
    let room = packed.room in
    let fits : m ≤ 2 * length bytes = omega (arith, room, len.1) in
    let enough : 4 * m ≤ length (bits_of bytes) = omega (arith, fits, length-bits_of bytes) in
    (fits, sym (ap hex_of (sym is) ∙ hex_prefix (bits_of bytes) (length bits) m packed.fill len.0 len.1 enough))

-- what a resize and a write to the new part leave
pub appended_part : (old big digits : List ℕ) (before len n : ℕ) → len ≡ length old → before ≡ len → big ≡ take (before + n) old ++ replicate (before + n - len) 0 → length digits ≡ n
    → put_mid before (length big - before) big digits ≡ old ++ digits
appended_part old big digits before len n is_len start is long =
    let none : ℕ = 0 in
    let zeros : List ℕ = replicate (before + n - len) none in
    let kept : take (before + n) old ≡ old = take_all (before + n) old (omega (arith, start, is_len)) in
    let whole : big ≡ old ++ zeros = is ∙ ap (λ (l : List ℕ). l ++ zeros) kept in
    let size : length big ≡ before + n = omega (arith, start, is_len, ap length whole, length-append old zeros, length-replicate (before + n - len) none) in
    let head : take before big ≡ old = ap (take before) whole ∙ take_at old zeros before (omega (arith, start, is_len)) in
    let tail : drop (length big - before) (drop before big) ≡ [] = drop_all (length big - before) (drop before big) (omega (arith, length-drop before big)) in
    ap (λ (l : List ℕ). l ++ (digits ++ drop (length big - before) (drop before big))) head
    ∙ ap (λ (l : List ℕ). old ++ (digits ++ l)) tail ∙ ap (λ (l : List ℕ). old ++ l) (append-nil digits)

pub length_part : (big digits : List ℕ) (before n : ℕ) → length big ≡ before + n → length digits ≡ n → length (put_mid before (length big - before) big digits) ≡ length big
length_part big digits before n size long = search (rules, overwrites, size, long)

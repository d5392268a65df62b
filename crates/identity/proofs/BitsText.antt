-- Hexadecimal digits and the bits that they stand for.
use Rattle.std.proofs.Common.{◌≡◌, ℕ, zero, suc, ◌+◌, ◌-◌, ◌*◌, ◌/◌, ◌%◌, ◌^◌, ◌<◌, ◌≤◌, Bool, true, List, [], ◌∷◌, ◌++◌, length, take, drop, get_or, nat_eq, Some, None, refl, sym, ap, ◌∙◌, arith}
use Rattle.std.specs.Prelude.{◌==◌, if◌then◌else◌}
use Rattle.std.specs.Char.{digit_value, is_ascii_hexdigit}
use Rattle.std.specs.List.{list_all}
use Rattle.std.proofs.lemmas.List.{append-nil, take_all, take_more, drop_at, drop-drop, length-append, length-take}
use Rattle.std.proofs.lemmas.List.Concat.{flat_map-append}
use Rattle.std.proofs.lemmas.Nat.{one_shl, pow-add}
use Rattle.std.proofs.Math.Pow.{pow_mono}
use Rattle.base.proofs.Bools.{first_true, second_true}
use Rattle.identity.specs.Number.{num, number}
use Rattle.identity.specs.Inside.NumberLaws.{length-num, number-num, number-num_mod, number-lt, num-number, num-append, num-mod, drop-num}
use Rattle.identity.specs.BitsText.{digit_bits}

pub length-digit_bits : (digits : List ℕ) → length (digit_bits digits) ≡ 4 * length digits
unfolding digit_bits
length-digit_bits [] = refl
length-digit_bits (c ∷ digits) = omega (arith, length-append (num 4 (digit_value c)) (digit_bits digits), length-num 4 (digit_value c), length-digit_bits digits)

pub digit_bits-append : (prefix back : List ℕ) → digit_bits (prefix ++ back) ≡ digit_bits prefix ++ digit_bits back
unfolding digit_bits
digit_bits-append prefix back = flat_map-append (λ c. num 4 (digit_value c)) prefix back

one_digit : (c : ℕ) → digit_bits (c ∷ []) ≡ num 4 (digit_value c)
unfolding digit_bits
one_digit c = append-nil (num 4 (digit_value c))

pub digit_bits_more : (digits : List ℕ) (i : ℕ) → i < length digits → digit_bits (take (i + 1) digits) ≡ digit_bits (take i digits) ++ num 4 (digit_value (get_or digits i 0))
digit_bits_more digits i inside =
    ap digit_bits (take_more digits i 0 inside) ∙ digit_bits-append (take i digits) (get_or digits i 0 ∷ []) ∙ ap (λ (l : List Bool). digit_bits (take i digits) ++ l) (one_digit (get_or digits i 0))

-- past a first part
drop_past : (prefix back : List Bool) (n : ℕ) → drop (length prefix + n) (prefix ++ back) ≡ drop n back
drop_past prefix back n = sym (drop-drop n (length prefix) (prefix ++ back)) ∙ ap (drop n) (drop_at prefix back (length prefix) refl)

-- the bits that fill the last digit
pub last_bits : (digits : List ℕ) (fill : ℕ) → 0 < length digits → fill < 4
    → drop (4 * length digits - fill) (digit_bits digits) ≡ num fill (digit_value (get_or digits (length digits - 1) 0))
last_bits digits fill some few =
    let i = length digits - 1 in
    let c = get_or digits i 0 in
    let whole : digit_bits digits ≡ digit_bits (take i digits) ++ num 4 (digit_value c) = ap digit_bits (sym (take_all (i + 1) digits (omega arith))) ∙ digit_bits_more digits i (omega arith) in
    let place : 4 * length digits - fill ≡ length (digit_bits (take i digits)) + (4 - fill) = omega (arith, length-digit_bits (take i digits), length-take i digits) in
    let rest : 4 - (4 - fill) ≡ fill = omega arith in
    ap (λ (n : ℕ). drop n (digit_bits digits)) place
    ∙ ap (drop (length (digit_bits (take i digits)) + (4 - fill))) whole
    ∙ drop_past (digit_bits (take i digits)) (num 4 (digit_value c)) (4 - fill)
    ∙ drop-num (4 - fill) 4 (digit_value c) (omega arith)
    ∙ ap (λ (n : ℕ). num n (digit_value c)) rest

-- the test of the last digit
pub zeros_at_end : (digits : List ℕ) (fill v : ℕ) → 0 < length digits → fill < 4 → v ≡ digit_value (get_or digits (length digits - 1) 0)
    → nat_eq (v % (1 * 2 ^ fill % 2 ^ 64)) 0 ≡ (number (drop (4 * length digits - fill) (digit_bits digits)) == 0)
zeros_at_end digits fill v some few is =
    let bits : drop (4 * length digits - fill) (digit_bits digits) ≡ num fill v = last_bits digits fill some few ∙ ap (num fill) (sym is) in
    let unit : 1 * 2 ^ fill % 2 ^ 64 ≡ 2 ^ fill = one_shl fill 64 (omega arith) in
    ap (λ (n : ℕ). nat_eq (v % n) 0) unit ∙ sym (ap (λ (n : ℕ). n == 0) (ap number bits ∙ number-num_mod fill v))

none_at_all : List ℕ
none_at_all = []

pub zeros_of_none : (digits : List ℕ) (fill : ℕ) → length digits ≡ 0 → true ≡ (number (drop (4 * length digits - fill) (digit_bits digits)) == 0)
unfolding digit_bits number none_at_all
zeros_of_none [] fill none = let place : 0 ≡ 4 * length none_at_all - fill = omega arith in ap (λ (n : ℕ). number (drop n (digit_bits none_at_all)) == 0) place
zeros_of_none (c ∷ digits) fill none = absurd (omega (arith, none))

-- ---- digits as a number

-- one digit more after digits alone
pub hexadecimal_more : (text : List ℕ) (i : ℕ) → list_all is_ascii_hexdigit (take i text) ≡ true → i < length text →
    is_ascii_hexdigit (get_or text i 0) ≡ true → list_all is_ascii_hexdigit (take (i + 1) text) ≡ true
hexadecimal_more [] i prefix inside digit = absurd (omega (arith, inside))
hexadecimal_more (c ∷ text) zero prefix inside digit = rw digit refl
hexadecimal_more (c ∷ text) (suc i) prefix inside digit =
    let first = first_true (is_ascii_hexdigit c) (list_all is_ascii_hexdigit (take i text)) prefix in
    let rest = hexadecimal_more text i (second_true (is_ascii_hexdigit c) (list_all is_ascii_hexdigit (take i text)) prefix) (omega (arith, inside)) digit in
    let one : suc (i + 1) ≡ suc i + 1 = omega arith in
    ap (λ (n : ℕ). list_all is_ascii_hexdigit (take n (c ∷ text))) (sym one) ∙ rw (first, rest) refl

-- four bits more
number_four : (bits : List Bool) (d : ℕ) → d < 16 → number (bits ++ num 4 d) ≡ 16 * number bits + d
number_four bits d small =
    let n = length bits in
    let v = 16 * number bits + d in
    let prefix : v / 2 ^ 4 ≡ number bits = omega arith in
    let back : v % 2 ^ 4 ≡ d = omega arith in
    let split : num (n + 4) v ≡ bits ++ num 4 d =
    num-append n 4 v ∙ ap (λ (k : ℕ). num n k ++ num 4 v) prefix ∙ ap (λ (l : List Bool). l ++ num 4 v) (num-number bits)
    ∙ ap (λ (l : List Bool). bits ++ l) (sym (num-mod 4 v) ∙ ap (num 4) back) in
    let fits : v < 2 ^ (n + 4) = rw (pow-add 2 n 4) (omega (arith, number-lt bits)) in
    ap number (sym split) ∙ number-num (n + 4) v fits

-- the number of one digit more
pub digit_number_more : (text : List ℕ) (i d : ℕ) → i < length text → d ≡ digit_value (get_or text i 0) → d < 16 → number (digit_bits (take (i + 1) text)) ≡ 16 * number (digit_bits (take i text)) + d
digit_number_more text i d inside is small =
    ap number (digit_bits_more text i inside ∙ ap (λ (n : ℕ). digit_bits (take i text) ++ num 4 n) (sym is)) ∙ number_four (digit_bits (take i text)) d small

-- the number of two digits more
pub digits_number_more : (text : List ℕ) (i h l : ℕ) → 2 * i + 1 < length text → h ≡ digit_value (get_or text (2 * i) 0) → h < 16 → l ≡ digit_value (get_or text (2 * i + 1) 0) → l < 16
    → number (digit_bits (take (2 * (i + 1)) text)) ≡ 256 * number (digit_bits (take (2 * i) text)) + (16 * h + l)
digits_number_more text i h l inside is_h small_h is_l small_l =
    let place : 2 * (i + 1) ≡ 2 * i + 1 + 1 = omega arith in
    let one = digit_number_more text (2 * i) h (omega (arith, inside)) is_h small_h in
    let two = digit_number_more text (2 * i + 1) l inside is_l small_l in
    ap (λ (n : ℕ). number (digit_bits (take n text))) place ∙ omega (arith, one, two)

pub hexadecimal_two_more : (text : List ℕ) (i : ℕ) → list_all is_ascii_hexdigit (take (2 * i) text) ≡ true → 2 * i + 1 < length text
    → is_ascii_hexdigit (get_or text (2 * i) 0) ≡ true → is_ascii_hexdigit (get_or text (2 * i + 1) 0) ≡ true → list_all is_ascii_hexdigit (take (2 * (i + 1)) text) ≡ true
hexadecimal_two_more text i prefix inside high low =
    let place : 2 * (i + 1) ≡ 2 * i + 1 + 1 = omega arith in
    ap (λ (n : ℕ). list_all is_ascii_hexdigit (take n text)) place ∙ hexadecimal_more text (2 * i + 1) (hexadecimal_more text (2 * i) prefix (omega (arith, inside)) high) inside low

-- digits that are all
pub number_found : (text : List ℕ) (n v : ℕ) → length text ≤ n → v ≡ number (digit_bits (take n text)) → list_all is_ascii_hexdigit (take n text) ≡ true
    → Some v ≡ (if list_all is_ascii_hexdigit text then Some (number (digit_bits text)) else None)
number_found text n v all is hexadecimal =
    let whole = take_all n text all in
    let form : list_all is_ascii_hexdigit text ≡ true = ap (list_all is_ascii_hexdigit) (sym whole) ∙ hexadecimal in
    rw form (ap Some (is ∙ ap (λ (l : List ℕ). number (digit_bits l)) whole))

-- a few digits are a small number
pub digits_below : (text : List ℕ) (i v : ℕ) → i < 16 → v ≡ number (digit_bits (take i text)) → v < 2 ^ (4 * i)
digits_below text i v few is =
    let below = number-lt (digit_bits (take i text)) in
    let short : length (digit_bits (take i text)) ≤ 4 * i = omega (arith, length-digit_bits (take i text), length-take i text) in
    let most = pow_mono short in
    omega (arith, is, below, most)

pub pairs_below : (text : List ℕ) (i v : ℕ) → 2 * i + 1 < 16 → v ≡ number (digit_bits (take (2 * i) text)) → v < 2 ^ 56
pairs_below text i v few is =
    let below = digits_below text (2 * i) v (omega (arith, few)) is in
    let most : 2 ^ (4 * (2 * i)) ≤ 2 ^ 56 = pow_mono (let h : 4 * (2 * i) ≤ 56 = omega (arith, few) in h) in
    omega (arith, below, most)

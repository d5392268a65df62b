-- Texts of bits: what is written is what is read.
use Rattle.std.proofs.Common.{◌≡◌, ℕ, ◌+◌, ◌-◌, ◌*◌, ◌^◌, ◌<◌, ◌≤◌, Bool, true, false, ◌&&◌, List, [], ◌∷◌, ◌++◌, length, take, drop, replicate, refl}
use Rattle.std.proofs.Common.{sym, ap, subst, ◌∙◌, arith, Option, Some, None, option_map, Ok, Err, nat_le, nat_lt}
use Rattle.std.specs.Prelude.{◌↔◌, ◌⊎◌, ◌==◌, decimal}
use Rattle.std.specs.Char.{digit_value, is_ascii_digit, is_ascii_hexdigit}
use Rattle.std.specs.Fmt.{digit_glyph}
use Rattle.std.specs.List.{list_all}
use Rattle.std.proofs.lemmas.Bool.Decides.{nat_tests}
use Rattle.std.proofs.lemmas.Bool.{eq-eqb}
use Rattle.std.proofs.lemmas.List.{take_at, drop_at, take-append-drop, length-append, length-replicate, length-take, length-drop}
use Rattle.base.proofs.Bools.{both_true}
use Rattle.base.proofs.Numbers.{test_by_le, le_by_test}
use Rattle.base.proofs.Options.{some_is}
use Rattle.identity.specs.Number.{num, number}
use Rattle.identity.specs.Inside.NumberLaws.{number-lt, num-number}
use Rattle.identity.specs.NumberText.{is_number, value, cut}
use Rattle.identity.specs.BitsText.{hex_of, bits_text, digit_bits, SpellsBits, IsBitsForm, is_filled, bits_len, bits_form, reading_bits}
use Rattle.identity.proofs.BitsText.{length-digit_bits}
use Rattle.identity.proofs.NumberText.{all_of_number}
use Rattle.identity.specs.declared.fault.Fault.{Fault}
use Rattle.identity.specs.declared.fault.Fault.TheVariants.{BadText, OutOfRange}
use Rattle.identity.proofs.Texts.{none_some, ok_same, chosen_ok, chosen_some, decimal_all, value-decimal, number_of_decimal, decimal_of_number}
use Rattle.identity.proofs.Texts.{cut_again, cut_only, judged_ok, judged_bad_if, judged_bad_then, not_bad, then_some, chosen_err, judged_err}
use Rattle.identity.proofs.IdentityTexts.{none_are_zeros, zeros_are_none}

-- ---- what is printed

glyph_value : (n : ℕ) → n < 16 → digit_value (digit_glyph true n) ≡ n
glyph_value n small = grind (arith, nat_tests, small)

glyph_is : (n : ℕ) → n < 16 → is_ascii_hexdigit (digit_glyph true n) ≡ true
glyph_is n small = grind (arith, nat_tests, small)

-- one digit stands for its four bits
four_back : (a b c d : Bool) → num 4 (digit_value (digit_glyph true (number (a ∷ b ∷ c ∷ d ∷ [])))) ≡ a ∷ b ∷ c ∷ d ∷ []
four_back a b c d =
    let bits = a ∷ b ∷ c ∷ d ∷ [] in
    ap (num 4) (glyph_value (number bits) (number-lt bits)) ∙ num-number bits

-- digits stand for bits and fewer than four zeros after them
IsSpelt : List Bool → List ℕ → Type 0
IsSpelt bits digits = (fill : ℕ) × (fill < 4) × (digit_bits digits ≡ bits ++ replicate fill false) × (list_all is_ascii_hexdigit digits ≡ true)

last_is_spelt : (bits : List Bool) (a b c d : Bool) (fill : ℕ) → fill < 4 → a ∷ b ∷ c ∷ d ∷ [] ≡ bits ++ replicate fill false → IsSpelt bits (digit_glyph true (number (a ∷ b ∷ c ∷ d ∷ [])) ∷ [])
unfolding IsSpelt digit_bits
last_is_spelt bits a b c d fill few is =
    let four = a ∷ b ∷ c ∷ d ∷ [] in
    let g = digit_glyph true (number four) in
    let one : is_ascii_hexdigit g ≡ true = glyph_is (number four) (number-lt four) in
    (fill, few, ap (λ (l : List Bool). l ++ []) (four_back a b c d) ∙ is, rw one refl)

hex_is_spelt : (bits : List Bool) → IsSpelt bits (hex_of bits)
unfolding hex_of IsSpelt digit_bits
hex_is_spelt [] = (0, omega arith, refl, refl)
hex_is_spelt (a ∷ []) = last_is_spelt (a ∷ []) a false false false 3 (omega arith) refl
hex_is_spelt (a ∷ b ∷ []) = last_is_spelt (a ∷ b ∷ []) a b false false 2 (omega arith) refl
hex_is_spelt (a ∷ b ∷ c ∷ []) = last_is_spelt (a ∷ b ∷ c ∷ []) a b c false 1 (omega arith) refl
hex_is_spelt (a ∷ b ∷ c ∷ d ∷ bits) =
    let four = a ∷ b ∷ c ∷ d ∷ [] in
    let rest = hex_is_spelt bits in
    let one : is_ascii_hexdigit (digit_glyph true (number four)) ≡ true = glyph_is (number four) (number-lt four) in
    let all : list_all is_ascii_hexdigit (hex_of bits) ≡ true = rest.3 in
    (rest.0, rest.1, (λ i. four_back a b c d i ++ rest.2 i), rw (one, all) refl)

pub bits_printed : (bits : List Bool) → length bits < 2 ^ 64 → SpellsBits (bits_text bits) bits
unfolding bits_text IsSpelt
bits_printed bits small =
    let padded = hex_is_spelt bits in
    record { digits = hex_of bits; fill = padded.0; hexadecimal = padded.3; few = padded.1; padded = padded.2; spelt = refl }

-- ---- what is read

filled_again : (bits : List Bool) (digits : List ℕ) (fill : ℕ) → fill < 4 → digit_bits digits ≡ bits ++ replicate fill false → is_filled (length bits) digits ≡ true
unfolding is_filled
filled_again bits digits fill few padded =
    let zeros = replicate fill false in
    let size : 4 * length digits ≡ length bits + fill = sym (length-digit_bits digits) ∙ ap length padded ∙ length-append bits zeros ∙ ap (λ (k : ℕ). length bits + k) (length-replicate fill false) in
    let enough : nat_le (length bits) (4 * length digits) ≡ true = test_by_le (length bits) (4 * length digits) (omega (arith, size)) in
    let needed : nat_lt (4 * length digits) (length bits + 4) ≡ true = grind (arith, size, few) in
    let rest : number (drop (length bits) (digit_bits digits)) ≡ 0 = ap (λ (l : List Bool). number (drop (length bits) l)) padded ∙
    ap number (drop_at bits zeros (length bits) refl) ∙ zeros_are_none fill in
    rw (enough, needed, eq-eqb (number (drop (length bits) (digit_bits digits))) 0 rest) refl

filled_only : (n : ℕ) (digits : List ℕ) → is_filled n digits ≡ true → (n ≤ 4 * length digits) × (4 * length digits < n + 4) ×
    (digit_bits digits ≡ take n (digit_bits digits) ++ replicate (4 * length digits - n) false)
unfolding is_filled
filled_only n digits e =
    let whole = both_true (nat_le n (4 * length digits) && nat_lt (4 * length digits) (n + 4)) (number (drop n (digit_bits digits)) == 0) e in
    let prefix = both_true (nat_le n (4 * length digits)) (nat_lt (4 * length digits) (n + 4)) whole.0 in
    let enough = le_by_test n (4 * length digits) prefix.0 in
    let needed : 4 * length digits < n + 4 = grind (arith, nat_tests, prefix.1) in
    let none : number (drop n (digit_bits digits)) ≡ 0 = grind (arith, nat_tests, whole.1) in
    let size : length (drop n (digit_bits digits)) ≡ 4 * length digits - n = omega (arith, length-drop n (digit_bits digits), length-digit_bits digits) in
    let zeros : drop n (digit_bits digits) ≡ replicate (4 * length digits - n) false = none_are_zeros (drop n (digit_bits digits)) none ∙ ap (λ (k : ℕ). replicate k false) size in
    (enough, needed, sym (take-append-drop n (digit_bits digits)) ∙ ap (λ (l : List Bool). take n (digit_bits digits) ++ l) zeros)

-- more than 16 digits have more than 64 bits
pub many_bits : (n : ℕ) (digits : List ℕ) → 16 < length digits → is_filled n digits ≡ true → 64 < length (take n (digit_bits digits))
many_bits n digits many filled =
    let size = filled_only n digits filled in
    omega (arith, many, size.0, size.1, length-take n (digit_bits digits), length-digit_bits digits)

pub reading_bits_again : (bits : List Bool) (text : List ℕ) → length bits ≤ 2048 → SpellsBits text bits → reading_bits text ≡ Ok bits
unfolding reading_bits bits_form bits_len
reading_bits_again bits text le spells =
    let n = length bits in
    let small : n < 2 ^ 64 = omega (arith, le) in
    let colon : is_ascii_digit 58 ≡ false = refl in
    let parts : cut 58 text ≡ Some (decimal n, spells.digits) = ap (cut 58) spells.spelt ∙ cut_again is_ascii_digit 58 (decimal n) spells.digits (decimal_all n small) colon in
    let prefix : take n (digit_bits spells.digits) ≡ bits = ap (take n) spells.padded ∙ take_at bits (replicate spells.fill false) n refl in
    rw (parts, number_of_decimal n small, spells.hexadecimal, value-decimal n small, filled_again bits spells.digits spells.fill spells.few spells.padded, test_by_le n 2048 le) (ap Ok prefix)

IsForm : List ℕ → ℕ × List ℕ → Type 0
IsForm text q = (count : List ℕ) × (text ≡ count ++ 58 ∷ q.1) × (is_number count ≡ true) × (value count ≡ q.0) × (list_all is_ascii_hexdigit q.1 ≡ true) × (is_filled q.0 q.1 ≡ true)

mapped_some : (digits : List ℕ) (o : Option ℕ) (q : ℕ × List ℕ) → option_map (λ n. (n, digits)) o ≡ Some q → (n : ℕ) × (o ≡ Some n) × ((n, digits) ≡ q)
mapped_some digits None q e = absurd (none_some q e)
mapped_some digits (Some n) q e = (n, refl, some_is (n, digits) q e)

form_only : (text : List ℕ) (q : ℕ × List ℕ) → bits_form text ≡ Some q → IsForm text q
unfolding bits_form bits_len IsForm
form_only text q e =
    let first = then_some _ (cut 58 text) q e in
    let count = (first.0).0 in
    let digits = (first.0).1 in
    let second = mapped_some digits _ q first.2 in
    let tests = chosen_some (is_number count && list_all is_ascii_hexdigit digits && is_filled (value count) digits) _ second.0 second.1 in
    let left = both_true (is_number count && list_all is_ascii_hexdigit digits) (is_filled (value count) digits) tests.0 in
    let prefix = both_true (is_number count) (list_all is_ascii_hexdigit digits) left.0 in
    let is : value count ≡ second.0 = some_is (value count) second.0 tests.1 in
    let filled : is_filled second.0 digits ≡ true = ap (λ (n : ℕ). is_filled n digits) (sym is) ∙ left.1 in
    subst (IsForm text) second.2 (count, cut_only 58 text first.0 first.1, prefix.0, is, prefix.1, filled)

found_bits : (text : List ℕ) (form : IsBitsForm text) → bits_form text ≡ Some (value form.count, form.digits)
unfolding bits_form bits_len
found_bits text form =
    let colon : is_ascii_digit 58 ≡ false = refl in
    let parts : cut 58 text ≡ Some (form.count, form.digits) = ap (cut 58) form.spelt ∙ cut_again is_ascii_digit 58 form.count form.digits (all_of_number form.count form.number) colon in
    rw (parts, form.number, form.hexadecimal, form.filled) refl

form_found : (text : List ℕ) (q : ℕ × List ℕ) → bits_form text ≡ Some q → IsBitsForm text
unfolding IsForm
form_found text q e =
    let form = form_only text q e in
    record { count = form.0; digits = q.1; spelt = form.1; number = form.2; hexadecimal = form.4; filled = ap (λ (n : ℕ). is_filled n q.1) form.3 ∙ form.5 }

pub reading_bits_form : (text : List ℕ) → (reading_bits text ≡ Err BadText) ↔ ¬ IsBitsForm text
unfolding reading_bits
reading_bits_form text = (
  λ e form. judged_bad_then _ (bits_form text) (λ x. not_bad _ _) e (value form.count, form.digits) (found_bits text form),
  λ no. judged_bad_if _ (bits_form text) (λ x found. no (form_found text x found)),
)

pub reading_bits_only : (bits : List Bool) (text : List ℕ) → reading_bits text ≡ Ok bits → (length bits ≤ 2048) × SpellsBits text bits
unfolding reading_bits IsForm
reading_bits_only bits text e =
    let found = judged_ok _ (bits_form text) bits e in
    let n = (found.0).0 in
    let digits = (found.0).1 in
    let form = form_only text found.0 found.1 in
    let range = chosen_ok (nat_le n 2048) _ _ bits found.2 in
    let le : n ≤ 2048 = le_by_test n 2048 range.0 in
    let filled = filled_only n digits form.5 in
    let is : take n (digit_bits digits) ≡ bits = ok_same _ bits range.1 in
    let size : n ≡ length bits = omega (arith, ap length is, length-take n (digit_bits digits), length-digit_bits digits, filled.0) in
    let count : form.0 ≡ decimal (length bits) = sym (decimal_of_number form.0 form.2 (omega (arith, form.3, le))) ∙ ap decimal (form.3 ∙ size) in (
      omega (arith, size, le),
      record {
        digits = digits;
        fill = 4 * length digits - n;
        hexadecimal = form.4;
        few = omega (arith, filled.1);
        padded = filled.2 ∙ ap (λ (l : List Bool). l ++ replicate (4 * length digits - n) false) is;
        spelt = form.1 ∙ ap (λ (t : List ℕ). t ++ 58 ∷ digits) count;
      },
    )

pub reading_bits_faults : (text : List ℕ) (f : Fault) → reading_bits text ≡ Err f → (f ≡ BadText) ⊎ (f ≡ OutOfRange)
unfolding reading_bits
reading_bits_faults text f e = judged_err _ (bits_form text) f (λ x. chosen_err _ _ f) e

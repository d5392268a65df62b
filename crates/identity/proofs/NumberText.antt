-- The form of a number, and parts of a text.
use Rattle.std.proofs.Common.{◌≡◌, ◌≢◌, ℕ, zero, suc, ◌+◌, ◌-◌, ◌*◌, ◌^◌, ◌<◌, ◌≤◌, true, false, not, List, [], ◌∷◌, length, take, drop, get_or, refl, sym, ap, ◌∙◌, arith, Some, None, nat_le}
use Rattle.std.specs.Prelude.{◌==◌, if◌then◌else◌}
use mathlib.Core.Bool.{false≢true}
use Rattle.std.specs.Char.{is_ascii_digit}
use Rattle.std.specs.Int.{IsInRange}
use Rattle.std.specs.List.{list_all, position}
use Rattle.std.proofs.lemmas.Grind.{common_steps}
use Rattle.std.proofs.lemmas.Nat.{pow-add}
use Rattle.std.proofs.Math.Pow.{pow_mono}
use Rattle.std.proofs.lemmas.List.{take_all}
use Rattle.std.proofs.lemmas.List.Quantifiers.{position-Some}
use Rattle.std.proofs.lemmas.List.Sums.{fails_before_first}
use Rattle.std.proofs.lemmas.Int.Digits.{digits_value_more}
use Rattle.std.proofs.lemmas.Str.{digit_value_digit}
use Rattle.std.proofs.lemmas.Str.Parse.{digits_value-take-le}
use Rattle.base.proofs.Bools.{and_false, first_true, second_true, and_true}
use Rattle.identity.specs.NumberText.{is_number, value, cut}

pub number_empty : (text : List ℕ) → length text ≡ 0 → is_number text ≡ false
unfolding is_number
number_empty [] none = refl
number_empty (c ∷ text) none = absurd (omega (arith, none))

-- a zero at the start is the whole number
pub number_zero : (text : List ℕ) → 0 < length text → get_or text 0 0 ≡ 48 → is_number text ≡ (length text == 1)
unfolding is_number
number_zero [] some head = absurd (omega (arith, some))
number_zero (c ∷ []) some head = rw head refl
number_zero (c ∷ d ∷ text) some head = let more : (length (c ∷ d ∷ text) == 1) ≡ false = grind arith in rw (head, more) refl

pub value_zero : (text : List ℕ) → length text ≡ 1 → get_or text 0 0 ≡ 48 → value text ≡ 0
value_zero [] one head = absurd (omega (arith, one))
value_zero (c ∷ []) one head = rw head refl
value_zero (c ∷ d ∷ text) one head = absurd (omega (arith, one))

pub number_form : (text : List ℕ) → 0 < length text → get_or text 0 0 ≢ 48 → is_number text ≡ list_all is_ascii_digit text
unfolding is_number
number_form [] some head = absurd (omega (arith, some))
number_form (c ∷ []) some head = sym (and_true (is_ascii_digit c))
number_form (c ∷ d ∷ text) some head = let other : (c == 48) ≡ false = grind (arith, head) in rw other refl

-- each byte of a number is a digit
pub digit_in : (text : List ℕ) (i : ℕ) → list_all is_ascii_digit text ≡ true → i < length text → IsInRange 48 57 (get_or text i 0)
digit_in [] i all inside = absurd (omega (arith, inside))
digit_in (c ∷ text) zero all inside = grind (arith, all)
digit_in (c ∷ text) (suc i) all inside = digit_in text i (second_true (is_ascii_digit c) (list_all is_ascii_digit text) all) (omega (arith, inside))

pub all_of_number : (text : List ℕ) → is_number text ≡ true → list_all is_ascii_digit text ≡ true
unfolding is_number
all_of_number [] form = absurd (false≢true form)
all_of_number (c ∷ []) form = and_true (is_ascii_digit c) ∙ form
all_of_number (c ∷ d ∷ text) form = second_true (not (c == 48)) (list_all is_ascii_digit (c ∷ d ∷ text)) form

pub number_digit : (text : List ℕ) (i : ℕ) → is_number text ≡ true → i < length text → IsInRange 48 57 (get_or text i 0)
number_digit text i form inside = digit_in text i (all_of_number text form) inside

-- one digit more
pub digits_more : (text : List ℕ) (i : ℕ) → list_all is_ascii_digit text ≡ true → i < length text → value (take (i + 1) text) ≡ 10 * value (take i text) + (get_or text i 0 - 48)
digits_more text i all inside = let digit = digit_in text i all inside in omega (arith, digits_value_more 10 text i inside, digit_value_digit (get_or text i 0) digit)

pub value_more : (text : List ℕ) (i : ℕ) → is_number text ≡ true → i < length text → value (take (i + 1) text) ≡ 10 * value (take i text) + (get_or text i 0 - 48)
value_more text i form inside = digits_more text i (all_of_number text form) inside

-- a few digits are a small number
value_below : (text : List ℕ) (i : ℕ) → list_all is_ascii_digit text ≡ true → i ≤ length text → value (take i text) < 2 ^ (4 * i)
value_below text zero all inside =
    let none : value (take 0 text) ≡ 0 = refl in
    let unit : 2 ^ (4 * 0) ≡ 1 = refl in
    omega (arith, none, unit)
value_below text (suc i) all inside =
    let digit = digit_in text i all (omega (arith, inside)) in
    let more = digits_more text i all (omega (arith, inside)) in
    let below = value_below text i all (omega (arith, inside)) in
    let one : suc i ≡ i + 1 = omega arith in
    let four : 4 * suc i ≡ 4 * i + 4 = omega arith in
    let is : value (take (suc i) text) ≡ 10 * value (take i text) + (get_or text i 0 - 48) = ap (λ (n : ℕ). value (take n text)) one ∙ more in
    let power : 2 ^ (4 * suc i) ≡ 2 ^ (4 * i) * 2 ^ 4 = ap (λ (n : ℕ). 2 ^ n) four ∙ pow-add 2 (4 * i) 4 in
    omega (arith, is, below, power, digit.0, digit.1)

pub short_below : (text : List ℕ) (i v : ℕ) → list_all is_ascii_digit text ≡ true → i < length text → length text ≤ 15 → v ≡ value (take i text) → v < 2 ^ 56
short_below text i v all inside few is =
    let below = value_below text i all (omega (arith, inside)) in
    let most : 2 ^ (4 * i) ≤ 2 ^ 56 = pow_mono (let h : 4 * i ≤ 56 = omega (arith, inside, few) in h) in
    omega (arith, is, below, most)

-- the first of some digits are digits
pub all_take : (text : List ℕ) (n : ℕ) → list_all is_ascii_digit text ≡ true → list_all is_ascii_digit (take n text) ≡ true
all_take text zero all = refl
all_take [] (suc n) all = refl
all_take (c ∷ text) (suc n) all =
    rw (first_true (is_ascii_digit c) (list_all is_ascii_digit text) all, all_take text n (second_true (is_ascii_digit c) (list_all is_ascii_digit text) all)) refl

-- one digit more after digits alone
pub all_more : (text : List ℕ) (i : ℕ) → list_all is_ascii_digit (take i text) ≡ true → i < length text → is_ascii_digit (get_or text i 0) ≡ true → list_all is_ascii_digit (take (i + 1) text) ≡ true
all_more [] i prefix inside digit = absurd (omega (arith, inside))
all_more (c ∷ text) zero prefix inside digit = rw digit refl
all_more (c ∷ text) (suc i) prefix inside digit =
    let first = first_true (is_ascii_digit c) (list_all is_ascii_digit (take i text)) prefix in
    let rest = all_more text i (second_true (is_ascii_digit c) (list_all is_ascii_digit (take i text)) prefix) (omega (arith, inside)) digit in
    let one : suc (i + 1) ≡ suc i + 1 = omega arith in
    ap (λ (n : ℕ). list_all is_ascii_digit (take n (c ∷ text))) (sym one) ∙ rw (first, rest) refl

pub digit_more : (text : List ℕ) (i : ℕ) → i < length text → is_ascii_digit (get_or text i 0) ≡ true → value (take (i + 1) text) ≡ 10 * value (take i text) + (get_or text i 0 - 48)
digit_more text i inside is = let digit : IsInRange 48 57 (get_or text i 0) = grind (arith, is) in omega (arith, digits_value_more 10 text i inside, digit_value_digit (get_or text i 0) digit)

pub prefix_below : (text : List ℕ) (i v : ℕ) → list_all is_ascii_digit (take i text) ≡ true → i < length text → length text ≤ 15 → v ≡ value (take i text) → v < 2 ^ 56
prefix_below text i v all inside few is =
    let prefix = take i text in
    let same : take i prefix ≡ prefix = take_all i prefix (grind (arith, common_steps)) in
    let below : value (take i prefix) < 2 ^ (4 * i) = value_below prefix i all (grind (arith, common_steps, inside)) in
    let most : 2 ^ (4 * i) ≤ 2 ^ 56 = pow_mono (let h : 4 * i ≤ 56 = omega (arith, inside, few) in h) in
    omega (arith, is, ap value same, below, most)

-- a byte that is no digit
pub not_all : (text : List ℕ) (i : ℕ) → i < length text → is_ascii_digit (get_or text i 0) ≡ false → list_all is_ascii_digit text ≡ false
not_all [] i inside other = absurd (omega (arith, inside))
not_all (c ∷ text) zero inside other = rw other refl
not_all (c ∷ text) (suc i) inside other = rw (not_all text i (omega (arith, inside)) other) (and_false (is_ascii_digit c))

pub value_large : (text : List ℕ) (i most : ℕ) → most < value (take i text) → (if nat_le (value text) most then Some (value text) else None) ≡ None
value_large text i most large =
    let whole : most < value text = omega (arith, large, digits_value-take-le 10 text i (omega arith)) in
    let over : nat_le (value text) most ≡ false = grind (arith, whole) in
    rw over refl

-- the parts of a text
pub absent : (mark : ℕ) (text : List ℕ) → ((k : ℕ) → k < length text → (get_or text k 0 == mark) ≡ false) → cut mark text ≡ None
unfolding cut
absent mark [] none = refl
absent mark (b ∷ text) none =
    let first : (b == mark) ≡ false = none 0 (omega arith) in
    let rest : cut mark text ≡ None = absent mark text (λ k inside. none (suc k) (omega (arith, inside))) in
    rw (first, rest) refl

here : (mark : ℕ) (text : List ℕ) (at : ℕ) → at < length text → (get_or text at 0 == mark) ≡ true →
    ((k : ℕ) → k < at → (get_or text k 0 == mark) ≡ false) → cut mark text ≡ Some (take at text, drop (at + 1) text)
unfolding cut
here mark [] at inside found before = absurd (omega (arith, inside))
here mark (b ∷ text) zero inside found before = rw found refl
here mark (b ∷ text) (suc at) inside found before =
    let first : (b == mark) ≡ false = before 0 (omega arith) in
    let rest : cut mark text ≡ Some (take at text, drop (at + 1) text) = here mark text at (omega (arith, inside)) found (λ k lt. before (suc k) (omega (arith, lt))) in
    let one : suc (at + 1) ≡ suc at + 1 = omega arith in
    rw (first, rest) (ap (λ (n : ℕ). Some (b ∷ take at text, drop n (b ∷ text))) one)

pub cut_none : (mark : ℕ) (text : List ℕ) → position (λ b. b == mark) text ≡ None → cut mark text ≡ None
cut_none mark text none = absent mark text (λ k inside. fails_before_first (λ b. b == mark) text k 0 (grind (arith, none, inside)))

pub cut_some : (mark : ℕ) (text : List ℕ) (at : ℕ) → position (λ b. b == mark) text ≡ Some at → cut mark text ≡ Some (take at text, drop (at + 1) text)
cut_some mark text at some = let h = position-Some (λ b. b == mark) text at 0 some in here mark text at h.0 h.1 h.2

pub ruleset short_forms = (number_empty, number_zero, number_form, value_zero)

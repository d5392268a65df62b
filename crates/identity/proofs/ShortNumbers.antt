-- Numbers of up to eight digits in decimal, two digits at a time.
use Rattle.std.proofs.Common.{◌≡◌, ℕ, ◌+◌, ◌/◌, ◌%◌, ◌<◌, ◌≤◌, List, [], ◌∷◌, ◌++◌, decimal, length, take, drop, ◌-◌, sym, ap, ◌∙◌, arith, append_assoc}
use Rattle.std.proofs.lemmas.List.{drop-drop, drop_at, drop-append-le, length-take}
use borrow.Rule.Slice.PartMut.{put_mid}
use Rattle.identity.specs.Inside.EightDigits.{two_before, eight_of}
use Rattle.std.proofs.lemmas.Fmt.{decimal_digit, decimal_step}

-- the two digits of a number below 100
abbrev pub pair : ℕ → List ℕ
pair n = (48 + n / 10) ∷ (48 + n % 10) ∷ []

-- the last digit
last : (n : ℕ) → 10 ≤ n → n < 100000000 → decimal n ≡ decimal (n / 10) ++ (48 + n % 10) ∷ []
last n low high = decimal_step n low (omega (arith, high))

-- the last two digits
last_two : (n : ℕ) → 100 ≤ n → n < 100000000 → decimal n ≡ decimal (n / 100) ++ pair (n % 100)
last_two n low high =
    let before : n / 10 / 10 ≡ n / 100 = omega arith in
    let tens : n / 10 % 10 ≡ n % 100 / 10 = omega arith in
    let ones : n % 10 ≡ n % 100 % 10 = omega arith in
    last n (omega (arith, low)) high
    ∙ ap (λ (l : List ℕ). l ++ (48 + n % 10) ∷ []) (last (n / 10) (omega (arith, low)) (omega (arith, high)))
    ∙ append_assoc (decimal (n / 10 / 10)) ((48 + n / 10 % 10) ∷ []) ((48 + n % 10) ∷ [])
    ∙ ap (λ (m : ℕ). decimal m ++ (48 + n / 10 % 10) ∷ (48 + n % 10) ∷ []) before
    ∙ ap (λ (d : ℕ). decimal (n / 100) ++ (48 + d) ∷ (48 + n % 10) ∷ []) tens
    ∙ ap (λ (d : ℕ). decimal (n / 100) ++ (48 + n % 100 / 10) ∷ (48 + d) ∷ []) ones

-- the last four
last_four : (n : ℕ) → 10000 ≤ n → n < 100000000 → decimal n ≡ decimal (n / 10000) ++ (pair (n % 10000 / 100) ++ pair (n % 10000 % 100))
last_four n low high =
    let before : n / 100 / 100 ≡ n / 10000 = omega arith in
    let third : n / 100 % 100 ≡ n % 10000 / 100 = omega arith in
    let fourth : n % 100 ≡ n % 10000 % 100 = omega arith in
    last_two n (omega (arith, low)) high
    ∙ ap (λ (l : List ℕ). l ++ pair (n % 100)) (last_two (n / 100) (omega (arith, low)) (omega (arith, high)))
    ∙ append_assoc (decimal (n / 100 / 100)) (pair (n / 100 % 100)) (pair (n % 100))
    ∙ ap (λ (m : ℕ). decimal m ++ (pair (n / 100 % 100) ++ pair (n % 100))) before
    ∙ ap (λ (k : ℕ). decimal (n / 10000) ++ (pair k ++ pair (n % 100))) third
    ∙ ap (λ (k : ℕ). decimal (n / 10000) ++ (pair (n % 10000 / 100) ++ pair k)) fourth

pub one_digit : (n : ℕ) → n < 10 → decimal n ≡ (48 + n) ∷ []
one_digit n few = decimal_digit n few

pub two_digits : (n : ℕ) → 10 ≤ n → n < 100 → decimal n ≡ pair n
two_digits n low high = last n low (omega (arith, high)) ∙ ap (λ (l : List ℕ). l ++ (48 + n % 10) ∷ []) (one_digit (n / 10) (omega (arith, high)))

pub three_digits : (n : ℕ) → 100 ≤ n → n < 1000 → decimal n ≡ (48 + n / 100) ∷ pair (n % 100)
three_digits n low high = last_two n low (omega (arith, high)) ∙ ap (λ (l : List ℕ). l ++ pair (n % 100)) (one_digit (n / 100) (omega (arith, high)))

pub four_digits : (n : ℕ) → 1000 ≤ n → n < 10000 → decimal n ≡ pair (n / 100) ++ pair (n % 100)
four_digits n low high = last_two n (omega (arith, low)) (omega (arith, high)) ∙ ap (λ (l : List ℕ). l ++ pair (n % 100)) (two_digits (n / 100) (omega (arith, low)) (omega (arith, high)))

-- more than four digits, by those before the last four
long : (n : ℕ) (ds : List ℕ) → 10000 ≤ n → n < 100000000 → decimal (n / 10000) ≡ ds → decimal n ≡ ds ++ (pair (n % 10000 / 100) ++ pair (n % 10000 % 100))
long n ds low high before = last_four n low high ∙ ap (λ (l : List ℕ). l ++ (pair (n % 10000 / 100) ++ pair (n % 10000 % 100))) before

pub five_digits : (n : ℕ) → 10000 ≤ n → n / 10000 < 10 → decimal n ≡ (48 + n / 10000) ∷ (pair (n % 10000 / 100) ++ pair (n % 10000 % 100))
five_digits n low high = long n ((48 + n / 10000) ∷ []) low (omega (arith, high)) (one_digit (n / 10000) high)

pub six_digits : (n : ℕ) → 10 ≤ n / 10000 → n / 10000 < 100 → decimal n ≡ pair (n / 10000) ++ (pair (n % 10000 / 100) ++ pair (n % 10000 % 100))
six_digits n low high = long n (pair (n / 10000)) (omega (arith, low)) (omega (arith, high)) (two_digits (n / 10000) low high)

pub seven_digits : (n : ℕ) → 100 ≤ n / 10000 → n / 10000 < 1000 → decimal n ≡ (48 + n / 10000 / 100) ∷ (pair (n / 10000 % 100) ++ (pair (n % 10000 / 100) ++ pair (n % 10000 % 100)))
seven_digits n low high = long n ((48 + n / 10000 / 100) ∷ pair (n / 10000 % 100)) (omega (arith, low)) (omega (arith, high)) (three_digits (n / 10000) low high)

pub eight_digits : (n : ℕ) → 1000 ≤ n / 10000 → n / 10000 < 10000 → decimal n ≡ pair (n / 10000 / 100) ++ (pair (n / 10000 % 100) ++ (pair (n % 10000 / 100) ++ pair (n % 10000 % 100)))
eight_digits n low high = long n (pair (n / 10000 / 100) ++ pair (n / 10000 % 100)) (omega (arith, low)) (omega (arith, high)) (four_digits (n / 10000) low high)

pub ruleset few_digits = (one_digit, two_digits, three_digits, four_digits)

pub ruleset many_digits = (five_digits, six_digits, seven_digits, eight_digits)

-- ---- the eight digits of a number, without the zeros before it

pub all_eight : (n : ℕ) → 10000000 ≤ n → n < 100000000 → decimal n ≡ drop 0 (eight_of n)
all_eight n low high = eight_digits n (omega (arith, low)) (omega (arith, high))

pub last_seven : (n : ℕ) → 1000000 ≤ n → n < 10000000 → decimal n ≡ drop 1 (eight_of n)
last_seven n low high =
    let d : n / 10000 / 100 ≡ n / 10000 / 100 % 10 = omega (arith, high) in
    seven_digits n (omega (arith, low)) (omega (arith, high)) ∙ ap (λ (k : ℕ). (48 + k) ∷ drop 2 (eight_of n)) d

pub last_six : (n : ℕ) → 100000 ≤ n → n < 1000000 → decimal n ≡ drop 2 (eight_of n)
last_six n low high =
    let d : n / 10000 ≡ n / 10000 % 100 = omega (arith, high) in
    six_digits n (omega (arith, low)) (omega (arith, high)) ∙ ap (λ (k : ℕ). two_before k (drop 4 (eight_of n))) d

pub last_five : (n : ℕ) → 10000 ≤ n → n < 100000 → decimal n ≡ drop 3 (eight_of n)
last_five n low high =
    let d : n / 10000 ≡ n / 10000 % 100 % 10 = omega (arith, high) in
    five_digits n low (omega (arith, high)) ∙ ap (λ (k : ℕ). (48 + k) ∷ drop 4 (eight_of n)) d

-- a number of four digits, with zeros before it
four_of : ℕ → List ℕ
four_of n = two_before (n / 100) (two_before (n % 100) [])

low_four : (n : ℕ) → n < 10000 → four_of n ≡ drop 4 (eight_of n)
unfolding four_of
low_four n high = let d : n ≡ n % 10000 = omega (arith, high) in ap (λ (k : ℕ). two_before (k / 100) (two_before (k % 100) [])) d

pub last_four_shown : (n : ℕ) → 1000 ≤ n → n < 10000 → decimal n ≡ drop 4 (eight_of n)
unfolding four_of
last_four_shown n low high = four_digits n low high ∙ low_four n high

pub last_three : (n : ℕ) → 100 ≤ n → n < 1000 → decimal n ≡ drop 5 (eight_of n)
unfolding four_of
last_three n low high =
    let d : n / 100 ≡ n / 100 % 10 = omega (arith, high) in
    three_digits n low high ∙ ap (λ (k : ℕ). (48 + k) ∷ two_before (n % 100) []) d ∙ ap (drop 1) (low_four n (omega (arith, high)))

pub last_two_shown : (n : ℕ) → 10 ≤ n → n < 100 → decimal n ≡ drop 6 (eight_of n)
unfolding four_of
last_two_shown n low high =
    let d : n ≡ n % 100 = omega (arith, high) in
    two_digits n low high ∙ ap (λ (k : ℕ). two_before k []) d ∙ ap (drop 2) (low_four n (omega (arith, high)))

pub last_one : (n : ℕ) → n < 10 → decimal n ≡ drop 7 (eight_of n)
unfolding four_of
last_one n high =
    let d : n ≡ n % 100 % 10 = omega (arith, high) in
    one_digit n high ∙ ap (λ (k : ℕ). (48 + k) ∷ []) d ∙ ap (drop 3) (low_four n (omega (arith, high)))

pub ruleset shown_digits = (all_eight, last_seven, last_six, last_five, last_four_shown, last_three, last_two_shown, last_one)

-- what eight digits written before a place leave from the number on
pub number_placed : (text digits number : List ℕ) (end z : ℕ) → 8 ≤ end → end ≤ length text → length digits ≡ 8 → z ≤ 7 → number ≡ drop z digits
    → drop (end - 8 + z) (put_mid (end - 8) (end - (end - 8)) text digits) ≡ number ++ drop end text
number_placed text digits number end z low high eight some is =
    let at = end - 8 in
    let w = end - (end - 8) in
    let rest = drop w (drop at text) in
    let place : at + w ≡ end = omega (arith, low) in
    sym (drop-drop z at (take at text ++ (digits ++ rest)))
    ∙ ap (drop z) (drop_at (take at text) (digits ++ rest) at (omega (arith, high, length-take at text)))
    ∙ drop-append-le z digits rest (omega (arith, eight, some))
    ∙ ap (λ (l : List ℕ). l ++ rest) (sym is)
    ∙ ap (λ (l : List ℕ). number ++ l) (drop-drop w at text ∙ ap (λ (n : ℕ). drop n text) place)

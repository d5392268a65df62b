-- Short texts of identities, read in one pass.
use Rattle.std.proofs.Common.{◌≡◌, ◌≢◌, ℕ, ◌+◌, ◌^◌, ◌<◌, ◌≤◌, Bool, true, false, ◌&&◌, List, ◌∷◌, ◌++◌, length, take, drop, get_or, ◌-◌, refl, sym}
use Rattle.std.proofs.Common.{ap, subst, ◌∙◌, arith, Option, Some, None, inl, inr, nat_le}
use mathlib.Core.Bool.{false≢true}
use Rattle.std.specs.Prelude.{◌⊎◌, ◌==◌, ◌||◌, nat_lt, if◌then◌else◌, Ok, Err}
use Rattle.std.specs.Char.{is_ascii_digit}
use Rattle.std.specs.List.{list_all}
use Rattle.std.specs.Option.{option_and_then}
use Rattle.std.specs.Result.{result_ok}
use Rattle.std.proofs.lemmas.Grind.{common_steps}
use Rattle.std.proofs.lemmas.Bool.Decides.{nat_tests}
use Rattle.std.proofs.lemmas.Bool.{cases_eq, cases_lt, ne_eqb, eq-eqb}
use Rattle.std.proofs.lemmas.List.{take_all, take-append-drop, drop_more, get_or-take, get_or_append_left, get_or-append_right}
use Rattle.std.proofs.lemmas.Str.Parse.{digits_value_short}
use Rattle.base.proofs.Bools.{first_true, second_true, neither}
use Rattle.identity.specs.NumberText.{is_number, value, cut, number_before, is_number_end, judged}
use Rattle.identity.specs.IdentityText.{reading_identity, three_numbers, identity_of}
use Rattle.identity.specs.Identity.{identity_number}
use Rattle.identity.specs.declared.fault.Fault.TheVariants.{OutOfRange}
use Rattle.identity.proofs.NumberText.{number_empty, number_zero, number_form, all_of_number, not_all, digit_in, absent}
use Rattle.identity.proofs.Texts.{cut_again, cut_only, own}

-- ---- the number before a dash

no_number : (text : List ℕ) → list_all is_ascii_digit text ≡ false → is_number text ≡ false
no_number text not = number_judged (is_number text) refl
  where
    number_judged : (b : Bool) → is_number text ≡ b → b ≡ false
    number_judged false e = refl
    number_judged true e = absurd (false≢true (sym not ∙ all_of_number text e))

no_dash : is_ascii_digit 45 ≡ false
no_dash = refl

-- digits and a dash after them
dash_cut : (text : List ℕ) (at : ℕ) → at < length text → list_all is_ascii_digit (take at text) ≡ true → get_or text at 0 ≡ 45 → cut 45 text ≡ Some (take at text, drop (at + 1) text)
dash_cut text at inside all dash =
    let whole : text ≡ take at text ++ 45 ∷ drop (at + 1) text =
    sym (take-append-drop at text) ∙ ap (λ (l : List ℕ). take at text ++ l) (drop_more text at 0 inside ∙ ap (λ (b : ℕ). b ∷ drop (at + 1) text) dash) in
    ap (cut 45) whole ∙ cut_again is_ascii_digit 45 (take at text) (drop (at + 1) text) all no_dash

head_take : (text : List ℕ) (at : ℕ) → 0 < at → get_or (take at text) 0 0 ≡ get_or text 0 0
head_take text at some = get_or-take at text 0 0 some

length_take : (text : List ℕ) (at : ℕ) → at < length text → length (take at text) ≡ at
length_take text at inside = grind (arith, common_steps)

taken_number : (text : List ℕ) (at : ℕ) → at < length text → list_all is_ascii_digit (take at text) ≡ true → (at ≡ 1) ⊎ ((0 < at) × (48 < get_or text 0 0)) → is_number (take at text) ≡ true
taken_number text at inside all (inr head) =
    let some : 0 < length (take at text) = omega (arith, length_take text at inside, head.0) in
    number_form (take at text) some (λ e. absurd (omega (arith, e, head_take text at head.0, head.1))) ∙ all
taken_number text at inside all (inl one) =
    let len : length (take at text) ≡ 1 = length_take text at inside ∙ one in
    elim (cases_eq (get_or (take at text) 0 0) 48) [
      | inl nought ↦ number_zero (take at text) (omega (arith, len)) nought ∙ ap (λ (n : ℕ). n == 1) len
      | inr other ↦ number_form (take at text) (omega (arith, len)) other ∙ all
    ]

taken_none : (text : List ℕ) (at : ℕ) → at < length text → (at ≡ 0) ⊎ ((1 < at) × (get_or text 0 0 ≡ 48)) → is_number (take at text) ≡ false
taken_none text at inside (inl none) = number_empty (take at text) (length_take text at inside ∙ none)
taken_none text at inside (inr head) =
    let len = length_take text at inside in
    let zero : get_or (take at text) 0 0 ≡ 48 = head_take text at (omega (arith, head.0)) ∙ head.1 in
    number_zero (take at text) (omega (arith, len, head.0)) zero ∙ grind (arith, len, head.0)

pub number_found : (text : List ℕ) (at v : ℕ) → at < length text → list_all is_ascii_digit (take at text) ≡ true → get_or text at 0 ≡ 45 → (at ≡ 1) ⊎ (48 < get_or text 0 0) → v ≡ value (take at text)
    → Some (v, drop (at + 1) text) ≡ number_before 45 text
unfolding number_before
number_found text at v inside all dash form is =
    let head : (at ≡ 1) ⊎ ((0 < at) × (48 < get_or text 0 0)) = first form in
    rw (dash_cut text at inside all dash, taken_number text at inside all head, is) refl
  where
    first : (at ≡ 1) ⊎ (48 < get_or text 0 0) → (at ≡ 1) ⊎ ((0 < at) × (48 < get_or text 0 0))
    first (inl one) = inl one
    first (inr more) = inr (
      elim (cases_eq at 0) [
        | inl none ↦ absurd (omega (arith, more, dash, ap (λ (n : ℕ). get_or text n 0) none))
        | inr other ↦ omega (arith, other)
      ],
      more,
    )

pub no_form : (text : List ℕ) (at : ℕ) → at < length text → list_all is_ascii_digit (take at text) ≡ true → get_or text at 0 ≡ 45 → at ≢ 1 → get_or text 0 0 ≤ 48 → None ≡ number_before 45 text
unfolding number_before
no_form text at inside all dash several low =
    rw (dash_cut text at inside all dash, taken_none text at inside head) refl
  where
    head : (at ≡ 0) ⊎ ((1 < at) × (get_or text 0 0 ≡ 48))
    head = elim (cases_eq at 0) [
      | inl none ↦ inl none
      | inr other ↦
          let some : 1 < at = omega (arith, other, several) in
          let digit = digit_in (take at text) 0 all (omega (arith, length_take text at inside, some)) in
          inr (some, omega (arith, digit.0, head_take text at (omega (arith, some)), low))
    ]

-- a byte that is neither a digit nor a dash
strange : (text : List ℕ) (at : ℕ) (p : List ℕ × List ℕ) → at < length text → list_all is_ascii_digit (take at text) ≡ true →
    is_ascii_digit (get_or text at 0) ≡ false → get_or text at 0 ≢ 45 → cut 45 text ≡ Some p → is_number p.0 ≡ false
strange text at p inside all other different e =
    let n = length p.0 in
    let whole : text ≡ p.0 ++ 45 ∷ p.1 = cut_only 45 text p e in
    let mark : get_or text n 0 ≡ 45 = ap (λ (l : List ℕ). get_or l n 0) whole ∙ get_or-append_right p.0 (45 ∷ p.1) n n 0 refl (omega arith) ∙
    ap (λ (k : ℕ). get_or (45 ∷ p.1) k 0) (let z : n - n ≡ 0 = omega arith in z) in
    elim (cases_lt at n) [
      | inl lt ↦
          let same : get_or p.0 at 0 ≡ get_or text at 0 = sym (ap (λ (l : List ℕ). get_or l at 0) whole ∙ get_or_append_left p.0 (45 ∷ p.1) 0 at lt) in
          no_number p.0 (not_all p.0 at lt (ap is_ascii_digit same ∙ other))
      | inr past ↦ elim (cases_eq at n) [
        | inl equal ↦ absurd (different (ap (λ (k : ℕ). get_or text k 0) equal ∙ mark))
        | inr before ↦
            let digit = digit_in (take at text) n all (omega (arith, length_take text at inside, past, before)) in
            absurd (omega (arith, digit.0, get_or-take at text n 0 (omega (arith, past, before)), mark))
      ]
    ]

abbrev pub before : List ℕ × List ℕ → Option (ℕ × List ℕ)
before parts = if is_number parts.0 then Some (value parts.0, parts.1) else None

not_before : (text : List ℕ) (found : Option (List ℕ × List ℕ)) → ((p : List ℕ × List ℕ) → found ≡ Some p → is_number p.0 ≡ false) → option_and_then before found ≡ None
not_before text None never = refl
not_before text (Some p) never = rw (never p refl) refl

pub strange_byte : (text : List ℕ) (at : ℕ) → at < length text → list_all is_ascii_digit (take at text) ≡ true →
    is_ascii_digit (get_or text at 0) ≡ false → get_or text at 0 ≢ 45 → None ≡ number_before 45 text
unfolding number_before
strange_byte text at inside all other different = sym (not_before text (cut 45 text) (λ p e. strange text at p inside all other different e))

-- digits alone
pub digits_alone : (text : List ℕ) → list_all is_ascii_digit text ≡ true → None ≡ number_before 45 text
unfolding number_before
digits_alone text all = sym (ap (option_and_then before) (absent 45 text (λ k inside. ne_eqb (get_or text k 0) 45 (λ e. absurd (omega (arith, e, (digit_in text k all inside).0))))))

-- the dash after digits
pub number_ends : (text : List ℕ) (at v : ℕ) → at < length text → list_all is_ascii_digit (take at text) ≡ true → is_number_end text at ≡ true → v ≡ value (take at text)
    → Some (v, take (length text - (at + 1)) (drop (at + 1) text)) ≡ number_before 45 text
number_ends text at v inside all ends is =
    let rest = (at == 1) || nat_lt 48 (get_or text 0 0) in
    let dash : (get_or text at 0 == 45) ≡ true = first_true (get_or text at 0 == 45) rest ends in
    let form : rest ≡ true = second_true (get_or text at 0 == 45) rest ends in
    let whole : take (length text - (at + 1)) (drop (at + 1) text) ≡ drop (at + 1) text = take_all (length text - (at + 1)) (drop (at + 1) text) (grind (arith, common_steps)) in
    let mark : get_or text at 0 ≡ 45 = grind (arith, nat_tests, dash) in
    subst (λ (l : List ℕ). Some (v, l) ≡ number_before 45 text) (sym whole) (number_found text at v inside all mark (cases (at == 1) refl form) is)
  where
    cases : (b : Bool) → (at == 1) ≡ b → (b || nat_lt 48 (get_or text 0 0)) ≡ true → (at ≡ 1) ⊎ (48 < get_or text 0 0)
    cases true e h = inl (grind (arith, nat_tests, e))
    cases false e h = inr (grind (arith, nat_tests, h))

-- no number and a dash after it
pub number_fails : (text : List ℕ) (at : ℕ) → at < length text → list_all is_ascii_digit (take at text) ≡ true →
    is_ascii_digit (get_or text at 0) ≡ false → is_number_end text at ≡ false → None ≡ number_before 45 text
number_fails text at inside all other fails =
    elim (cases_eq (get_or text at 0) 45) [
      | inr different ↦ strange_byte text at inside all other different
      | inl dash ↦
          let first : (get_or text at 0 == 45) ≡ true = eq-eqb (get_or text at 0) 45 dash in
          let rest : ((at == 1) || nat_lt 48 (get_or text 0 0)) ≡ false = sym (ap (λ (b : Bool). b && ((at == 1) || nat_lt 48 (get_or text 0 0))) first) ∙ fails in
          let h = neither (at == 1) (nat_lt 48 (get_or text 0 0)) rest in
          let several : at ≢ 1 = (λ e. false≢true (sym h.0 ∙ eq-eqb at 1 e)) in
          no_form text at inside all dash several (grind (arith, nat_tests, h.1))
    ]

-- one digit more is below 2 ^ 64
pub digits_small : (text : List ℕ) (at v : ℕ) → list_all is_ascii_digit (take at text) ≡ true → at < length text → length text ≤ 19 → v ≡ value (take at text) → v < 10 ^ 18
digits_small text at v all inside few is =
    omega (arith, is, digits_value_short own (take at text) 18 all (omega (arith, length_take text at inside, inside, few)))

-- ---- the three numbers

-- the last number, after a country code and a network code
abbrev pub identity_ends : ℕ → ℕ → List ℕ → Option ℕ
identity_ends mcc mnc ssi =
    if is_number ssi then (if nat_le mcc 1023 && nat_le mnc 16383 && nat_le (value ssi) 16777215 then Some (identity_number mcc mnc (value ssi)) else None) else None

-- the network code and the last number
abbrev pub identity_goes_on : ℕ × List ℕ → Option ℕ
identity_goes_on p = option_and_then (λ q. identity_ends p.0 q.0 q.1) (number_before 45 p.1)

in_ranges : (b : Bool) (n : ℕ) → result_ok (if b then Ok n else Err OutOfRange) ≡ (if b then Some n else None)
in_ranges true n = refl
in_ranges false n = refl

judged_numbers : (a b c : List ℕ) →
    result_ok (judged (λ (numbers : List ℕ × List ℕ × List ℕ). identity_of numbers.0 numbers.1 numbers.2)
    (if is_number a && is_number b && is_number c then Some (a, b, c) else None))
    ≡ (if is_number a then (if is_number b then identity_ends (value a) (value b) c else None) else None)
unfolding identity_of
judged_numbers a b c = of (is_number a) (is_number b) (is_number c)
  where
    of : (na nb nc : Bool) → result_ok (judged (λ (numbers : List ℕ × List ℕ × List ℕ). identity_of numbers.0 numbers.1 numbers.2) (if na && nb && nc then Some (a, b, c) else None))
        ≡ (if na then (if nb then
        (if nc then (if nat_le (value a) 1023 && nat_le (value b) 16383 && nat_le (value c) 16777215 then Some
        (identity_number (value a) (value b) (value c)) else None) else None) else None) else None)
    of true true true = in_ranges (nat_le (value a) 1023 && nat_le (value b) 16383 && nat_le (value c) 16777215) (identity_number (value a) (value b) (value c))
    of true true false = refl
    of true false nc = refl
    of false true nc = refl
    of false false nc = refl

after_first : (a rest : List ℕ) →
    result_ok (judged (λ (numbers : List ℕ × List ℕ × List ℕ). identity_of numbers.0 numbers.1 numbers.2)
    (option_and_then (λ q. if is_number a && is_number q.0 && is_number q.1 then Some (a, q.0, q.1) else None) (cut 45 rest)))
    ≡ (if is_number a then identity_goes_on (value a, rest) else None)
unfolding number_before
after_first a rest = of (cut 45 rest)
  where
    pick : (na nb : Bool) (x : Option ℕ) (q : List ℕ × List ℕ) → (if na then (if nb then identity_ends (value a) (value q.0) q.1 else None) else None) ≡
        (if na then option_and_then (λ (r : ℕ × List ℕ). identity_ends (value a) r.0 r.1) (if nb then Some (value q.0, q.1) else None) else None)
    pick true true x q = refl
    pick true false x q = refl
    pick false nb x q = refl

    none : (na : Bool) → None ≡ (if na then None else (let n : Option ℕ = None in n))
    none true = refl
    none false = refl

    of : (found : Option (List ℕ × List ℕ)) →
        result_ok (judged (λ (numbers : List ℕ × List ℕ × List ℕ). identity_of numbers.0 numbers.1 numbers.2)
        (option_and_then (λ q. if is_number a && is_number q.0 && is_number q.1 then Some (a, q.0, q.1) else None) found))
        ≡ (if is_number a then option_and_then (λ (r : ℕ × List ℕ). identity_ends (value a) r.0 r.1) (option_and_then before found) else None)
    of None = none (is_number a)
    of (Some q) = judged_numbers a q.0 q.1 ∙ pick (is_number a) (is_number q.0) None q

-- the identity of a text, number by number
pub reading_short : (text : List ℕ) → result_ok (reading_identity text) ≡ option_and_then identity_goes_on (number_before 45 text)
unfolding reading_identity three_numbers number_before
reading_short text = of (cut 45 text)
  where
    pick : (na : Bool) (p : List ℕ × List ℕ) → (if na then identity_goes_on (value p.0, p.1) else None) ≡ option_and_then identity_goes_on (if na then Some (value p.0, p.1) else None)
    pick true p = refl
    pick false p = refl

    of : (found : Option (List ℕ × List ℕ)) →
        result_ok (judged (λ (numbers : List ℕ × List ℕ × List ℕ). identity_of numbers.0 numbers.1 numbers.2)
        (option_and_then (λ (p : List ℕ × List ℕ).
        option_and_then (λ q. if is_number p.0 && is_number q.0 && is_number q.1 then Some (p.0, q.0, q.1) else None) (cut 45 p.1)) found))
        ≡ option_and_then identity_goes_on (option_and_then before found)
    of None = refl
    of (Some p) = after_first p.0 p.1 ∙ pick (is_number p.0) p

pub ruleset short_readings = (reading_short)

-- Texts of numbers, and parts of texts: what is written is what is read.
use Rattle.std.proofs.Common.{◌≡◌, ℕ, ◌^◌, ◌<◌, ◌≤◌, Bool, true, false, List, [], ◌∷◌, ◌++◌, length, refl, sym, ap, ◌∙◌, arith, Option, Some, None}
use Rattle.std.proofs.Common.{option_map, Result, Ok, Err, nat_le, inl, inr, rules}
use Rattle.std.specs.Prelude.{◌↔◌, ◌⊎◌, ◌==◌, if◌then◌else◌, decimal}
use mathlib.Core.Bool.{false≢true}
use Rattle.std.specs.Char.{is_ascii_digit}
use Rattle.std.specs.List.{list_all}
use Rattle.std.specs.Option.{option_and_then}
use Rattle.std.specs.Str.Parse.{digits_value}
use Rattle.std.proofs.lemmas.Bool.Decides.{nat_tests}
use Rattle.std.proofs.lemmas.Bool.{cases_eq, eq-eqb, ne_eqb}
use Rattle.std.proofs.lemmas.Fmt.{decimal-digits_value, digits_value-decimal, digits_decimal, decimal_digit, decimal_nonempty, first_decimal}
use Rattle.std.proofs.lemmas.Str.Parse.{IsNumeralModel, IsDigitsTest, numerals_by_value}
use Rattle.base.proofs.Bools.{both_true}
use Rattle.base.proofs.Numbers.{le_by_test, test_by_le}
use Rattle.base.proofs.Options.{some_is}
use Rattle.identity.specs.NumberText.{is_number, value, reading_number, cut, judged}
use Rattle.identity.proofs.NumberText.{all_of_number, number_zero, number_form}
use Rattle.identity.specs.declared.fault.Fault.{Fault}
use Rattle.identity.specs.declared.fault.Fault.TheVariants.{BadText, OutOfRange}

-- ---- choices

pub err_ok : {V : Type 0} (f : Fault) (v : V) → Err f ≡ Ok v → ⊥
err_ok f v e = cc

pub none_some : {V : Type 0} (v : V) → None ≡ Some v → ⊥
none_some v e = cc

pub ok_same : {V : Type 0} (x y : V) (e : (let r : Result V Fault = Ok x in r) ≡ Ok y) → x ≡ y
ok_same x y e = cc

pub err_same : {V : Type 0} (f g : Fault) (e : (let r : Result V Fault = Err f in r) ≡ Err g) → f ≡ g
err_same f g e = cc

-- a choice between a value and a refusal that gave a value
pub chosen_ok : {V : Type 0} (b : Bool) (x : Result V Fault) (f : Fault) (v : V) → (if b then x else Err f) ≡ Ok v → (b ≡ true) × (x ≡ Ok v)
chosen_ok true x f v e = (refl, e)
chosen_ok false x f v e = absurd (err_ok f v e)

pub chosen_some : {V : Type 0} (b : Bool) (x : Option V) (v : V) → (if b then x else None) ≡ Some v → (b ≡ true) × (x ≡ Some v)
chosen_some true x v e = (refl, e)
chosen_some false x v e = absurd (none_some v e)

-- a form was found, and its range allowed
pub judged_ok : {A B : Type 0} (range : A → Result B Fault) (found : Option A) (v : B) → judged range found ≡ Ok v → (x : A) × (found ≡ Some x) × (range x ≡ Ok v)
judged_ok range None v e = absurd (err_ok BadText v e)
judged_ok range (Some x) v e = (x, refl, e)

-- the form is bad exactly where none was found
pub judged_bad_if : {A B : Type 0} (range : A → Result B Fault) (found : Option A) → ((x : A) → found ≡ Some x → ⊥) → judged range found ≡ Err BadText
judged_bad_if range None never = refl
judged_bad_if range (Some x) never = absurd (never x refl)

pub judged_bad_then : {A B : Type 0} (range : A → Result B Fault) (found : Option A) → ((x : A) → range x ≡ Err BadText → ⊥) → judged range found ≡ Err BadText → (x : A) → found ≡ Some x → ⊥
judged_bad_then range None fine e x is = none_some x is
judged_bad_then range (Some y) fine e x is = fine y e

-- a choice between a value and `OutOfRange` finds no fault of form
pub not_bad : {V : Type 0} (b : Bool) (v : V) → (if b then Ok v else Err OutOfRange) ≡ Err BadText → ⊥
not_bad true v e = cc
not_bad false v e = cc

-- a choice between a value and `OutOfRange` finds no other fault
pub chosen_err : {V : Type 0} (b : Bool) (v : V) (f : Fault) → (if b then Ok v else Err OutOfRange) ≡ Err f → f ≡ OutOfRange
chosen_err true v f e = cc
chosen_err false v f e = cc

-- no form was found, or its range refused
pub judged_err : {A B : Type 0} (range : A → Result B Fault) (found : Option A) (f : Fault) → ((x : A) → range x ≡ Err f → f ≡ OutOfRange) →
    judged range found ≡ Err f → (f ≡ BadText) ⊎ (f ≡ OutOfRange)
judged_err range None f far e = inl (sym (err_same BadText f e))
judged_err range (Some x) f far e = inr (far x e)

pub then_some : {A B : Type 0} (f : A → Option B) (found : Option A) (y : B) → option_and_then f found ≡ Some y → (x : A) × (found ≡ Some x) × (f x ≡ Some y)
then_some f None y e = absurd (none_some y e)
then_some f (Some x) y e = (x, refl, e)

-- ---- numbers

digits_test : IsDigitsTest (λ ds. list_all is_ascii_digit ds ≡ true)
digits_test = search rules

pub own : IsNumeralModel (λ ds. list_all is_ascii_digit ds ≡ true) (digits_value 10)
own = numerals_by_value (λ ds. list_all is_ascii_digit ds ≡ true) digits_test

pub decimal_all : (n : ℕ) → n < 2 ^ 64 → list_all is_ascii_digit (decimal n) ≡ true
decimal_all n small = digits_decimal own n small

pub value-decimal : (n : ℕ) → n < 2 ^ 64 → value (decimal n) ≡ n
value-decimal n small = digits_value-decimal own n small

-- what is written of a number has its form
pub number_of_decimal : (n : ℕ) → n < 2 ^ 64 → is_number (decimal n) ≡ true
unfolding is_number
number_of_decimal n small =
    elim (cases_eq n 0) [
      | inl zero ↦ ap (λ (m : ℕ). is_number (decimal m)) zero ∙ ap is_number (decimal_digit 0 (omega arith))
      | inr other ↦ number_form (decimal n) (decimal_nonempty n small) (λ e. absurd (omega (arith, e, first_decimal n (omega (arith, other)) small))) ∙ decimal_all n small
    ]

some_digit : (text : List ℕ) → is_number text ≡ true → 0 < length text
unfolding is_number
some_digit [] form = absurd (false≢true form)
some_digit (c ∷ text) form = omega arith

-- a text of a number's form is what is written of its value
pub decimal_of_number : (text : List ℕ) → is_number text ≡ true → value text < 2 ^ 64 → decimal (value text) ≡ text
decimal_of_number text form small =
    decimal-digits_value own text (all_of_number text form) (some_digit text form)
    (λ head. let one : (length text == 1) ≡ true = sym (number_zero text (some_digit text form) head) ∙ form in grind (arith, nat_tests, one)) small

pub reading_number_again : (most n : ℕ) → n ≤ most → most < 2 ^ 64 → reading_number most (decimal n) ≡ Ok n
unfolding reading_number
reading_number_again most n le small =
    rw (number_of_decimal n (omega arith), value-decimal n (omega arith), test_by_le n most le) refl

pub reading_number_only : (most n : ℕ) (text : List ℕ) → most < 2 ^ 64 → reading_number most text ≡ Ok n → (n ≤ most) × (text ≡ decimal n)
unfolding reading_number
reading_number_only most n text small e =
    let form = chosen_ok (is_number text) _ _ n e in
    let range = chosen_ok (nat_le (value text) most) _ _ n form.1 in
    let is : value text ≡ n = ok_same (value text) n range.1 in
    let le : value text ≤ most = le_by_test (value text) most range.0 in
    (omega (arith, is, le), sym (decimal_of_number text form.0 (omega (arith, le))) ∙ ap decimal is)

pub reading_number_form : (most : ℕ) (text : List ℕ) → (reading_number most text ≡ Err BadText) ↔ (is_number text ≡ false)
unfolding reading_number
reading_number_form most text = number_form_of (is_number text)
  where
    number_form_of : (b : Bool) → ((if b then (if nat_le (value text) most then Ok (value text) else Err OutOfRange) else Err BadText) ≡ Err BadText) ↔ (b ≡ false)
    number_form_of true = (λ e. absurd (not_bad (nat_le (value text) most) (value text) e), λ e. absurd (false≢true (sym e)))
    number_form_of false = (λ e. refl, λ e. refl)

pub reading_number_faults : (most : ℕ) (text : List ℕ) (f : Fault) → reading_number most text ≡ Err f → (f ≡ BadText) ⊎ (f ≡ OutOfRange)
unfolding reading_number
reading_number_faults most text f = number_fault (is_number text)
  where
    number_fault : (b : Bool) → (if b then (if nat_le (value text) most then Ok (value text) else Err OutOfRange) else Err BadText) ≡ Err f → (f ≡ BadText) ⊎ (f ≡ OutOfRange)
    number_fault true e = inr (chosen_err (nat_le (value text) most) (value text) f e)
    number_fault false e = inl (sym (err_same BadText f e))

-- ---- parts

-- a text comes apart at a mark that none of its first bytes is
pub cut_again : (p : ℕ → Bool) (mark : ℕ) (prefix back : List ℕ) → list_all p prefix ≡ true → p mark ≡ false → cut mark (prefix ++ mark ∷ back) ≡ Some (prefix, back)
unfolding cut
cut_again p mark [] back all is = rw (eq-eqb mark mark refl) refl
cut_again p mark (b ∷ prefix) back all is =
    let here = both_true (p b) (list_all p prefix) all in
    let other : (b == mark) ≡ false = ne_eqb b mark (λ e. false≢true (sym is ∙ ap p (sym e) ∙ here.0)) in
    let rest : cut mark (prefix ++ mark ∷ back) ≡ Some (prefix, back) = cut_again p mark prefix back here.1 is in
    rw (other, rest) refl

following : (mark b : ℕ) (text : List ℕ) (found : Option (List ℕ × List ℕ)) (parts : List ℕ × List ℕ) → ((q : List ℕ × List ℕ) → found ≡ Some q → text ≡ q.0 ++ mark ∷ q.1)
    → option_map (λ q. (b ∷ q.0, q.1)) found ≡ Some parts → b ∷ text ≡ parts.0 ++ mark ∷ parts.1
following mark b text None parts later e = absurd (none_some parts e)
following mark b text (Some q) parts later e = ap (λ (t : List ℕ). b ∷ t) (later q refl) ∙ ap (λ (r : List ℕ × List ℕ). r.0 ++ mark ∷ r.1) (some_is (b ∷ q.0, q.1) parts e)

pub cut_only : (mark : ℕ) (text : List ℕ) (parts : List ℕ × List ℕ) → cut mark text ≡ Some parts → text ≡ parts.0 ++ mark ∷ parts.1
unfolding cut
cut_only mark [] parts e = absurd (none_some parts e)
cut_only mark (b ∷ text) parts e =
    elim (cases_eq b mark) [
      | inl same ↦
          let first : (b == mark) ≡ true = eq-eqb b mark same in
          let is : ([], text) ≡ parts = some_is _ _ (rw first at e) in
          ap (λ (c : ℕ). c ∷ text) same ∙ ap (λ (q : List ℕ × List ℕ). q.0 ++ mark ∷ q.1) is
      | inr other ↦
          let first : (b == mark) ≡ false = ne_eqb b mark other in
          following mark b text (cut mark text) parts (λ q. cut_only mark text q) (rw first at e)
    ]

-- Texts of identities and prefixes: what is written is what is read.
use Rattle.std.proofs.Common.{◌≡◌, ℕ, ◌-◌, ◌^◌, ◌<◌, ◌≤◌, Bool, true, false, ◌&&◌, List, [], ◌∷◌, ◌++◌, length, take, drop, replicate, refl, sym, ap}
use Rattle.std.proofs.Common.{subst, ◌∙◌, arith, append_assoc, Some, Result, Ok, Err, nat_le}
use Rattle.std.specs.Prelude.{◌↔◌, ◌⊎◌, ◌==◌, ◌||◌, decimal}
use Rattle.std.specs.Char.{is_ascii_digit}
use Rattle.std.specs.List.{list_all}
use Rattle.std.proofs.lemmas.Bool.Decides.{nat_tests}
use Rattle.std.proofs.lemmas.Bool.{eq-eqb}
use Rattle.std.proofs.lemmas.List.{take_at, drop_at, take-append-drop, length-append, length-replicate, length-take, length-drop}
use Rattle.std.proofs.lemmas.List.Folds.{list_all-append}
use Rattle.std.proofs.lemmas.Nat.{pow_pos}
use Rattle.std.proofs.Math.Nat.{mod-eq_of_lt}
use Rattle.base.proofs.Bools.{both_true}
use Rattle.base.proofs.Numbers.{test_by_le, le_by_test}
use Rattle.base.proofs.Options.{some_is}
use Rattle.identity.specs.Number.{num, number}
use Rattle.identity.specs.Inside.NumberLaws.{number-lt, number-num_mod, num-zero, num-number}
use Rattle.identity.specs.Path.{Path, id_path, left_aligned}
use Rattle.identity.specs.Inside.PathLaws.{length-id_path, number-id_path, id_path-number}
use Rattle.identity.specs.Identity.{identity_number, mcc_of, mnc_of, ssi_of}
use Rattle.identity.specs.NumberText.{is_number, value, cut}
use Rattle.identity.specs.IdentityText.{identity_text, prefix_text, three_numbers, identity_of, reading_identity, prefix_of, prefix_within, prefix_form, IsIdentityForm, IsPrefixForm, reading_prefix}
use Rattle.identity.proofs.Texts.{err_ok, ok_same, chosen_ok, chosen_some, decimal_all, value-decimal, number_of_decimal, decimal_of_number}
use Rattle.identity.proofs.Texts.{cut_again, cut_only, judged_ok, judged_bad_if, judged_bad_then, not_bad, err_same, then_some, chosen_err}
use Rattle.identity.proofs.Texts.{judged_err}
use Rattle.identity.specs.declared.fault.Fault.{Fault}
use Rattle.identity.specs.declared.fault.Fault.TheVariants.{BadText, OutOfRange}
use Rattle.identity.proofs.NumberText.{all_of_number}

-- ---- the three numbers of an identity

fields_back : (n : ℕ) → n < 2 ^ 48 → (mcc_of n ≤ 1023) × (mnc_of n ≤ 16383) × (ssi_of n ≤ 16777215) × (identity_number (mcc_of n) (mnc_of n) (ssi_of n) ≡ n)
fields_back n small = (omega arith, omega arith, omega arith, omega arith)

fields_of : (a b c : ℕ) → a ≤ 1023 → b ≤ 16383 → c ≤ 16777215 → (identity_number a b c < 2 ^ 48) × (mcc_of (identity_number a b c) ≡ a) ×
    (mnc_of (identity_number a b c) ≡ b) × (ssi_of (identity_number a b c) ≡ c)
fields_of a b c la lb lc = (omega arith, omega arith, omega arith, omega arith)

regroup : (a b c : List ℕ) → a ++ 45 ∷ b ++ 45 ∷ c ≡ a ++ 45 ∷ (b ++ 45 ∷ c)
regroup a b c = append_assoc a (45 ∷ b) (45 ∷ c)

no_dash : is_ascii_digit 45 ≡ false
no_dash = refl

three_again : (a b c : List ℕ) → list_all is_ascii_digit a ≡ true → list_all is_ascii_digit b ≡ true → is_number a ≡ true → is_number b ≡ true → is_number c ≡ true
    → three_numbers (a ++ 45 ∷ b ++ 45 ∷ c) ≡ Some (a, b, c)
unfolding three_numbers
three_again a b c da db na nb nc =
    rw (regroup a b c, cut_again is_ascii_digit 45 a (b ++ 45 ∷ c) da no_dash, cut_again is_ascii_digit 45 b c db no_dash, na, nb, nc) refl

pub identity_again : (n : ℕ) → n < 2 ^ 48 → three_numbers (identity_text n) ≡ Some (decimal (mcc_of n), decimal (mnc_of n), decimal (ssi_of n))
unfolding identity_text
identity_again n small =
    let back = fields_back n small in
    let a : mcc_of n < 2 ^ 64 = omega (arith, back.0) in
    let b : mnc_of n < 2 ^ 64 = omega (arith, back.1) in
    let c : ssi_of n < 2 ^ 64 = omega (arith, back.2) in
    three_again (decimal (mcc_of n)) (decimal (mnc_of n)) (decimal (ssi_of n)) (decimal_all (mcc_of n) a) (decimal_all (mnc_of n) b)
    (number_of_decimal (mcc_of n) a) (number_of_decimal (mnc_of n) b) (number_of_decimal (ssi_of n) c)

three_only : (text : List ℕ) (p : List ℕ × List ℕ × List ℕ) → three_numbers text ≡ Some p → (text ≡ p.0 ++ 45 ∷ p.1 ++ 45 ∷ p.2) ×
    (is_number p.0 ≡ true) × (is_number p.1 ≡ true) × (is_number p.2 ≡ true)
unfolding three_numbers
three_only text p e =
    let first = then_some _ (cut 45 text) p e in
    let second = then_some _ (cut 45 (first.0).1) p first.2 in
    let forms = chosen_some (is_number (first.0).0 && is_number (second.0).0 && is_number (second.0).1) _ p second.2 in
    let same : ((first.0).0, (second.0).0, (second.0).1) ≡ p = some_is _ p forms.1 in
    let left = both_true (is_number (first.0).0 && is_number (second.0).0) (is_number (second.0).1) forms.0 in
    let prefix = both_true (is_number (first.0).0) (is_number (second.0).0) left.0 in
    let whole : text ≡ (first.0).0 ++ 45 ∷ (second.0).0 ++ 45 ∷ (second.0).1 =
    cut_only 45 text first.0 first.1 ∙ ap (λ (t : List ℕ). (first.0).0 ++ 45 ∷ t) (cut_only 45 (first.0).1 second.0 second.1) ∙ sym (regroup (first.0).0 (second.0).0 (second.0).1) in
    subst (λ (q : List ℕ × List ℕ × List ℕ). (text ≡ q.0 ++ 45 ∷ q.1 ++ 45 ∷ q.2) × (is_number q.0 ≡ true) × (is_number q.1 ≡ true) × (is_number q.2 ≡ true)) same (whole, prefix.0, prefix.1, left.1)

identity_of_again : (n : ℕ) → n < 2 ^ 48 → identity_of (decimal (mcc_of n)) (decimal (mnc_of n)) (decimal (ssi_of n)) ≡ Ok n
unfolding identity_of
identity_of_again n small =
    let back = fields_back n small in
    rw (
      value-decimal (mcc_of n) (omega (arith, back.0)),
      value-decimal (mnc_of n) (omega (arith, back.1)),
      value-decimal (ssi_of n) (omega (arith, back.2)),
      test_by_le (mcc_of n) 1023 back.0,
      test_by_le (mnc_of n) 16383 back.1,
      test_by_le (ssi_of n) 16777215 back.2,
    ) (ap Ok back.3)

identity_of_only : (a b c : List ℕ) (n : ℕ) → is_number a ≡ true → is_number b ≡ true → is_number c ≡ true → identity_of a b c ≡ Ok n → (n < 2 ^ 48) × (a ++ 45 ∷ b ++ 45 ∷ c ≡ identity_text n)
unfolding identity_of identity_text
identity_of_only a b c n na nb nc e =
    let ranges = chosen_ok (nat_le (value a) 1023 && nat_le (value b) 16383 && nat_le (value c) 16777215) _ _ n e in
    let left = both_true (nat_le (value a) 1023 && nat_le (value b) 16383) (nat_le (value c) 16777215) ranges.0 in
    let prefix = both_true (nat_le (value a) 1023) (nat_le (value b) 16383) left.0 in
    let la = le_by_test (value a) 1023 prefix.0 in
    let lb = le_by_test (value b) 16383 prefix.1 in
    let lc = le_by_test (value c) 16777215 left.1 in
    let is : identity_number (value a) (value b) (value c) ≡ n = ok_same _ n ranges.1 in
    let fields = fields_of (value a) (value b) (value c) la lb lc in
    let ta : a ≡ decimal (mcc_of n) = sym (decimal_of_number a na (omega (arith, la))) ∙ ap decimal (sym fields.1 ∙ ap mcc_of is) in
    let tb : b ≡ decimal (mnc_of n) = sym (decimal_of_number b nb (omega (arith, lb))) ∙ ap decimal (sym fields.2 ∙ ap mnc_of is) in
    let tc : c ≡ decimal (ssi_of n) = sym (decimal_of_number c nc (omega (arith, lc))) ∙ ap decimal (sym fields.3 ∙ ap ssi_of is) in
    (subst (λ (m : ℕ). m < 2 ^ 48) is fields.0, λ i. ta i ++ 45 ∷ tb i ++ 45 ∷ tc i)

pub reading_identity_again : (n : ℕ) → n < 2 ^ 48 → reading_identity (identity_text n) ≡ Ok n
unfolding reading_identity
reading_identity_again n small = rw (identity_again n small) (identity_of_again n small)

pub reading_identity_only : (n : ℕ) (text : List ℕ) → reading_identity text ≡ Ok n → (n < 2 ^ 48) × (text ≡ identity_text n)
unfolding reading_identity
reading_identity_only n text e =
    let found = judged_ok _ (three_numbers text) n e in
    let form = three_only text found.0 found.1 in
    let range = identity_of_only (found.0).0 (found.0).1 (found.0).2 n form.1 form.2 form.3 found.2 in
    (range.0, form.0 ∙ range.1)

found_three : (text : List ℕ) (form : IsIdentityForm text) → three_numbers text ≡ Some (form.mcc, form.mnc, form.ssi)
found_three text form =
    ap three_numbers form.spelt
    ∙ three_again form.mcc form.mnc form.ssi (all_of_number form.mcc form.numbers.0) (all_of_number form.mnc form.numbers.1) form.numbers.0 form.numbers.1 form.numbers.2

three_form : (text : List ℕ) (p : List ℕ × List ℕ × List ℕ) → three_numbers text ≡ Some p → IsIdentityForm text
three_form text p e = let form = three_only text p e in record { mcc = p.0; mnc = p.1; ssi = p.2; spelt = form.0; numbers = (form.1, form.2, form.3) }

identity_not_bad : (a b c : List ℕ) → identity_of a b c ≡ Err BadText → ⊥
unfolding identity_of
identity_not_bad a b c e = not_bad _ _ e

pub reading_identity_form : (text : List ℕ) → (reading_identity text ≡ Err BadText) ↔ ¬ IsIdentityForm text
unfolding reading_identity
reading_identity_form text = (
  λ e form. judged_bad_then _ (three_numbers text) (λ x. identity_not_bad x.0 x.1 x.2) e (form.mcc, form.mnc, form.ssi) (found_three text form),
  λ no. judged_bad_if _ (three_numbers text) (λ x found. no (three_form text x found)),
)

identity_fault : (a b c : List ℕ) (f : Fault) → identity_of a b c ≡ Err f → f ≡ OutOfRange
unfolding identity_of
identity_fault a b c f e = chosen_err _ _ f e

pub reading_identity_faults : (text : List ℕ) (f : Fault) → reading_identity text ≡ Err f → (f ≡ BadText) ⊎ (f ≡ OutOfRange)
unfolding reading_identity
reading_identity_faults text f e = judged_err _ (three_numbers text) f (λ x. identity_fault x.0 x.1 x.2 f) e

-- ---- prefixes

padded : Path → Path
padded p = p ++ replicate (48 - length p) false

length-padded : (p : Path) → length p ≤ 48 → length (padded p) ≡ 48
unfolding padded
length-padded p le = omega (arith, length-append p (replicate (48 - length p) false), length-replicate (48 - length p) false)

id_path-aligned : (p : Path) → length p ≤ 48 → id_path (left_aligned p) ≡ padded p
unfolding left_aligned padded
id_path-aligned p le = id_path-number (padded p) (length-padded p le)

pub aligned_below : (p : Path) → length p ≤ 48 → left_aligned p < 2 ^ 48
unfolding left_aligned padded
aligned_below p le = rw (length-padded p le) at (number-lt (padded p))

pub zeros_are_none : (k : ℕ) → number (replicate k false) ≡ 0
zeros_are_none k = ap number (sym (num-zero k)) ∙ number-num_mod k 0 ∙ mod-eq_of_lt (pow_pos k)

pub none_are_zeros : (bits : Path) → number bits ≡ 0 → bits ≡ replicate (length bits) false
none_are_zeros bits e = sym (num-number bits) ∙ ap (num (length bits)) e ∙ num-zero (length bits)

prefix_of_again : (p : Path) → length p ≤ 48 → prefix_of (left_aligned p) (length p) ≡ Ok p
unfolding prefix_of padded
prefix_of_again p le =
    let zeros = replicate (48 - length p) false in
    let rest : number (drop (length p) (id_path (left_aligned p))) ≡ 0 = ap (λ (l : Path). number (drop (length p) l)) (id_path-aligned p le) ∙
    ap number (drop_at p zeros (length p) refl) ∙ zeros_are_none (48 - length p) in
    let prefix : take (length p) (id_path (left_aligned p)) ≡ p = ap (take (length p)) (id_path-aligned p le) ∙ take_at p zeros (length p) refl in
    rw (test_by_le (length p) 48 le, eq-eqb _ 0 rest) (ap Ok prefix)

prefix_of_only : (n len : ℕ) (p : Path) → n < 2 ^ 48 → prefix_of n len ≡ Ok p → (length p ≡ len) × (len ≤ 48) × (left_aligned p ≡ n)
unfolding prefix_of left_aligned
prefix_of_only n len p small e =
    let tests = chosen_ok (nat_le len 48 && (number (drop len (id_path n)) == 0)) _ _ p e in
    let each = both_true (nat_le len 48) (number (drop len (id_path n)) == 0) tests.0 in
    let le : len ≤ 48 = le_by_test len 48 each.0 in
    let is : take len (id_path n) ≡ p = ok_same _ p tests.1 in
    let size : length p ≡ len = ap length (sym is) ∙ omega (arith, length-take len (id_path n), length-id_path n) in
    let back : 48 - length p ≡ length (drop len (id_path n)) = omega (arith, length-drop len (id_path n), length-id_path n, size) in
    let zeros : replicate (48 - length p) false ≡ drop len (id_path n) = ap (λ (k : ℕ). replicate k false) back ∙ sym (none_are_zeros (drop len (id_path n)) (grind (arith, nat_tests, each.1))) in
    let whole : p ++ replicate (48 - length p) false ≡ id_path n = (λ i. sym is i ++ zeros i) ∙ take-append-drop len (id_path n) in
    (size, le, ap number whole ∙ number-id_path n small)

slash_free : ℕ → Bool
slash_free c = is_ascii_digit c || (c == 45)

digits_free : (digits : List ℕ) → list_all is_ascii_digit digits ≡ true → list_all slash_free digits ≡ true
unfolding slash_free
digits_free [] all = refl
digits_free (c ∷ digits) all = let each = both_true (is_ascii_digit c) (list_all is_ascii_digit digits) all in rw (each.0, digits_free digits each.1) refl

identity_free : (n : ℕ) → n < 2 ^ 48 → list_all slash_free (identity_text n) ≡ true
unfolding slash_free identity_text
identity_free n small =
    let back = fields_back n small in
    let a = digits_free (decimal (mcc_of n)) (decimal_all (mcc_of n) (omega (arith, back.0))) in
    let b = digits_free (decimal (mnc_of n)) (decimal_all (mnc_of n) (omega (arith, back.1))) in
    let c = digits_free (decimal (ssi_of n)) (decimal_all (ssi_of n) (omega (arith, back.2))) in
    rw (list_all-append slash_free (decimal (mcc_of n) ++ 45 ∷ decimal (mnc_of n)) (45 ∷ decimal (ssi_of n)), list_all-append slash_free (decimal (mcc_of n)) (45 ∷ decimal (mnc_of n)), a, b, c) refl

pub reading_prefix_again : (p : Path) → length p ≤ 48 → reading_prefix (prefix_text p) ≡ Ok p
unfolding reading_prefix prefix_form prefix_text slash_free
reading_prefix_again p le =
    let n = left_aligned p in
    let small = aligned_below p le in
    let len : length p < 2 ^ 64 = omega (arith, le) in
    let slash : slash_free 47 ≡ false = refl in
    rw (
      cut_again slash_free 47 (identity_text n) (decimal (length p)) (identity_free n small) slash,
      identity_again n small,
      number_of_decimal (length p) len,
      identity_of_again n small,
      value-decimal (length p) len,
    )
    (prefix_of_again p le)

within_ok : (len : ℕ) (r : Result ℕ Fault) (p : Path) → prefix_within len r ≡ Ok p → (n : ℕ) × (r ≡ Ok n) × (prefix_of n len ≡ Ok p)
within_ok len (Err f) p e = absurd (err_ok f p e)
within_ok len (Ok n) p e = (n, refl, e)

within_only : (a b c len : List ℕ) (p : Path) → is_number a ≡ true → is_number b ≡ true → is_number c ≡ true → is_number len ≡ true → prefix_within (value len) (identity_of a b c) ≡ Ok p
    → (length p ≤ 48) × (a ++ 45 ∷ b ++ 45 ∷ c ++ 47 ∷ len ≡ prefix_text p)
unfolding prefix_text
within_only a b c len p na nb nc nl e =
    let found = within_ok (value len) (identity_of a b c) p e in
    let range = identity_of_only a b c found.0 na nb nc found.1 in
    let bits = prefix_of_only found.0 (value len) p range.0 found.2 in
    let prefix : a ++ 45 ∷ b ++ 45 ∷ c ≡ identity_text (left_aligned p) = range.1 ∙ ap identity_text (sym bits.2) in
    let back : len ≡ decimal (length p) = sym (decimal_of_number len nl (omega (arith, bits.1))) ∙ ap decimal (sym bits.0) in
    (omega (arith, bits.0, bits.1), λ i. prefix i ++ 47 ∷ back i)

Form : List ℕ → (List ℕ × List ℕ × List ℕ) × List ℕ → Type 0
Form text q = (text ≡ q.0.0 ++ 45 ∷ q.0.1 ++ 45 ∷ q.0.2 ++ 47 ∷ q.1) × (is_number q.0.0 ≡ true) × (is_number q.0.1 ≡ true) × (is_number q.0.2 ≡ true) × (is_number q.1 ≡ true)

form_only : (text : List ℕ) (q : (List ℕ × List ℕ × List ℕ) × List ℕ) → prefix_form text ≡ Some q → Form text q
unfolding prefix_form Form
form_only text q e =
    let first = then_some _ (cut 47 text) q e in
    let second = then_some _ (three_numbers (first.0).0) q first.2 in
    let third = chosen_some (is_number (first.0).1) _ q second.2 in
    let same : (second.0, (first.0).1) ≡ q = some_is _ q third.1 in
    let three = three_only (first.0).0 second.0 second.1 in
    let whole : text ≡ (second.0).0 ++ 45 ∷ (second.0).1 ++ 45 ∷ (second.0).2 ++ 47 ∷ (first.0).1 = cut_only 47 text first.0 first.1 ∙ ap (λ (t : List ℕ). t ++ 47 ∷ (first.0).1) three.0 in
    subst (Form text) same (whole, three.1, three.2, three.3, third.0)

pub reading_prefix_only : (p : Path) (text : List ℕ) → reading_prefix text ≡ Ok p → (length p ≤ 48) × (text ≡ prefix_text p)
unfolding reading_prefix Form
reading_prefix_only p text e =
    let found = judged_ok _ (prefix_form text) p e in
    let form = form_only text found.0 found.1 in
    let range = within_only ((found.0).0).0 ((found.0).0).1 ((found.0).0).2 (found.0).1 p form.1 form.2 form.3 form.4 found.2 in
    (range.0, form.0 ∙ range.1)

form_found : (text : List ℕ) (q : (List ℕ × List ℕ × List ℕ) × List ℕ) → prefix_form text ≡ Some q → IsPrefixForm text
unfolding prefix_form
form_found text q e =
    let first = then_some _ (cut 47 text) q e in
    let second = then_some _ (three_numbers (first.0).0) q first.2 in
    let third = chosen_some (is_number (first.0).1) _ q second.2 in
    record { identity = (first.0).0; len = (first.0).1; spelt = cut_only 47 text first.0 first.1; form = three_form (first.0).0 second.0 second.1; number = third.0 }

-- an identity's form has no slash
form_free : (text : List ℕ) → IsIdentityForm text → list_all slash_free text ≡ true
unfolding slash_free
form_free text form =
    let a = digits_free form.mcc (all_of_number form.mcc form.numbers.0) in
    let b = digits_free form.mnc (all_of_number form.mnc form.numbers.1) in
    let c = digits_free form.ssi (all_of_number form.ssi form.numbers.2) in
    ap (list_all slash_free) form.spelt
    ∙ rw (list_all-append slash_free (form.mcc ++ 45 ∷ form.mnc) (45 ∷ form.ssi), list_all-append slash_free form.mcc (45 ∷ form.mnc), a, b, c) refl

found_prefix : (text : List ℕ) (form : IsPrefixForm text) → prefix_form text ≡ Some ((form.form.mcc, form.form.mnc, form.form.ssi), form.len)
unfolding prefix_form slash_free
found_prefix text form =
    let slash : slash_free 47 ≡ false = refl in
    let parts : cut 47 text ≡ Some (form.identity, form.len) = ap (cut 47) form.spelt ∙ cut_again slash_free 47 form.identity form.len (form_free form.identity form.form) slash in
    rw (parts, found_three form.identity form.form, form.number) refl

within_not_bad : (len : ℕ) (r : Result ℕ Fault) → (r ≡ Err BadText → ⊥) → prefix_within len r ≡ Err BadText → ⊥
unfolding prefix_of
within_not_bad len (Err f) fine e = fine (ap Err (err_same f BadText e))
within_not_bad len (Ok n) fine e = not_bad _ _ e

pub reading_prefix_form : (text : List ℕ) → (reading_prefix text ≡ Err BadText) ↔ ¬ IsPrefixForm text
unfolding reading_prefix
reading_prefix_form text = (
  λ e form. judged_bad_then _ (prefix_form text) (λ x. within_not_bad (value x.1) (identity_of (x.0).0 (x.0).1 (x.0).2) (identity_not_bad (x.0).0 (x.0).1 (x.0).2)) e _ (found_prefix text form),
  λ no. judged_bad_if _ (prefix_form text) (λ x found. no (form_found text x found)),
)

within_fault : (len : ℕ) (r : Result ℕ Fault) (f : Fault) → (r ≡ Err f → f ≡ OutOfRange) → prefix_within len r ≡ Err f → f ≡ OutOfRange
unfolding prefix_of
within_fault len (Err g) f far e = far (ap Err (err_same g f e))
within_fault len (Ok n) f far e = chosen_err _ _ f e

pub reading_prefix_faults : (text : List ℕ) (f : Fault) → reading_prefix text ≡ Err f → (f ≡ BadText) ⊎ (f ≡ OutOfRange)
unfolding reading_prefix
reading_prefix_faults text f e = judged_err _ (prefix_form text) f (λ x. within_fault (value x.1) (identity_of (x.0).0 (x.0).1 (x.0).2) f (identity_fault (x.0).0 (x.0).1 (x.0).2 f)) e

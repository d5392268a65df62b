-- A prefix beside an identity.
use Rattle.std.proofs.Common.{◌≡◌, ℕ, ◌+◌, ◌-◌, ◌*◌, ◌/◌, ◌%◌, ◌^◌, ◌<◌, ◌≤◌, nat_eq, List, Bool, length, take, drop, replicate, false, ◌++◌, nat_le}
use Rattle.std.proofs.Common.{true, refl, Ok, Err, inl, inr, ap, sym, ◌∙◌, subst, arith}
use Rattle.std.specs.Prelude.{◌==◌}
use Rattle.std.proofs.lemmas.Bool.{cases_eq, ne_eqb}
use Rattle.std.proofs.lemmas.Bool.Decides.{nat_tests}
use Rattle.std.proofs.lemmas.Nat.{shl_whole, shl_below}
use Rattle.identity.specs.Number.{num, number}
use Rattle.identity.specs.Inside.NumberLaws.{length-num, number-num, number-num_mod, zeros_if, zeros_then}
use Rattle.identity.specs.Path.{Path, id_path, left_aligned, begins}
use Rattle.identity.specs.IdentityText.{prefix_of}
use Rattle.identity.specs.declared.fault.Fault.TheVariants.{OutOfRange}
use Rattle.identity.specs.Inside.PathLaws.{length-id_path, number-id_path, id_path-mod, take-id, drop-id, first_bits_fit, aligned, begins_test}

-- the test of the fields says whether the bits begin the identity's
pub begins_bits : (n a v : ℕ) → n ≤ 48 → a < 2 ^ n → nat_eq (v % 2 ^ 48 / 2 ^ (48 - n)) a ≡ begins (num n a) (id_path v)
begins_bits n a v le fits =
    let x = v % 2 ^ 48 / 2 ^ (48 - n) in
    let below : x < 2 ^ n = first_bits_fit n (v % 2 ^ 48) le (omega arith) in
    let prefix : take n (id_path v) ≡ num n x = ap (take n) (sym (id_path-mod v)) ∙ take-id n (v % 2 ^ 48) le in
    let here : take (length (num n a)) (id_path v) ≡ num n x = ap (λ (k : ℕ). take k (id_path v)) (length-num n a) ∙ prefix in
    begins_test (nat_eq x a) (num n a) (id_path v)
    (omega (arith, length-num n a, length-id_path v))
    (λ t. let same : x ≡ a = grind (arith, nat_tests) in ap (num n) (sym same) ∙ sym here)
    (λ e. let same : a ≡ x = sym (number-num n a fits) ∙ ap number (e ∙ here) ∙ number-num n x below in grind (arith, nat_tests))

-- a prefix at the left of 48 bits
pub bits_value : (n a : ℕ) → n ≤ 48 → a < 2 ^ n → id_path (a * 2 ^ (48 - n) % 2 ^ 64) ≡ num n a ++ replicate (48 - length (num n a)) false
bits_value n a le fits =
    ap id_path (shl_whole a n (48 - n) 64 fits (omega arith)) ∙ aligned n a le ∙ ap (λ (k : ℕ). num n a ++ replicate (48 - k) false) (sym (length-num n a))

pub bits_below : (n a : ℕ) → n ≤ 48 → a < 2 ^ n → a * 2 ^ (48 - n) % 2 ^ 64 < 2 ^ 48
bits_below n a le fits =
    let small = shl_below a n (48 - n) fits in
    let e : n + (48 - n) ≡ 48 = omega arith in
    rw (shl_whole a n (48 - n) 64 fits (omega arith)) (subst (λ m. a * 2 ^ (48 - n) < 2 ^ m) e small)

pub is_left_aligned : (p : Path) (v : ℕ) → id_path v ≡ p ++ replicate (48 - length p) false → v < 2 ^ 48 → v ≡ left_aligned p
unfolding left_aligned
is_left_aligned p v is below = sym (number-id_path v below) ∙ ap number is

-- bits past a prefix are 0 where the number is a multiple
pub rest_if : (n v : ℕ) → n ≤ 48 → v % 2 ^ (48 - n) ≡ 0 → drop n (id_path v) ≡ replicate (48 - n) false
rest_if n v le e = drop-id n v le ∙ zeros_if (48 - n) v e

pub rest_then : (n v : ℕ) → n ≤ 48 → drop n (id_path v) ≡ replicate (48 - n) false → v % 2 ^ (48 - n) ≡ 0
rest_then n v le e = zeros_then (48 - n) v (sym (drop-id n v le) ∙ e)

-- the test for zeros past a prefix
blank : (k v : ℕ) → (number (num k v) == 0) ≡ (v % 2 ^ k == 0)
blank k v = ap (λ (n : ℕ). n == 0) (number-num_mod k v)

pub prefix_some : (v n : ℕ) (p : Path) → n ≤ 48 → drop n (id_path v) ≡ replicate (48 - n) false → p ≡ take n (id_path v) → Ok p ≡ prefix_of v n
unfolding prefix_of
prefix_some v n p le rest is =
    let zero : v % 2 ^ (48 - n) ≡ 0 = rest_then n v le rest in
    let test : (number (drop n (id_path v)) == 0) ≡ true = ap (λ (l : List Bool). number l == 0) (drop-id n v le) ∙ blank (48 - n) v ∙ ap (λ (m : ℕ). m == 0) zero in
    let short : nat_le n 48 ≡ true = grind (arith, le) in
    rw (test, short) (ap Ok is)

pub prefix_none : (v n : ℕ) → n ≤ 48 → (drop n (id_path v) ≡ replicate (48 - n) false → ⊥) → Err OutOfRange ≡ prefix_of v n
unfolding prefix_of
prefix_none v n le rest =
    elim (cases_eq (number (drop n (id_path v))) 0) [
      | inl same ↦
          let zero : v % 2 ^ (48 - n) ≡ 0 = sym (number-num_mod (48 - n) v) ∙ ap number (sym (drop-id n v le)) ∙ same in
          absurd (rest (rest_if n v le zero))
      | inr other ↦
          let test : (number (drop n (id_path v)) == 0) ≡ false = ne_eqb (number (drop n (id_path v))) 0 other in
          let short : nat_le n 48 ≡ true = grind (arith, le) in
          rw (test, short) refl
    ]

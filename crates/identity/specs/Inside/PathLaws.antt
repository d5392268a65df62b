-- Laws of an identity's bits, and of the order of lists of bits.
use Rattle.std.proofs.Common.{◌≡◌, ℕ, ◌+◌, ◌-◌, ◌*◌, ◌/◌, ◌%◌, ◌^◌, ◌<◌, ◌≤◌, Bool, true, false, List, [], ◌∷◌}
use Rattle.std.proofs.Common.{◌++◌, length, take, drop, replicate, refl, ap, sym, ◌∙◌, subst, add-zero, arith}
use Rattle.std.proofs.lemmas.Nat.{shr_below, shl-shr, mod-mul-add, pow_pos}
use Rattle.std.proofs.lemmas.List.{take-append-drop}
use Rattle.std.proofs.lemmas.Bool.Decides.{nat_tests}
use mathlib.Core.Bool.{false≢true}
use Rattle.std.specs.Prelude.{IsTrue}
use Rattle.std.specs.Ordering.{bool_cmp, eq_by_cmp, is_eq}
use Rattle.std.specs.declared.cmp.Ordering.TheVariants.{Less, Equal, Greater}
use Rattle.std.specs.Cmp.{IsTotalOrder, bool_cmp_total, eq_by_cmp_equiv}
use Rattle.std.specs.Cmp.Lexicographic.{lists_total}
use Rattle.std.specs.FinMap.{IsAntisymmetric, slice_cmp-IsAntisymmetric}
use Rattle.identity.specs.Number.{num, number}
use Rattle.identity.specs.Inside.NumberLaws.{length-num, number-num, num-number, num-mod, take-num, drop-num, zeros_if}
use Rattle.identity.specs.Path.{Path, path_cmp, id_path, begins}

pub length-id_path : (v : ℕ) → length (id_path v) ≡ 48
unfolding id_path
length-id_path v = length-num 48 v

-- an identity is the number of its bits, and higher bits do not matter
pub number-id_path : (v : ℕ) → v < 2 ^ 48 → number (id_path v) ≡ v
unfolding id_path
number-id_path v lt = number-num 48 v lt

pub id_path-number : (p : Path) → length p ≡ 48 → id_path (number p) ≡ p
unfolding id_path
id_path-number p e = rw e at (num-number p)

pub id_path-mod : (v : ℕ) → id_path (v % 2 ^ 48) ≡ id_path v
unfolding id_path
id_path-mod v = num-mod 48 v

-- two identities with the same bits are one
pub id_path-injective : (a b : ℕ) → a < 2 ^ 48 → b < 2 ^ 48 → id_path a ≡ id_path b → a ≡ b
id_path-injective a b low high e = sym (number-id_path a low) ∙ ap number e ∙ number-id_path b high

-- the first n bits of an identity, and the others
pub take-id : (n v : ℕ) → n ≤ 48 → take n (id_path v) ≡ num n (v / 2 ^ (48 - n))
unfolding id_path
take-id n v le = take-num n 48 v le

pub drop-id : (n v : ℕ) → n ≤ 48 → drop n (id_path v) ≡ num (48 - n) v
unfolding id_path
drop-id n v le = drop-num n 48 v le

-- the first bits of an identity are a number that fits them
pub first_bits_fit : (n v : ℕ) → n ≤ 48 → v < 2 ^ 48 → v / 2 ^ (48 - n) < 2 ^ n
first_bits_fit n v small fits = let e : 48 ≡ n + (48 - n) = omega arith in shr_below v n (48 - n) (subst (λ m. v < 2 ^ m) e fits)

whole_mod : (a k : ℕ) → a * 2 ^ k % 2 ^ k ≡ 0
whole_mod a k = subst (λ n. n % 2 ^ k ≡ 0) (add-zero (a * 2 ^ k)) (mod-mul-add a (2 ^ k) 0 (pow_pos k))

-- the identity of n bits and only zeros after them
pub aligned : (n a : ℕ) → n ≤ 48 → id_path (a * 2 ^ (48 - n)) ≡ num n a ++ replicate (48 - n) false
aligned n a small =
    let v = a * 2 ^ (48 - n) in
    let prefix : take n (id_path v) ≡ num n a = take-id n v small ∙ ap (num n) (shl-shr a (48 - n)) in
    let back : drop n (id_path v) ≡ replicate (48 - n) false = drop-id n v small ∙ zeros_if (48 - n) v (whole_mod a (48 - n)) in
    sym (take-append-drop n (id_path v)) ∙ ap (λ (l : List Bool). l ++ drop n (id_path v)) prefix ∙ ap (λ (l : List Bool). num n a ++ l) back

-- a list begins another where it is what the other begins with
pub begins_if : (p q : Path) → length p ≤ length q → p ≡ take (length p) q → begins p q ≡ true
begins_if [] q le e = refl
begins_if (b ∷ p) [] le e = absurd (omega arith)
begins_if (true ∷ p) (true ∷ q) le e = begins_if p q (omega arith) (ap (drop 1) e)
begins_if (false ∷ p) (false ∷ q) le e = begins_if p q (omega arith) (ap (drop 1) e)
begins_if (true ∷ p) (false ∷ q) le e = cc
begins_if (false ∷ p) (true ∷ q) le e = cc

pub begins_then : (p q : Path) → begins p q ≡ true → p ≡ take (length p) q
begins_then [] q e = refl
begins_then (b ∷ p) [] e = absurd (false≢true e)
begins_then (true ∷ p) (true ∷ q) e = ap (λ (l : List Bool). true ∷ l) (begins_then p q e)
begins_then (false ∷ p) (false ∷ q) e = ap (λ (l : List Bool). false ∷ l) (begins_then p q e)
begins_then (true ∷ p) (false ∷ q) e = absurd (false≢true e)
begins_then (false ∷ p) (true ∷ q) e = absurd (false≢true e)

-- a test that decides whether a list begins another
pub begins_test : (r : Bool) (p q : Path) → length p ≤ length q → (IsTrue r → p ≡ take (length p) q) → (p ≡ take (length p) q → IsTrue r) → r ≡ begins p q
begins_test true p q le so thus = sym (begins_if p q le (so refl))
begins_test false p q le so thus =
    elim (begins p q) as (λ b. begins p q ≡ b → false ≡ b) [
      | true ↦ λ e. thus (begins_then p q e)
      | false ↦ λ e. refl
    ] refl

-- the order of paths is total, and only equal paths tie
pub paths_total : IsTotalOrder path_cmp
paths_total = lists_total bool_cmp_total

bits_exact : IsAntisymmetric bool_cmp
bits_exact true true e = refl
bits_exact false false e = refl
bits_exact true false e = grind (arith, nat_tests)
bits_exact false true e = grind (arith, nat_tests)

pub paths_exact : IsAntisymmetric path_cmp
paths_exact = slice_cmp-IsAntisymmetric bits_exact

pub tied : (p : Path) → eq_by_cmp path_cmp p p ≡ true
tied p = (eq_by_cmp_equiv paths_total).refl p

-- a test that decides whether two paths are one is the order's
pub same_test : (r : Bool) (p q : Path) → (IsTrue r → p ≡ q) → (p ≡ q → IsTrue r) → r ≡ eq_by_cmp path_cmp p q
same_test true p q so thus = sym (subst (λ z. eq_by_cmp path_cmp p z ≡ true) (so refl) (tied p))
same_test false p q so thus =
    elim (path_cmp p q) as (λ o. path_cmp p q ≡ o → false ≡ is_eq o) [
      | Less ↦ λ e. refl
      | Equal ↦ λ e. thus (paths_exact p q e)
      | Greater ↦ λ e. refl
    ] refl

-- only equal paths tie
pub tie_exact : (p q : Path) → eq_by_cmp path_cmp p q ≡ true → p ≡ q
tie_exact p q e =
    elim (path_cmp p q) as (λ o. path_cmp p q ≡ o → is_eq o ≡ true → p ≡ q) [
      | Less ↦ λ f g. absurd (false≢true g)
      | Equal ↦ λ f g. paths_exact p q f
      | Greater ↦ λ f g. absurd (false≢true g)
    ] refl e

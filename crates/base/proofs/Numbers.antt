-- Numbers and the tests that compare them.
use Rattle.std.proofs.Common.{◌≡◌, ℕ, arith, eqb, true≢false, true, ◌<◌, nat_le, ◌≤◌, ◌^◌, ◌+◌, ◌*◌, ap, suc, refl, zero, false}
use Rattle.std.proofs.Math.Nat.{pow-succ'}
use Rattle.std.proofs.lemmas.Bool.Decides.{nat_tests}
use Rattle.std.proofs.lemmas.Nat.{pow-add}
use Rattle.std.specs.Ordering.{ordering_index, MatchOrdering}
use Rattle.std.specs.Prelude.{◌==◌, nat_lt, ◌&&◌}
use Rattle.std.specs.declared.cmp.Ordering.{Ordering}
use Rattle.std.specs.declared.cmp.Ordering.TheVariants.{Equal, Less, Greater}

pub same_by_test : (a b : ℕ) → (a == b) ≡ true → a ≡ b
same_by_test a b h = grind (arith, nat_tests)

pub above_none : (n m : ℕ) → (nat_lt 0 n && nat_le n m) ≡ true → (0 < n) × (n ≤ m)
above_none n m h = grind (arith, nat_tests)

pub test_by_same : (n m : ℕ) → n ≡ m → (n == m) ≡ true
test_by_same n m e = grind (arith, nat_tests)

pub same_test : (n : ℕ) → (n == n) ≡ true
same_test n = grind (arith, nat_tests)

pub pow_256 : (w : ℕ) → 256 ^ w ≡ 2 ^ (8 * w)
pow_256 zero = refl
pow_256 (suc w) = let e : 8 * suc w ≡ 8 + 8 * w = omega arith in rw (pow-succ' 256 w, e, pow-add 2 8 (8 * w)) (ap (λ (n : ℕ). 256 * n) (pow_256 w))

pub le_by_test : (a b : ℕ) → nat_le a b ≡ true → a ≤ b
le_by_test a b e = grind (arith, e)

pub less_not_same : (a b : ℕ) → a < b → (a == b) ≡ false
less_not_same a b below = grind (arith, nat_tests)

pub at_most_two : (o : Ordering) → ordering_index o ≤ 2
at_most_two Less = omega arith
at_most_two Equal = omega arith
at_most_two Greater = omega arith

pub test_by_le : (a b : ℕ) → a ≤ b → nat_le a b ≡ true
test_by_le a b le = grind (arith, le)

pub more_not_same : (a b : ℕ) → a < b → (b == a) ≡ false
more_not_same a b below = grind (arith, nat_tests)

pub first_less : (x y : ℕ) (order : Ordering) → MatchOrdering order (x < y) (x ≡ y) (y < x) → x < y → order ≡ Less
first_less x y Less h below = refl
first_less x y Equal h below = absurd (omega (arith, h, below))
first_less x y Greater h below = absurd (omega (arith, h, below))

pub test_by_less : (a b : ℕ) → a < b → nat_lt a b ≡ true
test_by_less a b lt = grind (arith, nat_tests)

pub not_zero : (n : ℕ) → eqb n 0 ≡ false → 0 < n
not_zero zero e = absurd (true≢false e)
not_zero (suc n) e = omega arith

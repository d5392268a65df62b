-- Paths as numbers, beside one another.
use Rattle.std.proofs.Common.{◌≡◌, ℕ, ◌+◌, ◌-◌, ◌*◌, ◌/◌, ◌%◌, ◌^◌, ◌<◌, ◌≤◌, nat_eq, Bool, true, false, [], ◌∷◌, ◌++◌, length, take, inl, inr, refl, sym, ap, subst, ◌∙◌, arith}
use Rattle.std.proofs.lemmas.Bool.Decides.{nat_tests}
use Rattle.std.proofs.lemmas.Nat.{shr_below, shl_whole}
use Rattle.std.proofs.lemmas.List.{take_at}
use Rattle.std.specs.Prelude.{◌==◌, ◌⊎◌}
use mathlib.Core.Bool.{false≢true}
use Rattle.identity.specs.Number.{num, number}
use Rattle.identity.specs.Inside.NumberLaws.{length-num, number-num, num-append, take-num}
use Rattle.identity.specs.Path.{Path, begins, id_path}
use Rattle.identity.specs.Inside.PathLaws.{begins_test, aligned}
use Rattle.prefix_tree.specs.Inside.Paths.{common}
use Rattle.prefix_tree.proofs.Begins.{begins_length}

pub fits_cut : (w n b : ℕ) → w ≤ n → b < 2 ^ n → b / 2 ^ (n - w) < 2 ^ w
fits_cut w n b le fits = let e : n ≡ w + (n - w) = omega arith in shr_below b w (n - w) (subst (λ m. b < 2 ^ m) e fits)

pub begins_numbers : (p q : Path) (a b : ℕ) → a < 2 ^ length p → b < 2 ^ length q → num (length p) a ≡ p → num (length q) b ≡ q →
    length p ≤ length q → nat_eq (b / 2 ^ (length q - length p)) a ≡ begins p q
begins_numbers p q a b small fits pa qb le =
    let x = b / 2 ^ (length q - length p) in
    let prefix : take (length p) q ≡ num (length p) x = ap (take (length p)) (sym qb) ∙ take-num (length p) (length q) b le in
    begins_test (nat_eq x a) p q le
    (λ t. let same : a ≡ x = grind (arith, nat_tests) in sym pa ∙ ap (num (length p)) same ∙ sym prefix)
    (λ e. let same : a ≡ x = sym (number-num (length p) a small) ∙ ap number (pa ∙ e ∙ prefix) ∙ number-num (length p) x (fits_cut (length p) (length q) b le fits) in grind (arith, nat_tests))

pub too_long : (p q : Path) → length q < length p → false ≡ begins p q
too_long p q longer = never (begins p q) (λ so. let h = begins_length p q so in absurd (omega (arith, h, longer)))
  where
    never : (b : Bool) → (b ≡ true → ⊥) → false ≡ b
    never true h = absurd (h refl)
    never false h = refl

pub begins_prefix : (p r : Path) → begins p (p ++ r) ≡ true
begins_prefix [] r = refl
begins_prefix (true ∷ p) r = begins_prefix p r
begins_prefix (false ∷ p) r = begins_prefix p r

num_one : (y : ℕ) → num 1 y ≡ nat_eq (y % 2) 1 ∷ []
unfolding num
num_one y = let e : y / 2 ^ 0 % 2 ≡ y % 2 = omega arith in ap (λ n. (n == 1) ∷ []) e

-- the bits come apart after the first so many and one more
parts : (w n b : ℕ) → w < n → num n b ≡ (num w (b / 2 ^ (n - w - 1) / 2 ^ 1) ++ nat_eq (b / 2 ^ (n - w - 1) % 2) 1 ∷ []) ++ num (n - w - 1) b
parts w n b lt =
    let e : w + 1 + (n - w - 1) ≡ n = omega arith in
    subst (λ m. num m b ≡ (num w (b / 2 ^ (n - w - 1) / 2 ^ 1) ++ nat_eq (b / 2 ^ (n - w - 1) % 2) 1 ∷ []) ++ num (n - w - 1) b) e
    (num-append (w + 1) (n - w - 1) b ∙
    ap (λ (l : Path). l ++ num (n - w - 1) b)
    (num-append w 1 (b / 2 ^ (n - w - 1)) ∙ ap (λ (l : Path). num w (b / 2 ^ (n - w - 1) / 2 ^ 1) ++ l) (num_one (b / 2 ^ (n - w - 1)))))

same_prefix : (p l r : Path) (c : Bool) → length l ≡ length p → begins p ((l ++ c ∷ []) ++ r) ≡ true → p ≡ l
same_prefix [] [] r c e b = refl
same_prefix [] (d ∷ l) r c e b = absurd (omega (arith, e))
same_prefix (d ∷ p) [] r c e b = absurd (omega (arith, e))
same_prefix (true ∷ p) (true ∷ l) r c e b = ap (λ (z : Path). true ∷ z) (same_prefix p l r c (omega (arith, e)) b)
same_prefix (false ∷ p) (false ∷ l) r c e b = ap (λ (z : Path). false ∷ z) (same_prefix p l r c (omega (arith, e)) b)
same_prefix (true ∷ p) (false ∷ l) r c e b = absurd (false≢true b)
same_prefix (false ∷ p) (true ∷ l) r c e b = absurd (false≢true b)

pub side_number : (p q : Path) (b : ℕ) → num (length q) b ≡ q → length p < length q → begins p q ≡ true → begins (p ++ nat_eq (b / 2 ^ (length q - length p - 1) % 2) 1 ∷ []) q ≡ true
side_number p q b qb lt within =
    let k = length q - length p - 1 in
    let l = num (length p) (b / 2 ^ k / 2 ^ 1) in
    let c = nat_eq (b / 2 ^ k % 2) 1 in
    let split : q ≡ (l ++ c ∷ []) ++ num k b = sym qb ∙ parts (length p) (length q) b lt in
    let same : p ≡ l = same_prefix p l (num k b) c (length-num (length p) _) (subst (λ z. begins p z ≡ true) split within) in
    subst (λ (z : Path). begins (z ++ c ∷ []) q ≡ true) (sym same) (subst (λ z. begins (l ++ c ∷ []) z ≡ true) (sym split) (begins_prefix (l ++ c ∷ []) (num k b)))

-- what begins both of two paths
pub common_self : (p : Path) → common p p ≡ p
common_self [] = refl
common_self (true ∷ p) = ap (λ (z : Path). true ∷ z) (common_self p)
common_self (false ∷ p) = ap (λ (z : Path). false ∷ z) (common_self p)

common_cut_first : (p r q : Path) → length q ≤ length p → common (p ++ r) q ≡ common p q
common_cut_first [] [] [] le = refl
common_cut_first [] (c ∷ r) [] le = refl
common_cut_first [] r (c ∷ q) le = absurd (omega (arith, le))
common_cut_first (c ∷ p) r [] le = refl
common_cut_first (true ∷ p) r (true ∷ q) le = ap (λ (z : Path). true ∷ z) (common_cut_first p r q (omega (arith, le)))
common_cut_first (false ∷ p) r (false ∷ q) le = ap (λ (z : Path). false ∷ z) (common_cut_first p r q (omega (arith, le)))
common_cut_first (true ∷ p) r (false ∷ q) le = refl
common_cut_first (false ∷ p) r (true ∷ q) le = refl

common_turned : (p q : Path) → common p q ≡ common q p
common_turned [] [] = refl
common_turned [] (c ∷ q) = refl
common_turned (c ∷ p) [] = refl
common_turned (true ∷ p) (true ∷ q) = ap (λ (z : Path). true ∷ z) (common_turned p q)
common_turned (false ∷ p) (false ∷ q) = ap (λ (z : Path). false ∷ z) (common_turned p q)
common_turned (true ∷ p) (false ∷ q) = refl
common_turned (false ∷ p) (true ∷ q) = refl

common_ends : (p q : Path) (x y : Bool) → length p ≡ length q → (p ++ x ∷ [] ≡ q ++ y ∷ [] → ⊥) → common (p ++ x ∷ []) (q ++ y ∷ []) ≡ common p q
common_ends [] [] true true e apart = absurd (apart refl)
common_ends [] [] false false e apart = absurd (apart refl)
common_ends [] [] true false e apart = refl
common_ends [] [] false true e apart = refl
common_ends [] (c ∷ q) x y e apart = absurd (omega (arith, e))
common_ends (c ∷ p) [] x y e apart = absurd (omega (arith, e))
common_ends (true ∷ p) (true ∷ q) x y e apart = ap (λ (z : Path). true ∷ z) (common_ends p q x y (omega (arith, e)) (λ h. apart (ap (λ (z : Path). true ∷ z) h)))
common_ends (false ∷ p) (false ∷ q) x y e apart = ap (λ (z : Path). false ∷ z) (common_ends p q x y (omega (arith, e)) (λ h. apart (ap (λ (z : Path). false ∷ z) h)))
common_ends (true ∷ p) (false ∷ q) x y e apart = refl
common_ends (false ∷ p) (true ∷ q) x y e apart = refl

cut_num : (w n b : ℕ) → w ≤ n → num n b ≡ num w (b / 2 ^ (n - w)) ++ num (n - w) b
cut_num w n b le = let e : w + (n - w) ≡ n = omega arith in subst (λ m. num m b ≡ num w (b / 2 ^ (n - w)) ++ num (n - w) b) e (num-append w (n - w) b)

-- only the first bits of the longer one matter
pub common_cut : (p q : Path) (a b w : ℕ) → num (length p) a ≡ p → num (length q) b ≡ q → w ≤ length p → w ≤ length q → (length q ≤ w) ⊎
    (length p ≤ w) → common p q ≡ common (num w (a / 2 ^ (length p - w))) (num w (b / 2 ^ (length q - w)))
common_cut p q a b w pa qb lp lq one =
    let x = num w (a / 2 ^ (length p - w)) in
    let y = num w (b / 2 ^ (length q - w)) in
    let sp : p ≡ x ++ num (length p - w) a = sym pa ∙ cut_num w (length p) a lp in
    let sq : q ≡ y ++ num (length q - w) b = sym qb ∙ cut_num w (length q) b lq in
    let lx : length x ≡ w = length-num w _ in
    let ly : length y ≡ w = length-num w _ in
    elim one [
      | inl short ↦ ap (λ z. common z q) sp ∙ common_cut_first x (num (length p - w) a) q (omega (arith, lx, short)) ∙ common_turned x q ∙
          ap (λ z. common z x) sq ∙ common_cut_first y (num (length q - w) b) x (omega (arith, lx, ly)) ∙ common_turned y x
      | inr short ↦ common_turned p q ∙ ap (λ z. common z p) sq ∙ common_cut_first y (num (length q - w) b) p (omega (arith, ly, short)) ∙
          common_turned y p ∙ ap (λ z. common z y) sp ∙ common_cut_first x (num (length p - w) a) y (omega (arith, lx, ly))
    ]

last_bit : (w a : ℕ) → 0 < w → num w a ≡ num (w - 1) (a / 2) ++ nat_eq (a % 2) 1 ∷ []
last_bit w a some =
    let e : w - 1 + 1 ≡ w = omega arith in
    let h : a / 2 ^ 1 ≡ a / 2 = omega arith in
    subst (λ m. num m a ≡ num (w - 1) (a / 2) ++ nat_eq (a % 2) 1 ∷ []) e (num-append (w - 1) 1 a ∙ (λ i. num (w - 1) (h i) ++ num_one a i))

-- where two numbers of as many bits differ, their last bits do not matter
pub common_step : (w a b : ℕ) → 0 < w → a < 2 ^ w → b < 2 ^ w → (a ≡ b → ⊥) → common (num w a) (num w b) ≡ common (num (w - 1) (a / 2)) (num (w - 1) (b / 2))
common_step w a b some fa fb differ =
    (λ i. common (last_bit w a some i) (last_bit w b some i))
    ∙ common_ends (num (w - 1) (a / 2)) (num (w - 1) (b / 2)) _ _ (length-num (w - 1) _ ∙ sym (length-num (w - 1) _))
    (λ same. differ (sym (number-num w a fa) ∙ ap number (last_bit w a some ∙ same ∙ sym (last_bit w b some)) ∙ number-num w b fb))

pub half_fits : (w a : ℕ) → 0 < w → a < 2 ^ w → a / 2 < 2 ^ (w - 1)
half_fits w a some fits =
    let e : w ≡ w - 1 + 1 = omega arith in
    let h : a / 2 ^ 1 ≡ a / 2 = omega arith in
    subst (λ n. n < 2 ^ (w - 1)) h (shr_below a (w - 1) 1 (subst (λ m. a < 2 ^ m) e fits))

-- a number at the left of 48 bits
pub taken : (n a : ℕ) → n ≤ 48 → a < 2 ^ n → take n (id_path (a * 2 ^ (48 - n) % 2 ^ 64)) ≡ num n a
taken n a le fits =
    ap (λ v. take n (id_path v)) (shl_whole a n (48 - n) 64 fits (omega arith)) ∙ ap (take n) (aligned n a le) ∙ take_at (num n a) _ n (length-num n a)

pub none_left : (w a b : ℕ) → w ≡ 0 → common (num w a) (num w b) ≡ num w a
unfolding num
none_left w a b e = subst (λ n. common (num n a) (num n b) ≡ num n a) (sym e) refl

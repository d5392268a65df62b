-- Prefixes in order: by their bits at the left of 48 with zeros after them, and where these tie by their length.
use Rattle.std.proofs.Common.{◌≡◌, ℕ, zero, suc, ◌+◌, ◌-◌, ◌*◌, ◌^◌, ◌<◌, ◌≤◌, true, false, [], ◌∷◌, ◌++◌, length, replicate, refl, sym, ap, ◌∙◌, length-append, arith}
use Rattle.std.specs.declared.cmp.Ordering.{Ordering}
use Rattle.std.specs.declared.cmp.Ordering.TheVariants.{Less, Equal, Greater}
use Rattle.std.specs.Ordering.{nat_cmp, ordering_then}
use Rattle.std.proofs.Math.ListN.{length-replicate}
use Rattle.std.proofs.lemmas.Bool.Decides.{nat_tests}
use Rattle.identity.specs.Number.{number}
use Rattle.identity.specs.Inside.NumberLaws.{number-lt}
use Rattle.identity.specs.Path.{Path, path_cmp, id_path}
use Rattle.identity.specs.Inside.PathLaws.{length-id_path, number-id_path}

above : (k x y : ℕ) → x < 2 ^ k → nat_cmp (1 * 2 ^ k + y) (0 * 2 ^ k + x) ≡ Greater
above k x y lt = grind (arith, nat_tests)

below : (k x y : ℕ) → x < 2 ^ k → nat_cmp (0 * 2 ^ k + x) (1 * 2 ^ k + y) ≡ Less
below k x y lt = grind (arith, nat_tests)

alike : (c x y : ℕ) → nat_cmp (c + x) (c + y) ≡ nat_cmp x y
alike c x y = grind (arith, nat_tests)

-- lists of one length are in the order of their numbers
pub by_number : (p q : Path) → length p ≡ length q → path_cmp p q ≡ nat_cmp (number p) (number q)
unfolding number
by_number [] [] e = refl
by_number [] (b ∷ q) e = absurd (omega arith)
by_number (a ∷ p) [] e = absurd (omega arith)
by_number (true ∷ p) (true ∷ q) e = let same : length p ≡ length q = omega arith in rw (by_number p q same, same) (sym (alike (1 * 2 ^ length q) (number p) (number q)))
by_number (false ∷ p) (false ∷ q) e = let same : length p ≡ length q = omega arith in rw (by_number p q same, same) (sym (alike (0 * 2 ^ length q) (number p) (number q)))
by_number (true ∷ p) (false ∷ q) e = let same : length p ≡ length q = omega arith in rw same (sym (above (length q) (number q) (number p) (number-lt q)))
by_number (false ∷ p) (true ∷ q) e = let same : length p ≡ length q = omega arith in rw (← same) (sym (below (length p) (number p) (number q) (number-lt p)))

-- nothing before a list of one bit or more
zeros_first : (m : ℕ) (q : Path) → m ≡ length q → ordering_then (path_cmp (replicate m false) q) Less ≡ Less
zeros_first zero [] e = refl
zeros_first zero (b ∷ q) e = refl
zeros_first (suc m) [] e = absurd (omega arith)
zeros_first (suc m) (true ∷ q) e = refl
zeros_first (suc m) (false ∷ q) e = zeros_first m q (omega arith)

zeros_second : (p : Path) (n : ℕ) → length p ≡ n → ordering_then (path_cmp p (replicate n false)) Greater ≡ Greater
zeros_second [] zero e = refl
zeros_second [] (suc n) e = absurd (omega arith)
zeros_second (b ∷ p) zero e = refl
zeros_second (true ∷ p) (suc n) e = refl
zeros_second (false ∷ p) (suc n) e = zeros_second p n (omega arith)

zeros_tie : (n : ℕ) → path_cmp (replicate n false) (replicate n false) ≡ Equal
zeros_tie zero = refl
zeros_tie (suc n) = zeros_tie n

padded : (p : Path) (n : ℕ) → length (p ++ replicate n false) ≡ length p + n
padded p n = length-append p (replicate n false) ∙ ap (λ k. length p + k) (length-replicate n false)

none_before : (a : ℕ) → nat_cmp 0 (suc a) ≡ Less
none_before a = grind (arith, nat_tests)

none_after : (a : ℕ) → nat_cmp (suc a) 0 ≡ Greater
none_after a = grind (arith, nat_tests)

lengths : (a b : ℕ) → nat_cmp (suc a) (suc b) ≡ nat_cmp a b
lengths a b = grind (arith, nat_tests)

-- zeros after two lists leave their order, but for a tie, and then the shorter comes first
pub by_length : (p q : Path) (m n : ℕ) → length p + m ≡ length q + n → path_cmp p q ≡ ordering_then (path_cmp (p ++ replicate m false) (q ++ replicate n false)) (nat_cmp (length p) (length q))
by_length [] [] m n e = let same : m ≡ n = omega arith in rw (same, zeros_tie n)
by_length [] (b ∷ q) m n e = let m_is : m ≡ length (b ∷ q) + n = omega arith in rw (none_before (length q)) (sym (zeros_first m ((b ∷ q) ++ replicate n false) (m_is ∙ sym (padded (b ∷ q) n))))
by_length (a ∷ p) [] m n e = let n_is : length (a ∷ p) + m ≡ n = omega arith in rw (none_after (length p)) (sym (zeros_second ((a ∷ p) ++ replicate m false) n (padded (a ∷ p) m ∙ n_is)))
by_length (true ∷ p) (true ∷ q) m n e = rw lengths (by_length p q m n (omega arith))
by_length (false ∷ p) (false ∷ q) m n e = rw lengths (by_length p q m n (omega arith))
by_length (true ∷ p) (false ∷ q) m n e = refl
by_length (false ∷ p) (true ∷ q) m n e = refl

-- two prefixes by the numbers a and b that they are at the left of 48 bits
pub in_order : (p q : Path) (a b : ℕ) → a < 2 ^ 48 → b < 2 ^ 48 → length p ≤ 48 → length q ≤ 48 → id_path a ≡ p ++ replicate (48 - length p) false →
    id_path b ≡ q ++ replicate (48 - length q) false → ordering_then (nat_cmp a b) (nat_cmp (length p) (length q)) ≡ path_cmp p q
in_order p q a b low high p_fits q_fits left right =
    let numbers : path_cmp (id_path a) (id_path b) ≡ nat_cmp a b = by_number _ _ (length-id_path a ∙ sym (length-id_path b)) ∙ (λ i. nat_cmp (number-id_path a low i) (number-id_path b high i)) in
    ap (λ (o : Ordering). ordering_then o (nat_cmp (length p) (length q))) (sym numbers ∙ (λ i. path_cmp (left i) (right i)))
    ∙ sym (by_length p q (48 - length p) (48 - length q) (omega arith))

-- Two lists, element by element: one more.
use Rattle.std.proofs.Common.{◌≡◌, ◌∙◌, ℕ, ◌+◌, ◌<◌, ◌++◌, ◌∷◌, [], List, length, set, take, get_or, ap, sym, subst, arith}
use Rattle.std.specs.List.{AllZip}
use Rattle.std.proofs.lemmas.List.{take_all, take_more, take_more_set}
use Rattle.std.proofs.lemmas.List.FromFn.{get_or-enumerate_from, length-enumerate_from}
use Rattle.served_disk.specs.Pairs.{numbered}

module _ {X Y : Type 0} (R : X → Y → Type 0) where
  zipped_append : (xs : List X) (ys : List Y) (x : X) (y : Y) → AllZip R xs ys → R x y → AllZip R (xs ++ x ∷ []) (ys ++ y ∷ [])
  zipped_append [] [] x y all is = (is, tt)
  zipped_append [] (b ∷ ys) x y all is = absurd all
  zipped_append (a ∷ xs) [] x y all is = absurd all
  zipped_append (a ∷ xs) (b ∷ ys) x y all is = (all.0, zipped_append xs ys x y all.1 is)

  -- those of the first, and of one more
  pub zipped_more : (xs : List X) (i : ℕ) (x : X) (ys new : List Y) (y : Y) → i < length xs → x ≡ get_or xs i x → AllZip R (take i xs) ys → R x y → new ≡ ys ++ y ∷ []
      → AllZip R (take (i + 1) xs) new
  zipped_more xs i x ys new y within here all is added =
      let first : take (i + 1) xs ≡ take i xs ++ x ∷ [] = take_more xs i x within ∙ ap (λ e. take i xs ++ e ∷ []) (sym here) in
      subst (λ l. AllZip R l new) (sym first) (subst (λ l. AllZip R (take i xs ++ x ∷ []) l) (sym added) (zipped_append (take i xs) ys x y all is))

  -- the same where one of the second list is written
  pub zipped_set : (xs : List X) (i : ℕ) (x : X) (ys : List Y) (y : Y) → i < length xs → i < length ys → x ≡ get_or xs i x → AllZip R (take i xs) (take i ys) → R x y
      → AllZip R (take (i + 1) xs) (take (i + 1) (set ys i y))
  zipped_set xs i x ys y within within_too here all is = zipped_more xs i x (take i ys) (take (i + 1) (set ys i y)) y within here all is (take_more_set ys i y within_too)

module _ {X Y : Type 0} (R : ℕ × X → Y → Type 0) where
  -- those of the first stations, and of one more
  pub numbered_more : (xs : List X) (i : ℕ) (x : X) (ys new : List Y) (y : Y) → i < length xs → x ≡ get_or xs i x → AllZip R (take i (numbered xs)) ys → R (i + 1, x) y
      → new ≡ ys ++ y ∷ [] → AllZip R (take (i + 1) (numbered xs)) new
  numbered_more xs i x ys new y within here all is added =
      let many : length (numbered xs) ≡ length xs = length-enumerate_from 1 xs in
      let number : 1 + i ≡ i + 1 = omega arith in
      let at : get_or (numbered xs) i (i + 1, x) ≡ (i + 1, x) = get_or-enumerate_from 1 xs i (i + 1, x) within ∙ ap (λ k. (k, get_or xs i x)) number ∙ ap (λ e. (i + 1, e)) (sym here) in
      zipped_more R (numbered xs) i (i + 1, x) ys new y (omega (arith, many, within)) (sym at) all is added

  -- all of them
  pub numbered_all : (xs : List X) (i : ℕ) (ys : List Y) → i ≡ length xs → AllZip R (take i (numbered xs)) ys → AllZip R (numbered xs) ys
  numbered_all xs i ys at all =
      let many : length (numbered xs) ≡ length xs = length-enumerate_from 1 xs in
      subst (λ l. AllZip R l ys) (take_all i (numbered xs) (omega (arith, many, at))) all

-- Filters of filters, and lists no two elements of which are alike.
use Rattle.std.proofs.Common.{◌≡◌, ℕ, suc, ◌<◌, ◌≤◌, Bool, true, false, cond, List, [], ◌∷◌, length, get_or, map, refl, ap, sym, ◌∙◌, subst, arith, Option, Some, None}
use Rattle.std.specs.Prelude.{not, ◌&&◌, ◌||◌}
use Rattle.std.specs.List.{All, AllPairs, cons_option, filter, filter_map, find, list_all, list_any}
use Rattle.std.specs.Option.{option_map}
use Rattle.std.proofs.lemmas.Bool.{false≢true, false_from_ne_true, not-true, and_parts, or_parts}
use Rattle.std.proofs.lemmas.List.Sums.{length-filter, count_by-le-length}
use Rattle.std.proofs.lemmas.List.Elements.{All-nil, All-cons, All-head, All-tail, All-weaker, filter_agree, filter_passes}
use Rattle.base.proofs.Bools.{and_turned}

-- of two tests, where one implies the other
pub implied : (a b : Bool) → (b ≡ true → a ≡ true) → (a && b) ≡ b
implied true b h = refl
implied false true h = absurd (false≢true (h refl))
implied false false h = refl

-- not both, of what is at a: not the second
pub beside : (a b : Bool) → (a && not b) ≡ (not (a && b) && a)
beside true true = refl
beside true false = refl
beside false b = refl

module _ {X : Type 0} where
  pub filter_alike : (p q : X → Bool) (xs : List X) → All (λ x. p x ≡ q x) xs → filter p xs ≡ filter q xs
  filter_alike p q [] h = refl
  filter_alike p q (x ∷ xs) h =
      let first : p x ≡ q x = All-head (λ y. p y ≡ q y) x xs h in
      let rest : filter p xs ≡ filter q xs = filter_alike p q xs (All-tail (λ y. p y ≡ q y) x xs h) in
      λ i. cond (first i) (x ∷ rest i) (rest i)

  one_twice : (p : X → Bool) (b : Bool) (x : X) (ys zs : List X) → filter p ys ≡ zs → filter p (cond b (x ∷ ys) ys) ≡ cond (b && p x) (x ∷ zs) zs
  one_twice p true x ys zs e = λ i. cond (p x) (x ∷ e i) (e i)
  one_twice p false x ys zs e = e

  pub filter_twice : (p q : X → Bool) (xs : List X) → filter p (filter q xs) ≡ filter (λ x. q x && p x) xs
  filter_twice p q [] = refl
  filter_twice p q (x ∷ xs) = one_twice p (q x) x (filter q xs) (filter (λ y. q y && p y) xs) (filter_twice p q xs)

  -- what passes p passes q
  pub filter_within : (p q : X → Bool) → ((x : X) → p x ≡ true → q x ≡ true) → (xs : List X) → filter p (filter q xs) ≡ filter p xs
  filter_within p q h xs = filter_twice p q xs ∙ filter_agree (λ x. q x && p x) p (λ x. implied (q x) (p x) (h x)) xs

  pub filter_turned : (p q : X → Bool) (xs : List X) → filter p (filter q xs) ≡ filter q (filter p xs)
  filter_turned p q xs = filter_twice p q xs ∙ filter_agree (λ x. q x && p x) (λ x. p x && q x) (λ x. and_turned (q x) (p x)) xs ∙ sym (filter_twice q p xs)

  one_any : (p : X → Bool) (b : Bool) (x : X) (ys : List X) (all : Bool) → (p x ≡ true → b ≡ true) → list_any p ys ≡ all → list_any p (cond b (x ∷ ys) ys) ≡ (p x || all)
  one_any p true x ys all h e = ap (λ c. p x || c) e
  one_any p false x ys all h e = e ∙ sym (ap (λ c. c || all) (false_from_ne_true (p x) (λ passes. false≢true (h passes))))

  pub any_within : (p q : X → Bool) → ((x : X) → p x ≡ true → q x ≡ true) → (xs : List X) → list_any p (filter q xs) ≡ list_any p xs
  any_within p q h [] = refl
  any_within p q h (x ∷ xs) = one_any p (q x) x (filter q xs) (list_any p xs) (h x) (any_within p q h xs)

  one_found : (p : X → Bool) (b : Bool) (x : X) (ys : List X) (all : Option X) → (p x ≡ true → b ≡ true) → find p ys ≡ all → find p (cond b (x ∷ ys) ys) ≡ cond (p x) (Some x) all
  one_found p true x ys all h e = ap (cond (p x) (Some x)) e
  one_found p false x ys all h e = e ∙ sym (ap (λ c. cond c (Some x) all) (false_from_ne_true (p x) (λ passes. false≢true (h passes))))

  pub find_within : (p q : X → Bool) → ((x : X) → p x ≡ true → q x ≡ true) → (xs : List X) → find p (filter q xs) ≡ find p xs
  find_within p q h [] = refl
  find_within p q h (x ∷ xs) = one_found p (q x) x (filter q xs) (find p xs) (h x) (find_within p q h xs)

  -- where none passes
  pub none_passes : (p : X → Bool) (xs : List X) → list_any p xs ≡ false → All (λ x. p x ≡ false) xs
  none_passes p [] h = All-nil (λ x. p x ≡ false)
  none_passes p (x ∷ xs) h = let e = or_parts (p x) (list_any p xs) h in All-cons (λ y. p y ≡ false) x xs e.0 (none_passes p xs e.1)

  pub any_of_none : (p : X → Bool) (xs : List X) → All (λ x. p x ≡ false) xs → list_any p xs ≡ false
  any_of_none p [] h = refl
  any_of_none p (x ∷ xs) h =
      let first : p x ≡ false = All-head (λ y. p y ≡ false) x xs h in
      ap (λ c. c || list_any p xs) first ∙ any_of_none p xs (All-tail (λ y. p y ≡ false) x xs h)

  pub filter_all : (p : X → Bool) (xs : List X) → All (λ x. p x ≡ false) xs → filter (λ x. not (p x)) xs ≡ xs
  filter_all p [] h = refl
  filter_all p (x ∷ xs) h =
      let first : p x ≡ false = All-head (λ y. p y ≡ false) x xs h in
      let rest : filter (λ y. not (p y)) xs ≡ xs = filter_all p xs (All-tail (λ y. p y ≡ false) x xs h) in
      λ i. cond (not (first i)) (x ∷ rest i) (rest i)

  left_but : (p : X → Bool) (b : Bool) (x : X) (xs : List X) → (b && list_all p xs) ≡ true →
      (list_all p xs ≡ true → filter (λ y. not (p y)) xs ≡ []) → cond (not b) (x ∷ filter (λ y. not (p y)) xs) (filter (λ y. not (p y)) xs) ≡ []
  left_but p true x xs h rest = rest h
  left_but p false x xs h rest = absurd (false≢true h)

  -- where all pass, nothing is left
  pub nothing_left : (p : X → Bool) (xs : List X) → list_all p xs ≡ true → filter (λ x. not (p x)) xs ≡ []
  nothing_left p [] h = refl
  nothing_left p (x ∷ xs) h = left_but p (p x) x xs h (nothing_left p xs)

  one_passes : (p : X → Bool) (b : Bool) (x : X) (ys xs : List X) → (p x && list_all p xs) ≡ true → (list_all p xs ≡ true → list_all p ys ≡ true) → list_all p (cond b (x ∷ ys) ys) ≡ true
  one_passes p true x ys xs h rest = let both = and_parts (p x) (list_all p xs) h in (λ i. both.0 i && rest both.1 i)
  one_passes p false x ys xs h rest = rest (and_parts (p x) (list_all p xs) h).1

  -- and of some of them too
  pub some_pass : (p q : X → Bool) (xs : List X) → list_all p xs ≡ true → list_all p (filter q xs) ≡ true
  some_pass p q [] h = refl
  some_pass p q (x ∷ xs) h = one_passes p (q x) x (filter q xs) xs h (some_pass p q xs)

  -- what is left does not pass
  pub none_left : (p : X → Bool) (xs : List X) → All (λ x. p x ≡ false) (filter (λ x. not (p x)) xs)
  none_left p xs = All-weaker (λ x. not (p x) ≡ true) (λ x. p x ≡ false) (λ x e. not-true (p x) e) (filter (λ x. not (p x)) xs) (filter_passes (λ x. not (p x)) xs)

  pub no_longer : (p : X → Bool) (xs : List X) → length (filter p xs) ≤ length xs
  no_longer p xs = omega (arith, length-filter p xs, count_by-le-length p xs)

  one_fewer : (p : X → Bool) (b : Bool) (x : X) (ys xs : List X) → length ys ≤ length xs → (b ≡ false → length ys < length xs) → length (cond (not b) (x ∷ ys) ys) < length (x ∷ xs)
  one_fewer p true x ys xs h less = omega (arith, h)
  one_fewer p false x ys xs h less = omega (arith, less refl)

  -- where one passes, fewer are left without it
  pub fewer_left : (p : X → Bool) (xs : List X) → list_any p xs ≡ true → length (filter (λ x. not (p x)) xs) < length xs
  fewer_left p [] e = absurd (false≢true e)
  fewer_left p (x ∷ xs) e =
      one_fewer p (p x) x (filter (λ y. not (p y)) xs) xs (no_longer (λ y. not (p y)) xs)
      (λ other. fewer_left p xs (sym (ap (λ b. b || list_any p xs) other) ∙ e))

  -- where one passes there is room without it
  pub room_left : (p : X → Bool) (xs : List X) (old new room : ℕ) → list_any p xs ≡ true → old ≡ length xs → new ≡ length (filter (λ x. not (p x)) xs) → old ≤ room → new < room
  room_left p xs old new room e len_old len_new fits = omega (arith, fewer_left p xs e, len_old, len_new, fits)

  pub pairs_head : (R : X → X → Type 0) (x : X) (xs : List X) → AllPairs R (x ∷ xs) → All (R x) xs
  pairs_head R x xs h = λ k d below. h 0 (suc k) d (omega arith) (omega (arith, below))

  pub pairs_tail : (R : X → X → Type 0) (x : X) (xs : List X) → AllPairs R (x ∷ xs) → AllPairs R xs
  pairs_tail R x xs h = λ i j d less below. h (suc i) (suc j) d (omega (arith, less)) (omega (arith, below))

  -- what is read of each gives it back
  pub looked_up : {Y : Type 0} (f : X → Y) (h : Y → Option X) (xs : List X) → All (λ x. h (f x) ≡ Some x) xs → filter_map h (map f xs) ≡ xs
  looked_up f h [] all = refl
  looked_up f h (x ∷ xs) all =
      let first : h (f x) ≡ Some x = All-head (λ y. h (f y) ≡ Some y) x xs all in
      let rest : filter_map h (map f xs) ≡ xs = looked_up f h xs (All-tail (λ y. h (f y) ≡ Some y) x xs all) in
      λ i. cons_option (first i) (rest i)

  one_mapped : {Y : Type 0} (f : X → Y) (b : Bool) (x : X) (ys : List Y) (xs : List X) → ys ≡ map f xs → cond b (f x ∷ ys) ys ≡ map f (cond b (x ∷ xs) xs)
  one_mapped f true x ys xs e = ap (λ zs. f x ∷ zs) e
  one_mapped f false x ys xs e = e

  pub filter_mapped : {Y : Type 0} (f : X → Y) (p : Y → Bool) (xs : List X) → filter p (map f xs) ≡ map f (filter (λ x. p (f x)) xs)
  filter_mapped f p [] = refl
  filter_mapped f p (x ∷ xs) = one_mapped f (p (f x)) x (filter p (map f xs)) (filter (λ y. p (f y)) xs) (filter_mapped f p xs)

  pub any_mapped : {Y : Type 0} (f : X → Y) (p : Y → Bool) (xs : List X) → list_any p (map f xs) ≡ list_any (λ x. p (f x)) xs
  any_mapped f p [] = refl
  any_mapped f p (x ∷ xs) = ap (λ b. p (f x) || b) (any_mapped f p xs)

module _ {X : Type 0} where
  by_found : (p : X → Bool) (b : Bool) (x w : X) (o : Option X) → p x ≡ b → (o ≡ Some w → p w ≡ true) → cond b (Some x) o ≡ Some w → p w ≡ true
  by_found p true x w o passes rest found = subst (λ y. p y ≡ true) (ap (or_this x) found) passes
    where
      or_this : X → Option X → X
      or_this d None = d
      or_this d (Some y) = y
  by_found p false x w o passes rest found = rest found

  -- what is found passes
  pub found_passes : (p : X → Bool) (xs : List X) (w : X) → find p xs ≡ Some w → p w ≡ true
  found_passes p [] w found = absurd cc
  found_passes p (x ∷ xs) w found = by_found p (p x) x w (find p xs) refl (found_passes p xs w) found

  by_with : (P : X → Type 0) (b : Bool) (x w : X) (o : Option X) → P x → (o ≡ Some w → P w) → cond b (Some x) o ≡ Some w → P w
  by_with P true x w o first rest found = subst P (ap (or_this x) found) first
    where
      or_this : X → Option X → X
      or_this d None = d
      or_this d (Some y) = y
  by_with P false x w o first rest found = rest found

  -- what holds of all holds of what is found
  pub found_with : (P : X → Type 0) (p : X → Bool) (xs : List X) (w : X) → All P xs → find p xs ≡ Some w → P w
  found_with P p [] w all found = absurd cc
  found_with P p (x ∷ xs) w all found = by_with P (p x) x w (find p xs) (All-head P x xs all) (found_with P p xs w (All-tail P x xs all)) found

  by_any : (b : Bool) (x w : X) (o : Option X) (rest : Bool) → (o ≡ Some w → rest ≡ true) → cond b (Some x) o ≡ Some w → (b || rest) ≡ true
  by_any true x w o rest later found = refl
  by_any false x w o rest later found = later found

  pub found_any : (p : X → Bool) (xs : List X) (w : X) → find p xs ≡ Some w → list_any p xs ≡ true
  found_any p [] w found = absurd cc
  found_any p (x ∷ xs) w found = by_any (p x) x w (find p xs) (list_any p xs) (found_any p xs w) found

  by_never : (p : X → Bool) (b : Bool) (x : X) (xs : List X) (o : Option X) → p x ≡ b → (o ≡ None → All (λ y. p y ≡ false) xs) → cond b (Some x) o ≡ None → All (λ y. p y ≡ false) (x ∷ xs)
  by_never p true x xs o test rest none = absurd cc
  by_never p false x xs o test rest none = All-cons (λ y. p y ≡ false) x xs test (rest none)

  -- where none is found, none passes
  pub never_found : (p : X → Bool) (xs : List X) → find p xs ≡ None → All (λ y. p y ≡ false) xs
  never_found p [] none = All-nil (λ y. p y ≡ false)
  never_found p (x ∷ xs) none = by_never p (p x) x xs (find p xs) refl (never_found p xs) none

  pub find_agree : (p q : X → Bool) → ((x : X) → p x ≡ q x) → (xs : List X) → find p xs ≡ find q xs
  find_agree p q same [] = refl
  find_agree p q same (x ∷ xs) = λ i. cond (same x i) (Some x) (find_agree p q same xs i)

  one_find : {Y : Type 0} (f : X → Y) (b : Bool) (x : X) (o : Option Y) (r : Option X) → o ≡ option_map f r → cond b (Some (f x)) o ≡ option_map f (cond b (Some x) r)
  one_find f true x o r e = refl
  one_find f false x o r e = e

  pub find_mapped : {Y : Type 0} (f : X → Y) (p : Y → Bool) (xs : List X) → find p (map f xs) ≡ option_map f (find (λ x. p (f x)) xs)
  find_mapped f p [] = refl
  find_mapped f p (x ∷ xs) = one_find f (p (f x)) x (find p (map f xs)) (find (λ y. p (f y)) xs) (find_mapped f p xs)

-- lists no later element of which is the same as an earlier one
module _ {X : Type 0} (same : X → X → Bool) (itself : (x : X) → same x x ≡ true) where
  found_later : (w x : X) (xs : List X) → same w x ≡ false → find (same w) xs ≡ Some w → find (same w) (x ∷ xs) ≡ Some w
  found_later w x xs other found = ap (λ b. cond b (Some x) (find (same w) xs)) other ∙ found

  pub find_each : (xs : List X) → AllPairs (λ a b. same b a ≡ false) xs → All (λ w. find (same w) xs ≡ Some w) xs
  find_each [] h = All-nil (λ w. find (same w) [] ≡ Some w)
  find_each (x ∷ xs) h =
      let others : All (λ w. same w x ≡ false) xs = pairs_head (λ a b. same b a ≡ false) x xs h in
      let found : All (λ w. find (same w) xs ≡ Some w) xs = find_each xs (pairs_tail (λ a b. same b a ≡ false) x xs h) in
      All-cons (λ w. find (same w) (x ∷ xs) ≡ Some w) x xs (ap (λ b. cond b (Some x) (find (same x) xs)) (itself x))
      (λ k d below. found_later (get_or xs k d) x xs (others k d below) (found k d below))

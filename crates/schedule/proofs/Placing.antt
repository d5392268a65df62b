-- Where the first entry of a station is.
use Rattle.std.specs.Prelude.{cond, position, get_or, slice_index_or, MatchOption, Option, Some, None, ◌==◌}
use Rattle.std.specs.List.{position_from}
use Rattle.std.proofs.lemmas.Iterator.Adapters.{position_from-zero}
use Rattle.std.proofs.Common.{◌≡◌, ℕ, suc, ◌+◌, ◌<◌, Bool, true, false, List, [], ◌∷◌, ◌++◌, length, take, drop, refl, ap, sym, ◌∙◌, subst, arith}
use Rattle.schedule.specs.World.{Entry}
use Rattle.schedule.specs.Next.{is_empty, first_of, without_first}

module _ {A : Type 0} where
  -- of these entries the one at this place is the first, and these are the rest
  record Placed (xs first rest : List (Entry A)) (n i : ℕ) : Type 0 where
    place : ℕ
    is : i ≡ n + place
    within : place < length xs
    others : rest ≡ take place xs ++ drop (suc place) xs
    one : (d : Entry A) → first ≡ get_or xs place d ∷ []

  abbrev of_station : ℕ → Entry A → Bool
  of_station s x = x.0.station == s

  placed_by : (b : Bool) (x : Entry A) (xs : List (Entry A)) (s n i : ℕ) → cond b (Some n) (position_from (of_station s) (n + 1) xs) ≡ Some i
      → (position_from (of_station s) (n + 1) xs ≡ Some i → Placed xs (first_of s xs) (without_first s xs) (n + 1) i)
      → Placed (x ∷ xs) (cond b (x ∷ []) (first_of s xs)) (cond b xs (x ∷ without_first s xs)) n i
  placed_by true x xs s n i e more = record { place = 0; is = let same : n ≡ i = cc in omega arith; within = omega arith; others = refl; one = λ d. refl }
  placed_by false x xs s n i e more =
      let h = more e in
      record {
        place = suc h.place;
        is = let same = h.is in omega arith;
        within = let in_rest = h.within in omega arith;
        others = ap (λ t. x ∷ t) h.others;
        one = h.one;
      }

  placed_from : (xs : List (Entry A)) (s n i : ℕ) → position_from (of_station s) n xs ≡ Some i → Placed xs (first_of s xs) (without_first s xs) n i
  placed_from [] s n i e = absurd cc
  placed_from (x ∷ xs) s n i e = placed_by (of_station s x) x xs s n i e (λ h. placed_from xs s (n + 1) i h)

  absent_by : (b : Bool) (x : Entry A) (xs : List (Entry A)) (s n : ℕ) → cond b (Some n) (position_from (of_station s) (n + 1) xs) ≡ None →
      (position_from (of_station s) (n + 1) xs ≡ None → first_of s xs ≡ [])
      → cond b (x ∷ []) (first_of s xs) ≡ []
  absent_by true x xs s n e more = absurd cc
  absent_by false x xs s n e more = more e

  absent_from : (xs : List (Entry A)) (s n : ℕ) → position_from (of_station s) n xs ≡ None → first_of s xs ≡ []
  absent_from [] s n e = refl
  absent_from (x ∷ xs) s n e = absent_by (of_station s x) x xs s n e (λ h. absent_from xs s (n + 1) h)

  -- a place, if there is one, is that of the station's first entry
  pub placed : (xs : List (Entry A)) (s : ℕ) (r : Option ℕ) → r ≡ position (λ (x : Entry A). x.0.station == s) xs
      → MatchOption r (first_of s xs ≡ []) (λ i. (i < length xs) × (without_first s xs ≡ take i xs ++ drop (i + 1) xs) ×
      ((d : Entry A) → first_of s xs ≡ slice_index_or xs i d ∷ []) × (is_empty (first_of s xs) ≡ false))
  placed xs s None e = absent_from xs s 0 (sym (e ∙ position_from-zero (of_station s) xs))
  placed xs s (Some i) e =
      let h = placed_from xs s 0 i (sym (e ∙ position_from-zero (of_station s) xs)) in
      let same : h.place ≡ i = let is = h.is in omega arith in (
        subst (λ k. k < length xs) same h.within,
        subst (λ k. without_first s xs ≡ take k xs ++ drop (k + 1) xs) same (h.others ∙ ap (λ n. take h.place xs ++ drop n xs) (let next : suc h.place ≡ h.place + 1 = omega arith in next)),
        subst (λ k. (d : Entry A) → first_of s xs ≡ get_or xs k d ∷ []) same h.one,
        elim (first_of s xs) as (λ f. ((d : Entry A) → f ≡ get_or xs h.place d ∷ []) → is_empty f ≡ false) [ [] ↦ λ one. never xs h.place h.within one | x ∷ ys ↦ λ one. refl ] h.one,
      )
    where
      never : (ys : List (Entry A)) (k : ℕ) → k < length ys → ((d : Entry A) → [] ≡ get_or ys k d ∷ []) → true ≡ false
      never [] k h one = absurd (omega arith)
      never (y ∷ ys) k h one = let e : [] ≡ get_or (y ∷ ys) k y ∷ [] = one y in absurd cc

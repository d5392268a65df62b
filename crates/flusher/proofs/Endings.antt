-- The ends of sessions among the entries of the queue.
use Rattle.std.proofs.Common.{◌≡◌, ◌≢◌, ◌⊎◌, inl, inr, ℕ, zero, suc, ◌+◌, ◌-◌, ◌<◌, ◌≤◌, ◌==◌, Bool, true, false, cond, true≢false, List, [], ◌∷◌}
use Rattle.std.proofs.Common.{◌++◌, set, replicate, sym, refl, ap, ◌∙◌, subst, ⊎_elim, append_assoc, arith}
use Rattle.std.specs.Prelude.{Some, slice_get, slice_index_or, Contains}
use Rattle.std.specs.List.{AllByRecursion}
use Rattle.std.proofs.lemmas.List.{append-nil}
use Rattle.std.proofs.lemmas.List.Elements.{Contains-append_left, Contains-append_right, Contains-push, Contains-push_cases, Contains-append_cases}
use Rattle.base.proofs.Numbers.{same_test}
use Rattle.station_queue.specs.declared.entry.Entry.{Entry}
use Rattle.station_queue.specs.declared.entry.Entry.TheVariants.{Submitted, Ended}
use Rattle.station_queue.specs.declared.entry.Request.{Request}
use Rattle.station_queue.specs.Ends.{Taking}
use Rattle.station_queue.specs.Entries.{station_of, entries_of}
use Rattle.flusher.specs.Endings.{AreEnded}
use Rattle.flusher.specs.Submitted.{is_ended}
use Rattle.flusher.specs.Batches.{HasTaken, ended_by}

not_submitted : (r : Request) (s : ℕ) → Submitted r ≡ Ended s → ⊥
not_submitted r s e = cc

station_is : (s t : ℕ) → Ended s ≡ Ended t → s ≡ t
station_is s t e = cc

-- ---- the entries of one station

append-go : (x : Entry) (b : Bool) (all xs ys : List Entry) → all ≡ xs ++ ys → cond b (x ∷ all) all ≡ cond b (x ∷ xs) xs ++ ys
append-go x true all xs ys e = ap (λ l. x ∷ l) e
append-go x false all xs ys e = e

pub entries_of-append : (s : ℕ) (xs ys : List Entry) → entries_of s (xs ++ ys) ≡ entries_of s xs ++ entries_of s ys
entries_of-append s [] ys = refl
entries_of-append s (x ∷ xs) ys = append-go x (station_of x == s) (entries_of s (xs ++ ys)) (entries_of s xs) (entries_of s ys) (entries_of-append s xs ys)

-- of one entry and the others: the one is it, or it is among the others
first_or_later : (x y : Entry) (xs : List Entry) → Contains (x ∷ xs) y → (x ≡ y) ⊎ Contains xs y
first_or_later x y xs h = ⊎_elim (λ (e : Contains (x ∷ []) y). inl (only e.0 e.1 e.2)) (λ (e : Contains xs y). inr e) (Contains-append_cases (x ∷ []) xs y h)
  where
    only : (k : ℕ) → k < 1 → slice_index_or (x ∷ []) k y ≡ y → x ≡ y
    only zero lt e = e
    only (suc k) lt e = absurd (omega (arith, lt))

-- an end that was taken is among the entries of its station
among_own : (s : ℕ) (xs : List Entry) → Contains xs (Ended s) → Contains (entries_of s xs) (Ended s)
among_own s [] h = absurd (omega (arith, h.1))
among_own s (x ∷ xs) h = ⊎_elim here (λ (e : Contains xs (Ended s)). later (station_of x == s) (among_own s xs e)) (first_or_later x (Ended s) xs h)
  where
    here : x ≡ Ended s → Contains (entries_of s (x ∷ xs)) (Ended s)
    here e = subst (λ (y : Entry). Contains (entries_of s (y ∷ xs)) (Ended s)) (sym e)
        (subst (λ (b : Bool). Contains (cond b (Ended s ∷ entries_of s xs) (entries_of s xs)) (Ended s)) (sym (same_test s)) (0, omega arith, refl))

    later : (b : Bool) → Contains (entries_of s xs) (Ended s) → Contains (cond b (x ∷ entries_of s xs) (entries_of s xs)) (Ended s)
    later true e = Contains-append_right (x ∷ []) (entries_of s xs) (Ended s) e
    later false e = e

-- ---- an end is last

none_left : (xs ys : List Entry) → xs ++ ys ≡ [] → ys ≡ []
none_left [] ys e = e
none_left (x ∷ xs) ys e = absurd cc

after_end : (t : ℕ) (xs : List Entry) → is_ended (Ended t ∷ xs) ≡ true → xs ≡ []
after_end t [] e = refl
after_end t (x ∷ xs) e = absurd (true≢false (sym e))

-- where the first of such entries have an end, they are all
end_is_last : (s : ℕ) (xs ys : List Entry) → is_ended (xs ++ ys) ≡ true → Contains xs (Ended s) → ys ≡ []
end_is_last s [] ys ends h = absurd (omega (arith, h.1))
end_is_last s (Submitted r ∷ xs) ys ends h =
    end_is_last s xs ys ends
    (⊎_elim (λ (e : Submitted r ≡ Ended s). absurd (not_submitted r s e)) (λ (e : Contains xs (Ended s)). e)
    (first_or_later (Submitted r) (Ended s) xs h))
end_is_last s (Ended t ∷ xs) ys ends h = none_left xs ys (after_end t (xs ++ ys) ends)

-- A station has sent its commands and then its end, and these are what was taken of it and what the queue still has. If
-- the end was taken, all was taken.
pub all_taken : (s : ℕ) (taken items sent : List Entry) → is_ended sent ≡ true → Contains taken (Ended s) → entries_of s (taken ++ items) ≡ sent → entries_of s taken ≡ sent
all_taken s taken items sent ends has all =
    let split : entries_of s taken ++ entries_of s items ≡ sent = sym (entries_of-append s taken items) ∙ all in
    let none = end_is_last s (entries_of s taken) (entries_of s items) (ap is_ended split ∙ ends) (among_own s taken has) in
    sym (append-nil (entries_of s taken)) ∙ ap (λ l. entries_of s taken ++ l) (sym none) ∙ split

-- ---- the flags

at_set : (l : List Bool) (i k : ℕ) (v b : Bool) → slice_get (set l i v) k ≡ Some b → ((k ≡ i) × (v ≡ b)) ⊎ ((k ≢ i) × (slice_get l k ≡ Some b))
at_set [] i k v b e = absurd cc
at_set (x ∷ l) zero zero v b e = inl (refl, cc)
at_set (x ∷ l) zero (suc k) v b e = inr ((λ z. omega (arith, z)), e)
at_set (x ∷ l) (suc i) zero v b e = inr ((λ z. omega (arith, z)), e)
at_set (x ∷ l) (suc i) (suc k) v b e =
    ⊎_elim (λ (h : (k ≡ i) × (v ≡ b)). inl (ap suc h.0, h.1)) (λ (h : (k ≢ i) × (slice_get l k ≡ Some b)). inr ((λ z. h.0 (omega (arith, z))), h.1))
    (at_set l i k v b e)

-- one more entry was taken
ended_with : (flags : List Bool) (taken : List Entry) (x : Entry) → 0 < station_of x → AreEnded flags taken → AreEnded (ended_by (x ∷ []) flags) (taken ++ x ∷ [])
ended_with flags taken (Submitted r) some was k flag at = (
  (λ t. Contains-append_left taken (Submitted r ∷ []) (Ended (k + 1)) ((was k flag at).0 t)),
  (λ h. ⊎_elim (λ (e : Contains taken (Ended (k + 1))). (was k flag at).1 e) (λ (e : Submitted r ≡ Ended (k + 1)). absurd (not_submitted r (k + 1) e))
      (Contains-push_cases taken (Submitted r) (Ended (k + 1)) h)),
)
ended_with flags taken (Ended s) some was k flag at = ⊎_elim this other (at_set flags (s - 1) k true flag at)
  where
    Holds : Type 0
    Holds = (flag ≡ true → Contains (taken ++ Ended s ∷ []) (Ended (k + 1))) × (Contains (taken ++ Ended s ∷ []) (Ended (k + 1)) → flag ≡ true)

    this : (k ≡ s - 1) × (true ≡ flag) → Holds
    this e =
        let is : s ≡ k + 1 = omega (arith, some, e.0) in (
          (λ _. subst (λ (n : ℕ). Contains (taken ++ Ended s ∷ []) (Ended n)) is (Contains-push taken (Ended s))),
          (λ _. sym e.1),
        )

    other : (k ≢ s - 1) × (slice_get flags k ≡ Some flag) → Holds
    other e = (
      (λ t. Contains-append_left taken (Ended s ∷ []) (Ended (k + 1)) ((was k flag e.1).0 t)),
      (λ h. ⊎_elim (λ (c : Contains taken (Ended (k + 1))). (was k flag e.1).1 c)
          (λ (c : Ended s ≡ Ended (k + 1)). absurd (e.0 (let is = station_is s (k + 1) c in omega (arith, is))))
          (Contains-push_cases taken (Ended s) (Ended (k + 1)) h)),
    )

-- more entries were taken, each of a station
pub ended_on : (made : ℕ) (flags : List Bool) (taken popped : List Entry) → AllByRecursion (λ (x : Entry). (0 < station_of x) × (station_of x ≤ made))
    popped → AreEnded flags taken → AreEnded (ended_by popped flags) (taken ++ popped)
ended_on made flags taken [] all was = subst (AreEnded flags) (sym (append-nil taken)) was
ended_on made flags taken (x ∷ popped) all was =
    subst (λ (q : List Bool × List Entry). AreEnded q.0 q.1) (λ i. (one_by_one x i, append_assoc taken (x ∷ []) popped i))
    (ended_on made (ended_by (x ∷ []) flags) (taken ++ x ∷ []) popped all.1 (ended_with flags taken x all.0.0 was))
  where
    one_by_one : (y : Entry) → ended_by popped (ended_by (y ∷ []) flags) ≡ ended_by (y ∷ popped) flags
    one_by_one (Submitted r) = refl
    one_by_one (Ended s) = refl

-- a batch was taken
pub ended_after : (old new : Taking) (popped : List Entry) (flags now : List Bool) → HasTaken old popped new → now ≡ ended_by popped flags → AreEnded flags old.taken → AreEnded now new.taken
ended_after old new popped flags now t is was = subst (λ (q : List Bool × List Entry). AreEnded q.0 q.1) (λ i. (sym is i, sym t.taken i)) (ended_on old.made flags old.taken popped t.stations was)

-- no entry was taken yet
pub none_ended : (n : ℕ) → AreEnded (replicate n false) []
none_ended n k flag at = ((λ t. absurd (true≢false (sym t ∙ sym (all_false n k at)))), (λ h. absurd (omega (arith, h.1))))
  where
    all_false : (m j : ℕ) → slice_get (replicate m false) j ≡ Some flag → false ≡ flag
    all_false zero j e = absurd cc
    all_false (suc m) zero e = cc
    all_false (suc m) (suc j) e = all_false m j e

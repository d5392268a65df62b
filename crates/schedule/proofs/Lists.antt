-- Lists, lines and tests.
use Rattle.std.specs.Prelude.{get_or, set, nat_lt, nat_le, slice_get, Some}
use Rattle.std.specs.List.{AllByRecursion}
use Rattle.std.proofs.lemmas.Bool.Decides.{nat_tests}
use Rattle.std.proofs.Common.{◌≡◌, ℕ, zero, suc, ◌<◌, ◌≤◌, ◌⊎◌, inl, inr, Bool, true, false, List, [], ◌∷◌, ◌++◌, length, refl, ap, sym, ◌∙◌, arith, true≢false, append_assoc}
use Rattle.std.proofs.lemmas.List.{append-nil}
use Rattle.base.proofs.Bools.{both_true}
use Rattle.centre_core.specs.declared.command.Command.{Command}
use Rattle.schedule.specs.World.{Line, line, line_of, with_line}
use Rattle.schedule.specs.Next.{is_place, cut, all_of, emptied, unread}

pub get_last : {X : Type 0} (xs : List X) (x : X) → slice_get (xs ++ x ∷ []) (length xs) ≡ Some x
get_last [] x = refl
get_last (y ∷ ys) x = get_last ys x

pub opposed : (b : Bool) → b ≡ false → b ≡ true → ⊥
opposed b e f = true≢false (sym f ∙ e)

pub all_by : {A : Type 0} (P Q : A → Type 0) → ((x : A) → P x → Q x) → (xs : List A) → AllByRecursion P xs → AllByRecursion Q xs
all_by P Q f [] h = tt
all_by P Q f (x ∷ xs) h = (f x h.0, all_by P Q f xs h.1)

module _ {A : Type 0} where
  pub put_cases : (xs : List (Line A)) (i j : ℕ) (x : Line A) → ((get_or (set xs i x) j (line [] 0) ≡ x) × (j ≡ i)) ⊎ (get_or (set xs i x) j (line [] 0) ≡ get_or xs j (line [] 0))
  put_cases [] i j x = inr refl
  put_cases (y ∷ ys) zero zero x = inl (refl, refl)
  put_cases (y ∷ ys) zero (suc j) x = inr refl
  put_cases (y ∷ ys) (suc i) zero x = inr refl
  put_cases (y ∷ ys) (suc i) (suc j) x = elim (put_cases ys i j x) [ inl q ↦ inl (q.0, ap (λ n. suc n) q.1) | inr q ↦ inr q ]

  -- after a write of one line, any line is the new one or the old
  pub line_put : (xs : List (Line A)) (s t : ℕ) (x : Line A) → ((line_of (with_line xs s x) t ≡ x) × (t ≡ s)) ⊎ (line_of (with_line xs s x) t ≡ line_of xs t)
  line_put xs zero t x = inr refl
  line_put xs (suc i) zero x = inr refl
  line_put xs (suc i) (suc j) x = elim (put_cases xs i j x) [ inl q ↦ inl (q.0, ap (λ n. suc n) q.1) | inr q ↦ inr q ]

  put_same : (xs : List (Line A)) (i : ℕ) (x : Line A) → i < length xs → get_or (set xs i x) i (line [] 0) ≡ x
  put_same [] i x h = absurd (omega arith)
  put_same (y ∷ ys) zero x h = refl
  put_same (y ∷ ys) (suc i) x h = put_same ys i x (omega arith)

  pub line_same : (xs : List (Line A)) (s : ℕ) (x : Line A) → is_place xs s ≡ true → line_of (with_line xs s x) s ≡ x
  line_same xs zero x h = let e = (both_true (nat_lt 0 0) (nat_le 0 (length xs)) h).0 in absurd (true≢false (sym e))
  line_same xs (suc i) x h =
      let e : nat_le (suc i) (length xs) ≡ true = (both_true (nat_lt 0 (suc i)) (nat_le (suc i) (length xs)) h).1 in
      put_same xs i x (let le : suc i ≤ length xs = grind (arith, nat_tests) in omega arith)

  pub line_other : (xs : List (Line A)) (s t : ℕ) (x : Line A) → (s ≡ t → ⊥) → line_of (with_line xs s x) t ≡ line_of xs t
  line_other xs s t x h = elim (line_put xs s t x) [ inl q ↦ absurd (h (sym q.1)) | inr q ↦ q ]

  emptied_at : (xs : List (Line A)) (k : ℕ) → (get_or (emptied xs) k (line [] 0)).queue ≡ []
  emptied_at [] k = refl
  emptied_at (x ∷ xs) zero = refl
  emptied_at (x ∷ xs) (suc k) = emptied_at xs k

  pub emptied_queue : (xs : List (Line A)) (t : ℕ) → (line_of (emptied xs) t).queue ≡ []
  emptied_queue xs zero = refl
  emptied_queue xs (suc k) = emptied_at xs k

  emptied_seen_at : (xs : List (Line A)) (k : ℕ) → (get_or (emptied xs) k (line [] 0)).seen ≡ (get_or xs k (line [] 0)).seen
  emptied_seen_at [] k = refl
  emptied_seen_at (x ∷ xs) zero = refl
  emptied_seen_at (x ∷ xs) (suc k) = emptied_seen_at xs k

  pub emptied_seen : (xs : List (Line A)) (t : ℕ) → (line_of (emptied xs) t).seen ≡ (line_of xs t).seen
  emptied_seen xs zero = refl
  emptied_seen xs (suc k) = emptied_seen_at xs k

  unread_at : (xs : List (Line A)) (k : ℕ) → ((get_or (unread xs) k (line [] 0)).seen ≡ 0) × ((get_or (unread xs) k (line [] 0)).queue ≡ (get_or xs k (line [] 0)).queue)
  unread_at [] k = (refl, refl)
  unread_at (x ∷ xs) zero = (refl, refl)
  unread_at (x ∷ xs) (suc k) = unread_at xs k

  pub unread_line : (xs : List (Line A)) (t : ℕ) → ((line_of (unread xs) t).seen ≡ 0) × ((line_of (unread xs) t).queue ≡ (line_of xs t).queue)
  unread_line xs zero = (refl, refl)
  unread_line xs (suc k) = unread_at xs k

  pub all_of-cut : (xs : List (Command A)) → all_of (cut xs) ≡ xs
  all_of-cut [] = refl
  all_of-cut (x ∷ xs) = append-nil (x ∷ xs)

  pub all_of-append : (xs ys : List (List (Command A))) → all_of (xs ++ ys) ≡ all_of xs ++ all_of ys
  all_of-append [] ys = refl
  all_of-append (x ∷ xs) ys = ap (λ t. x ++ t) (all_of-append xs ys) ∙ sym (append_assoc x (all_of xs) (all_of ys))

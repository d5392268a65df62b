-- Why copies are refused, judged member by member.
use Rattle.std.proofs.Common.{◌≡◌, ℕ, ◌+◌, ◌<◌, Bool, true, false, cond, List, [], ◌∷◌, ◌++◌, length, get_or, map, refl, ap, sym, ◌∙◌, arith, length-append}
use Rattle.std.specs.Prelude.{◌==◌, ◌&&◌, ◌||◌, nat_le, nat_lt, count_by}
use Rattle.std.specs.List.{All, AllPairs, filter, list_any}
use Rattle.std.proofs.lemmas.Bool.Decides.{nat_tests}
use Rattle.std.proofs.lemmas.List.{length-map}
use Rattle.std.proofs.lemmas.List.Elements.{All-nil, All-cons, All-head, All-tail, All-weaker}
use Rattle.std.proofs.lemmas.List.Kept.{AllPairs-filter}
use Rattle.std.proofs.lemmas.List.Sums.{length-filter, sum_by-append, sum_by-cons}
use Rattle.base.proofs.Numbers.{same_test, less_not_same, more_not_same}
use Rattle.registration.specs.Registered.{Registered}
use Rattle.mailbox.specs.declared.key.GroupEnvelope.{GroupEnvelope}
use Rattle.mailbox.specs.declared.key.Stamp.{Stamp}
use Rattle.mailbox.specs.Values.{Item, Mailed}
use Rattle.mailbox.specs.Item.{is_to}
use Rattle.mailbox.specs.Mail.{holds}
use Rattle.mailbox.specs.Refusals.{most_for_one}
use Rattle.mailbox.specs.GroupPost.{copy_key, copy_for, copies, is_receiver, first_of_copies, copies_refusal}
use Rattle.mailbox.proofs.Lists.{any_mapped, pairs_head, pairs_tail}

one_any : (b q : Bool) (x : ℕ) (p : ℕ → Bool) (ys : List ℕ) (rest : Bool) → p x ≡ q → list_any p ys ≡ rest → list_any p (cond b (x ∷ ys) ys) ≡ ((b && q) || rest)
one_any true q x p ys rest e h = λ i. e i || h i
one_any false q x p ys rest e h = h

pub any_filtered : (p r : ℕ → Bool) (xs : List ℕ) → list_any p (filter r xs) ≡ list_any (λ x. r x && p x) xs
any_filtered p r [] = refl
any_filtered p r (x ∷ xs) = one_any (r x) (p x) x p (filter r xs) (list_any (λ y. r y && p y) xs) refl (any_filtered p r xs)

any_alike : (p q : ℕ → Bool) (xs : List ℕ) → All (λ x. p x ≡ q x) xs → list_any p xs ≡ list_any q xs
any_alike p q [] h = refl
any_alike p q (x ∷ xs) h =
    let first : p x ≡ q x = All-head (λ y. p y ≡ q y) x xs h in
    let rest : list_any p xs ≡ list_any q xs = any_alike p q xs (All-tail (λ y. p y ≡ q y) x xs h) in
    λ i. first i || rest i

abbrev weight : Bool → ℕ
weight b = cond b 1 0

-- of copies for rising members, one is for each
module _ (s : Registered) (e : GroupEnvelope) (stamp : Stamp) (pdu : List Bool) where
  abbrev copy : ℕ → Item
  copy = copy_for s e stamp pdu

  none_for : (x : ℕ) (xs : List ℕ) → All (λ y. x < y) xs → count_by (is_to x) (map copy xs) ≡ 0
  none_for x [] h = refl
  none_for x (y ∷ xs) h =
      let all : count_by (is_to x) (map copy (y ∷ xs)) ≡ weight (y == x) + count_by (is_to x) (map copy xs) = sum_by-cons (λ w. weight (is_to x w)) (copy y) (map copy xs) in
      let first : weight (y == x) ≡ 0 = ap weight (more_not_same x y (All-head (λ z. x < z) y xs h)) in
      let rest : count_by (is_to x) (map copy xs) ≡ 0 = none_for x xs (All-tail (λ z. x < z) y xs h) in
      omega (arith, all, first, rest)

  pub one_for_each : (xs : List ℕ) → AllPairs (λ a b. a < b) xs → All (λ x. count_by (is_to x) (map copy xs) ≡ 1) xs
  one_for_each [] rising = All-nil (λ x. count_by (is_to x) [] ≡ 1)
  one_for_each (x ∷ xs) rising =
      let above : All (λ y. x < y) xs = pairs_head (λ a b. a < b) x xs rising in
      let rest : All (λ y. count_by (is_to y) (map copy xs) ≡ 1) xs = one_for_each xs (pairs_tail (λ a b. a < b) x xs rising) in
      All-cons (λ y. count_by (is_to y) (map copy (x ∷ xs)) ≡ 1) x xs
      (let all : count_by (is_to x) (map copy (x ∷ xs)) ≡ weight (x == x) + count_by (is_to x) (map copy xs) = sum_by-cons (λ w. weight (is_to x w)) (copy x) (map copy xs) in
      let first : weight (x == x) ≡ 1 = ap weight (same_test x) in
      let none : count_by (is_to x) (map copy xs) ≡ 0 = none_for x xs above in
      omega (arith, all, first, none))
      (λ k d below.
      let y : ℕ = get_or xs k d in
      let all : count_by (is_to y) (map copy (x ∷ xs)) ≡ weight (x == y) + count_by (is_to y) (map copy xs) = sum_by-cons (λ w. weight (is_to y w)) (copy x) (map copy xs) in
      let first : weight (x == y) ≡ 0 = ap weight (less_not_same x y (above k d below)) in
      let one : count_by (is_to y) (map copy xs) ≡ 1 = rest k d below in
      omega (arith, all, first, one))

  full_with : (m : Mailed) (x : ℕ) (ws : List Item) → count_by (is_to x) ws ≡ 1 → nat_le most_for_one (count_by (is_to x) m.items) ≡ nat_lt most_for_one (count_by (is_to x) (m.items ++ ws))
  full_with m x ws one =
      let all : count_by (is_to x) (m.items ++ ws) ≡ count_by (is_to x) m.items + count_by (is_to x) ws = sum_by-append (λ w. weight (is_to x w)) m.items ws in
      above_one (count_by (is_to x) m.items) (count_by (is_to x) (m.items ++ ws)) (all ∙ ap (λ n. count_by (is_to x) m.items + n) one)
    where
      above_one : (n more : ℕ) → more ≡ n + 1 → nat_le most_for_one n ≡ nat_lt most_for_one more
      above_one n more is = grind (arith, nat_tests)

  -- what is asked of the copies is asked of the members
  pub judged_by_members : (m : Mailed) (members : List ℕ) → AllPairs (λ a b. a < b) members
      → first_of_copies (count_by (is_receiver s e.source) members == 0) (list_any (λ d. is_receiver s e.source d && holds m (copy_key e d)) members)
      (list_any (λ d. is_receiver s e.source d && nat_le most_for_one (count_by (is_to d) m.items)) members) (nat_lt m.room (length m.items + count_by (is_receiver s e.source) members))
      ≡ copies_refusal m (copies s e members stamp pdu)
  judged_by_members m members rising =
      let r : ℕ → Bool = is_receiver s e.source in
      let xs : List ℕ = filter r members in
      let ws : List Item = map copy xs in
      let counted : length ws ≡ count_by r members = length-map xs copy ∙ length-filter r members in
      let busy : list_any (λ d. r d && holds m (copy_key e d)) members ≡ list_any (λ w. holds m w.key) ws =
      sym (any_mapped copy (λ w. holds m w.key) xs ∙ any_filtered (λ d. holds m (copy_key e d)) r members) in
      let full : list_any (λ d. r d && nat_le most_for_one (count_by (is_to d) m.items)) members ≡ list_any (λ w. nat_lt most_for_one (count_by (is_to w.key.destination) (m.items ++ ws))) ws =
      sym (any_filtered (λ d. nat_le most_for_one (count_by (is_to d) m.items)) r members)
      ∙ any_alike (λ d. nat_le most_for_one (count_by (is_to d) m.items)) (λ d. nat_lt most_for_one (count_by (is_to d) (m.items ++ ws))) xs
      (All-weaker (λ x. count_by (is_to x) ws ≡ 1) (λ x. nat_le most_for_one (count_by (is_to x) m.items) ≡ nat_lt most_for_one (count_by (is_to x) (m.items ++ ws))) (λ x one. full_with m x ws one) xs
      (one_for_each xs (AllPairs-filter (λ a b. a < b) r members rising)))
      ∙ sym (any_mapped copy (λ w. nat_lt most_for_one (count_by (is_to w.key.destination) (m.items ++ ws))) xs) in
      let crowded : nat_lt m.room (length m.items + count_by r members) ≡ nat_lt m.room (length (m.items ++ ws)) =
      ap (nat_lt m.room) (sym (length-append m.items ws ∙ ap (λ n. length m.items + n) counted)) in
      let none : (count_by r members == 0) ≡ (length ws == 0) = ap (λ n. n == 0) (sym counted) in
      λ i. first_of_copies (none i) (busy i) (full i) (crowded i)

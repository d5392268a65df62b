-- The copies of a message to a group keep what holds of the mail.
use Rattle.std.proofs.Common.{◌≡◌, ℕ, ◌+◌, ◌<◌, ◌≤◌, Bool, true, false, cond, List, [], ◌∷◌, ◌++◌, length, get_or, map, refl, ap, sym, ◌∙◌, subst, arith, None, inl, inr}
use Rattle.std.specs.Prelude.{◌==◌, ◌&&◌, ◌⊎◌, nat_lt, count_by}
use Rattle.std.specs.List.{All, AllPairs, filter, list_any}
use Rattle.std.proofs.lemmas.List.Elements.{All-head, All-tail, All-append, All-map, All-weaker}
use Rattle.std.proofs.lemmas.List.Kept.{AllPairs-cons, AllPairs-filter}
use Rattle.std.proofs.lemmas.List.Sums.{sum_by-append, sum_by-cons}
use Rattle.base.proofs.Numbers.{same_by_test}
use Rattle.registration.specs.Registered.{Registered, rule_of}
use Rattle.mailbox.specs.declared.key.GroupEnvelope.{GroupEnvelope}
use Rattle.mailbox.specs.declared.key.Stamp.{Stamp}
use Rattle.mailbox.specs.Values.{Item, Mailed}
use Rattle.mailbox.specs.Item.{same_key, is_at, is_to}
use Rattle.mailbox.specs.Order.{IsBefore}
use Rattle.mailbox.specs.Mail.{holds}
use Rattle.mailbox.specs.Refusals.{unknown_refusal, absent_refusal, most_for_one}
use Rattle.mailbox.specs.GroupPost.{copy_key, copy_for, copies, is_receiver, addressed, first_of_copies, copies_refusal, group_refusal}
use Rattle.mailbox.specs.Sound.{IsSpelt, IsNumbered}
use Rattle.mailbox.specs.Laws.{GroupPostIsMail}
use Rattle.mailbox.proofs.Lists.{any_mapped, none_passes, pairs_head, pairs_tail}
use Rattle.mailbox.proofs.Sound.{at_most, or_none, one_more, is_before}
use Rattle.mailbox.proofs.Copies.{made, other_key, before_other}
use Rattle.mailbox.proofs.CopiesRefused.{any_filtered}

-- none of these
record AreTaken (none busy full crowded : Bool) : Type 0 where
  some : none ≡ false
  free : busy ≡ false
  fit_each : full ≡ false
  fit : crowded ≡ false

not_first : (none busy full crowded : Bool) → first_of_copies none busy full crowded ≡ None → AreTaken none busy full crowded
not_first true busy full crowded e = absurd cc
not_first false true full crowded e = absurd cc
not_first false false true crowded e = absurd cc
not_first false false false true e = absurd cc
not_first false false false false e = record { some = refl; free = refl; fit_each = refl; fit = refl }

-- what the copies are asked, where they are taken
taken : (s : Registered) (m : Mailed) (e : GroupEnvelope) (ws : List Item) → group_refusal s m e ws ≡ None
    → AreTaken (length ws == 0) (list_any (λ w. holds m w.key) ws)
    (list_any (λ w. nat_lt most_for_one (count_by (is_to w.key.destination) (m.items ++ ws))) ws) (nat_lt m.room (length (m.items ++ ws)))
taken s m e ws none =
    let known = or_none (unknown_refusal (rule_of s e.group)) _ none in
    let present = or_none (absent_refusal s e.source) (copies_refusal m ws) known.1 in
    not_first (length ws == 0) (list_any (λ w. holds m w.key) ws)
    (list_any (λ w. nat_lt most_for_one (count_by (is_to w.key.destination) (m.items ++ ws))) ws) (nat_lt m.room (length (m.items ++ ws))) present.1

-- the keys of copies that are taken are free
pub free_keys : (s : Registered) (m : Mailed) (e : GroupEnvelope) (members : List ℕ) (stamp : Stamp) (pdu : List Bool) (w : Item) →
    w ≡ copy_for s e stamp pdu e.source → group_refusal s m e (copies s e members stamp pdu) ≡ None
    → list_any (λ d. is_receiver s w.key.source d && holds m (addressed w d).key) members ≡ false
free_keys s m e members stamp pdu w is none =
    ap (λ o. list_any (λ d. is_receiver s o.key.source d && holds m (addressed o d).key) members) is
    ∙ sym (any_mapped (copy_for s e stamp pdu) (λ o. holds m o.key) (filter (is_receiver s e.source) members) ∙ any_filtered (λ d. holds m (copy_key e d)) (is_receiver s e.source) members)
    ∙ (taken s m e (copies s e members stamp pdu) none).free

-- and they are made of that message
pub made_of : (s : Registered) (e : GroupEnvelope) (members : List ℕ) (stamp : Stamp) (pdu : List Bool) (w : Item) →
    w ≡ copy_for s e stamp pdu e.source → made w (is_receiver s w.key.source) members ≡ copies s e members stamp pdu
made_of s e members stamp pdu w is = ap (λ o. made o (is_receiver s o.key.source) members) is

module _ (R : Item → Item → Type 0) where
  pairs_append : (xs ys : List Item) → AllPairs R xs → AllPairs R ys → All (λ x. All (R x) ys) xs → AllPairs R (xs ++ ys)
  pairs_append [] ys first second between = second
  pairs_append (x ∷ xs) ys first second between =
      AllPairs-cons R x (xs ++ ys) (All-append (R x) xs ys (pairs_head R x xs first) (All-head (λ o. All (R o) ys) x xs between))
      (pairs_append xs ys (pairs_tail R x xs first) second (All-tail (λ o. All (R o) ys) x xs between))

  pairs_map : (f : ℕ → Item) (xs : List ℕ) → ((a b : ℕ) → a < b → R (f a) (f b)) → AllPairs (λ a b. a < b) xs → AllPairs R (map f xs)
  pairs_map f [] each rising = λ i j d less below. absurd (omega arith)
  pairs_map f (x ∷ xs) each rising =
      AllPairs-cons R (f x) (map f xs) (All-map (R (f x)) f xs (All-weaker (λ b. x < b) (λ b. R (f x) (f b)) (λ b less. each x b less) xs (pairs_head (λ a b. a < b) x xs rising)))
      (pairs_map f xs each (pairs_tail (λ a b. a < b) x xs rising))

abbrev weight : Bool → ℕ
weight b = cond b 1 0

-- a destination is one of these, or none of them is for it
one_or_none : (full : ℕ → Bool) (d : ℕ) (w : Item) (ws : List Item) (b : Bool) → is_to d w ≡ b → full w.key.destination ≡ false → (full d ≡ false) ⊎
    (count_by (is_to d) ws ≡ 0) → (full d ≡ false) ⊎ (count_by (is_to d) (w ∷ ws) ≡ 0)
one_or_none full d w ws true e room rest = inl (subst (λ n. full n ≡ false) (same_by_test w.key.destination d e) room)
one_or_none full d w ws false e room (inl fits) = inl fits
one_or_none full d w ws false e room (inr none) =
    inr (let all : count_by (is_to d) (w ∷ ws) ≡ weight (is_to d w) + count_by (is_to d) ws = sum_by-cons (λ o. weight (is_to d o)) w ws in
    let nothing : weight (is_to d w) ≡ 0 = ap weight e in
    omega (arith, all, nothing, none))

each_or_none : (full : ℕ → Bool) (d : ℕ) (ws : List Item) → All (λ w. full w.key.destination ≡ false) ws → (full d ≡ false) ⊎ (count_by (is_to d) ws ≡ 0)
each_or_none full d [] room = inr refl
each_or_none full d (w ∷ ws) room =
    one_or_none full d w ws (is_to d w) refl (All-head (λ o. full o.key.destination ≡ false) w ws room) (each_or_none full d ws (All-tail (λ o. full o.key.destination ≡ false) w ws room))

fits_for : (m : Mailed) (ws : List Item) (d : ℕ) → count_by (is_to d) m.items ≤ most_for_one →
    (nat_lt most_for_one (count_by (is_to d) (m.items ++ ws)) ≡ false) ⊎ (count_by (is_to d) ws ≡ 0) →
    count_by (is_to d) (m.items ++ ws) ≤ most_for_one
fits_for m ws d before (inl fits) = at_most most_for_one (count_by (is_to d) (m.items ++ ws)) fits
fits_for m ws d before (inr none) =
    let all : count_by (is_to d) (m.items ++ ws) ≡ count_by (is_to d) m.items + count_by (is_to d) ws = sum_by-append (λ w. weight (is_to d w)) m.items ws in
    omega (arith, all, none, before)

pub group_post_is_mail : GroupPostIsMail
group_post_is_mail s count m e members stamp pdu h rising number head written none =
    let xs : List ℕ = filter (is_receiver s e.source) members in
    let copy : ℕ → Item = copy_for s e stamp pdu in
    let ws : List Item = map copy xs in
    let fine = taken s m e ws none in
    let apart : AllPairs (λ a b. a < b) xs = AllPairs-filter (λ a b. a < b) (is_receiver s e.source) members rising in
    let numbered : All (λ w. w.number ≡ stamp.number) ws = All-map (λ w. w.number ≡ stamp.number) copy xs (λ k d below. refl) in
    let free : All (λ w. holds m w.key ≡ false) ws = none_passes (λ w. holds m w.key) ws fine.free in
    record {
      numbered = All-append (IsNumbered (count + 1)) m.items ws (All-weaker (IsNumbered count) (IsNumbered (count + 1)) (one_more count (count + 1) (omega arith)) m.items h.numbered)
          (All-map (IsNumbered (count + 1)) copy xs (λ k d below. (omega (arith, number), omega (arith, number))));
      ordered = pairs_append IsBefore m.items ws h.ordered (pairs_map IsBefore copy xs (λ a b less. before_other (copy e.source) a b less) apart)
          (λ k d below l f within. is_before (get_or m.items k d).number (get_or ws l f).number (get_or m.items k d).key (get_or ws l f).key
          (let old = h.numbered k d below in let new = numbered l f within in omega (arith, old.1, new, number)));
      apart = pairs_append (λ a b. same_key b.key a.key ≡ false) m.items ws h.apart (pairs_map (λ a b. same_key b.key a.key ≡ false) copy xs (λ a b less. other_key (copy e.source) a b less) apart)
          (λ k d below l f within. none_passes (is_at (get_or ws l f).key) m.items (free l f within) k d below);
      fits = at_most m.room (length (m.items ++ ws)) fine.fit;
      fits_each = λ destination. fits_for m ws destination (h.fits_each destination)
          (each_or_none (λ d. nat_lt most_for_one (count_by (is_to d) (m.items ++ ws))) destination ws
          (none_passes (λ w. nat_lt most_for_one (count_by (is_to w.key.destination) (m.items ++ ws))) ws fine.fit_each));
      spelt = All-append IsSpelt m.items ws h.spelt (All-map IsSpelt copy xs (λ k d below. record { head = head; written = written }));
    }

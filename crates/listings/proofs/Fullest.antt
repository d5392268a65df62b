-- The first greatest of a list, kept on the way through it, is the first one that is no smaller than any.
use Rattle.std.proofs.Common.{◌≡◌, ℕ, suc, length, ◌<◌, ◌≤◌, Bool, true, false, List, [], ◌∷◌, Option, Some, None, refl, sym, ap, ◌∙◌, arith, cond}
use Rattle.std.specs.Prelude.{◌&&◌, nat_le, count_by, if◌then◌else◌}
use Rattle.std.specs.List.{find, list_all}
use Rattle.std.specs.Option.{option_map}
use Rattle.std.proofs.lemmas.List.Sums.{length-filter}
use Rattle.std.proofs.lemmas.Bool.Decides.{nat_tests}
use Rattle.std.specs.List.{AllPairs}
use Rattle.base.proofs.Bools.{and_false}
use Rattle.prefix_tree.specs.Following.{one_by_one, then_on}
use Rattle.prefix_tree.proofs.Following.{all_one_by_one}
use Rattle.mailbox.specs.Numbers.{Number}
use Rattle.mailbox.specs.declared.key.Key.{Key}
use Rattle.mailbox.specs.Values.{Item, Mailed}
use Rattle.mailbox.specs.Item.{is_to}
use Rattle.mailbox.specs.Mail.{waiting}
use Rattle.mailbox.specs.Order.{IsBefore, named, named_cmp, next_item}
use Rattle.mailbox.proofs.Keys.{named_total}
use Rattle.listings.specs.Fullest.{fullest, beside}
use Rattle.listings.specs.Inside.Fuller.{fuller}

-- whoever is no smaller than the greater of two is no smaller than the other
greater_is_enough : (a b c : ℕ) (t : Bool) → b ≤ a → (nat_le a c && (nat_le b c && t)) ≡ (nat_le a c && t)
greater_is_enough a b c t le = by (nat_le a c) refl
  where
    by : (p : Bool) → nat_le a c ≡ p → (p && (nat_le b c && t)) ≡ (p && t)
    by false e = refl
    by true e = let yes : nat_le b c ≡ true = grind (arith, nat_tests) in ap (λ q. q && t) yes

lesser_is_left_out : (a b c : ℕ) (t : Bool) → a ≤ b → (nat_le a c && (nat_le b c && t)) ≡ (nat_le b c && t)
lesser_is_left_out a b c t le = by (nat_le b c) refl
  where
    by : (p : Bool) → nat_le b c ≡ p → (nat_le a c && (p && t)) ≡ (p && t)
    by false e = and_false (nat_le a c)
    by true e = let yes : nat_le a c ≡ true = grind (arith, nat_tests) in ap (λ q. q && t) yes

self : (n : ℕ) → nat_le n n ≡ true
self n = grind (arith, nat_tests)

-- what is no greater than another passes no test that the other fails
no_better : (a b : ℕ) (test : ℕ → Bool) → b ≤ a → (nat_le a a && test a) ≡ false → (nat_le a b && test b) ≡ false
no_better a b test le fails = by (nat_le a b) refl
  where
    by : (p : Bool) → nat_le a b ≡ p → (p && test b) ≡ false
    by false e = refl
    by true e = let same : b ≡ a = grind (arith, nat_tests) in ap test same ∙ ap (λ q. q && test a) (sym (self a)) ∙ fails

module _ {X : Type 0} (name : X → ℕ) (size : X → ℕ) where
  abbrev box : X → ℕ × ℕ
  box w = (name w, size w)

  -- none of these is greater
  abbrev is_greatest : List X → X → Bool
  is_greatest xs w = list_all (λ o. nat_le (size o) (size w)) xs

  -- the first greatest of one kept before, if any, and these
  abbrev pub best : Option (ℕ × ℕ) → List X → Option (ℕ × ℕ)
  best kept [] = kept
  best kept (x ∷ xs) = best (fuller kept (box x)) xs

  stays : (k x : X) (xs : List X) → size x ≤ size k → find (is_greatest (k ∷ xs)) (k ∷ xs) ≡ find (is_greatest (k ∷ x ∷ xs)) (k ∷ x ∷ xs)
  stays k x xs le = by (is_greatest (k ∷ xs) k) refl ∙ sym (ap (λ test. find test (k ∷ x ∷ xs)) same)
    where
      same : is_greatest (k ∷ x ∷ xs) ≡ is_greatest (k ∷ xs)
      same = λ i w. greater_is_enough (size k) (size x) (size w) (is_greatest xs w) le i

      rest : Option X
      rest = find (is_greatest (k ∷ xs)) xs

      by : (p : Bool) → is_greatest (k ∷ xs) k ≡ p → cond p (Some k) rest ≡ cond p (Some k) (cond (is_greatest (k ∷ xs) x) (Some x) rest)
      by true e = refl
      by false e = sym (ap (λ q. cond q (Some x) rest) (no_better (size k) (size x) (λ n. list_all (λ o. nat_le (size o) n) xs) le e))

  replaces : (k x : X) (xs : List X) → size k < size x → find (is_greatest (x ∷ xs)) (x ∷ xs) ≡ find (is_greatest (k ∷ x ∷ xs)) (k ∷ x ∷ xs)
  replaces k x xs less = sym (ap (λ test. find test (k ∷ x ∷ xs)) same ∙ ap (λ q. cond q (Some k) (find (is_greatest (x ∷ xs)) (x ∷ xs))) not_first)
    where
      same : is_greatest (k ∷ x ∷ xs) ≡ is_greatest (x ∷ xs)
      same = λ i w. lesser_is_left_out (size k) (size x) (size w) (is_greatest xs w) (omega (arith, less)) i

      smaller : nat_le (size x) (size k) ≡ false
      smaller = grind (arith, nat_tests, less)

      not_first : is_greatest (x ∷ xs) k ≡ false
      not_first = ap (λ q. q && is_greatest xs k) smaller

  best_from : (k : X) (xs : List X) → best (Some (box k)) xs ≡ option_map box (find (is_greatest (k ∷ xs)) (k ∷ xs))
  best_from k [] = sym (ap (λ q. option_map box (cond (q && true) (Some k) None)) (self (size k)))
  best_from k (x ∷ xs) = by (nat_le (size x) (size k)) refl (best_from k xs) (best_from x xs)
    where
      by : (p : Bool) → nat_le (size x) (size k) ≡ p → best (Some (box k)) xs ≡ option_map box (find (is_greatest (k ∷ xs)) (k ∷ xs))
          → best (Some (box x)) xs ≡ option_map box (find (is_greatest (x ∷ xs)) (x ∷ xs))
          → best (if p then Some (box k) else Some (box x)) xs ≡ option_map box (find (is_greatest (k ∷ x ∷ xs)) (k ∷ x ∷ xs))
      by true e kept new = kept ∙ ap (option_map box) (stays k x xs (grind (arith, nat_tests, e)))
      by false e kept new = new ∙ ap (option_map box) (replaces k x xs (grind (arith, nat_tests, e)))

  greatest : (xs : List X) → best None xs ≡ option_map box (find (is_greatest xs) xs)
  greatest [] = refl
  greatest (x ∷ xs) = best_from x xs

-- the fullest of one kept before and of the mailboxes of these items, by all items
abbrev pub best_kept : List Item → Option (ℕ × ℕ) → List Item → Option (ℕ × ℕ)
best_kept items kept rest = best (λ w. w.key.destination) (beside items) kept rest

-- from the first item on it is the fullest of all
pub from_first : (m : Mailed) (n : ℕ) → AllPairs IsBefore m.items → length m.items ≤ n → best_kept m.items None (one_by_one (next_item m) named n None) ≡ fullest m.items
from_first m n ordered le =
    ap (best_kept m.items None) (all_one_by_one named_cmp named_total named m.items n ordered le)
    ∙ greatest (λ w. w.key.destination) (beside m.items) m.items

module _ (m : Mailed) (n left : ℕ) (is_left : left ≡ suc n) (kept : Option (ℕ × ℕ)) (after : Option (Number × Key))
    (so_far : best_kept m.items kept (one_by_one (next_item m) named left after) ≡ fullest m.items) where
  opened : best_kept m.items kept (then_on (λ x. one_by_one (next_item m) named n (Some (named x))) (next_item m after)) ≡ fullest m.items
  opened = sym (ap (λ k. best_kept m.items kept (one_by_one (next_item m) named k after)) is_left) ∙ so_far

  -- an item on
  pub one_on : (w : Item) → Some w ≡ next_item m after → (number : Number) → number ≡ w.number → (key : Key) → key ≡ w.key → (count : ℕ) → count ≡ length (waiting m key.destination)
      → (new : Option (ℕ × ℕ)) → new ≡ fuller kept (key.destination, count) → best_kept m.items new (one_by_one (next_item m) named n (Some (number, key))) ≡ fullest m.items
  one_on w next number number_is key key_is count count_is new new_is =
      let counted : count ≡ beside m.items w = count_is ∙ length-filter (is_to key.destination) m.items ∙ ap (λ (k : Key). count_by (is_to k.destination) m.items) key_is in
      let newer : new ≡ fuller kept (w.key.destination, beside m.items w) = new_is ∙ (λ i. fuller kept ((key_is i).destination, counted i)) in
      (λ i. best_kept m.items (newer i) (one_by_one (next_item m) named n (Some (number_is i, key_is i))))
      ∙ ap (λ o. best_kept m.items kept (then_on (λ x. one_by_one (next_item m) named n (Some (named x))) o)) next ∙ opened

  -- none is left
  pub at_end : None ≡ next_item m after → kept ≡ fullest m.items
  at_end next = ap (λ o. best_kept m.items kept (then_on (λ x. one_by_one (next_item m) named n (Some (named x))) o)) next ∙ opened

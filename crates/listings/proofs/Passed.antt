-- Items that are taken one after another until one passes a test: that is the first of all that pass it.
use Rattle.std.proofs.Common.{◌≡◌, suc, ◌≤◌, Bool, true, false, cond, List, [], ◌∷◌, length, Option, Some, None, refl, sym, ap, subst, ◌∙◌, arith}
use Rattle.std.specs.Prelude.{◌&&◌, IfSome, unwrap_or}
use Rattle.std.specs.List.{All, AllPairs, filter, find}
use Rattle.std.specs.Cmp.{IsTotalOrder}
use Rattle.std.specs.Ordering.{is_lt, ordering_reverse}
use Rattle.std.specs.declared.cmp.Ordering.{Ordering}
use Rattle.std.specs.declared.cmp.Ordering.TheVariants.{Less}
use Rattle.std.proofs.lemmas.Cmp.{tied_itself}
use Rattle.std.proofs.lemmas.List.Elements.{All-head, All-tail}
use Rattle.std.proofs.lemmas.List.Sums.{length-filter, count_by-le-length}
use Rattle.base.proofs.Bools.{is_less, and_turned}
use Rattle.base.proofs.Lists.{found_all}
use Rattle.prefix_tree.specs.Following.{is_after, next_of, AreRising}
use Rattle.mailbox.specs.Numbers.{Number}
use Rattle.mailbox.specs.declared.key.Key.{Key}
use Rattle.mailbox.specs.Values.{Item, Mailed}
use Rattle.mailbox.specs.Order.{IsBefore, named, named_cmp, next_item}
use Rattle.mailbox.proofs.Keys.{named_total}
use Rattle.mailbox.proofs.Lists.{pairs_head, pairs_tail}

module _ {X : Type 0} where
  one_filtered : (p : X → Bool) (b : Bool) (x : X) (ys : List X) → find p (cond b (x ∷ ys) ys) ≡ cond (b && p x) (Some x) (find p ys)
  one_filtered p true x ys = refl
  one_filtered p false x ys = refl

  -- the first to pass one test of those that pass another
  both_tests : (p q : X → Bool) (xs : List X) → find p (filter q xs) ≡ find q (filter p xs)
  both_tests p q [] = refl
  both_tests p q (x ∷ xs) =
      one_filtered p (q x) x (filter q xs) ∙ (λ i. cond (and_turned (q x) (p x) i) (Some x) (both_tests p q xs i)) ∙ sym (one_filtered q (p x) x (filter p xs))

  all_kept : (p : X → Bool) (xs : List X) → All (λ x. p x ≡ true) xs → filter p xs ≡ xs
  all_kept p [] all = refl
  all_kept p (x ∷ xs) all =
      ap (λ b. cond b (x ∷ filter p xs) (filter p xs)) (All-head (λ y. p y ≡ true) x xs all) ∙ ap (λ (ys : List X). x ∷ ys) (all_kept p xs (All-tail (λ y. p y ≡ true) x xs all))

module _ {K X : Type 0} (cmp : K → K → Ordering) (total : IsTotalOrder cmp) (key : X → K) where
  -- the items after a key
  abbrev pub rest : List X → Option K → List X
  rest xs at = filter (is_after cmp key at) xs

  not_before : (x y : K) → cmp x y ≡ Less → is_lt (cmp y x) ≡ false
  not_before x y less = ap is_lt (total.antisymm y x ∙ ap ordering_reverse less)

  still_after : (at : Option K) (x y : X) → is_after cmp key at x ≡ true → cmp (key x) (key y) ≡ Less → is_after cmp key at y ≡ true
  still_after None x y here less = refl
  still_after (Some k) x y here less = ap is_lt (total.trans k (key x) (key y) (is_less (cmp k (key x)) here) less)

  -- the next item, and those after it
  pub goes_on : (xs : List X) (at : Option K) (w : X) → AreRising cmp key xs → Some w ≡ next_of cmp key xs at → rest xs at ≡ w ∷ rest xs (Some (key w))
  goes_on [] at w rise next = absurd cc
  goes_on (x ∷ xs) at w rise next = by (goes_on xs at w (pairs_tail (λ a b. cmp (key a) (key b) ≡ Less) x xs rise)) (is_after cmp key at x) refl next
    where
      above : All (λ y. cmp (key x) (key y) ≡ Less) xs
      above = pairs_head (λ a b. cmp (key a) (key b) ≡ Less) x xs rise

      here_on : is_after cmp key at x ≡ true → rest xs at ≡ rest (x ∷ xs) (Some (key x))
      here_on here =
          all_kept (is_after cmp key at) xs (λ i d below. still_after at x _ here (above i d below))
          ∙ sym (all_kept (is_after cmp key (Some (key x))) xs (λ i d below. ap is_lt (above i d below)))
          ∙ sym (ap (λ b. cond b (x ∷ rest xs (Some (key x))) (rest xs (Some (key x)))) (ap is_lt (tied_itself total (key x))))

      by : (Some w ≡ next_of cmp key xs at → rest xs at ≡ w ∷ rest xs (Some (key w))) → (b : Bool) → is_after cmp key at x ≡ b →
          Some w ≡ cond b (Some x) (next_of cmp key xs at) → cond b (x ∷ rest xs at) (rest xs at) ≡ w ∷ rest (x ∷ xs) (Some (key w))
      by later true here is =
          let same : w ≡ x = ap (λ o. unwrap_or o w) is in
          ap (λ (ys : List X). x ∷ ys) (here_on here) ∙ ap (λ v. v ∷ rest (x ∷ xs) (Some (key v))) (sym same)
      by later false here is =
          let less : cmp (key x) (key w) ≡ Less = subst (λ o. IfSome o (λ v. cmp (key x) (key v) ≡ Less)) (sym is) (found_all (λ v. cmp (key x) (key v) ≡ Less) (is_after cmp key at) xs above) in
          later is
          ∙ ap (λ (ys : List X). w ∷ ys) (sym (ap (λ b. cond b (x ∷ rest xs (Some (key w))) (rest xs (Some (key w)))) (not_before (key x) (key w) less)))

  -- no next item
  pub is_over : (xs : List X) (at : Option K) → None ≡ next_of cmp key xs at → rest xs at ≡ []
  is_over [] at next = refl
  is_over (x ∷ xs) at next = by (is_over xs at) (is_after cmp key at x) next
    where
      by : (None ≡ next_of cmp key xs at → rest xs at ≡ []) → (b : Bool) → None ≡ cond b (Some x) (next_of cmp key xs at) → cond b (x ∷ rest xs at) (rest xs at) ≡ []
      by later true is = absurd cc
      by later false is = later is

-- the items after a number and key
abbrev pub left : Mailed → Option (Number × Key) → List Item
left m at = rest named_cmp named_total named m.items at

module _ (m : Mailed) (ordered : AllPairs IsBefore m.items) (test : Item → Bool) where
  -- at the beginning
  pub at_first : (after : Option (Number × Key)) → find test (left m after) ≡ next_of named_cmp named (filter test m.items) after
  at_first after = both_tests test (is_after named_cmp named after) m.items

  pub few_left : (after : Option (Number × Key)) → length (left m after) ≤ length m.items
  few_left after = omega (arith, length-filter (is_after named_cmp named after) m.items, count_by-le-length (is_after named_cmp named after) m.items)

  -- an item that passes
  pub found : (at : Option (Number × Key)) (w : Item) → Some w ≡ next_item m at → test w ≡ true → find test (left m at) ≡ Some w
  found at w next passes =
      ap (find test) (goes_on named_cmp named_total named m.items at w ordered next) ∙ ap (λ b. cond b (Some w) (find test (left m (Some (named w))))) passes

  -- an item that does not
  pub passed : (at : Option (Number × Key)) (w : Item) → Some w ≡ next_item m at → test w ≡ false → find test (left m (Some (named w))) ≡ find test (left m at)
  passed at w next fails =
      sym (ap (find test) (goes_on named_cmp named_total named m.items at w ordered next) ∙ ap (λ b. cond b (Some w) (find test (left m (Some (named w))))) fails)

  pub one_less : (at : Option (Number × Key)) (w : Item) → Some w ≡ next_item m at → suc (length (left m (Some (named w)))) ≡ length (left m at)
  one_less at w next = sym (ap length (goes_on named_cmp named_total named m.items at w ordered next))

  -- no item is left
  pub at_end : (at : Option (Number × Key)) → None ≡ next_item m at → find test (left m at) ≡ None
  at_end at next = ap (find test) (is_over named_cmp named_total named m.items at next)

  pub none_left : (items : List Item) → length items ≤ 0 → find test items ≡ None
  none_left [] few = refl
  none_left (w ∷ ws) few = absurd (omega (arith, few))

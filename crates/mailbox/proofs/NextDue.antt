-- The item after a number and key that has ended, by the index.
use Rattle.std.proofs.Common.{◌≡◌, ℕ, Bool, true, false, cond, List, [], ◌∷◌, Option, Some, refl, ap, sym, ◌∙◌}
use Rattle.std.specs.Prelude.{◌&&◌}
use Rattle.std.specs.List.{filter, find}
use Rattle.base.proofs.Lists.{found_all}
use Rattle.prefix_tree.specs.Following.{is_after, next_of}
use Rattle.mailbox.specs.declared.key.Key.{Key}
use Rattle.mailbox.specs.declared.place.ItemPlace.{ItemPlace}
use Rattle.mailbox.specs.Values.{Item}
use Rattle.mailbox.specs.Item.{is_expired}
use Rattle.mailbox.specs.Order.{named_cmp, named, place_of}
use Rattle.mailbox.specs.Inside.Boxes.{Boxes, item_at, AreFiled}
use Rattle.mailbox.specs.Inside.Places.{is_due_after}
use Rattle.mailbox.proofs.Lists.{find_agree, find_mapped}
use Rattle.mailbox.proofs.Filing.{found_each}
use Rattle.mailbox.proofs.NextItem.{same_test, at_place, looked_up}

module _ {X : Type 0} (p q : X → Bool) where
  one_filtered : (b : Bool) (x : X) (ys : List X) (o : Option X) → find p ys ≡ o → find p (cond b (x ∷ ys) ys) ≡ cond (b && p x) (Some x) o
  one_filtered true x ys o e = ap (cond (p x) (Some x)) e
  one_filtered false x ys o e = e

  -- the first of those that pass a test
  find_filtered : (xs : List X) → find p (filter q xs) ≡ find (λ x. q x && p x) xs
  find_filtered [] = refl
  find_filtered (x ∷ xs) = one_filtered (q x) x (filter q xs) (find (λ y. q y && p y) xs) (find_filtered xs)

-- the item at the first such place is the first such item
pub next_due_filed : (ws : List Item) (boxes : Boxes) (order : List ItemPlace) (moment : ℕ) (after : Option (ℕ × Key)) (o : Option ItemPlace) →
    AreFiled ws boxes order → o ≡ find (is_due_after moment after) order → at_place boxes o ≡ next_of named_cmp named (filter (is_expired moment) ws)
    after
next_due_filed ws boxes order moment after o filed first =
    let same : find (λ w. is_due_after moment after (place_of w)) ws ≡ find (λ w. is_expired moment w && is_after named_cmp named after w) ws =
    find_agree (λ w. is_due_after moment after (place_of w)) (λ w. is_expired moment w && is_after named_cmp named after w) (λ w. ap (λ b. is_expired moment w && b) (same_test after w)) ws in
    ap (at_place boxes) (first ∙ ap (find (is_due_after moment after)) filed.indexed ∙ find_mapped place_of (is_due_after moment after) ws)
    ∙ looked_up boxes (find (λ w. is_due_after moment after (place_of w)) ws)
    (found_all (λ w. item_at boxes w.key ≡ Some w) (λ w. is_due_after moment after (place_of w)) ws (found_each ws boxes order filed))
    ∙ same ∙ sym (find_filtered (is_after named_cmp named after) (is_expired moment) ws)

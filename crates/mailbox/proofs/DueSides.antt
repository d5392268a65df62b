-- The first place after a number and key whose item has ended, at and below a node.
use Rattle.std.proofs.Common.{◌≡◌, ℕ, ◌+◌, ◌≤◌, Bool, true, false, cond, List, [], ◌∷◌, ◌++◌, refl, ap, sym, ◌∙◌, subst, arith, Option, Some, None}
use Rattle.std.specs.Prelude.{◌*◌, ◌&&◌}
use Rattle.std.specs.List.{All, find}
use Rattle.std.specs.declared.boxed.Box.{Box}
use Rattle.std.proofs.lemmas.List.Elements.{All-head, All-tail, All-weaker}
use Rattle.base.proofs.Bools.{and_false, and_true}
use Rattle.prefix_tree.specs.Following.{is_after}
use Rattle.mailbox.specs.declared.key.Key.{Key}
use Rattle.mailbox.specs.declared.place.ItemPlace.{ItemPlace}
use Rattle.mailbox.specs.Order.{named_cmp}
use Rattle.mailbox.specs.Inside.Boxes.{name_of}
use Rattle.mailbox.specs.Inside.Places.{InOrder, Branch, is_due, is_due_after, places_of, branch}
use Rattle.mailbox.proofs.Lists.{never_found}
use Rattle.mailbox.proofs.Sides.{none_found, none_earlier, all_later, there, found_later}

module _ {X : Type 0} where
  find_alike : (p q : X → Bool) (xs : List X) → All (λ x. p x ≡ q x) xs → find p xs ≡ find q xs
  find_alike p q [] h = refl
  find_alike p q (x ∷ xs) h =
      let first : p x ≡ q x = All-head (λ y. p y ≡ q y) x xs h in
      let rest : find p xs ≡ find q xs = find_alike p q xs (All-tail (λ y. p y ≡ q y) x xs h) in
      λ i. cond (first i) (Some x) (rest i)

  -- nothing passes both of two tests where nothing passes one
  none_first : (p q : X → Bool) (xs : List X) → find p xs ≡ None → find (λ x. p x && q x) xs ≡ None
  none_first p q xs none = none_found (λ x. p x && q x) xs (All-weaker (λ x. p x ≡ false) (λ x. (p x && q x) ≡ false) (λ x e. ap (λ b. b && q x) e) xs (never_found p xs none))

  none_second : (p q : X → Bool) (xs : List X) → find q xs ≡ None → find (λ x. p x && q x) xs ≡ None
  none_second p q xs none = none_found (λ x. p x && q x) xs (All-weaker (λ x. q x ≡ false) (λ x. (p x && q x) ≡ false) (λ x e. ap (λ b. p x && b) e ∙ and_false (p x)) xs (never_found q xs none))

-- nothing has ended, also after a key
pub none_after : (moment : ℕ) (after : Option (ℕ × Key)) (places : List ItemPlace) → None ≡ find (is_due moment) places → None ≡ find (is_due_after moment after) places
none_after moment after places none = sym (none_first (is_due moment) (is_after named_cmp name_of after) places (sym none))

module _ {A : Type 0} (o : Option (Box Branch A)) (b : Box Branch A) (v : Branch) (is : o ≡ Some b) (at : v ≡ b.value) (p : ItemPlace) (e l : Option (Box Branch A)) (parts : branch p e l ≡ v) where
  module _ (order : InOrder (places_of o)) (moment : ℕ) (after : Option (ℕ × Key)) where
    parted : InOrder (places_of e ++ p ∷ places_of l)
    parted = subst InOrder (there o b v is at p e l parts) order

    -- where the node's own place is not after the key, the first is on the later side
    pub due_later : (r : Option ItemPlace) → is_after named_cmp name_of after p ≡ false → r ≡ find (is_due_after moment after) (places_of l) → r ≡ find (is_due_after moment after) (places_of o)
    due_later r off found =
        found_later o b v is at p e l parts (is_due_after moment after) r
        (sym (none_second (is_due moment) (is_after named_cmp name_of after) (places_of e) (none_earlier (places_of e) p (places_of l) parted after off)))
        (ap (λ c. is_due moment p && c) off ∙ and_false (is_due moment p)) found

    -- where it is after the key, but has not ended, all on the later side are after the key
    pub due_beyond : (r : Option ItemPlace) → None ≡ find (is_due_after moment after) (places_of e) → is_after named_cmp name_of after p ≡ true →
        is_due moment p ≡ false → r ≡ find (is_due moment) (places_of l) → r ≡ find (is_due_after moment after) (places_of o)
    due_beyond r none here not_due found =
        found_later o b v is at p e l parts (is_due_after moment after) r none (ap (λ c. c && is_after named_cmp name_of after p) not_due)
        (found ∙ sym (find_alike (is_due_after moment after) (is_due moment) (places_of l)
        (All-weaker (λ q. is_after named_cmp name_of after q ≡ true) (λ q. is_due_after moment after q ≡ is_due moment q)
        (λ q later. ap (λ c. is_due moment q && c) later ∙ and_true (is_due moment q)) (places_of l)
        (all_later (places_of e) p (places_of l) parted after here))))

-- what a search costs that begins at the root, by a height that is no lower
pub root_steps : (r : Bool) (old new height above : ℕ) → height ≤ above → new ≤ old + cond r (4 * height) (2 * height + 1) → new ≤ old + (4 * above + 1)
root_steps true old new height above most cost = omega (arith, most, cost)
root_steps false old new height above most cost = omega (arith, most, cost)

-- The items at the places of a node: those of its one side, its own, those of the other.
use Rattle.std.proofs.Common.{◌≡◌, List, [], ◌∷◌, ◌++◌, refl, ap, sym, ◌∙◌, Option, Some, None}
use mathlib.Core.List.{append_assoc}
use Rattle.std.specs.List.{cons_option}
use Rattle.std.specs.declared.boxed.Box.{Box}
use Rattle.std.proofs.lemmas.List.Elements.{filter_map-append}
use Rattle.mailbox.specs.declared.place.ItemPlace.{ItemPlace}
use Rattle.mailbox.specs.Values.{Item}
use Rattle.mailbox.specs.Inside.Boxes.{Boxes, item_at, in_order}
use Rattle.mailbox.specs.Inside.Places.{Branch, places_of, branch}
use Rattle.mailbox.proofs.Sides.{there}

one_first : (o : Option Item) (ws : List Item) → cons_option o ws ≡ cons_option o [] ++ ws
one_first None ws = refl
one_first (Some w) ws = refl

module _ (boxes : Boxes) {A : Type 0} (o : Option (Box Branch A)) (b : Box Branch A) (v : Branch) (is : o ≡ Some b) (at : v ≡ b.value) (p : ItemPlace)
    (e l : Option (Box Branch A)) (parts : branch p e l ≡ v) where
  in_parts : in_order boxes (places_of o) ≡ in_order boxes (places_of e) ++ (cons_option (item_at boxes p.key) [] ++ in_order boxes (places_of l))
  in_parts =
      ap (in_order boxes) (there o b v is at p e l parts) ∙ filter_map-append (λ place. item_at boxes place.key) (places_of e) (p ∷ places_of l)
      ∙ ap (λ ws. in_order boxes (places_of e) ++ ws) (one_first (item_at boxes p.key) (in_order boxes (places_of l)))

  pub pushed : (old first own all : List Item) (item : Option Item) → first ≡ old ++ in_order boxes (places_of e) →
      own ≡ first ++ cons_option item [] → item ≡ item_at boxes p.key → all ≡ own ++ in_order boxes (places_of l) →
      all ≡ old ++ in_order boxes (places_of o)
  pushed old first own all item first_is own_is item_is all_is =
      let es : List Item = in_order boxes (places_of e) in
      let ls : List Item = in_order boxes (places_of l) in
      let ps : List Item = cons_option (item_at boxes p.key) [] in
      all_is ∙ (λ i. (own_is i) ++ ls) ∙ (λ i. (first_is i ++ cons_option (item_is i) []) ++ ls)
      ∙ append_assoc (old ++ es) ps ls ∙ append_assoc old es (ps ++ ls) ∙ ap (λ ws. old ++ ws) (sym in_parts)

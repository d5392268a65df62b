-- The item after a number and key, by the index.
use Rattle.std.proofs.Common.{◌≡◌, ℕ, ◌<◌, Bool, true, false, cond, List, [], ◌∷◌, length, map, Option, Some, None, refl, ap, sym, ◌∙◌, subst}
use Rattle.std.specs.Prelude.{IfSome}
use Rattle.std.specs.Option.{option_map}
use Rattle.std.proofs.Math.ListN.{get_or-map}
use Rattle.std.proofs.lemmas.List.{length-map}
use Rattle.base.proofs.Lists.{found_all}
use Rattle.prefix_tree.specs.Following.{is_after, next_of, AreRising}
use Rattle.mailbox.specs.declared.key.Key.{Key}
use Rattle.mailbox.specs.declared.place.ItemPlace.{ItemPlace}
use Rattle.mailbox.specs.Values.{Item}
use Rattle.mailbox.specs.Order.{named_cmp, named, place_of}
use Rattle.mailbox.specs.Inside.Boxes.{Boxes, item_at, name_of, AreFiled}
use Rattle.mailbox.proofs.Filing.{found_each}

-- an item with this place
abbrev item_with : ItemPlace → Item
item_with p = record { key = p.key; number = p.number; deadline = p.deadline; pdu = []; group = None }

pub places_rise : (ws : List Item) (order : List ItemPlace) → order ≡ map place_of ws → AreRising named_cmp named ws → AreRising named_cmp name_of order
places_rise ws order is rise = subst (AreRising named_cmp name_of) (sym is) mapped
  where
    mapped : AreRising named_cmp name_of (map place_of ws)
    mapped i j d lt within =
        let short : j < length ws = subst (λ n. j < n) (length-map ws place_of) within in
        (λ k. named_cmp (name_of (get_or-map place_of ws i (item_with d) k)) (name_of (get_or-map place_of ws j (item_with d) k))) ∙ rise i j (item_with d) lt short

pub same_test : (after : Option (ℕ × Key)) (w : Item) → is_after named_cmp name_of after (place_of w) ≡ is_after named_cmp named after w
same_test None w = refl
same_test (Some k) w = refl

next_mapped : (after : Option (ℕ × Key)) (ws : List Item) → next_of named_cmp name_of (map place_of ws) after ≡ option_map place_of (next_of named_cmp named ws after)
next_mapped after [] = refl
next_mapped after (w ∷ ws) =
    (λ i. cond (same_test after w i) (Some (place_of w)) (next_mapped after ws i)) ∙ by (is_after named_cmp named after w)
  where
    by : (b : Bool) → cond b (Some (place_of w)) (option_map place_of (next_of named_cmp named ws after)) ≡ option_map place_of (cond b (Some w) (next_of named_cmp named ws after))
    by true = refl
    by false = refl

-- the item at a place, if there is a place
abbrev pub at_place : Boxes → Option ItemPlace → Option Item
at_place boxes None = None
at_place boxes (Some p) = item_at boxes p.key

pub looked_up : (boxes : Boxes) (o : Option Item) → IfSome o (λ w. item_at boxes w.key ≡ Some w) → at_place boxes (option_map place_of o) ≡ o
looked_up boxes None there = refl
looked_up boxes (Some w) there = there

pub next_filed : (ws : List Item) (boxes : Boxes) (order : List ItemPlace) (after : Option (ℕ × Key)) (o : Option ItemPlace) → AreFiled ws boxes order →
    o ≡ next_of named_cmp name_of order after → at_place boxes o ≡ next_of named_cmp named ws after
next_filed ws boxes order after o filed is =
    ap (at_place boxes) (is ∙ ap (λ places. next_of named_cmp name_of places after) filed.indexed ∙ next_mapped after ws)
    ∙ looked_up boxes (next_of named_cmp named ws after) (found_all (λ w. item_at boxes w.key ≡ Some w) (is_after named_cmp named after) ws (found_each ws boxes order filed))

-- How the items are stored: in boxes by destination, and beside them an index of their places, in order.
use Rattle.std.specs.Prelude.{◌≡◌, ◌<◌, ◌^◌, Bool, false, not, List, [], ◌∷◌, ◌++◌, map, Option, Some, None}
use Rattle.std.specs.List.{All, AllPairs, filter, filter_map, find, list_any}
use Rattle.std.specs.FinMap as finite
use Rattle.std.specs.Ordering.{eq_by_cmp}
use Rattle.identity.specs.Path.{Path, path_cmp, id_path}
use Rattle.prefix_tree.specs.Table.{PathMap}
use Rattle.mailbox.specs.Numbers.{Number}
use Rattle.mailbox.specs.declared.key.Key.{Key}
use Rattle.mailbox.specs.declared.place.ItemPlace.{ItemPlace}
use Rattle.mailbox.specs.Values.{Item}
use Rattle.mailbox.specs.Item.{same_key, is_at}
use Rattle.mailbox.specs.Order.{IsBefore, place_of}

-- for each destination, under all bits of its identity, its items, the oldest first
abbrev pub Boxes : Type 0
Boxes = PathMap (List Item)

-- the items of a box, none where there is no box
abbrev pub contents : Option (List Item) → List Item
contents None = []
contents (Some ws) = ws

-- the items under a path
abbrev pub items_under : Boxes → Path → List Item
items_under boxes p = contents (finite.get boxes p)

-- the box of these items; without items there is no box
abbrev pub box_of : List Item → Option (List Item)
box_of [] = None
box_of (w ∷ ws) = Some (w ∷ ws)

-- the boxes with these items under the path
abbrev pub with_items : Boxes → Path → List Item → Boxes
with_items boxes p [] = finite.remove boxes p
with_items boxes p (w ∷ ws) = finite.insert boxes p (w ∷ ws)

-- the boxes without the items under the path that pass the test
abbrev pub swept : Boxes → Path → (Item → Bool) → Boxes
swept boxes p test = with_items boxes p (filter (λ w. not (test w)) (items_under boxes p))

-- these items with this one as the last, in place of any at its key
abbrev pub put_last : List Item → Item → List Item
put_last ws w = filter (λ o. not (is_at w.key o)) ws ++ w ∷ []

-- the boxes with this item as the last in its destination's box, in place of any at its key
abbrev pub put : Boxes → Item → Boxes
put boxes w = let p = id_path w.key.destination in with_items boxes p (put_last (items_under boxes p) w)

-- the item at a key
abbrev pub item_at : Boxes → Key → Option Item
item_at boxes k = find (is_at k) (items_under boxes (id_path k.destination))

-- whether an item is at the key
abbrev pub is_filed : Boxes → Key → Bool
is_filed boxes k = list_any (is_at k) (items_under boxes (id_path k.destination))

-- the number and the key of a place
abbrev pub name_of : ItemPlace → Number × Key
name_of p = (p.number, p.key)

-- the items in the index's order
abbrev pub in_order : Boxes → List ItemPlace → List Item
in_order boxes order = filter_map (λ place. item_at boxes place.key) order

-- the item's destination has this path
abbrev pub is_under : Path → Item → Bool
is_under p w = eq_by_cmp path_cmp p (id_path w.key.destination)

-- The boxes and the index store these items: each destination's box has its items, and the index has the place of each item. The
-- items are in order of number, then of key. No two have the same key, and each destination is the number of an identity.
pub record AreFiled (ws : List Item) (boxes : Boxes) (order : List ItemPlace) : Type 0 where
  pub boxed : (p : Path) → finite.get boxes p ≡ box_of (filter (is_under p) ws)
  pub indexed : order ≡ map place_of ws
  pub ordered : AllPairs IsBefore ws
  pub apart : AllPairs (λ a b. same_key b.key a.key ≡ false) ws
  pub whole : All (λ w. w.key.destination < 2 ^ 48) ws

-- What is filed after each change: the boxes and the index go on giving the items in order.
use Rattle.std.proofs.Common.{◌≡◌, ℕ, suc, ◌<◌, ◌^◌, Bool, true, false, List, [], ◌∷◌, ◌++◌, get_or, map, refl, ap, sym, ◌∙◌, subst, arith, Option, Some, None}
use Rattle.std.specs.Prelude.{◌==◌, not, ◌&&◌, is_none, length}
use Rattle.std.specs.List.{All, AllPairs, filter, find, list_any}
use Rattle.std.specs.FinMap as finite
use Rattle.std.specs.Option.{option_map}
use Rattle.std.specs.Ordering.{is_eq, ordering_reverse}
use Rattle.std.specs.FinMap.{get-empty}
use Rattle.std.proofs.lemmas.Bool.Decides.{nat_tests}
use Rattle.std.proofs.lemmas.List.{map-append}
use Rattle.std.proofs.lemmas.List.Elements.{All-nil, All-weaker, All-filter, All-push, filter_agree}
use Rattle.std.proofs.lemmas.List.Kept.{AllPairs-filter}
use Rattle.std.proofs.lemmas.List.Quantifiers.{all_pairs_push}
use Rattle.base.proofs.Bools.{same_truth, is_equal}
use Rattle.identity.specs.Path.{path_cmp, id_path}
use Rattle.mailbox.specs.declared.key.Key.{Key}
use Rattle.mailbox.specs.declared.place.ItemPlace.{ItemPlace}
use Rattle.mailbox.specs.Values.{Item}
use Rattle.mailbox.specs.Item.{same_key, is_at, is_to, is_expired}
use Rattle.mailbox.specs.Order.{IsBefore, named, place_of}
use Rattle.mailbox.specs.Inside.Places.{same_place, is_due}
use Rattle.mailbox.specs.Inside.Boxes.{Boxes, items_under, box_of, swept, put_last, put, item_at, is_filed, in_order, is_under, AreFiled}
use Rattle.mailbox.proofs.Lists.{implied, filter_alike, any_within, find_within, found_passes, found_with, found_any, never_found, none_passes}
use Rattle.mailbox.proofs.Lists.{any_of_none, find_agree, find_mapped, filter_all, none_left, looked_up, filter_mapped, any_mapped, find_each}
use Rattle.mailbox.proofs.Keys.{key_itself, key_exact, at_is_under, under_is_to, named_total, total_itself}
use Rattle.mailbox.proofs.Boxed.{IsBoxed, items_boxed, boxed_swept, boxed_put}

abbrev pub unwrap_or_item : Item → Option Item → Item
unwrap_or_item d None = d
unwrap_or_item d (Some w) = w

pub none_filed : (boxes : Boxes) (order : List ItemPlace) → boxes ≡ finite.empty → order ≡ [] → AreFiled [] boxes order
none_filed boxes order empty none = record {
  boxed = λ p. ap (λ b. finite.get b p) empty ∙ get-empty path_cmp p;
  indexed = none;
  ordered = λ i j d less below. absurd (omega arith);
  apart = λ i j d less below. absurd (omega arith);
  whole = All-nil (λ w. w.key.destination < 2 ^ 48);
}

-- the index gives the items
pub found_each : (ws : List Item) (boxes : Boxes) (order : List ItemPlace) → AreFiled ws boxes order → All (λ w. item_at boxes w.key ≡ Some w) ws
found_each ws boxes order filed =
    All-weaker (λ w. find (is_at w.key) ws ≡ Some w) (λ w. item_at boxes w.key ≡ Some w)
    (λ w found. ap (find (is_at w.key)) (items_boxed ws boxes (id_path w.key.destination) filed.boxed) ∙
    find_within (is_at w.key) (is_under (id_path w.key.destination)) (at_is_under w.key) ws ∙ found)
    ws (find_each (λ a b. same_key a.key b.key) (λ w. key_itself w.key) ws filed.apart)

pub filed_in_order : (ws : List Item) (boxes : Boxes) (order : List ItemPlace) → AreFiled ws boxes order → in_order boxes order ≡ ws
filed_in_order ws boxes order filed = ap (in_order boxes) filed.indexed ∙ looked_up place_of (λ place. item_at boxes place.key) ws (found_each ws boxes order filed)

pub filed_again : (ws : List Item) (boxes : Boxes) (order : List ItemPlace) → AreFiled ws boxes order → AreFiled (in_order boxes order) boxes order
filed_again ws boxes order filed = subst (λ os. AreFiled os boxes order) (sym (filed_in_order ws boxes order filed)) filed

-- the box of a destination has its items
pub filed_waiting : (ws : List Item) (boxes : Boxes) (order : List ItemPlace) (destination : ℕ) → AreFiled ws boxes order → destination < 2 ^ 48 →
    items_under boxes (id_path destination) ≡ filter (is_to destination) ws
filed_waiting ws boxes order destination filed below =
    items_boxed ws boxes (id_path destination) filed.boxed
    ∙ filter_alike (is_under (id_path destination)) (is_to destination) ws
    (All-weaker (λ w. w.key.destination < 2 ^ 48) (λ w. is_under (id_path destination) w ≡ is_to destination w)
    (λ w whole. under_is_to destination below w whole) ws filed.whole)

not_zero : (n : ℕ) → (suc n == 0) ≡ false
not_zero n = grind (arith, nat_tests)

none_boxed : (ws : List Item) → is_none (box_of ws) ≡ (length ws == 0)
none_boxed [] = refl
none_boxed (w ∷ ws) = sym (not_zero (length ws))

-- there is no box of a destination for which nothing waits
pub first_filed : (ws : List Item) (boxes : Boxes) (order : List ItemPlace) (destination : ℕ) → AreFiled ws boxes order → destination < 2 ^ 48 →
    (length (filter (is_to destination) ws) == 0) ≡ is_none (finite.get boxes (id_path destination))
first_filed ws boxes order destination filed below =
    ap (λ (os : List Item). length os == 0) (sym (filed_waiting ws boxes order destination filed below) ∙ items_boxed ws boxes (id_path destination) filed.boxed)
    ∙ sym (ap is_none (filed.boxed (id_path destination)) ∙ none_boxed (filter (is_under (id_path destination)) ws))

-- a destination's box has the item at a key where the item waits
pub filed_holds : (ws : List Item) (boxes : Boxes) (order : List ItemPlace) (k : Key) → AreFiled ws boxes order → is_filed boxes k ≡ list_any (is_at k) ws
filed_holds ws boxes order k filed = ap (list_any (is_at k)) (items_boxed ws boxes (id_path k.destination) filed.boxed) ∙ any_within (is_at k) (is_under (id_path k.destination)) (at_is_under k) ws

-- one key's item goes
pub filed_removed : (ws : List Item) (boxes new : Boxes) (order left : List ItemPlace) (k : Key) → AreFiled ws boxes order →
    new ≡ swept boxes (id_path k.destination) (is_at k) → left ≡ filter (λ place. not (same_key k place.key)) order →
    AreFiled (filter (λ w. not (is_at k w)) ws) new left
filed_removed ws boxes new order left k filed swept_so left_so = record {
  boxed = subst (IsBoxed (filter (λ w. not (is_at k w)) ws)) (sym swept_so)
      (subst (λ os. IsBoxed os (swept boxes (id_path k.destination) (is_at k)))
      (filter_agree (λ w. not (is_under (id_path k.destination) w && is_at k w)) (λ w. not (is_at k w))
      (λ w. ap not (implied (is_under (id_path k.destination) w) (is_at k w) (at_is_under k w))) ws)
      (boxed_swept ws boxes filed.boxed (id_path k.destination) (is_at k)));
  indexed = left_so ∙ ap (filter (λ place. not (same_key k place.key))) filed.indexed ∙ filter_mapped place_of (λ place. not (same_key k place.key)) ws;
  ordered = AllPairs-filter IsBefore (λ w. not (is_at k w)) ws filed.ordered;
  apart = AllPairs-filter (λ a b. same_key b.key a.key ≡ false) (λ w. not (is_at k w)) ws filed.apart;
  whole = All-filter (λ w. not (is_at k w)) (λ w. w.key.destination < 2 ^ 48) ws filed.whole;
}

-- one item more, after all others, in place of any at its key
pub filed_put : (ws : List Item) (boxes new : Boxes) (order longer : List ItemPlace) (w : Item) → AreFiled ws boxes order → All (λ o. IsBefore o w) ws →
    w.key.destination < 2 ^ 48 → new ≡ put boxes w → longer ≡ filter (λ place. not (same_key w.key place.key)) order ++ place_of w ∷ [] →
    AreFiled (put_last ws w) new longer
filed_put ws boxes new order longer w filed last below put_so longer_so =
    let left : List Item = filter (λ o. not (is_at w.key o)) ws in
    record {
      boxed = subst (IsBoxed (put_last ws w)) (sym put_so) (boxed_put ws boxes filed.boxed w);
      indexed = longer_so ∙ ap (λ places. filter (λ place. not (same_key w.key place.key)) places ++ place_of w ∷ []) filed.indexed
          ∙ ap (λ places. places ++ place_of w ∷ []) (filter_mapped place_of (λ place. not (same_key w.key place.key)) ws) ∙ sym (map-append place_of left (w ∷ []));
      ordered = all_pairs_push IsBefore left w (AllPairs-filter IsBefore (λ o. not (is_at w.key o)) ws filed.ordered) (All-filter (λ o. not (is_at w.key o)) (λ o. IsBefore o w) ws last);
      apart = all_pairs_push (λ a b. same_key b.key a.key ≡ false) left w
          (AllPairs-filter (λ a b. same_key b.key a.key ≡ false) (λ o. not (is_at w.key o)) ws filed.apart) (none_left (is_at w.key) ws);
      whole = All-push (λ o. o.key.destination < 2 ^ 48) left w (All-filter (λ o. not (is_at w.key o)) (λ o. o.key.destination < 2 ^ 48) ws filed.whole) below;
    }

-- no place of an item that is found, and the item whose place it is
pub no_item : (o : Option Item) → None ≡ option_map place_of o → o ≡ None
no_item None e = refl
no_item (Some w) e = absurd cc

abbrev place_or : ItemPlace → Option ItemPlace → ItemPlace
place_or d None = d
place_or d (Some p) = p

abbrev pub OfItem : ItemPlace → Option Item → Type 0
OfItem p o = (w : Item) × ((o ≡ Some w) × (place_of w ≡ p))

pub of_item : (p : ItemPlace) (o : Option Item) → Some p ≡ option_map place_of o → OfItem p o
of_item p None e = absurd cc
of_item p (Some w) e = (w, (refl, sym (ap (place_or p) e)))

-- an item's place, among those of all
module _ (ws : List Item) (boxes : Boxes) (order : List ItemPlace) (k : Key) (filed : AreFiled ws boxes order) where
  abbrev same_item : Item → Item → Bool
  same_item v w = same_place (place_of v) (place_of w)

  item_itself : (w : Item) → same_item w w ≡ true
  item_itself w = ap is_eq (total_itself named_total (named w))

  items_apart : AllPairs (λ a b. same_item b a ≡ false) ws
  items_apart i j d less below = let a = get_or ws i d in let b = get_or ws j d in ap is_eq (named_total.antisymm (named b) (named a) ∙ ap ordering_reverse (filed.ordered i j d less below))

  -- the item at the key, if there is one
  pub found_at_key : item_at boxes k ≡ find (is_at k) ws
  found_at_key = ap (find (is_at k)) (items_boxed ws boxes (id_path k.destination) filed.boxed) ∙ find_within (is_at k) (is_under (id_path k.destination)) (at_is_under k) ws

  module _ (w : Item) (found : item_at boxes k ≡ Some w) where
    here : find (is_at k) ws ≡ Some w
    here = sym found_at_key ∙ found

    at_key : is_at k w ≡ true
    at_key = found_passes (is_at k) ws w here

    found_itself : find (same_item w) ws ≡ Some w
    found_itself = found_with (λ v. find (same_item v) ws ≡ Some v) (is_at k) ws w (find_each same_item item_itself ws items_apart) here

    -- of the items, the one at this place is the one at the key
    by_place : (v : Item) → find (same_item v) ws ≡ Some v → same_item w v ≡ true → is_at k v ≡ true
    by_place v there same =
        let one : find (same_item w) ws ≡ find (same_item v) ws = find_agree (same_item w) (same_item v) (λ x. ap is_eq (named_total.congr (named w) (named v) (named x) (is_equal _ same))) ws in
        subst (λ x. is_at k x ≡ true) (ap (unwrap_or_item w) (sym found_itself ∙ one ∙ there)) at_key

    by_key : (v : Item) → find (is_at v.key) ws ≡ Some v → is_at k v ≡ true → same_item w v ≡ true
    by_key v there at =
        let one : Some w ≡ Some v = sym here ∙ ap (λ j. find (is_at j) ws) (key_exact k v.key at) ∙ there in
        subst (λ x. same_item w x ≡ true) (ap (unwrap_or_item w) one) (item_itself w)

    same_tests : All (λ v. same_item w v ≡ is_at k v) ws
    same_tests i d below =
        let v : Item = get_or ws i d in
        same_truth (same_item w v) (is_at k v)
        (by_place v (find_each same_item item_itself ws items_apart i d below))
        (by_key v (find_each (λ a b. same_key a.key b.key) (λ x. key_itself x.key) ws filed.apart i d below))

    -- the place of the item at a key goes, and no other
    pub same_removal : filter (λ place. not (same_place (place_of w) place)) order ≡ filter (λ place. not (same_key k place.key)) order
    same_removal =
        ap (filter (λ place. not (same_place (place_of w) place))) filed.indexed ∙ filter_mapped place_of (λ place. not (same_place (place_of w) place)) ws
        ∙ ap (map place_of) (filter_alike (λ v. not (same_item w v)) (λ v. not (is_at k v)) ws
        (All-weaker (λ v. same_item w v ≡ is_at k v) (λ v. not (same_item w v) ≡ not (is_at k v)) (λ v e. ap not e) ws same_tests))
        ∙ sym (filter_mapped place_of (λ place. not (same_key k place.key)) ws) ∙ ap (filter (λ place. not (same_key k place.key))) (sym filed.indexed)

    -- it is among them
    pub place_there : list_any (same_place (place_of w)) order ≡ true
    place_there = ap (list_any (same_place (place_of w))) filed.indexed ∙ any_mapped place_of (same_place (place_of w)) ws ∙ found_any (same_item w) ws w found_itself

  -- nothing is at the key
  pub none_deleted : None ≡ option_map place_of (item_at boxes k) → filter (λ w. not (is_at k w)) ws ≡ ws
  none_deleted none = filter_all (is_at k) ws (never_found (is_at k) ws (sym found_at_key ∙ no_item (item_at boxes k) none))

  -- and no place goes
  pub none_left_out : None ≡ option_map place_of (item_at boxes k) → order ≡ filter (λ place. not (same_key k place.key)) order
  none_left_out none =
      filed.indexed ∙ sym (ap (filter (λ place. not (same_key k place.key))) filed.indexed ∙ filter_mapped place_of (λ place. not (same_key k place.key)) ws ∙ ap (map place_of) (none_deleted none))

  module _ (p : ItemPlace) (at : Some p ≡ option_map place_of (item_at boxes k)) where
    the_item : OfItem p (item_at boxes k)
    the_item = of_item p (item_at boxes k) at

    -- the place that was found for the key is the one that goes with it
    pub place_removed : filter (λ place. not (same_place p place)) order ≡ filter (λ place. not (same_key k place.key)) order
    place_removed = subst (λ q. filter (λ place. not (same_place q place)) order ≡ filter (λ place. not (same_key k place.key)) order) the_item.1.1 (same_removal the_item.0 the_item.1.0)

    pub place_found : list_any (same_place p) order ≡ true
    place_found = subst (λ q. list_any (same_place q) order ≡ true) the_item.1.1 (place_there the_item.0 the_item.1.0)

-- no place of an item is no item
pub none_placed : (test : Item → Bool) (ws : List Item) → None ≡ option_map place_of (find test ws) → list_any test ws ≡ false
none_placed test ws none = any_of_none test ws (never_found test ws (no_item (find test ws) none))

-- the first place whose item has ended is that of the first item that has
pub first_expired : (ws : List Item) (boxes : Boxes) (order : List ItemPlace) (moment : ℕ) → AreFiled ws boxes order → find (is_due moment) order ≡ option_map place_of (find (is_expired moment) ws)
first_expired ws boxes order moment filed = ap (find (is_due moment)) filed.indexed ∙ find_mapped place_of (is_due moment) ws

module _ (ws : List Item) (boxes new : Boxes) (order longer : List ItemPlace) (w : Item) (p : ItemPlace) (filed : AreFiled ws boxes order)
    (last : All (λ o. IsBefore o w) ws) (below : w.key.destination < 2 ^ 48) (put_so : new ≡ put boxes w) (is : p ≡ place_of w) where
  -- an item at a key at which none was
  pub filed_put_free : list_any (is_at w.key) ws ≡ false → longer ≡ order ++ p ∷ [] → AreFiled (ws ++ w ∷ []) new longer
  filed_put_free free longer_so =
      let alone : filter (λ o. not (is_at w.key o)) ws ≡ ws = filter_all (is_at w.key) ws (none_passes (is_at w.key) ws free) in
      let same : filter (λ place. not (same_key w.key place.key)) order ≡ order =
      ap (filter (λ place. not (same_key w.key place.key))) filed.indexed ∙ filter_mapped place_of (λ place. not (same_key w.key place.key)) ws ∙ ap (map place_of) alone ∙ sym filed.indexed in
      subst (λ os. AreFiled (os ++ w ∷ []) new longer) alone (filed_put ws boxes new order longer w filed last below put_so (longer_so ∙ (λ i. sym same i ++ is i ∷ [])))

  -- an item in the place of another
  pub filed_put_again : (old : ItemPlace) → Some old ≡ option_map place_of (item_at boxes p.key) →
      longer ≡ filter (λ place. not (same_place old place)) order ++ p ∷ [] → AreFiled (put_last ws w) new longer
  filed_put_again old at longer_so =
      filed_put ws boxes new order longer w filed last below put_so
      (longer_so ∙ (λ i. place_removed ws boxes order w.key filed old (subst (λ q. Some old ≡ option_map place_of (item_at boxes q.key)) is at) i ++ is i ∷ []))

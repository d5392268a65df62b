-- What expires goes one by one.
use Rattle.std.proofs.Common.{◌≡◌, ℕ, ◌<◌, Bool, true, false, List, length, get_or, refl, ap, sym, ◌∙◌, subst, Some, None}
use Rattle.std.specs.Prelude.{not, ◌&&◌}
use Rattle.std.specs.List.{AllPairs, filter, find}
use Rattle.std.specs.Option.{option_map}
use Rattle.std.proofs.lemmas.Bool.{false≢true, not-true}
use Rattle.mailbox.specs.declared.place.ItemPlace.{ItemPlace}
use Rattle.mailbox.specs.Values.{Item}
use Rattle.mailbox.specs.Item.{same_key, is_at, is_expired}
use Rattle.mailbox.specs.Order.{place_of}
use Rattle.mailbox.proofs.Lists.{implied, filter_twice, filter_alike, filter_all, fewer_left, found_passes, found_with, found_any, never_found, find_each}
use Rattle.mailbox.proofs.Keys.{key_itself, key_exact}
use Rattle.mailbox.proofs.Filing.{OfItem, no_item, of_item, unwrap_or_item}

turned_round : (a b : Bool) → (a ≡ true → b ≡ true) → not b ≡ true → not a ≡ true
turned_round false b h e = refl
turned_round true b h e = absurd (false≢true (sym (not-true b e) ∙ h refl))

module _ (ws : List Item) (moment : ℕ) where
  -- none has
  pub none_expired : None ≡ option_map place_of (find (is_expired moment) ws) → filter (λ w. not (is_expired moment w)) ws ≡ ws
  none_expired none = filter_all (is_expired moment) ws (never_found (is_expired moment) ws (no_item (find (is_expired moment) ws) none))

  module _ (apart : AllPairs (λ a b. same_key b.key a.key ≡ false) ws) (p : ItemPlace) (first : Some p ≡ option_map place_of (find (is_expired moment) ws)) where
    the_item : OfItem p (find (is_expired moment) ws)
    the_item = of_item p (find (is_expired moment) ws) first

    abbrev w : Item
    w = the_item.0

    at_own : find (is_at w.key) ws ≡ Some w
    at_own = found_with (λ v. find (is_at v.key) ws ≡ Some v) (is_expired moment) ws w (find_each (λ a b. same_key a.key b.key) (λ v. key_itself v.key) ws apart) the_item.1.0

    also_expired : (v : Item) → find (is_at v.key) ws ≡ Some v → is_at w.key v ≡ true → is_expired moment v ≡ true
    also_expired v there at =
        let one : Some w ≡ Some v = sym at_own ∙ ap (λ j. find (is_at j) ws) (key_exact w.key v.key at) ∙ there in
        subst (λ x. is_expired moment x ≡ true) (ap (unwrap_or_item w) one) (found_passes (is_expired moment) ws w the_item.1.0)

    gone : filter (λ v. not (is_expired moment v)) (filter (λ v. not (is_at w.key v)) ws) ≡ filter (λ v. not (is_expired moment v)) ws
    gone =
        filter_twice (λ v. not (is_expired moment v)) (λ v. not (is_at w.key v)) ws
        ∙ filter_alike (λ v. not (is_at w.key v) && not (is_expired moment v)) (λ v. not (is_expired moment v)) ws
        (λ i d below. let v = get_or ws i d in
        implied (not (is_at w.key v)) (not (is_expired moment v))
        (turned_round (is_at w.key v) (is_expired moment v)
        (also_expired v (find_each (λ a b. same_key a.key b.key) (λ x. key_itself x.key) ws apart i d below))))

    key_is : w.key ≡ p.key
    key_is = ap (λ (q : ItemPlace). q.key) the_item.1.1

    -- with the first that has expired gone, the same are left of those that have not
    pub same_left : filter (λ v. not (is_expired moment v)) (filter (λ v. not (is_at p.key v)) ws) ≡ filter (λ v. not (is_expired moment v)) ws
    same_left = subst (λ k. filter (λ v. not (is_expired moment v)) (filter (λ v. not (is_at k v)) ws) ≡ filter (λ v. not (is_expired moment v)) ws) key_is gone

    pub fewer_wait : length (filter (λ v. not (is_at p.key v)) ws) < length ws
    fewer_wait = subst (λ k. length (filter (λ v. not (is_at k v)) ws) < length ws) key_is (fewer_left (is_at w.key) ws (found_any (is_at w.key) ws w at_own))

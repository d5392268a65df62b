-- New nodes on the way to a key.
use Rattle.std.proofs.lemmas.Bool.{cases_eq}
use Rattle.std.proofs.Common.{◌≡◌, ℕ, ◌<◌, ◌≤◌, inl, inr, length, Bool, true, false, [], ◌∷◌, ◌++◌, Option, Some, None, refl, sym, ap, subst, ◌∙◌, arith}
use Rattle.std.specs.Prelude.{IsTrue, not, ◌&&◌, ◌||◌}
use Rattle.std.specs.FinMap as map
use Rattle.std.specs.Option.{is_some}
use Rattle.prefix_tree.specs.Visits.{is_place}
use Rattle.prefix_tree.proofs.NodePlaces.{place_single, place_around, goes_link, sound_when}
use Rattle.std.specs.declared.boxed.Box.{Box}
use Rattle.identity.specs.Path.{Path, begins}
use Rattle.prefix_tree.specs.Table.{PathMap}
use Rattle.prefix_tree.specs.Inside.Paths.{common}
use Rattle.prefix_tree.specs.Inside.Around.{NodeModel, around, spread, KeysUnder, table_of, is_under, IsFirm, IsUnder, IsParting, leads_to}
use Rattle.prefix_tree.proofs.Begins.{begins_self, common_second, common_under, common_parts, other_side, begins_whole, begins_length}
use Rattle.prefix_tree.proofs.AroundLaws.{under_empty, keys_insert, insert_here, insert_zero, insert_one, around_zero, around_one, keys_around}
use Rattle.prefix_tree.proofs.NodeLaws.{keys_of}

module _ {V A : Type 0} where
  pub parting_is : (b : Box (NodeModel V) A) (at q : Path) (side : Bool) → IsFirm [] b.value → begins b.value.at q ≡ false →
      at ≡ common b.value.at q → IsTrue (begins (at ++ side ∷ []) b.value.at) → IsParting (Some b) q at side
  parting_is b at q side firm off is goes =
      let second : begins at q ≡ true = ap (λ z. begins z q) is ∙ common_second b.value.at q in
      let goes_on : begins (common b.value.at q ++ side ∷ []) b.value.at ≡ true = subst (λ z. begins (z ++ side ∷ []) b.value.at ≡ true) is goes in
      record {
        there = refl;
        old_side = record { loose = record { extends = goes; keys = firm.loose.keys; sound = firm.loose.sound }; place = firm.place };
        on_the_way = second;
        other_side = λ lt. other_side at q side second lt (λ both. common_parts b.value.at q side goes_on (subst (λ z. begins (z ++ side ∷ []) q ≡ true) is both));
        last = λ r under begun. subst (λ z. begins r z ≡ true) (sym is) (common_under r b.value.at q under.loose.extends begun);
      }

module _ {V : Type 0} where
  -- a new node at the key itself, above what is there
  pub spread_here : (p : Path) (side : Bool) (old : PathMap V) (x : V) → KeysUnder (p ++ side ∷ []) old → spread p (Some x) side old map.empty ≡ map.insert old p x
  spread_here p true old x keys = insert_here p None map.empty old (under_empty V _) keys x ∙ ap (λ m. map.insert m p x) (around_one p old keys)
  spread_here p false old x keys = insert_here p None old map.empty keys (under_empty V _) x ∙ ap (λ m. map.insert m p x) (around_zero p old keys)

  -- a new node above what is there and the key's
  pub spread_beside : (p k : Path) (side : Bool) (old : PathMap V) (x : V) → KeysUnder (p ++ side ∷ []) old → begins (p ++ not side ∷ []) k ≡ true →
      spread p None side old (map.insert map.empty k x) ≡ map.insert old k x
  spread_beside p k true old x keys other = insert_zero p None map.empty old (under_empty V _) keys k x other ∙ ap (λ m. map.insert m k x) (around_one p old keys)
  spread_beside p k false old x keys other = insert_one p None old map.empty keys (under_empty V _) k x other ∙ ap (λ m. map.insert m k x) (around_zero p old keys)

  -- a new node with the key's value alone is firm
  pub sprout_firm : (d : NodeModel V) (k : Path) (x : V) → d.at ≡ k → d.table ≡ map.insert map.empty k x → IsTrue d.sound → (p : Path) → IsTrue (begins p k) → IsFirm p d
  sprout_firm d k x at table sound p begun = record {
    loose = record {
      extends = subst (λ z. begins p z ≡ true) (sym at) begun;
      keys = subst (λ z. KeysUnder z d.table) (sym at) (subst (λ m. KeysUnder k m) (sym table) (keys_insert k map.empty (under_empty V _) k (begins_self k) x));
      sound = sound;
    };
    place = ap (is_place d.table) at ∙ ap (λ m. is_place m k) table ∙ place_single map.empty k x;
  }

module _ {V A : Type 0} (p : Path) (v : Option V) (side : Bool) (old other : Option (Box (NodeModel V) A)) (u : IsUnder (p ++ side ∷ []) old) (w : IsUnder (p ++ not side ∷ []) other) where
  pub above_one : side ≡ true → KeysUnder p (around p v (table_of other) (table_of old))
  above_one e = keys_around p v (table_of other) (table_of old) (keys_of _ other (subst (λ b. IsUnder (p ++ not b ∷ []) other) e w)) (keys_of _ old (subst (λ b. IsUnder (p ++ b ∷ []) old) e u))

  pub above_zero : side ≡ false → KeysUnder p (around p v (table_of old) (table_of other))
  above_zero e = keys_around p v (table_of old) (table_of other) (keys_of _ old (subst (λ b. IsUnder (p ++ b ∷ []) old) e u)) (keys_of _ other (subst (λ b. IsUnder (p ++ not b ∷ []) other) e w))

  -- it is a place with a value, or with both sides
  place_one : side ≡ true → is_place (around p v (table_of other) (table_of old)) p ≡ (is_some v || is_some other && is_some old)
  place_one e =
      let left : IsUnder (p ++ false ∷ []) other = subst (λ b. IsUnder (p ++ not b ∷ []) other) e w in
      let right : IsUnder (p ++ true ∷ []) old = subst (λ b. IsUnder (p ++ b ∷ []) old) e u in
      place_around p v (table_of other) (table_of old) (keys_of _ other left) (keys_of _ old right) ∙
      (λ i. is_some v || goes_link (p ++ false ∷ []) other left i && goes_link (p ++ true ∷ []) old right i)

  place_zero : side ≡ false → is_place (around p v (table_of old) (table_of other)) p ≡ (is_some v || is_some old && is_some other)
  place_zero e =
      let left : IsUnder (p ++ false ∷ []) old = subst (λ b. IsUnder (p ++ b ∷ []) old) e u in
      let right : IsUnder (p ++ true ∷ []) other = subst (λ b. IsUnder (p ++ not b ∷ []) other) e w in
      place_around p v (table_of old) (table_of other) (keys_of _ old left) (keys_of _ other right) ∙
      (λ i. is_some v || goes_link (p ++ false ∷ []) old left i && goes_link (p ++ true ∷ []) other right i)

  pub valued_one : side ≡ true → IsTrue (is_some v) → IsTrue (is_place (around p v (table_of other) (table_of old)) p)
  valued_one e h = place_one e ∙ ap (λ b. b || is_some other && is_some old) h

  pub valued_zero : side ≡ false → IsTrue (is_some v) → IsTrue (is_place (around p v (table_of old) (table_of other)) p)
  valued_zero e h = place_zero e ∙ ap (λ b. b || is_some old && is_some other) h

  always : (b : Bool) → (b || true) ≡ true
  always true = refl
  always false = refl

  pub forked_one : side ≡ true → IsTrue (is_some old) → IsTrue (is_some other) → IsTrue (is_place (around p v (table_of other) (table_of old)) p)
  forked_one e h k = place_one e ∙ (λ i. is_some v || k i && h i) ∙ always (is_some v)

  pub forked_zero : side ≡ false → IsTrue (is_some old) → IsTrue (is_some other) → IsTrue (is_place (around p v (table_of old) (table_of other)) p)
  forked_zero e h k = place_zero e ∙ (λ i. is_some v || h i && k i) ∙ always (is_some v)

  pub sound_one : side ≡ true → (is_under (p ++ false ∷ []) other && is_under (p ++ true ∷ []) old) ≡ true
  sound_one e = sound_when p other old (subst (λ b. IsUnder (p ++ not b ∷ []) other) e w) (subst (λ b. IsUnder (p ++ b ∷ []) old) e u)

  pub sound_zero : side ≡ false → (is_under (p ++ false ∷ []) old && is_under (p ++ true ∷ []) other) ≡ true
  sound_zero e = sound_when p old other (subst (λ b. IsUnder (p ++ b ∷ []) old) e u) (subst (λ b. IsUnder (p ++ not b ∷ []) other) e w)

module _ {V A : Type 0} (o : Option (Box (NodeModel V) A)) (q p : Path) (side : Bool) (parting : IsParting o q p side) where
  pub shorter : (length p ≡ length q → ⊥) → length p < length q
  shorter apart = let h : length p ≤ length q = begins_length p q parting.on_the_way in apart_less _ _ h apart
    where
      apart_less : (m n : ℕ) → m ≤ n → (m ≡ n → ⊥) → m < n
      apart_less m n le apart = elim (cases_eq m n) [
        | inl same ↦ absurd (apart same)
        | inr other ↦ omega (arith, le, other)
      ]

  pub grown_here : (old : Option (Box (NodeModel V) A)) (t : PathMap V) (x : V) → old ≡ o → length p ≡ length q → t ≡ spread p (Some x) side (table_of old) map.empty → t ≡ map.insert (table_of o) q x
  grown_here old t x same lens is =
      let whole : p ≡ q = begins_whole p q parting.on_the_way (omega (arith, lens)) in
      is ∙ ap (λ z. spread p (Some x) side (table_of z) map.empty) same ∙ spread_here p side (table_of o) x (keys_of _ o parting.old_side) ∙ ap (λ z. map.insert (table_of o) z x) whole

  pub grown_beside : (old : Option (Box (NodeModel V) A)) (t low : PathMap V) (x : V) → old ≡ o → (length p ≡ length q → ⊥) →
      low ≡ map.insert map.empty q x → t ≡ spread p None side (table_of old) low → t ≡ map.insert (table_of o) q x
  grown_beside old t low x same apart leaf is =
      is ∙ (λ i. spread p None side (table_of (same i)) (leaf i)) ∙ spread_beside p q side (table_of o) x (keys_of _ o parting.old_side) (parting.other_side (shorter apart))

  pub beside_firm : (d : NodeModel V) → (length p ≡ length q → ⊥) → ((r : Path) → IsTrue (begins r q) → IsFirm r d) → IsFirm (p ++ not side ∷ []) d
  beside_firm d apart firm = firm (p ++ not side ∷ []) (parting.other_side (shorter apart))

pub parting_here : {V A : Type 0} → (o : Option (Box (NodeModel V) A)) (b : Box (NodeModel V) A) (at q : Path) (side : Bool) → o ≡ Some b →
    IsUnder [] o → leads_to o q ≡ false → at ≡ common b.value.at q → IsTrue (begins (at ++ side ∷ []) b.value.at) → IsParting o q at side
parting_here o b at q side is under off common goes =
    subst (λ z. IsParting z q at side) (sym is)
    (parting_is b at q side (subst (λ z. IsUnder [] z) is under) (ap (λ z. leads_to z q) (sym is) ∙ off) common goes)

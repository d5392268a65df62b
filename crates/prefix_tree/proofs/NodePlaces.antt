-- Which paths go on to keys, and where nodes are.
use Rattle.std.proofs.Common.{◌≡◌, Bool, true, false, cond, List, [], ◌∷◌, ◌++◌, Option, Some, None, refl, sym, ap, subst, ◌∙◌}
use mathlib.Core.Bool.{false≢true}
use Rattle.std.specs.Prelude.{◌&&◌, ◌||◌, IsTrue}
use Rattle.std.specs.Option.{is_some}
use Rattle.std.specs.Ordering.{eq_by_cmp}
use Rattle.std.specs.FinMap as map
use Rattle.std.specs.FinMap.{find, get-entries, get-empty, get-insert}
use Rattle.std.specs.declared.boxed.Box.{Box}
use Rattle.base.proofs.Bools.{never, and_is_true, first_true, second_true, same_truth}
use Rattle.identity.specs.Path.{Path, path_cmp, begins}
use Rattle.identity.specs.Inside.PathLaws.{paths_total, tie_exact, tied}
use Rattle.prefix_tree.specs.Table.{PathMap}
use Rattle.prefix_tree.specs.Visits.{any_under, goes_on, is_place}
use Rattle.prefix_tree.specs.Inside.Around.{NodeModel, around, KeysUnder, all_under, is_under, table_of, IsUnder, node_view}
use Rattle.prefix_tree.proofs.Begins.{begins_self, begins_trans, begins_push, side_begins}
use Rattle.prefix_tree.proofs.AroundLaws.{get_here, get_zero, get_one}
use Rattle.prefix_tree.proofs.OrderLaws.{AllUnder, entries_under}

or_left : (a b : Bool) → a ≡ true → (a || b) ≡ true
or_left true b p = refl
or_left false b p = absurd (false≢true p)

or_right : (a b : Bool) → b ≡ true → (a || b) ≡ true
or_right true b p = refl
or_right false b p = p

pub or_case : {P : Type 0} (a b : Bool) → (a ≡ true → P) → (b ≡ true → P) → (a || b) ≡ true → P
or_case true b f g h = f refl
or_case false b f g h = g h

module _ {V : Type 0} where
  any_find : (p q : Path) (es : List (Path × V)) → begins p q ≡ true → is_some (find path_cmp q es) ≡ true → any_under p es ≡ true
  any_find p q [] on there = there
  any_find p q (e ∷ es) on there = at (eq_by_cmp path_cmp q e.0) refl there (any_find p q es on)
    where
      at : (t : Bool) → eq_by_cmp path_cmp q e.0 ≡ t → is_some (cond t (Some e.1) (find path_cmp q es)) ≡ true →
          (is_some (find path_cmp q es) ≡ true → any_under p es ≡ true) → (begins p e.0 || any_under p es) ≡ true
      at true is h rest = or_left _ _ (subst (λ z. begins p z ≡ true) (tie_exact q e.0 is) on)
      at false is h rest = or_right _ _ (rest h)

  find_any : (p : Path) (es : List (Path × V)) → any_under p es ≡ true → (q : Path) × (begins p q ≡ true) × (is_some (find path_cmp q es) ≡ true)
  find_any p [] h = absurd (false≢true h)
  find_any p (e ∷ es) h = at (begins p e.0) refl h (find_any p es)
    where
      either : (b : Bool) (x : V) (o : Option V) → is_some o ≡ true → is_some (cond b (Some x) o) ≡ true
      either true x o k = refl
      either false x o k = k

      at : (t : Bool) → begins p e.0 ≡ t → (t || any_under p es) ≡ true →
          (any_under p es ≡ true → (q : Path) × (begins p q ≡ true) × (is_some (find path_cmp q es) ≡ true)) → (q : Path) × (begins p q ≡ true) ×
          (is_some (find path_cmp q (e ∷ es)) ≡ true)
      at true is k rest = (e.0, is, ap (λ b. is_some (cond b (Some e.1) (find path_cmp e.0 es))) (tied e.0))
      at false is k rest = let f = rest k in (f.0, f.1, either (eq_by_cmp path_cmp f.0 e.0) e.1 (find path_cmp f.0 es) f.2)

  pub goes_there : (m : PathMap V) (p q : Path) → begins p q ≡ true → is_some (map.get m q) ≡ true → goes_on m p ≡ true
  unfolding goes_on
  goes_there m p q on there = any_find p q (map.entries m) on (ap is_some (sym (get-entries m q)) ∙ there)

  pub key_of : (m : PathMap V) (p : Path) → goes_on m p ≡ true → (q : Path) × (begins p q ≡ true) × (is_some (map.get m q) ≡ true)
  unfolding goes_on
  key_of m p h = let k = find_any p (map.entries m) h in (k.0, k.1, ap is_some (get-entries m k.0) ∙ k.2)

  pub goes_more : (m n : PathMap V) (p : Path) → ((q : Path) → begins p q ≡ true → is_some (map.get m q) ≡ true → is_some (map.get n q) ≡ true) → goes_on m p ≡ true → goes_on n p ≡ true
  goes_more m n p f h = let k = key_of m p h in goes_there n p k.0 k.1 (f k.0 k.1 k.2)

  pub goes_same : (m n : PathMap V) (p : Path) → ((q : Path) → begins p q ≡ true → map.get m q ≡ map.get n q) → goes_on m p ≡ goes_on n p
  goes_same m n p f = same_truth _ _ (goes_more m n p (λ q on h. ap is_some (sym (f q on)) ∙ h)) (goes_more n m p (λ q on h. ap is_some (f q on) ∙ h))

  pub goes_wider : (m : PathMap V) (p r : Path) → begins p r ≡ true → goes_on m r ≡ true → goes_on m p ≡ true
  goes_wider m p r on h = let k = key_of m r h in goes_there m p k.0 (begins_trans p r k.0 on k.1) k.2

  pub goes_none : (m : PathMap V) (p : Path) → ((q : Path) → begins p q ≡ true → map.get m q ≡ None) → goes_on m p ≡ false
  goes_none m p f = never _ (λ h. let k = key_of m p h in false≢true (ap is_some (sym (f k.0 k.1)) ∙ k.2))

  pub place_same : (m n : PathMap V) (p : Path) → ((q : Path) → begins p q ≡ true → map.get m q ≡ map.get n q) → is_place m p ≡ is_place n p
  unfolding is_place
  place_same m n p f =
      let here : is_some (map.get m p) ≡ is_some (map.get n p) = ap is_some (f p (begins_self p)) in
      let zero : goes_on m (p ++ false ∷ []) ≡ goes_on n (p ++ false ∷ []) = goes_same m n (p ++ false ∷ []) (λ q on. f q (side_begins p q false on)) in
      let one : goes_on m (p ++ true ∷ []) ≡ goes_on n (p ++ true ∷ []) = goes_same m n (p ++ true ∷ []) (λ q on. f q (side_begins p q true on)) in
      λ i. here i || zero i && one i

  -- where keys are added, a place stays one
  pub place_grows : (m n : PathMap V) (p : Path) → ((q : Path) → is_some (map.get m q) ≡ true → is_some (map.get n q) ≡ true) → is_place m p ≡ true → is_place n p ≡ true
  unfolding is_place
  place_grows m n p f h =
      or_case _ _ (λ v. or_left _ _ (f p v))
      (λ k. or_right _ _ (and_is_true _ _ (goes_more m n _ (λ q on. f q) (first_true _ _ k)) (goes_more m n _ (λ q on. f q) (second_true _ _ k)))) h

  pub place_inserted : (m n : PathMap V) (k : Path) (x : V) (p : Path) → n ≡ map.insert m k x → is_place m p ≡ true → is_place n p ≡ true
  place_inserted m n k x p is h =
      place_grows m n p (λ q there. ap (λ z. is_some (map.get z q)) is ∙ ap is_some (get-insert paths_total m k x q) ∙
      either (eq_by_cmp path_cmp q k) (map.get m q) there) h
    where
      either : (b : Bool) (o : Option V) → is_some o ≡ true → is_some (cond b (Some x) o) ≡ true
      either true o k = refl
      either false o k = k

  pub place_goes : (m : PathMap V) (p : Path) → is_place m p ≡ true → goes_on m p ≡ true
  unfolding is_place
  place_goes m p h = or_case _ _ (λ v. goes_there m p p (begins_self p) v) (λ k. goes_wider m p (p ++ false ∷ []) (begins_push p false) (first_true _ _ k)) h

  pub place_of : (m : PathMap V) (p : Path) → is_some (map.get m p) ≡ true → is_place m p ≡ true
  unfolding is_place
  place_of m p h = or_left _ _ h

  pub place_single : (m : PathMap V) (k : Path) (x : V) → is_place (map.insert m k x) k ≡ true
  place_single m k x = place_of (map.insert m k x) k (ap is_some (get-insert paths_total m k x k) ∙ ap (λ b. is_some (cond b (Some x) (map.get m k))) (tied k))

  pub place_around : (p : Path) (v : Option V) (l r : PathMap V) → KeysUnder (p ++ false ∷ []) l → KeysUnder (p ++ true ∷ []) r →
      is_place (around p v l r) p ≡ (is_some v || goes_on l (p ++ false ∷ []) && goes_on r (p ++ true ∷ []))
  unfolding is_place
  place_around p v l r left right =
      let here : is_some (map.get (around p v l r) p) ≡ is_some v = ap is_some (get_here p v l r left right) in
      let zero : goes_on (around p v l r) (p ++ false ∷ []) ≡ goes_on l (p ++ false ∷ []) = goes_same (around p v l r) l (p ++ false ∷ []) (get_zero p v l r left right) in
      let one : goes_on (around p v l r) (p ++ true ∷ []) ≡ goes_on r (p ++ true ∷ []) = goes_same (around p v l r) r (p ++ true ∷ []) (get_one p v l r left right) in
      λ i. here i || zero i && one i

  -- the keys of a map as a test
  all_true : (p : Path) (es : List (Path × V)) → AllUnder p es → all_under p es ≡ true
  all_true p [] h = refl
  all_true p (e ∷ es) h = and_is_true _ _ h.0 (all_true p es h.1)

  find_off : (p q : Path) (es : List (Path × V)) → all_under p es ≡ true → begins p q ≡ false → find path_cmp q es ≡ None
  find_off p q [] h off = refl
  find_off p q (e ∷ es) h off = at (eq_by_cmp path_cmp q e.0) refl (find_off p q es (second_true _ _ h) off)
    where
      at : (t : Bool) → eq_by_cmp path_cmp q e.0 ≡ t → find path_cmp q es ≡ None → cond t (Some e.1) (find path_cmp q es) ≡ None
      at true is rest = absurd (false≢true (sym off ∙ subst (λ z. begins p z ≡ true) (sym (tie_exact q e.0 is)) (first_true _ _ h)))
      at false is rest = rest

  keys_all : (p : Path) (m : PathMap V) → KeysUnder p m → all_under p (map.entries m) ≡ true
  keys_all p m keys = all_true p (map.entries m) (entries_under p m keys)

  all_keys : (p : Path) (m : PathMap V) → all_under p (map.entries m) ≡ true → KeysUnder p m
  unfolding KeysUnder
  all_keys p m h q off = get-entries m q ∙ find_off p q (map.entries m) h off

module _ {V A : Type 0} where
  pub under_is : (p : Path) (o : Option (Box (NodeModel V) A)) → is_under p o ≡ true → IsUnder p o
  under_is p None h = tt
  under_is p (Some b) h =
      let prefix = first_true _ _ h in
      let back = second_true _ _ h in record {
        loose = record { extends = first_true _ _ prefix; keys = all_keys b.value.at b.value.table (second_true _ _ prefix); sound = second_true _ _ back };
        place = first_true _ _ back;
      }

  pub is_under_so : (p : Path) (o : Option (Box (NodeModel V) A)) → IsUnder p o → is_under p o ≡ true
  is_under_so p None h = refl
  is_under_so p (Some b) h = and_is_true _ _ (and_is_true _ _ h.loose.extends (keys_all b.value.at b.value.table h.loose.keys)) (and_is_true _ _ h.place h.loose.sound)

  -- what a sound node's sides are
  pub fits_when : (p : Path) (v : Option V) (l r : Option (Box (NodeModel V) A)) (d : NodeModel V) → node_view p v l r ≡ d → IsTrue d.sound → IsUnder (p ++ false ∷ []) l × IsUnder (p ++ true ∷ []) r
  fits_when p v l r d seen sound =
      let h : (node_view p v l r).sound ≡ true = ap (λ (x : NodeModel V). x.sound) seen ∙ sound in
      (under_is _ l (first_true _ _ h), under_is _ r (second_true _ _ h))

  pub sound_when : (p : Path) (l r : Option (Box (NodeModel V) A)) → IsUnder (p ++ false ∷ []) l → IsUnder (p ++ true ∷ []) r → (is_under (p ++ false ∷ []) l && is_under (p ++ true ∷ []) r) ≡ true
  sound_when p l r a b = and_is_true _ _ (is_under_so _ l a) (is_under_so _ r b)

  -- a link leads to a node where keys go on
  pub goes_link : (p : Path) (o : Option (Box (NodeModel V) A)) → IsUnder p o → goes_on (table_of o) p ≡ is_some o
  goes_link p None h = goes_none (table_of {V = V} {A = A} None) p (λ q on. get-empty path_cmp q)
  goes_link p (Some b) h = goes_wider b.value.table p b.value.at h.loose.extends (place_goes b.value.table b.value.at h.place)

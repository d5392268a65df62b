-- The nodes that are visited on the way to a key.
use Rattle.std.proofs.Common.{◌≡◌, ℕ, zero, suc, ◌+◌, ◌<◌, ◌≤◌, Bool, true, false, cond, [], ◌∷◌, ◌++◌, Option, Some, None, inl, inr, length, length-append, drop, refl, sym, ap, subst, ◌∙◌, arith}
use mathlib.Core.Bool.{false≢true}
use Rattle.std.proofs.lemmas.Bool.{cases_eq}
use Rattle.std.proofs.lemmas.List.{append_assoc}
use Rattle.std.proofs.Math.Seq.{drop-append_seam}
use Rattle.std.specs.Prelude.{◌&&◌, ◌||◌}
use Rattle.std.specs.Option.{is_some}
use Rattle.std.specs.FinMap as map
use Rattle.std.specs.FinMap.{get-empty}
use Rattle.std.specs.declared.boxed.Box.{Box}
use Rattle.base.proofs.Bools.{never, and_false}
use Rattle.identity.specs.Path.{Path, path_cmp, begins}
use Rattle.prefix_tree.specs.Table.{PathMap}
use Rattle.prefix_tree.specs.Visits.{goes_on, is_place, visits, visits_beyond, nodes_on_way}
use Rattle.prefix_tree.specs.Inside.Around.{NodeModel, KeysUnder, table_of, IsUnder, link_visits}
use Rattle.prefix_tree.proofs.Begins.{begins_self, begins_push, side_begins, begins_length, begins_whole}
use Rattle.prefix_tree.proofs.Numbers.{begins_prefix}
use Rattle.prefix_tree.proofs.AroundLaws.{under_off}
use Rattle.prefix_tree.proofs.NodePlaces.{goes_same, goes_wider, goes_none, place_same, place_goes}

-- of two beginnings of a path, the shorter one begins the longer one
begins_both : (r a k : Path) → begins r k ≡ true → begins a k ≡ true → length r ≤ length a → begins r a ≡ true
begins_both [] a k p q le = refl
begins_both (c ∷ r) [] k p q le = absurd (omega (arith, le))
begins_both (true ∷ r) (d ∷ a) [] p q le = absurd (false≢true p)
begins_both (false ∷ r) (d ∷ a) [] p q le = absurd (false≢true p)
begins_both (true ∷ r) (true ∷ a) (true ∷ k) p q le = begins_both r a k p q (omega (arith, le))
begins_both (false ∷ r) (false ∷ a) (false ∷ k) p q le = begins_both r a k p q (omega (arith, le))
begins_both (true ∷ r) (d ∷ a) (false ∷ k) p q le = absurd (false≢true p)
begins_both (false ∷ r) (d ∷ a) (true ∷ k) p q le = absurd (false≢true p)
begins_both (true ∷ r) (false ∷ a) (true ∷ k) p q le = absurd (false≢true q)
begins_both (false ∷ r) (true ∷ a) (false ∷ k) p q le = absurd (false≢true q)

pub one_side : (p a : Path) → begins (p ++ false ∷ []) a ≡ true → begins (p ++ true ∷ []) a ≡ false
one_side [] [] h = refl
one_side [] (true ∷ a) h = absurd (false≢true h)
one_side [] (false ∷ a) h = refl
one_side (true ∷ p) [] h = refl
one_side (false ∷ p) [] h = refl
one_side (true ∷ p) (true ∷ a) h = one_side p a h
one_side (false ∷ p) (false ∷ a) h = one_side p a h
one_side (true ∷ p) (false ∷ a) h = refl
one_side (false ∷ p) (true ∷ a) h = refl

begins_split : (p q : Path) → begins p q ≡ true → q ≡ p ++ drop (length p) q
begins_split [] q on = refl
begins_split (true ∷ p) [] on = absurd (false≢true on)
begins_split (false ∷ p) [] on = absurd (false≢true on)
begins_split (true ∷ p) (true ∷ q) on = ap (λ (z : Path). true ∷ z) (begins_split p q on)
begins_split (false ∷ p) (false ∷ q) on = ap (λ (z : Path). false ∷ z) (begins_split p q on)
begins_split (true ∷ p) (false ∷ q) on = absurd (false≢true on)
begins_split (false ∷ p) (true ∷ q) on = absurd (false≢true on)

none_more : (t : Bool) (n : ℕ) → cond (false && t) 1 0 + n ≡ n
none_more t n = omega arith

no_one : (t : Bool) → cond (t && false) 1 0 + 0 ≡ 0
no_one true = refl
no_one false = refl

module _ {V : Type 0} where
  none_visited : (m : PathMap V) (p : Path) (place : Bool) (q : Path) → goes_on m p ≡ false → visits m p place q ≡ 0
  unfolding visits
  none_visited m p place [] none = refl
  none_visited m p place (b ∷ q) none =
      let off : goes_on m (p ++ b ∷ []) ≡ false = never _ (λ h. false≢true (sym none ∙ goes_wider m p (p ++ b ∷ []) (begins_push p b) h)) in
      let rest : visits m (p ++ b ∷ []) (is_place m (p ++ b ∷ [])) q ≡ 0 = none_visited m (p ++ b ∷ []) (is_place m (p ++ b ∷ [])) q off in
      (λ i. cond (place && off i) 1 0 + rest i) ∙ no_one place

  visits_same : (m n : PathMap V) (p : Path) (place : Bool) (q : Path) → ((k : Path) → begins p k ≡ true → map.get m k ≡ map.get n k) → visits m p place q ≡ visits n p place q
  unfolding visits
  visits_same m n p place [] f = refl
  visits_same m n p place (b ∷ q) f =
      let g : (k : Path) → begins (p ++ b ∷ []) k ≡ true → map.get m k ≡ map.get n k = λ k on. f k (side_begins p k b on) in
      let some : goes_on m (p ++ b ∷ []) ≡ goes_on n (p ++ b ∷ []) = goes_same m n (p ++ b ∷ []) g in
      let same : is_place m (p ++ b ∷ []) ≡ is_place n (p ++ b ∷ []) = place_same m n (p ++ b ∷ []) g in
      (λ i. cond (place && some i) 1 0 + visits m (p ++ b ∷ []) (same i) q)
      ∙ ap (λ z. cond (place && goes_on n (p ++ b ∷ [])) 1 0 + z) (visits_same m n (p ++ b ∷ []) (is_place n (p ++ b ∷ [])) q g)

  visits_few : (m : PathMap V) (p : Path) (place : Bool) (q : Path) → visits m p place q ≤ length q
  unfolding visits
  visits_few m p place [] = omega arith
  visits_few m p place (b ∷ q) = let rest = visits_few m (p ++ b ∷ []) (is_place m (p ++ b ∷ [])) q in let one = at_most (place && goes_on m (p ++ b ∷ [])) in omega (arith, rest, one)
    where
      at_most : (t : Bool) → cond t 1 0 ≤ 1
      at_most true = omega arith
      at_most false = omega arith

  pub few_on_way : (m : PathMap V) (q : Path) → nodes_on_way m q ≤ length q + 1
  unfolding nodes_on_way visits_beyond
  few_on_way m q = let h = visits_few m [] true q in omega (arith, h)

  pub way_is : (t m : PathMap V) (at q : Path) → at ≡ [] → t ≡ m → 1 + visits_beyond t at q ≡ nodes_on_way m q
  unfolding nodes_on_way
  way_is t m at q root is = λ i. 1 + visits_beyond (is i) (root i) q

  -- below a place p a node is at a, and no key that p begins is beside it
  module _ (m x : PathMap V) (a : Path) (keys : KeysUnder a x) (place : is_place x a ≡ true) where
    apart : (p : Path) (b : Bool) → ((k : Path) → begins p k ≡ true → map.get m k ≡ map.get x k) → length p < length a → begins (p ++ b ∷ []) a ≡ false → goes_on m (p ++ b ∷ []) ≡ false
    apart p b f lt off = goes_none m (p ++ b ∷ []) (λ k on. f k (side_begins p k b on) ∙ under_off a k x keys (never _ (λ both.
        false≢true (sym off ∙ begins_both (p ++ b ∷ []) a k on both (let h = length-append p (b ∷ []) in omega (arith, lt, h))))))

    no_place : (p : Path) → ((k : Path) → begins p k ≡ true → map.get m k ≡ map.get x k) → length p < length a → is_place m p ≡ false
    unfolding is_place
    no_place p f lt =
        let none : map.get m p ≡ None = f p (begins_self p) ∙ under_off a p x keys (never _ (λ on. let h = begins_length a p on in absurd (omega (arith, h, lt)))) in
        ap (λ o. is_some o || goes_on m (p ++ false ∷ []) && goes_on m (p ++ true ∷ [])) none ∙ sides (begins (p ++ false ∷ []) a) refl
      where
        sides : (t : Bool) → begins (p ++ false ∷ []) a ≡ t → (goes_on m (p ++ false ∷ []) && goes_on m (p ++ true ∷ [])) ≡ false
        sides true is = ap (λ z. goes_on m (p ++ false ∷ []) && z) (apart p true f lt (one_side p a is)) ∙ and_false (goes_on m (p ++ false ∷ []))
        sides false is = ap (λ z. z && goes_on m (p ++ true ∷ [])) (apart p false f lt is)

    way_here : (p r : Path) → p ≡ a → ((k : Path) → begins p k ≡ true → map.get m k ≡ map.get x k) → visits m p (is_place m p) r ≡ cond (begins a (p ++ r)) (visits_beyond x a (p ++ r)) 0
    unfolding visits_beyond
    way_here p r is f =
        ap (λ t. visits m p t r) (place_same m x p f ∙ ap (is_place x) is ∙ place) ∙ visits_same m x p true r f ∙ ap (λ z. visits x z true r) is
        ∙ ap (visits x a true) (sym (ap (λ z. drop (length a) (z ++ r)) is ∙ drop-append_seam a r))
        ∙ sym (ap (λ t. cond t (visits x a true (drop (length a) (p ++ r))) 0) (ap (λ z. begins a (z ++ r)) is ∙ begins_prefix a r))

    way : (p r : Path) → begins p a ≡ true → ((k : Path) → begins p k ≡ true → map.get m k ≡ map.get x k) → visits m p (is_place m p) r ≡ cond (begins a (p ++ r)) (visits_beyond x a (p ++ r)) 0
    unfolding visits
    way p [] on f = elim (cases_eq (length p) (length a)) [
      | inl same ↦ way_here p [] (begins_whole p a on (omega (arith, same))) f
      | inr other ↦ sym (ap (λ t. cond t (visits_beyond x a (p ++ [])) 0) (never _ (λ long.
          let le = begins_length p a on in let h = begins_length a (p ++ []) long in let e = length-append p [] in absurd (omega (arith, le, h, e, other)))))
    ]
    way p (b ∷ r) on f = elim (cases_eq (length p) (length a)) [
      | inl same ↦ way_here p (b ∷ r) (begins_whole p a on (omega (arith, same))) f
      | inr other ↦ let le = begins_length p a on in further (omega (arith, le, other)) (begins (p ++ b ∷ []) a) refl (way (p ++ b ∷ []) r)
    ]
      where
        g : (k : Path) → begins (p ++ b ∷ []) k ≡ true → map.get m k ≡ map.get x k
        g k go = f k (side_begins p k b go)

        further : length p < length a → (t : Bool) → begins (p ++ b ∷ []) a ≡ t →
            (begins (p ++ b ∷ []) a ≡ true → ((k : Path) → begins (p ++ b ∷ []) k ≡ true → map.get m k ≡ map.get x k) →
            visits m (p ++ b ∷ []) (is_place m (p ++ b ∷ [])) r ≡ cond (begins a ((p ++ b ∷ []) ++ r)) (visits_beyond x a ((p ++ b ∷ []) ++ r)) 0) →
            cond (is_place m p && goes_on m (p ++ b ∷ [])) 1 0 + visits m (p ++ b ∷ []) (is_place m (p ++ b ∷ [])) r ≡ cond (begins a (p ++ b ∷ r))
            (visits_beyond x a (p ++ b ∷ r)) 0
        further lt true is rest =
            ap (λ t. cond (t && goes_on m (p ++ b ∷ [])) 1 0 + visits m (p ++ b ∷ []) (is_place m (p ++ b ∷ [])) r) (no_place p f lt)
            ∙ none_more (goes_on m (p ++ b ∷ [])) _ ∙ rest is g ∙ ap (λ z. cond (begins a z) (visits_beyond x a z) 0) (append_assoc p (b ∷ []) r)
        further lt false is rest =
            let off : goes_on m (p ++ b ∷ []) ≡ false = apart p b f lt is in
            let none : visits m (p ++ b ∷ []) (is_place m (p ++ b ∷ [])) r ≡ 0 = none_visited m (p ++ b ∷ []) (is_place m (p ++ b ∷ [])) r off in
            (λ i. cond (is_place m p && off i) 1 0 + none i) ∙ no_one (is_place m p)
            ∙ sym (ap (λ t. cond t (visits_beyond x a (p ++ b ∷ r)) 0) (never _ (λ long. false≢true (sym is ∙ begins_both (p ++ b ∷ []) a (p ++ b ∷ r)
            (subst (λ z. begins (p ++ b ∷ []) z ≡ true) (append_assoc p (b ∷ []) r) (begins_prefix (p ++ b ∷ []) r)) long
            (let h = length-append p (b ∷ []) in omega (arith, lt, h))))))

module _ {V A : Type 0} where
  -- one step down
  pub visits_step : (d : NodeModel V) (b : Bool) (o : Option (Box (NodeModel V) A)) (q : Path) → begins (d.at ++ b ∷ []) q ≡ true →
      IsUnder (d.at ++ b ∷ []) o → ((z : Path) → begins (d.at ++ b ∷ []) z ≡ true → map.get d.table z ≡ map.get (table_of o) z) →
      visits_beyond d.table d.at q ≡ link_visits o q
  unfolding visits_beyond visits
  visits_step d b o q side under table =
      ap (visits d.table d.at true) (ap (drop (length d.at)) split ∙ drop-append_seam d.at (b ∷ rest)) ∙ following o under table
    where
      rest : Path
      rest = drop (length (d.at ++ b ∷ [])) q

      split : q ≡ d.at ++ (b ∷ rest)
      split = begins_split (d.at ++ b ∷ []) q side ∙ append_assoc d.at (b ∷ []) rest

      following : (o : Option (Box (NodeModel V) A)) → IsUnder (d.at ++ b ∷ []) o →
          ((z : Path) → begins (d.at ++ b ∷ []) z ≡ true → map.get d.table z ≡ map.get (table_of o) z) →
          cond (goes_on d.table (d.at ++ b ∷ [])) 1 0 + visits d.table (d.at ++ b ∷ []) (is_place d.table (d.at ++ b ∷ [])) rest ≡ link_visits o q
      following None under table =
          let off : goes_on d.table (d.at ++ b ∷ []) ≡ false = goes_none d.table (d.at ++ b ∷ []) (λ z on. table z on ∙ get-empty path_cmp z) in
          let none : visits d.table (d.at ++ b ∷ []) (is_place d.table (d.at ++ b ∷ [])) rest ≡ 0 = none_visited d.table (d.at ++ b ∷ []) (is_place d.table (d.at ++ b ∷ [])) rest off in
          λ i. cond (off i) 1 0 + none i
      following (Some c) under table =
          let some : goes_on d.table (d.at ++ b ∷ []) ≡ true = goes_same d.table c.value.table (d.at ++ b ∷ []) table ∙
          goes_wider c.value.table (d.at ++ b ∷ []) c.value.at under.loose.extends (place_goes c.value.table c.value.at under.place) in
          let on : visits d.table (d.at ++ b ∷ []) (is_place d.table (d.at ++ b ∷ [])) rest ≡ cond (begins c.value.at q) (visits_beyond c.value.table c.value.at q) 0 =
          way d.table c.value.table c.value.at under.loose.keys under.place (d.at ++ b ∷ []) rest under.loose.extends table
          ∙ ap (λ z. cond (begins c.value.at z) (visits_beyond c.value.table c.value.at z) 0) (sym (begins_split (d.at ++ b ∷ []) q side)) in
          λ i. cond (some i) 1 0 + on i

module _ {V : Type 0} where
  -- at the key itself none is left
  pub visits_done : (d : NodeModel V) (q : Path) → length q ≤ length d.at → visits_beyond d.table d.at q ≡ 0
  unfolding visits_beyond visits
  visits_done d q le = ap (visits d.table d.at true) (drop_all (length d.at) q le)
    where
      drop_all : (n : ℕ) (q : Path) → length q ≤ n → drop n q ≡ []
      drop_all zero [] le = refl
      drop_all (suc n) [] le = refl
      drop_all zero (b ∷ q) le = absurd (omega (arith, le))
      drop_all (suc n) (b ∷ q) le = drop_all n q (omega (arith, le))

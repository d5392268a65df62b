-- The longest beginning that is in the map, on the way down.
use Rattle.std.proofs.Common.{◌≡◌, ℕ, zero, suc, ◌+◌, ◌-◌, ◌<◌, ◌≤◌, Bool, true, false, [], ◌∷◌, ◌++◌, Option, Some, None, length, length-append, take, refl, sym, ap, subst, ◌∙◌, arith}
use mathlib.Core.Bool.{false≢true}
use Rattle.std.specs.Prelude.{IsTrue}
use Rattle.std.specs.Option.{option_or, option_map}
use Rattle.std.specs.FinMap as map
use Rattle.std.specs.declared.boxed.Box.{Box}
use Rattle.base.proofs.Bools.{never as never_so}
use Rattle.identity.specs.Path.{Path, begins}
use Rattle.prefix_tree.specs.Table.{PathMap, longest, longest_below}
use Rattle.prefix_tree.specs.Inside.Around.{NodeModel, table_of, IsFirm, IsUnder}
use Rattle.prefix_tree.proofs.Begins.{begins_self, begins_trans, begins_length, side_begins, longer_side}
use Rattle.prefix_tree.proofs.AroundLaws.{under_off}
use Rattle.prefix_tree.proofs.NodeLaws.{firm_node, none_after, table_after}

module _ {V : Type 0} where
  -- where nothing is in the map from n bits on
  pub gap : (m : PathMap V) (q : Path) (n k : ℕ) → ((j : ℕ) → n ≤ j → j < n + k → map.get m (take j q) ≡ None) → longest_below m q (n + k) ≡ longest_below m q n
  unfolding longest_below
  gap m q n zero h = let e : n + 0 ≡ n = omega arith in ap (longest_below m q) e
  gap m q n (suc k) h =
      let e : n + suc k ≡ suc (n + k) = omega arith in
      ap (longest_below m q) e
      ∙ ap (λ o. option_or (option_map (λ v. (take (n + k) q, v)) o) (longest_below m q (n + k))) (h (n + k) (omega arith) (omega arith))
      ∙ gap m q n k (λ j le lt. h j le (omega (arith, lt)))

  -- one bit more, with what is there
  pub one_more : (m : PathMap V) (q : Path) (n : ℕ) → longest_below m q (n + 1) ≡ option_or (option_map (λ v. (take n q, v)) (map.get m (take n q))) (longest_below m q n)
  unfolding longest_below
  one_more m q n = let e : n + 1 ≡ suc n = omega arith in ap (longest_below m q) e

  pub none_yet : (m : PathMap V) (q p : Path) → p ≡ [] → None ≡ longest_below m q (length p)
  unfolding longest_below
  none_yet m q p root = sym (ap (λ z. longest_below m q (length z)) root)

take_begun : (p q : Path) → begins p q ≡ true → take (length p) q ≡ p
take_begun [] q on = refl
take_begun (true ∷ p) [] on = absurd (false≢true on)
take_begun (false ∷ p) [] on = absurd (false≢true on)
take_begun (true ∷ p) (true ∷ q) on = ap (λ (z : Path). true ∷ z) (take_begun p q on)
take_begun (false ∷ p) (false ∷ q) on = ap (λ (z : Path). false ∷ z) (take_begun p q on)
take_begun (true ∷ p) (false ∷ q) on = absurd (false≢true on)
take_begun (false ∷ p) (true ∷ q) on = absurd (false≢true on)

begins_take : (p q : Path) (j : ℕ) → begins p q ≡ true → length p ≤ j → begins p (take j q) ≡ true
begins_take [] q j on le = refl
begins_take (true ∷ p) [] j on le = absurd (false≢true on)
begins_take (false ∷ p) [] j on le = absurd (false≢true on)
begins_take (b ∷ p) q zero on le = absurd (omega (arith, le))
begins_take (true ∷ p) (true ∷ q) (suc j) on le = begins_take p q j on (omega (arith, le))
begins_take (false ∷ p) (false ∷ q) (suc j) on le = begins_take p q j on (omega (arith, le))
begins_take (true ∷ p) (false ∷ q) j on le = absurd (false≢true on)
begins_take (false ∷ p) (true ∷ q) j on le = absurd (false≢true on)

taken_begins : (j : ℕ) (q : Path) → begins (take j q) q ≡ true
taken_begins zero [] = refl
taken_begins (suc j) [] = refl
taken_begins zero (b ∷ q) = refl
taken_begins (suc j) (true ∷ q) = taken_begins j q
taken_begins (suc j) (false ∷ q) = taken_begins j q

taken_short : (j : ℕ) (q : Path) → length (take j q) ≤ j
taken_short zero [] = omega arith
taken_short (suc j) [] = omega arith
taken_short zero (b ∷ q) = omega arith
taken_short (suc j) (b ∷ q) = let h = taken_short j q in omega (arith, h)

module _ {V : Type 0} (m : PathMap V) (q : Path) (d : NodeModel V) (on : IsTrue (begins d.at q)) (same : (z : Path) → IsTrue (begins d.at z) → map.get d.table z ≡ map.get m z) where
  here : map.get m (take (length d.at) q) ≡ map.get d.table d.at
  here = ap (map.get m) (take_begun d.at q on) ∙ sym (same d.at (begins_self d.at))

  pub best_own : (p : Path) (x : V) → p ≡ d.at → map.get d.table d.at ≡ Some x → Some (p, x) ≡ longest_below m q (length d.at + 1)
  best_own p x is there =
      sym (one_more m q (length d.at)
      ∙ ap (λ o. option_or (option_map (λ v. (take (length d.at) q, v)) o) (longest_below m q (length d.at))) (here ∙ there)
      ∙ ap (λ (z : Path). Some (z, x)) (take_begun d.at q on ∙ sym is))

  pub best_stays : (o : Option (Path × V)) → map.get d.table d.at ≡ None → o ≡ longest_below m q (length d.at) → o ≡ longest_below m q (length d.at + 1)
  best_stays o none best =
      best ∙ sym (one_more m q (length d.at) ∙ ap (λ o. option_or (option_map (λ v. (take (length d.at) q, v)) o) (longest_below m q (length d.at))) (here ∙ none))

  upto : (n : ℕ) → length d.at + 1 ≤ n → ((j : ℕ) → length d.at + 1 ≤ j → j < n → map.get m (take j q) ≡ None) → longest_below m q (length d.at + 1) ≡ longest_below m q n
  upto n le none =
      let e : length d.at + 1 + (n - (length d.at + 1)) ≡ n = omega (arith, le) in
      sym (subst (λ k. longest_below m q k ≡ longest_below m q (length d.at + 1)) e (gap m q (length d.at + 1) (n - (length d.at + 1)) (λ j lo hi. none j lo (omega (arith, hi, e)))))

  -- at the end of the path
  pub found_whole : length q ≤ length d.at → longest_below m q (length d.at + 1) ≡ longest m q
  unfolding longest
  found_whole le = let h = begins_length d.at q on in let e : length d.at + 1 ≡ length q + 1 = omega (arith, le, h) in ap (longest_below m q) e

  module _ {A : Type 0} (b : Bool) (o : Option (Box (NodeModel V) A)) (side : IsTrue (begins (d.at ++ b ∷ []) q)) (under : IsUnder (d.at ++ b ∷ []) o)
      (table : (z : Path) → IsTrue (begins (d.at ++ b ∷ []) z) → map.get d.table z ≡ map.get (table_of o) z) where
    past : (j : ℕ) → length d.at + 1 ≤ j → map.get m (take j q) ≡ map.get (table_of o) (take j q)
    past j lo =
        let long : length (d.at ++ b ∷ []) ≤ j = let h = length-append d.at (b ∷ []) in omega (arith, lo, h) in
        let far : begins (d.at ++ b ∷ []) (take j q) ≡ true = begins_take (d.at ++ b ∷ []) q j side long in
        sym (same (take j q) (side_begins d.at (take j q) b far)) ∙ table (take j q) far

    pub found_none : o ≡ None → longest_below m q (length d.at + 1) ≡ longest m q
    unfolding longest
    found_none is = let h = begins_length d.at q on in upto (length q + 1) (omega (arith, h)) (λ j lo hi. past j lo ∙ none_after o (take j q) is)

    module _ (x : Box (NodeModel V) A) (w : NodeModel V) (is : o ≡ Some x) (at : w ≡ x.value) where
      firm : IsFirm (d.at ++ b ∷ []) w
      firm = firm_node (d.at ++ b ∷ []) o x w is at under

      outside : (j : ℕ) → length d.at + 1 ≤ j → begins w.at (take j q) ≡ false → map.get m (take j q) ≡ None
      outside j lo off = past j lo ∙ ap (λ t. map.get t (take j q)) (sym (table_after o x w is at)) ∙ under_off w.at (take j q) w.table firm.loose.keys off

      pub found_off : begins w.at q ≡ false → longest_below m q (length d.at + 1) ≡ longest m q
      unfolding longest
      found_off off = let h = begins_length d.at q on in upto (length q + 1) (omega (arith, h)) (λ j lo hi.
          outside j lo (never_so _ (λ so. false≢true (sym off ∙ begins_trans w.at (take j q) q so (taken_begins j q)))))

      pub found_on : longest_below m q (length d.at + 1) ≡ longest_below m q (length w.at)
      found_on = let h = longer_side d.at w.at b firm.loose.extends in upto (length w.at) (omega (arith, h)) (λ j lo hi.
          outside j lo (never_so _ (λ so. let a = begins_length w.at (take j q) so in let c = taken_short j q in absurd (omega (arith, a, c, hi)))))

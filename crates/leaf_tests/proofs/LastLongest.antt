-- In a list of entries in order, the last one that begins a path is the longest.
use Rattle.std.proofs.Common.{◌≡◌, ℕ, zero, suc, ◌+◌, ◌-◌, ◌<◌, ◌≤◌, true, false, cond, List, [], ◌∷◌, length, take, Option, Some, None, refl, sym, ap, ◌∙◌, subst, arith}
use Rattle.std.specs.Option.{option_map, option_or}
use Rattle.std.specs.Prelude.{reverse, find}
use Rattle.std.specs.declared.cmp.Ordering.TheVariants.{Less}
use Rattle.std.specs.Ordering.{eq_by_cmp}
use Rattle.std.proofs.lemmas.List.Folds.{find-append}
use mathlib.Core.Bool.{false≢true}
use Rattle.std.specs.FinMap as map
use Rattle.identity.specs.Path.{Path, path_cmp, begins}
use Rattle.identity.specs.Inside.PathLaws.{begins_then, tie_exact, tied}
use Rattle.prefix_tree.specs.Table.{PathMap, longest, longest_below, IsLongest, NamesLongest}
use Rattle.leaf_tests.specs.PrefixList.{map_of, IsInOrder}
use Rattle.std.specs.FinMap.Entries.{below_all}
use Rattle.std.proofs.lemmas.List.{reverse-append, length-take-le}
use Rattle.base.proofs.Bools.{is_less, first_true, second_true}
use Rattle.prefix_tree.proofs.Longest.{begins-take, begins-length}
use Rattle.leaf_tests.proofs.Places.{get_of, equal_self, equal_not_less, greater_not_less}

-- of two beginnings of one path the earlier is the shorter
shorter_first : (p r q : Path) → begins p q ≡ true → begins r q ≡ true → path_cmp p r ≡ Less → length p < length r
shorter_first [] [] q a b less = absurd (equal_not_less less)
shorter_first [] (y ∷ r) q a b less = omega arith
shorter_first (x ∷ p) [] q a b less = absurd (greater_not_less less)
shorter_first (x ∷ p) (y ∷ r) [] a b less = absurd (false≢true a)
shorter_first (true ∷ p) (true ∷ r) (true ∷ q) a b less = let h = shorter_first p r q a b less in omega arith
shorter_first (false ∷ p) (false ∷ r) (false ∷ q) a b less = let h = shorter_first p r q a b less in omega arith
shorter_first (true ∷ p) (true ∷ r) (false ∷ q) a b less = absurd (false≢true a)
shorter_first (true ∷ p) (false ∷ r) (true ∷ q) a b less = absurd (false≢true b)
shorter_first (true ∷ p) (false ∷ r) (false ∷ q) a b less = absurd (false≢true a)
shorter_first (false ∷ p) (true ∷ r) (true ∷ q) a b less = absurd (false≢true a)
shorter_first (false ∷ p) (true ∷ r) (false ∷ q) a b less = absurd (false≢true b)
shorter_first (false ∷ p) (false ∷ r) (true ∷ q) a b less = absurd (false≢true a)

-- two prefixes that are not one do not tie
apart : (p q : Path) → (p ≡ q → ⊥) → eq_by_cmp path_cmp p q ≡ false
apart p q differ = elim (eq_by_cmp path_cmp p q) as (λ b. eq_by_cmp path_cmp p q ≡ b → b ≡ false) [
  | true ↦ λ e. absurd (differ (tie_exact p q e))
  | false ↦ λ e. refl
] refl

less_is_apart : (x p : Path) → path_cmp x p ≡ Less → p ≡ x → ⊥
less_is_apart x p less e = equal_not_less (sym (equal_self x) ∙ subst (λ z. path_cmp x z ≡ Less) e less)

module _ {V : Type 0} where
  -- what a list of entries says of the entry under the longest prefix in it
  record IsLongestIn (es : List (Path × V)) (q : Path) (e : Path × V) : Type 0 where
    pub begins_it : begins e.0 q ≡ true
    pub is_in : map.find path_cmp e.0 es ≡ Some e.1
    pub longer : (p : Path) → begins p q ≡ true → length e.0 < length p → map.find path_cmp p es ≡ None

  abbrev HasLongest : List (Path × V) → Path → Option (Path × V) → Type 0
  HasLongest es q None = (p : Path) → begins p q ≡ true → map.find path_cmp p es ≡ None
  HasLongest es q (Some e) = IsLongestIn es q e

  after : (x : Path) (es : List (Path × V)) (p : Path) (v : V) → below_all path_cmp x es ≡ true → map.find path_cmp p es ≡ Some v → path_cmp x p ≡ Less
  after x [] p v all found = cc
  after x (e ∷ es) p v all found =
      elim (eq_by_cmp path_cmp p e.0) as (λ b. eq_by_cmp path_cmp p e.0 ≡ b → cond b (Some e.1) (map.find path_cmp p es) ≡ Some v → path_cmp x p ≡ Less) [
        | true ↦ λ t f. subst (λ z. path_cmp x z ≡ Less) (sym (tie_exact p e.0 t)) (is_less _ (first_true _ _ all))
        | false ↦ λ t f. after x es p v (second_true _ _ all) f
      ] refl found

  find_apart : (p : Path) (e : Path × V) (es : List (Path × V)) (o : Option V) → (p ≡ e.0 → ⊥) → map.find path_cmp p es ≡ o → map.find path_cmp p (e ∷ es) ≡ o
  find_apart p e es o differ is = rw (apart p e.0 differ) is

  with_first : (e : Path × V) (es : List (Path × V)) (q : Path) (r : Option (Path × V)) → below_all path_cmp e.0 es ≡ true → HasLongest es q r →
      HasLongest (e ∷ es) q (option_or r (cond (begins e.0 q) (Some e) None))
  with_first e es q (Some f) all h =
      let less = after e.0 es f.0 f.1 all h.is_in in
      record {
        begins_it = h.begins_it;
        is_in = find_apart f.0 e es _ (less_is_apart e.0 f.0 less) h.is_in;
        longer = λ p begun more.
            find_apart p e es _ (λ same. let shorter = shorter_first e.0 f.0 q (subst (λ z. begins z q ≡ true) same begun) h.begins_it less in
            omega (arith, ap length same)) (h.longer p begun more);
      }
  with_first e es q None all h =
      elim (begins e.0 q) as (λ b. begins e.0 q ≡ b → HasLongest (e ∷ es) q (cond b (Some e) None)) [
        | true ↦ λ t. record {
          begins_it = t;
          is_in = rw (tied e.0) refl;
          longer = λ p begun more. find_apart p e es _ (λ same. omega (arith, ap length same)) (h p begun);
        }
        | false ↦ λ t. λ p begun. find_apart p e es _ (λ same. false≢true (sym t ∙ subst (λ z. begins z q ≡ true) same begun)) (h p begun)
      ] refl

  -- the last entry that begins the path
  abbrev last_of : List (Path × V) → Path → Option (Path × V)
  last_of [] q = None
  last_of (e ∷ es) q = option_or (last_of es q) (cond (begins e.0 q) (Some e) None)

  last_found : (es : List (Path × V)) (q : Path) → find (λ e. begins e.0 q) (reverse es) ≡ last_of es q
  last_found [] q = refl
  last_found (e ∷ es) q =
      ap (find (λ (y : Path × V). begins y.0 q)) (reverse-append (e ∷ []) es) ∙ find-append (λ (y : Path × V). begins y.0 q) (reverse es) (e ∷ [])
      ∙ ap (λ o. option_or o (cond (begins e.0 q) (Some e) None)) (last_found es q)

  last_is_longest : (es : List (Path × V)) (q : Path) → IsInOrder es → HasLongest es q (last_of es q)
  last_is_longest [] q order = λ p begun. refl
  last_is_longest (e ∷ es) q order = with_first e es q (last_of es q) (first_true _ _ order) (last_is_longest es q (second_true _ _ order))

  below_suc : (m : PathMap V) (q : Path) (n k : ℕ) → k ≡ suc n → longest_below m q k ≡ option_or (option_map (λ v. (take n q, v)) (map.get m (take n q))) (longest_below m q n)
  unfolding longest_below
  below_suc m q n k e = ap (longest_below m q) e

  none_below : (m : PathMap V) (q : Path) (k : ℕ) → NamesLongest m q None → longest_below m q k ≡ None
  unfolding longest_below
  none_below m q zero h = refl
  none_below m q (suc n) h = λ i. option_or (option_map (λ v. (take n q, v)) (h (take n q) (begins-take n q) i)) (none_below m q n h i)

  some_below : (m : PathMap V) (q : Path) (e : Path × V) (n k : ℕ) → IsLongest m q e → k ≡ length e.0 + n + 1 → k ≤ length q + 1 → longest_below m q k ≡ Some e
  some_below m q e zero k h is fits =
      let cut = sym (begins_then e.0 q h.begins_path) in
      below_suc m q (length e.0) k (omega arith)
      ∙ (λ i. option_or (option_map (λ v. (cut i, v)) ((ap (map.get m) cut ∙ h.in_map) i)) (longest_below m q (length e.0)))
  some_below m q e (suc n) k h is fits =
      let here = length e.0 + n + 1 in
      let long : length (take here q) ≡ here = length-take-le here q (omega arith) in
      below_suc m q here k (omega arith)
      ∙ ap (λ (o : Option V). option_or (option_map (λ v. (take here q, v)) o) (longest_below m q here)) (h.no_longer (take here q) (begins-take here q) (omega arith))
      ∙ some_below m q e n here h refl (omega arith)

  -- what is named so is the longest
  longest_is : (m : PathMap V) (q : Path) (r : Option (Path × V)) → NamesLongest m q r → longest m q ≡ r
  unfolding longest
  longest_is m q None h = none_below m q (length q + 1) h
  longest_is m q (Some e) h = let fits = begins-length e.0 q h.begins_path in some_below m q e (length q - length e.0) (length q + 1) h (omega arith) (omega arith)

  -- a list of entries and the map that it makes say the same
  in_the_map : (es : List (Path × V)) (q : Path) (r : Option (Path × V)) → IsInOrder es → HasLongest es q r → NamesLongest (map_of es) q r
  in_the_map es q None order h = λ p begun. get_of es p order ∙ h p begun
  in_the_map es q (Some e) order h = record {
    in_map = get_of es e.0 order ∙ h.is_in;
    begins_path = h.begins_it;
    no_longer = λ p begun more. get_of es p order ∙ h.longer p begun more;
  }

  -- what a search from the back finds, in the list l, which is es
  pub last_gives : (es l : List (Path × V)) (m : PathMap V) (q : Path) (r : Option (Path × V)) → map_of es ≡ m → IsInOrder es → l ≡ es → r ≡ find (λ e. begins e.0 q) (reverse l) → r ≡ longest m q
  last_gives es l m q r seen order same found =
      found ∙ ap (λ (z : List (Path × V)). find (λ e. begins e.0 q) (reverse z)) same ∙ last_found es q
      ∙ sym (longest_is (map_of es) q (last_of es q) (in_the_map es q _ order (last_is_longest es q order))) ∙ ap (λ n. longest n q) seen

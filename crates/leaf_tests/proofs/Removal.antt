-- What is left of entries in order once one is taken out.
use Rattle.std.proofs.Common.{◌≡◌, ℕ, zero, suc, Bool, true, false, cond, List, [], ◌∷◌, Option, Some, None, refl, sym, ap, ◌∙◌, subst, arith}
use Rattle.std.specs.Ordering.{is_eq, eq_by_cmp}
use Rattle.std.specs.List.{remove}
use Rattle.std.specs.FinMap as map
use Rattle.std.specs.FinMap.{find, get-remove, same_map}
use Rattle.std.specs.FinMap.Entries.{below_all}
use Rattle.base.proofs.Bools.{is_less, first_true, second_true, and_is_true}
use Rattle.identity.specs.Path.{Path, path_cmp}
use Rattle.identity.specs.Inside.PathLaws.{paths_total, paths_exact, tie_exact}
use Rattle.prefix_tree.specs.Table.{PathMap}
use Rattle.leaf_tests.specs.PrefixList.{map_of, IsInOrder}
use Rattle.prefix_tree.proofs.NodeLaws.{remove_absent}
use Rattle.leaf_tests.proofs.Places.{IsAt, IsGap, tail_at, head_before, get_of, get_absent}

module _ {V : Type 0} where
  below_remove : (x : Path) (es : List (Path × V)) (i : ℕ) → below_all path_cmp x es ≡ true → below_all path_cmp x (remove es i) ≡ true
  below_remove x [] zero all = all
  below_remove x [] (suc i) all = all
  below_remove x (e ∷ es) zero all = second_true _ _ all
  below_remove x (e ∷ es) (suc i) all = and_is_true _ _ (first_true _ _ all) (below_remove x es i (second_true _ _ all))

  pub removed_in_order : (es : List (Path × V)) (i : ℕ) → IsInOrder es → IsInOrder (remove es i)
  removed_in_order [] zero order = order
  removed_in_order [] (suc i) order = order
  removed_in_order (e ∷ es) zero order = second_true _ _ order
  removed_in_order (e ∷ es) (suc i) order = and_is_true _ _ (below_remove e.0 es i (first_true _ _ order)) (removed_in_order es i (second_true _ _ order))

  not_below : (q : Path) (es : List (Path × V)) → below_all path_cmp q es ≡ true → find path_cmp q es ≡ None
  not_below q [] all = refl
  not_below q (e ∷ es) all = rw (is_less (path_cmp q e.0) (first_true _ _ all)) (not_below q es (second_true _ _ all))

  same_first : (b : Bool) (x : V) (o : Option V) → (b ≡ true → o ≡ None) → o ≡ cond b None (cond b (Some x) o)
  same_first true x o h = h refl
  same_first false x o h = refl

  same_later : (b c : Bool) (x : V) (o : Option V) → (b ≡ true → c ≡ false) → cond c (Some x) (cond b None o) ≡ cond b None (cond c (Some x) o)
  same_later true c x o h = rw (h refl) refl
  same_later false c x o h = refl

  find_removed : (p q : Path) (es : List (Path × V)) (i : ℕ) → IsInOrder es → IsAt es q i → find path_cmp p (remove es i) ≡ cond (eq_by_cmp path_cmp p q) None (find path_cmp p es)
  find_removed p q [] i order at = absurd (omega (arith, at.in_range))
  find_removed p q (e ∷ es) zero order at =
      subst (λ z. find path_cmp p es ≡ cond (eq_by_cmp path_cmp p z) None (find path_cmp p (e ∷ es))) (at.here e)
      (same_first (eq_by_cmp path_cmp p e.0) e.1 (find path_cmp p es) (λ same. ap (λ z. find path_cmp z es) (tie_exact p e.0 same) ∙ not_below e.0 es (first_true _ _ order)))
  find_removed p q (e ∷ es) (suc i) order at =
      ap (cond (eq_by_cmp path_cmp p e.0) (Some e.1)) (find_removed p q es i (second_true _ _ order) (tail_at at))
      ∙ same_later (eq_by_cmp path_cmp p q) (eq_by_cmp path_cmp p e.0) e.1 (find path_cmp p es)
      (λ same. ap (λ z. eq_by_cmp path_cmp z e.0) (tie_exact p q same) ∙ ap is_eq (head_before e es q i order at))

  -- the map m, which is seen in the list, without q
  pub removed_is : (es new : List (Path × V)) (m : PathMap V) (q : Path) (i : ℕ) → map_of es ≡ m → IsInOrder es → IsAt es q i → new ≡ remove es i → map_of new ≡ map.remove m q
  removed_is es new m q i seen order at is =
      ap map_of is ∙ same_map paths_total paths_exact _ _ (λ p.
      get_of (remove es i) p (removed_in_order es i order) ∙ find_removed p q es i order at
      ∙ ap (cond (eq_by_cmp path_cmp p q) None) (sym (get_of es p order)) ∙ sym (get-remove paths_total (map_of es) q p)
      ) ∙ ap (λ n. map.remove n q) seen

  pub none_removed_is : (es : List (Path × V)) (m : PathMap V) (q : Path) (i : ℕ) → map_of es ≡ m → IsInOrder es → IsGap es q i → m ≡ map.remove m q
  none_removed_is es m q i seen order gap = sym (remove_absent m q (sym (get_absent es m q i seen order gap)))

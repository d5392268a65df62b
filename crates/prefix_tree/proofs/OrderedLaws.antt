-- A map that is kept in order: what is found, and what one change makes of it.
use Rattle.std.proofs.Common.{◌≡◌, Bool, true, false, cond, List, [], ◌∷◌, Option, Some, None, refl, sym, ap, subst, ◌∙◌}
use Rattle.std.specs.declared.cmp.Ordering.{Ordering}
use Rattle.std.specs.declared.cmp.Ordering.TheVariants.{Less, Equal, Greater}
use Rattle.std.specs.Map.{lookup}
use Rattle.std.specs.Ordering.{is_eq, eq_by_cmp, ordering_reverse}
use Rattle.std.specs.BTreeMap.{BTreeMap, WritesThrough, is_at}
use Rattle.std.specs.Option.{IsSome, is_some}
use Rattle.std.specs.FinMap as map
use Rattle.std.specs.FinMap.{same_map}
use Rattle.base.proofs.Options.{none_of}
use Rattle.identity.specs.Path.{Path, path_cmp}
use Rattle.identity.specs.Inside.PathLaws.{paths_total, paths_exact, tied}
use Rattle.prefix_tree.specs.declared.ordered.Held.{Held}
use Rattle.prefix_tree.specs.Table.{PathMap}
use Rattle.prefix_tree.specs.Change.{with_value}
use Rattle.prefix_tree.specs.Inside.Ordered.{held, map_held}
use Rattle.prefix_tree.proofs.NodeLaws.{remove_absent}

same_tie : (r : Ordering) → is_eq (ordering_reverse r) ≡ is_eq r
same_tie Less = refl
same_tie Equal = refl
same_tie Greater = refl

-- which of two is named first does not matter
turned : (p q : Path) → is_eq (path_cmp p q) ≡ is_eq (path_cmp q p)
turned p q = ap is_eq (paths_total.antisymm p q) ∙ same_tie (path_cmp q p)

module _ {V : Type 0} where
  pub get_with : (m : PathMap V) (p : Path) (o : Option V) (q : Path) → map.get (with_value m p o) q ≡ cond (eq_by_cmp path_cmp q p) o (map.get m q)
  get_with m p None q = map.get-remove paths_total m p q
  get_with m p (Some v) q = map.get-insert paths_total m p v q

  inside : (b : Bool) (o r : Option (Held V)) → cond b (held o) (held r) ≡ held (cond b o r)
  inside true o r = refl
  inside false o r = refl

  pub found : (es : List (Path × Held V)) (q : Path) → map.get (map_held es) q ≡ held (lookup (is_at (path_cmp q)) es)
  found [] q = map.get-empty path_cmp q
  found (e ∷ es) q =
      get_with (map_held es) e.0 e.1.value q ∙ ap (cond (eq_by_cmp path_cmp q e.0) e.1.value) (found es q)
      ∙ inside (eq_by_cmp path_cmp q e.0) (Some e.1) (lookup (is_at (path_cmp q)) es)

  -- what is new at one prefix is new in the map
  pub changed : (m n : List (Path × Held V)) (k : Path) (w : Option (Held V)) →
      ((j : Path) → lookup (is_at (path_cmp j)) n ≡ cond (is_at (path_cmp k) j) w (lookup (is_at (path_cmp j)) m)) →
      map_held n ≡ with_value (map_held m) k (held w)
  changed m n k w new = same_map paths_total paths_exact _ _ (λ q.
      found n q ∙ ap held (new q) ∙ sym (inside (is_eq (path_cmp k q)) w (lookup (is_at (path_cmp q)) m))
      ∙ (λ i. cond (turned k q i) (held w) (sym (found m q) i)) ∙ sym (get_with (map_held m) k (held w) q))

  -- where nothing is, nothing goes
  pub absent : (m : PathMap V) (p : Path) → map.get m p ≡ None → m ≡ with_value m p None
  absent m p none = sym (remove_absent m p none)

  module _ (es : List (Path × Held V)) (m : PathMap V) (k p : Path) (seen : map_held es ≡ m) (same : k ≡ p) where
    -- what the ordered map's calls say of this one
    pub found_in : (o : Option (Held V)) → o ≡ lookup (is_at (path_cmp k)) es → held o ≡ map.get m p
    found_in o is = ap held is ∙ sym (found es k) ∙ (λ i. map.get (seen i) (same i))

    pub changed_in : (n : List (Path × Held V)) (w : Option (Held V)) →
        ((j : Path) → lookup (is_at (path_cmp j)) n ≡ cond (is_at (path_cmp k) j) w (lookup (is_at (path_cmp j)) es)) →
        map_held n ≡ with_value m p (held w)
    changed_in n w new = changed es n k w new ∙ (λ i. with_value (seen i) (same i) (held w))

    -- what is written at a key that is there
    pub written_in : (map_m map_n : BTreeMap Path (Held V)) (there w : Held V) → map_m.entries ≡ es →
        Some there ≡ lookup (is_at (path_cmp k)) map_m.entries → WritesThrough path_cmp (path_cmp k) map_m w map_n →
        map_held map_n.entries ≡ with_value m p w.value
    written_in map_m map_n there w is was written =
        changed_in map_n.entries (Some w)
        (subst (λ l. (j : Path) → lookup (is_at (path_cmp j)) map_n.entries ≡ cond (is_at (path_cmp k) j) (Some w)
        (lookup (is_at (path_cmp j)) l)) is (written.3 (subst IsSome was refl)).0)

    -- where nothing is left, nothing is there
    pub none_left : (n : PathMap V) (left : Option V) → n ≡ with_value m p left → is_some left ≡ false → map.get n k ≡ None
    none_left n left is none = (λ i. map.get (is i) (same i)) ∙ get_with m p left p ∙ ap (λ b. cond b left (map.get m p)) (tied p) ∙ none_of left none

-- A joined map's entries are in the order of the walk.
use Rattle.std.proofs.Common.{◌≡◌, ◌+◌, Bool, true, false, cond, List, [], ◌∷◌, ◌++◌, Option, Some, None, length, length-append, refl, sym, ap, ◌∙◌}
use mathlib.Core.Bool.{false≢true}
use Rattle.std.specs.Prelude.{◌&&◌, T}
use Rattle.std.specs.Option.{is_some}
use Rattle.std.specs.Ordering.{eq_by_cmp}
use Rattle.std.specs.declared.cmp.Ordering.TheVariants.{Less}
use Rattle.std.specs.FinMap as map
use Rattle.std.specs.FinMap.{find, is_sorted, entries_sorted, entries-from_sorted, get-from_sorted, get-entries, get-from_entries, len-entries, same_map}
use Rattle.std.specs.FinMap.Entries.{below_all}
use Rattle.identity.specs.Path.{Path, path_cmp, begins}
use Rattle.identity.specs.Inside.PathLaws.{paths_total, paths_exact, tied}
use Rattle.prefix_tree.specs.Table.{PathMap}
use Rattle.prefix_tree.specs.Inside.Around.{own_entry, around_entries, around, KeysUnder}

-- a path before what goes on from it, and what goes on with 0 before what goes on with 1
pub own_before : (p x : Path) (b : Bool) → begins (p ++ b ∷ []) x ≡ true → path_cmp p x ≡ Less
own_before [] [] true e = absurd (false≢true e)
own_before [] [] false e = absurd (false≢true e)
own_before [] (c ∷ x) b e = refl
own_before (true ∷ p) [] b e = absurd (false≢true e)
own_before (false ∷ p) [] b e = absurd (false≢true e)
own_before (true ∷ p) (true ∷ x) b e = own_before p x b e
own_before (false ∷ p) (false ∷ x) b e = own_before p x b e
own_before (true ∷ p) (false ∷ x) b e = absurd (false≢true e)
own_before (false ∷ p) (true ∷ x) b e = absurd (false≢true e)

pub zero_before_one : (p x y : Path) → begins (p ++ false ∷ []) x ≡ true → begins (p ++ true ∷ []) y ≡ true → path_cmp x y ≡ Less
zero_before_one [] [] y e f = absurd (false≢true e)
zero_before_one [] (true ∷ x) y e f = absurd (false≢true e)
zero_before_one [] (false ∷ x) [] e f = absurd (false≢true f)
zero_before_one [] (false ∷ x) (false ∷ y) e f = absurd (false≢true f)
zero_before_one [] (false ∷ x) (true ∷ y) e f = refl
zero_before_one (true ∷ p) [] y e f = absurd (false≢true e)
zero_before_one (false ∷ p) [] y e f = absurd (false≢true e)
zero_before_one (true ∷ p) (false ∷ x) y e f = absurd (false≢true e)
zero_before_one (false ∷ p) (true ∷ x) y e f = absurd (false≢true e)
zero_before_one (true ∷ p) (true ∷ x) [] e f = absurd (false≢true f)
zero_before_one (false ∷ p) (false ∷ x) [] e f = absurd (false≢true f)
zero_before_one (true ∷ p) (true ∷ x) (false ∷ y) e f = absurd (false≢true f)
zero_before_one (false ∷ p) (false ∷ x) (true ∷ y) e f = absurd (false≢true f)
zero_before_one (true ∷ p) (true ∷ x) (true ∷ y) e f = zero_before_one p x y e f
zero_before_one (false ∷ p) (false ∷ x) (false ∷ y) e f = zero_before_one p x y e f

both : (a b : Bool) → T a → T b → T (a && b)
both true b p q = q
both false b p q = p

first : (a b : Bool) → T (a && b) → T a
first true b p = tt
first false b p = p

second : (a b : Bool) → T (a && b) → T b
second true b p = p
second false b p = absurd p

module _ {V : Type 0} where
  -- the path begins each key of the list
  abbrev pub AllUnder : Path → List (Path × V) → Type 0
  AllUnder p [] = Unit {0}
  AllUnder p (e ∷ es) = (begins p e.0 ≡ true) × AllUnder p es

  all_under : (p : Path) (es : List (Path × V)) → ((q : Path) → begins p q ≡ false → find path_cmp q es ≡ None) → AllUnder p es
  all_under p [] h = tt
  all_under p (e ∷ es) h = (
    must (begins p e.0) (λ off. here (h e.0 off)),
    all_under p es (λ q off. rest (eq_by_cmp path_cmp q e.0) e.1 (find path_cmp q es) (h q off)),
  )
    where
      rest : (b : Bool) (x : V) (o : Option V) → cond b (Some x) o ≡ None → o ≡ None
      rest true x o n = absurd (false≢true (ap is_some (sym n) ∙ refl))
      rest false x o n = n

      here : cond (eq_by_cmp path_cmp e.0 e.0) (Some e.1) (find path_cmp e.0 es) ≡ None → ⊥
      here n = false≢true (ap is_some (sym n) ∙ ap (λ b. is_some (cond b (Some e.1) (find path_cmp e.0 es))) (tied e.0))

      must : (b : Bool) → (b ≡ false → ⊥) → b ≡ true
      must true h = refl
      must false h = absurd (h refl)

  pub entries_under : (p : Path) (m : PathMap V) → KeysUnder p m → AllUnder p (map.entries m)
  unfolding KeysUnder
  entries_under p m keys = all_under p (map.entries m) (λ q off. sym (get-entries m q) ∙ keys q off)

  is_less : (x y : Path) → path_cmp x y ≡ Less → (es : List (Path × V)) → T (below_all path_cmp x es) → (v : V) → T (below_all path_cmp x ((y, v) ∷ es))
  is_less x y less es h v = rw (less) (h)

  own_below : (p : Path) (b : Bool) (es : List (Path × V)) → AllUnder (p ++ b ∷ []) es → T (below_all path_cmp p es)
  own_below p b [] all = tt
  own_below p b (e ∷ es) all = is_less p e.0 (own_before p e.0 b all.0) es (own_below p b es all.1) e.1

  zero_below : (p x : Path) (fs : List (Path × V)) → begins (p ++ false ∷ []) x ≡ true → AllUnder (p ++ true ∷ []) fs → T (below_all path_cmp x fs)
  zero_below p x [] e all = tt
  zero_below p x (f ∷ fs) e all = is_less x f.0 (zero_before_one p x f.0 e all.0) fs (zero_below p x fs e all.1) f.1

  below_append : (x : Path) (es fs : List (Path × V)) → T (below_all path_cmp x es) → T (below_all path_cmp x fs) → T (below_all path_cmp x (es ++ fs))
  below_append x [] fs h k = k
  below_append x (e ∷ es) fs h k = both _ _ (first _ _ h) (below_append x es fs (second _ _ h) k)

  sorted_sides : (p : Path) (es fs : List (Path × V)) → AllUnder (p ++ false ∷ []) es → AllUnder (p ++ true ∷ []) fs → T (is_sorted path_cmp es) →
      T (is_sorted path_cmp fs) → T (is_sorted path_cmp (es ++ fs))
  sorted_sides p [] fs a b h k = k
  sorted_sides p (e ∷ es) fs a b h k = both _ _ (below_append e.0 es fs (first _ _ h) (zero_below p e.0 fs a.0 b)) (sorted_sides p es fs a.1 b (second _ _ h) k)

  sorted_around : (p : Path) (v : Option V) (es fs : List (Path × V)) → AllUnder (p ++ false ∷ []) es → AllUnder (p ++ true ∷ []) fs →
      T (is_sorted path_cmp es) → T (is_sorted path_cmp fs) → T (is_sorted path_cmp (own_entry p v ++ (es ++ fs)))
  sorted_around p None es fs a b h k = sorted_sides p es fs a b h k
  sorted_around p (Some v) es fs a b h k = both _ _ (below_append p es fs (own_below p false es a) (own_below p true fs b)) (sorted_sides p es fs a b h k)

  module _ (p : Path) (v : Option V) (l r : PathMap V) (left : KeysUnder (p ++ false ∷ []) l) (right : KeysUnder (p ++ true ∷ []) r) where
    around_sorted : T (is_sorted path_cmp (around_entries p v l r))
    around_sorted = sorted_around p v (map.entries l) (map.entries r) (entries_under _ l left) (entries_under _ r right) (entries_sorted l) (entries_sorted r)

    pub entries_around : map.entries (around p v l r) ≡ around_entries p v l r
    unfolding around
    entries_around =
        ap map.entries (same_map paths_total paths_exact (map.from_entries (around_entries p v l r)) (map.from_sorted (around_entries p v l r)) (λ q.
        get-from_entries paths_total (around_entries p v l r) q ∙ sym (get-from_sorted path_cmp (around_entries p v l r) q around_sorted)))
        ∙ entries-from_sorted path_cmp (around_entries p v l r) around_sorted

    pub len_around : map.len (around p v l r) ≡ cond (is_some v) 1 0 + (map.len l + map.len r)
    len_around =
        len-entries (around p v l r) ∙ ap length entries_around ∙ length-append (own_entry p v) (map.entries l ++ map.entries r)
        ∙ ap (λ n. length (own_entry p v) + n) (length-append (map.entries l) (map.entries r))
        ∙ (λ i. own_length v i + (sym (len-entries l) i + sym (len-entries r) i))
      where
        own_length : (v : Option V) → length (own_entry p v) ≡ cond (is_some v) 1 0
        own_length None = refl
        own_length (Some x) = refl

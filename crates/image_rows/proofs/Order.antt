-- A key after all others goes to the end.
use Rattle.std.proofs.Common.{◌≡◌, ◌+◌, ◌<◌, true, cond, List, [], ◌∷◌, ◌++◌, length, Some, None, refl, sym, ap, subst, ◌∙◌, arith}
use Rattle.std.specs.Prelude.{T}
use Rattle.std.specs.List.{list_all}
use Rattle.std.specs.Ordering.{is_lt, is_eq, ordering_reverse}
use Rattle.std.specs.declared.cmp.Ordering.{Ordering}
use Rattle.std.specs.declared.cmp.Ordering.TheVariants.{Greater}
use Rattle.std.specs.Cmp.{IsTotalOrder}
use Rattle.std.specs.FinMap as map
use Rattle.std.specs.FinMap.Entries.{below_all, is_sorted, find, put, by_order}
use Rattle.std.proofs.lemmas.List.{length-append}
use Rattle.base.proofs.Bools.{true_if, and_is_true, first_true, second_true, is_less}
use Rattle.base.proofs.Lists.{nil_of_length}
use Rattle.group_attach.proofs.Filtered.{to_T}
use Rattle.image_rows.specs.Loading.{is_next}

module _ {K : Type 0} {R : K → K → Ordering} (o : IsTotalOrder R) where
  greater : (x y : K) → is_lt (R x y) ≡ true → R y x ≡ Greater
  greater x y p = o.antisymm y x ∙ ap ordering_reverse (is_less _ p)

-- each key of the list is below k
abbrev AllBelow : {K X : Type 0} → (K → K → Ordering) → K → List (K × X) → Type 0
AllBelow R k es = list_all (λ e. is_lt (R e.0 k)) es ≡ true

module _ {K X : Type 0} {R : K → K → Ordering} (o : IsTotalOrder R) where
  put_last : (k : K) (v : X) (es : List (K × X)) → AllBelow R k es → put R k v es ≡ es ++ (k, v) ∷ []
  put_last k v [] h = refl
  put_last k v (e ∷ es) h =
      ap (λ r. by_order r ((k, v) ∷ e ∷ es) ((e.0, v) ∷ es) (e ∷ put R k v es)) (greater o e.0 k (first_true _ _ h))
      ∙ ap (λ (l : List (K × X)). e ∷ l) (put_last k v es (second_true _ _ h))

  pub entries_next : (m : map.FinMap R X) (k : K) (v : X) → is_next m k ≡ true → map.entries (map.insert m k v) ≡ map.entries m ++ (k, v) ∷ []
  unfolding is_next
  entries_next m k v h = map.entries-insert o m k v ∙ put_last k v (map.entries m) h

  none_below : (k : K) (es : List (K × X)) → AllBelow R k es → find R k es ≡ None
  none_below k [] h = refl
  none_below k (e ∷ es) h = ap (λ r. cond (is_eq r) (Some e.1) (find R k es)) (greater o e.0 k (first_true _ _ h)) ∙ none_below k es (second_true _ _ h)

  -- a key after all others is new
  pub get_next : (m : map.FinMap R X) (k : K) → is_next m k ≡ true → map.get m k ≡ None
  unfolding is_next
  get_next m k h = map.get-entries m k ∙ none_below k (map.entries m) h

module _ {K X : Type 0} (R : K → K → Ordering) where
  among : (x : K) (es fs : List (K × X)) (e : K × X) → T (below_all R x (es ++ e ∷ fs)) → is_lt (R x e.0) ≡ true
  among x [] fs e h = first_true _ _ (true_if _ h)
  among x (d ∷ es) fs e h = among x es fs e (to_T _ (second_true (is_lt (R x d.0)) _ (true_if _ h)))

  -- in a list in order an entry comes after those before it
  prefix_below : (es fs : List (K × X)) (e : K × X) → T (is_sorted R (es ++ e ∷ fs)) → AllBelow R e.0 es
  prefix_below [] fs e h = refl
  prefix_below (d ∷ es) fs e h =
      and_is_true _ _ (among d.0 es fs e (to_T _ (first_true _ _ (true_if _ h)))) (prefix_below es fs e (to_T _ (second_true (below_all R d.0 (es ++ e ∷ fs)) _ (true_if _ h))))

  -- a map that has the first entries of another takes its next one
  pub next_of : (m full : map.FinMap R X) (e : K × X) (fs : List (K × X)) → map.entries m ++ e ∷ fs ≡ map.entries full → is_next m e.0 ≡ true
  unfolding is_next
  next_of m full e fs is = prefix_below (map.entries m) fs e (subst (λ (l : List (K × X)). T (is_sorted R l)) (sym is) (map.entries_sorted full))

  pub fewer : (m full : map.FinMap R X) (e : K × X) (fs : List (K × X)) → map.entries m ++ e ∷ fs ≡ map.entries full → map.len m < map.len full
  fewer m full e fs is =
      let a = map.len-entries m in let b = map.len-entries full in
      let c : length (map.entries m) + length (e ∷ fs) ≡ length (map.entries full) = sym (length-append (map.entries m) (e ∷ fs)) ∙ ap length is in
      omega (arith, a, b, c)

pub entries-empty : {K X : Type 0} (R : K → K → Ordering) → map.entries (map.empty {X = X} {R = R}) ≡ []
entries-empty {K} {X} R = nil_of_length (map.entries (map.empty {X = X} {R = R})) (sym (map.len-entries (map.empty {X = X} {R = R})) ∙ map.len-empty R X)

-- What holds of each entry of a map holds after its changes.
use Rattle.std.proofs.Common.{◌≡◌, Bool, true, false, cond, List, [], ◌∷◌, length, Some, None, refl, sym, ap, ◌∙◌, subst, arith}
use Rattle.std.specs.Prelude.{T, ◌&&◌, not}
use Rattle.std.specs.List.{All, filter}
use Rattle.std.specs.Ordering.{eq_by_cmp}
use Rattle.std.specs.declared.cmp.Ordering.{Ordering}
use Rattle.std.specs.declared.cmp.Ordering.TheVariants.{Less, Equal, Greater}
use Rattle.std.specs.Cmp.{IsTotalOrder}
use Rattle.std.specs.FinMap as map
use Rattle.std.specs.FinMap.Entries.{by_order, put, find, below_all, is_sorted, is_sorted-where_key, find-where_key, where_key}
use Rattle.std.proofs.lemmas.List.Elements.{All-nil, All-cons, All-head, All-tail, All-filter}
use Rattle.base.proofs.Bools.{is_equal}
use Rattle.base.proofs.Options.{some_is}
use Rattle.centre_core.specs.StateRanges.{AllEntries}

left : (a b : Bool) → T (a && b) → T a
left true b h = tt
left false b h = h

right : (a b : Bool) → T (a && b) → T b
right true b h = h
right false b h = absurd h

both : (a b : Bool) → T a → T b → T (a && b)
both true b h k = k
both false b h k = h

turned : {X : Type 0} (b : Bool) (x y : X) → cond b x y ≡ cond (not b) y x
turned true x y = refl
turned false x y = refl

module _ {K X : Type 0} {R : K → K → Ordering} (total : IsTotalOrder R) (exact : map.IsAntisymmetric R) (P : K → X → Type 0) where
  abbrev Each : List (K × X) → Type 0
  Each es = All (λ e. P e.0 e.1) es

  put_each : (k : K) (v : X) (es : List (K × X)) → P k v → Each es → Each (put R k v es)
  put_each k v [] fits all = All-cons (λ e. P e.0 e.1) (k, v) [] fits all
  put_each k v (e ∷ es) fits all =
      (elim (R k e.0) as (λ o. R k e.0 ≡ o → Each (by_order o ((k, v) ∷ e ∷ es) ((e.0, v) ∷ es) (e ∷ put R k v es))) [
        | Less ↦ λ is. All-cons (λ e. P e.0 e.1) (k, v) (e ∷ es) fits all
        | Equal ↦ λ is. All-cons (λ e. P e.0 e.1) (e.0, v) es (subst (λ x. P x v) (exact k e.0 is) fits) (All-tail (λ e. P e.0 e.1) e es all)
        | Greater ↦ λ is. All-cons (λ e. P e.0 e.1) e (put R k v es) (All-head (λ e. P e.0 e.1) e es all) (put_each k v es fits (All-tail (λ e. P e.0 e.1) e es all))
      ]) refl

  -- one more entry, or a new value
  pub insert_all : (m : map.FinMap R X) (k : K) (v : X) → P k v → AllEntries P m → AllEntries P (map.insert m k v)
  insert_all m k v fits all = subst Each (sym (map.entries-insert total m k v)) (put_each k v (map.entries m) fits all)

  alike : (p : K → Bool) (q x : K) → R q x ≡ Equal → p x ≡ p q
  alike p q x e = sym (ap p (exact q x e))

  -- the entries whose keys pass a test
  retained : (m : map.FinMap R X) (p : K → Bool) → map.entries (map.retain_keys m p) ≡ where_key R p (map.entries m)
  retained m p =
      let sorted : T (is_sorted R (where_key R p (map.entries m))) = is_sorted-where_key R p (map.entries m) (map.entries_sorted m) in
      ap map.entries
      (map.same_map total exact (map.retain_keys m p) (map.from_sorted (where_key R p (map.entries m)))
      (λ q.
      map.get-retain_keys m p q (alike p q)
      ∙ ap (λ o. cond (p q) o None) (map.get-entries m q)
      ∙ sym (find-where_key R p q (alike p q) (map.entries m))
      ∙ sym (map.get-from_sorted R (where_key R p (map.entries m)) q sorted)))
      ∙ map.entries-from_sorted R (where_key R p (map.entries m)) sorted

  pub retain_all : (m : map.FinMap R X) (p : K → Bool) → AllEntries P m → AllEntries P (map.retain_keys m p)
  retain_all m p all = subst Each (sym (retained m p)) (All-filter (λ e. p e.0) (λ e. P e.0 e.1) (map.entries m) all)

  -- all but one
  removed : (m : map.FinMap R X) (k : K) → map.remove m k ≡ map.retain_keys m (λ q. not (eq_by_cmp R q k))
  removed m k =
      map.same_map total exact _ _ (λ q.
      map.get-remove total m k q
      ∙ turned (eq_by_cmp R q k) None (map.get m q)
      ∙ sym (map.get-retain_keys m (λ q. not (eq_by_cmp R q k)) q (alike (λ q. not (eq_by_cmp R q k)) q)))

  pub remove_all : (m : map.FinMap R X) (k : K) → AllEntries P m → AllEntries P (map.remove m k)
  remove_all m k all = subst (AllEntries P) (sym (removed m k)) (retain_all m (λ q. not (eq_by_cmp R q k)) all)

  below_filtered : (x : K) (test : K × X → Bool) (es : List (K × X)) → T (below_all R x es) → T (below_all R x (filter test es))
  below_filtered x test [] h = tt
  below_filtered x test (e ∷ es) h =
      let rest = below_filtered x test es (right _ _ h) in
      elim (test e) as (λ b. T (below_all R x (cond b (e ∷ filter test es) (filter test es)))) [ true ↦ both _ _ (left _ _ h) rest | false ↦ rest ]

  sorted_filtered : (test : K × X → Bool) (es : List (K × X)) → T (is_sorted R es) → T (is_sorted R (filter test es))
  sorted_filtered test [] h = tt
  sorted_filtered test (e ∷ es) h =
      let rest = sorted_filtered test es (right _ _ h) in
      elim (test e) as (λ b. T (is_sorted R (cond b (e ∷ filter test es) (filter test es)))) [ true ↦ both _ _ (below_filtered e.0 test es (left _ _ h)) rest | false ↦ rest ]

  -- the entries that pass a test
  pub filtered_all : (m : map.FinMap R X) (test : K × X → Bool) → AllEntries P m → AllEntries P (map.from_sorted {R = R} (filter test (map.entries m)))
  filtered_all m test all =
      subst Each (sym (map.entries-from_sorted R (filter test (map.entries m)) (sorted_filtered test (map.entries m) (map.entries_sorted m)))) (All-filter test (λ e. P e.0 e.1) (map.entries m) all)

  found : (q : K) (v : X) (es : List (K × X)) → Each es → find R q es ≡ Some v → P q v
  found q v [] all is = cc
  found q v (e ∷ es) all is =
      (elim (eq_by_cmp R q e.0) as (λ b. eq_by_cmp R q e.0 ≡ b → cond b (Some e.1) (find R q es) ≡ Some v → P q v) [
        | true ↦ λ t here. subst (λ x. P x v) (sym (exact q e.0 (is_equal (R q e.0) t))) (subst (λ x. P e.0 x) (some_is e.1 v here) (All-head (λ e. P e.0 e.1) e es all))
        | false ↦ λ t there. found q v es (All-tail (λ e. P e.0 e.1) e es all) there
      ]) refl is

  -- what is at a key is an entry
  pub found_in : (m : map.FinMap R X) (q : K) (v : X) → AllEntries P m → map.get m q ≡ Some v → P q v
  found_in m q v all is = found q v (map.entries m) all (sym (map.get-entries m q) ∙ is)

pub empty_all : {K X : Type 0} (R : K → K → Ordering) (P : K → X → Type 0) → AllEntries P (map.empty {X = X} {R = R})
empty_all {K} {X} R P =
    subst (λ es. All (λ (e : K × X). P e.0 e.1) es)
    (sym (none (map.entries (map.empty {X = X} {R = R})) (sym (map.len-entries (map.empty {X = X} {R = R})) ∙ map.len-empty R X)))
    (All-nil (λ (e : K × X). P e.0 e.1))
  where
    none : (es : List (K × X)) → length es ≡ 0 → es ≡ []
    none [] e = refl
    none (x ∷ es) e = absurd (omega (arith, e))

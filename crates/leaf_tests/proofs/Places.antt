-- Where a prefix is in a list of entries in order, or would go, and what an edit there makes of the map.
use Rattle.std.proofs.Common.{◌≡◌, ℕ, zero, suc, ◌<◌, ◌≤◌, Bool, true, false, List, [], ◌∷◌, length, get_or, set, Some, None, Result, Ok, Err, refl, sym, ap, ◌∙◌, subst, arith}
use Rattle.std.specs.Prelude.{IfOk}
use Rattle.std.specs.declared.cmp.Ordering.{Ordering}
use Rattle.std.specs.declared.cmp.Ordering.TheVariants.{Less, Equal, Greater}
use Rattle.std.specs.Ordering.{is_eq, ordering_index, ordering_reverse}
use Rattle.std.specs.List.{insert, HoldsAt}
use Rattle.std.specs.List.Sorted.{IsBinarySearchResult, IsNonDecreasingBy}
use mathlib.Core.Bool.{false≢true}
use lib.Dec.{T}
use Rattle.std.specs.FinMap as map
use Rattle.std.specs.FinMap.{find, put}
use Rattle.std.specs.FinMap.Entries.{below_all, is_sorted-put}
use Rattle.base.proofs.Bools.{first_true, second_true, is_less}
use Rattle.base.proofs.Numbers.{at_most_two}
use Rattle.identity.specs.Path.{Path, path_cmp}
use Rattle.identity.specs.Inside.PathLaws.{paths_total, paths_exact, tied}
use Rattle.prefix_tree.specs.Table.{PathMap}
use Rattle.leaf_tests.specs.PrefixList.{map_of, IsInOrder}

pub equal_not_less : Equal ≡ Less → ⊥
equal_not_less e = cc

pub greater_not_less : Greater ≡ Less → ⊥
greater_not_less e = cc

-- the other way round
turned : (p q : Path) (o : Ordering) → path_cmp p q ≡ o → path_cmp q p ≡ ordering_reverse o
turned p q o e = paths_total.antisymm q p ∙ ap ordering_reverse e

pub equal_self : (p : Path) → path_cmp p p ≡ Equal
equal_self p = elim (path_cmp p p) as (λ o. path_cmp p p ≡ o → is_eq o ≡ true → o ≡ Equal) [
  | Less ↦ λ e t. absurd (false≢true t)
  | Equal ↦ λ e t. refl
  | Greater ↦ λ e t. absurd (false≢true t)
] refl (tied p)

-- the earlier of two prefixes compares no higher with q
earlier : (x y q : Path) → path_cmp x y ≡ Less → ordering_index (path_cmp x q) ≤ ordering_index (path_cmp y q)
earlier x y q less =
    elim (path_cmp y q) as (λ o. path_cmp y q ≡ o → ordering_index (path_cmp x q) ≤ ordering_index o) [
      | Less ↦ λ e. subst (λ o. ordering_index o ≤ 0) (sym (paths_total.trans x y q less e)) (omega arith)
      | Equal ↦ λ e. subst (λ o. ordering_index o ≤ 1) (sym (subst (λ z. path_cmp x z ≡ Less) (paths_exact y q e) less)) (omega arith)
      | Greater ↦ λ e. at_most_two (path_cmp x q)
    ] refl

to_T : (b : Bool) → b ≡ true → T b
to_T b e = subst T (sym e) tt

from_T : (b : Bool) → T b → b ≡ true
from_T true t = refl
from_T false t = absurd t

module _ {V : Type 0} where
  -- the entry under q is at place i
  pub record IsAt (es : List (Path × V)) (q : Path) (i : ℕ) : Type 0 where
    pub in_range : i < length es
    pub here : (d : Path × V) → (get_or es i d).0 ≡ q

  -- q is in none of the entries, and would go to place i
  pub record IsGap (es : List (Path × V)) (q : Path) (i : ℕ) : Type 0 where
    pub within : i ≤ length es
    pub before : (j : ℕ) (d : Path × V) → j < i → path_cmp (get_or es j d).0 q ≡ Less
    pub after : (j : ℕ) (d : Path × V) → i ≤ j → j < length es → path_cmp (get_or es j d).0 q ≡ Greater

  below_at : (x : Path) (es : List (Path × V)) (i : ℕ) (d : Path × V) → below_all path_cmp x es ≡ true → i < length es → path_cmp x (get_or es i d).0 ≡ Less
  below_at x [] i d all lt = absurd (omega arith)
  below_at x (e ∷ es) zero d all lt = is_less _ (first_true _ _ all)
  below_at x (e ∷ es) (suc i) d all lt = below_at x es i d (second_true _ _ all) (omega arith)

  -- an earlier entry's prefix comes before a later one's
  pub rising : (es : List (Path × V)) (i j : ℕ) (d : Path × V) → IsInOrder es → i < j → j < length es → path_cmp (get_or es i d).0 (get_or es j d).0 ≡ Less
  rising [] i j d order lt in_range = absurd (omega arith)
  rising (e ∷ es) zero zero d order lt in_range = absurd (omega arith)
  rising (e ∷ es) (suc i) zero d order lt in_range = absurd (omega arith)
  rising (e ∷ es) zero (suc j) d order lt in_range = below_at e.0 es j d (first_true _ _ order) (omega arith)
  rising (e ∷ es) (suc i) (suc j) d order lt in_range = rising es i j d (second_true _ _ order) (omega arith) (omega arith)

  -- the comparisons with q rise along the list, as a binary search asks
  comparisons_rise : (es : List (Path × V)) (q : Path) → IsInOrder es → IsNonDecreasingBy (λ e. ordering_index (path_cmp e.0 q)) es
  comparisons_rise [] q order i j d le in_range = absurd (omega arith)
  comparisons_rise (e ∷ es) q order zero zero d le in_range = omega arith
  comparisons_rise (e ∷ es) q order (suc i) zero d le in_range = absurd (omega arith)
  comparisons_rise (e ∷ es) q order zero (suc j) d le in_range = earlier _ _ q (below_at e.0 es j d (first_true _ _ order) (omega arith))
  comparisons_rise (e ∷ es) q order (suc i) (suc j) d le in_range = comparisons_rise es q (second_true _ _ order) i j d (omega arith) (omega arith)

  -- a search in the list l, which is es, ends where q is or at the gap for it
  pub found_at : (es l : List (Path × V)) (q : Path) (i : ℕ) → l ≡ es → i < length l → HoldsAt (λ e. path_cmp e.0 q ≡ Equal) l i → IsAt es q i
  found_at es l q i same in_range equal = subst (λ z. IsAt z q i) same (record { in_range = in_range; here = λ d. paths_exact _ _ (equal d) })

  pub gap_at : (es l : List (Path × V)) (q : Path) (i : ℕ) → l ≡ es → IsInOrder es → i ≤ length l → IsBinarySearchResult (λ e. path_cmp e.0 q) l (Err i) → IsGap es q i
  gap_at es l q i same order within parted =
      let rises = subst (λ z. IsNonDecreasingBy (λ (e : Path × V). ordering_index (path_cmp e.0 q)) z) (sym same) (comparisons_rise es q order) in
      subst (λ z. IsGap z q i) same (record {
        within = within;
        before = λ j d lt. (parted rises).0 j d (omega arith) lt;
        after = λ j d le lt. (parted rises).1 j d le lt;
      })

  pub tail_at : {q : Path} {e : Path × V} {es : List (Path × V)} {i : ℕ} → IsAt (e ∷ es) q (suc i) → IsAt es q i
  tail_at h = record { in_range = omega (arith, h.in_range); here = h.here }

  tail_gap : {q : Path} {e : Path × V} {es : List (Path × V)} {i : ℕ} → IsGap (e ∷ es) q (suc i) → IsGap es q i
  tail_gap h = record {
    within = omega (arith, h.within);
    before = λ j d lt. h.before (suc j) d (omega arith);
    after = λ j d le lt. h.after (suc j) d (omega arith) (omega arith);
  }

  rest_gap : {q : Path} {e : Path × V} {es : List (Path × V)} → IsGap (e ∷ es) q 0 → IsGap es q 0
  rest_gap h = record {
    within = omega arith;
    before = λ j d lt. absurd (omega arith);
    after = λ j d le lt. h.after (suc j) d (omega arith) (omega arith);
  }

  -- the first entry comes before the one at a later place
  pub head_before : (e : Path × V) (es : List (Path × V)) (q : Path) (i : ℕ) → IsInOrder (e ∷ es) → IsAt (e ∷ es) q (suc i) → path_cmp q e.0 ≡ Greater
  head_before e es q i order h = turned e.0 q Less (subst (λ z. path_cmp e.0 z ≡ Less) (h.here e) (rising (e ∷ es) 0 (suc i) e order (omega arith) h.in_range))

  find_at : (es : List (Path × V)) (q : Path) (i : ℕ) (d : Path × V) → IsInOrder es → IsAt es q i → find path_cmp q es ≡ Some (get_or es i d).1
  find_at [] q i d order h = absurd (omega (arith, h.in_range))
  find_at (e ∷ es) q zero d order h = rw (h.here d, equal_self q)
  find_at (e ∷ es) q (suc i) d order h = rw (head_before e es q i order h) (find_at es q i d (second_true _ _ order) (tail_at h))

  put_at : (es : List (Path × V)) (q : Path) (i : ℕ) (v : V) → IsInOrder es → IsAt es q i → put path_cmp q v es ≡ set es i (q, v)
  put_at [] q i v order h = absurd (omega (arith, h.in_range))
  put_at (e ∷ es) q zero v order h = rw (h.here e, equal_self q) refl
  put_at (e ∷ es) q (suc i) v order h = rw (head_before e es q i order h) (ap (λ r. e ∷ r) (put_at es q i v (second_true _ _ order) (tail_at h)))

  find_gap : (es : List (Path × V)) (q : Path) (i : ℕ) → IsGap es q i → find path_cmp q es ≡ None
  find_gap [] q i h = refl
  find_gap (e ∷ es) q zero h = rw (turned e.0 q Greater (h.after 0 e (omega arith) (omega arith))) (find_gap es q 0 (rest_gap h))
  find_gap (e ∷ es) q (suc i) h = rw (turned e.0 q Less (h.before 0 e (omega arith))) (find_gap es q i (tail_gap h))

  put_gap : (es : List (Path × V)) (q : Path) (i : ℕ) (v : V) → IsGap es q i → put path_cmp q v es ≡ insert es i (q, v)
  put_gap [] q zero v h = refl
  put_gap [] q (suc i) v h = absurd (omega (arith, h.within))
  put_gap (e ∷ es) q zero v h = rw (turned e.0 q Greater (h.after 0 e (omega arith) (omega arith)))
  put_gap (e ∷ es) q (suc i) v h = rw (turned e.0 q Less (h.before 0 e (omega arith))) (ap (λ r. e ∷ r) (put_gap es q i v (tail_gap h)))

  -- what the map of entries in order has
  entries_of : (es : List (Path × V)) → IsInOrder es → map.entries (map_of es) ≡ es
  entries_of es order = map.entries-from_sorted path_cmp es (to_T _ order)

  pub get_of : (es : List (Path × V)) (q : Path) → IsInOrder es → map.get (map_of es) q ≡ find path_cmp q es
  get_of es q order = map.get-from_sorted path_cmp es q (to_T _ order)

  -- an edit that puts an entry in its place
  put_in_order : (es new : List (Path × V)) (q : Path) (v : V) → IsInOrder es → new ≡ put path_cmp q v es → IsInOrder new
  put_in_order es new q v order is = rw is (from_T _ (is_sorted-put path_cmp paths_total q v es (to_T _ order)))

  put_is_insert : (es new : List (Path × V)) (m : PathMap V) (q : Path) (v : V) → map_of es ≡ m → IsInOrder es → new ≡ put path_cmp q v es → map_of new ≡ map.insert m q v
  put_is_insert es new m q v seen order is =
      map.same_entries_map _ _ (
      entries_of new (put_in_order es new q v order is) ∙ is ∙ ap (put path_cmp q v) (sym (entries_of es order))
      ∙ sym (map.entries-insert paths_total (map_of es) q v)
      ) ∙ ap (λ n. map.insert n q v) seen

  -- the map m, which is seen in the list
  pub get_found : (es : List (Path × V)) (m : PathMap V) (q : Path) (i : ℕ) (x : Path × V) → map_of es ≡ m → IsInOrder es → IsAt es q i → x ≡ get_or es i x → Some x.1 ≡ map.get m q
  get_found es m q i x seen order at read = ap (λ (y : Path × V). Some y.1) read ∙ sym (get_of es q order ∙ find_at es q i x order at) ∙ ap (λ n. map.get n q) seen

  pub get_absent : (es : List (Path × V)) (m : PathMap V) (q : Path) (i : ℕ) → map_of es ≡ m → IsInOrder es → IsGap es q i → None ≡ map.get m q
  get_absent es m q i seen order gap = sym (get_of es q order ∙ find_gap es q i gap) ∙ ap (λ n. map.get n q) seen

  set_is : (es : List (Path × V)) (q : Path) (i : ℕ) (x : Path × V) (v w : V) → IsInOrder es → IsAt es q i → x ≡ get_or es i x → w ≡ v → set es i (x.0, w) ≡ put path_cmp q v es
  set_is es q i x v w order at read same =
      (λ j. set es i (((ap (λ (y : Path × V). y.0) read ∙ at.here x) j), same j)) ∙ sym (put_at es q i v order at)

  pub set_in_order : (es : List (Path × V)) (q : Path) (i : ℕ) (x : Path × V) (w : V) → IsInOrder es → IsAt es q i → x ≡ get_or es i x → IsInOrder (set es i (x.0, w))
  set_in_order es q i x w order at read = put_in_order es _ q w order (set_is es q i x w w order at read refl)

  pub set_is_insert : (es : List (Path × V)) (m : PathMap V) (q : Path) (i : ℕ) (x : Path × V) (v w : V) → map_of es ≡ m → IsInOrder es →
      IsAt es q i → x ≡ get_or es i x → w ≡ v → map_of (set es i (x.0, w)) ≡ map.insert m q v
  set_is_insert es m q i x v w seen order at read same = put_is_insert es _ m q v seen order (set_is es q i x v w order at read same)

  pub new_in_order : (es new : List (Path × V)) (q : Path) (i : ℕ) (v : V) → IsInOrder es → IsGap es q i → new ≡ insert es i (q, v) → IsInOrder new
  new_in_order es new q i v order gap is = put_in_order es new q v order (is ∙ sym (put_gap es q i v gap))

  pub new_is_insert : (es new : List (Path × V)) (m : PathMap V) (q : Path) (i : ℕ) (v : V) → map_of es ≡ m → IsInOrder es → IsGap es q i → new ≡ insert es i (q, v) → map_of new ≡ map.insert m q v
  new_is_insert es new m q i v seen order gap is = put_is_insert es new m q v seen order (is ∙ sym (put_gap es q i v gap))

  pub len_of : (es : List (Path × V)) (m : PathMap V) → map_of es ≡ m → IsInOrder es → length es ≡ map.len m
  len_of es m seen order = sym (map.len-entries (map_of es) ∙ ap length (entries_of es order)) ∙ ap map.len seen

  pub entries_in_order : (es : List (Path × V)) (m : PathMap V) → map_of es ≡ m → IsInOrder es → es ≡ map.entries m
  entries_in_order es m seen order = sym (entries_of es order) ∙ ap map.entries seen

pub map_of_nothing : (V : Type 0) → map_of {V = V} [] ≡ map.empty
map_of_nothing V = map.empty_of_len (map_of []) (sym (len_of {V = V} [] (map_of []) refl refl))

-- a list that is one list is the other, if these are one
pub copied_entries : {T E X : Type 0} {xs ys : X} (r : Result T E) (items : T → X) → IfOk r (λ t. items t ≡ xs) → xs ≡ ys → IfOk r (λ t. items t ≡ ys)
copied_entries (Ok t) items is same = is ∙ same
copied_entries (Err e) items is same = tt

-- Radios in a list by their identities' numbers, and the map under the bits of these identities.
use Rattle.std.proofs.Common.{◌≡◌, ℕ, suc, ◌+◌, ◌-◌, ◌<◌, ◌≤◌, ◌^◌, ◌==◌, Bool, true, false, cond, List, [], ◌∷◌, ◌++◌, length, Option, Some, None, refl, sym, ap, subst, ◌∙◌, arith}
use lib.Dec.{T}
use Rattle.std.specs.Prelude.{◌&&◌, map as each, slice_get, unwrap_or}
use Rattle.std.specs.declared.cmp.Ordering.TheVariants.{Less}
use Rattle.std.specs.Option.{option_map, IsSome}
use Rattle.std.specs.List.{All, AllByRecursion, find as find_first, last_or}
use Rattle.std.specs.List.Sorted.{IsStrictlySortedBy}
use Rattle.std.specs.Map.{keys_of, lookup, remove_entry}
use Rattle.std.specs.Ordering.{nat_cmp, is_eq, is_lt, eq_by_cmp}
use Rattle.std.specs.BTreeMap.{BTreeMap, WritesThrough, is_at, insert_entry}
use Rattle.std.specs.BTreeMap.Range.{entries_between, range_contains}
use Rattle.std.specs.declared.ops.Bound.TheVariants.{Included, Unbounded}
use Rattle.std.specs.FinMap as map
use Rattle.std.specs.FinMap.{is_sorted, same_map}
use Rattle.std.specs.FinMap.Entries.{below_all, same_entries}
use Rattle.std.proofs.lemmas.List.Elements.{All-cons, All-head, All-tail}
use Rattle.std.proofs.lemmas.Map.Views.{All-keys-insert_entry, All-map-remove_entry}
use Rattle.std.proofs.lemmas.List.{append-nil}
use Rattle.std.proofs.lemmas.Bool.Decides.{nat_tests}
use Rattle.identity.specs.Number.{number}
use Rattle.identity.specs.Inside.NumberLaws.{number-lt}
use Rattle.identity.specs.Path.{Path, path_cmp, id_path}
use Rattle.identity.specs.Inside.PathLaws.{length-id_path, number-id_path, id_path-number, paths_total, paths_exact, tie_exact}
use Rattle.prefix_tree.specs.Following.{is_after}
use Rattle.prefix_tree.specs.Next.{next_entry}
use Rattle.prefix_tree.specs.Table.{PathMap}
use Rattle.prefix_tree.proofs.Order.{by_number}
use Rattle.registration.specs.declared.radio.Radio.{Radio}
use Rattle.registration.specs.Listed.{under_bits, under_its_bits}
use Rattle.registration.specs.Inside.Radios.{radios_of, AreInOrder, past}

-- an identity's number
abbrev IsSmall : ℕ → Type 0
IsSmall number = number < 2 ^ 48

-- identities are in the order of their numbers
ordered : (a b : ℕ) → IsSmall a → IsSmall b → path_cmp (id_path a) (id_path b) ≡ nat_cmp a b
ordered a b a_small b_small =
    by_number (id_path a) (id_path b) (length-id_path a ∙ sym (length-id_path b))
    ∙ (λ i. nat_cmp (number-id_path a a_small i) (number-id_path b b_small i))

-- ---- what is found

pub found : (es : List (ℕ × Radio)) (k : ℕ) → IsSmall k → All IsSmall (keys_of es) → map.get (radios_of es) (id_path k) ≡ lookup (is_at (nat_cmp k)) es
found es k small all = map.get-from_entries paths_total (under_bits es) (id_path k) ∙ step es all
  where
    step : (es : List (ℕ × Radio)) → All IsSmall (keys_of es) → map.find path_cmp (id_path k) (under_bits es) ≡ lookup (is_at (nat_cmp k)) es
    step [] all = refl
    step (e ∷ es) all = λ i. cond (is_eq (ordered k e.0 small (All-head IsSmall e.0 (keys_of es) all) i)) (Some e.1) (step es (All-tail IsSmall e.0 (keys_of es) all) i)

apart : (q : Path) (n : ℕ) → (length q ≡ 48 → ⊥) → eq_by_cmp path_cmp q (id_path n) ≡ false
apart q n other = by (eq_by_cmp path_cmp q (id_path n)) refl
  where
    by : (b : Bool) → eq_by_cmp path_cmp q (id_path n) ≡ b → b ≡ false
    by true e = absurd (other (ap length (tie_exact q (id_path n) e) ∙ length-id_path n))
    by false e = refl

-- nothing under other bits
absent : (es : List (ℕ × Radio)) (q : Path) → (length q ≡ 48 → ⊥) → map.get (radios_of es) q ≡ None
absent es q other = map.get-from_entries paths_total (under_bits es) q ∙ step es
  where
    step : (es : List (ℕ × Radio)) → map.find path_cmp q (under_bits es) ≡ None
    step [] = refl
    step (e ∷ es) = ap (λ (b : Bool). cond b (Some e.1) (map.find path_cmp q (under_bits es))) (apart q e.0 other) ∙ step es

-- ---- one change

turned : (j k : ℕ) → is_eq (nat_cmp k j) ≡ is_eq (nat_cmp j k)
turned j k = grind (arith, nat_tests)

whole_or_not : (n : ℕ) → (b : Bool) → (n == 48) ≡ b → cond b (n ≡ 48) (n ≡ 48 → ⊥)
whole_or_not n true e = grind (arith, nat_tests, e)
whole_or_not n false e = λ same. grind (arith, nat_tests, e, same)

-- what is new at one number is new at its bits, and no other bits are touched
changed : (m n : List (ℕ × Radio)) (k : ℕ) (w : Option Radio) → IsSmall k → All IsSmall (keys_of m) → All IsSmall (keys_of n)
    → ((j : ℕ) → lookup (is_at (nat_cmp j)) n ≡ cond (is_at (nat_cmp k) j) w (lookup (is_at (nat_cmp j)) m))
    → (q : Path) → map.get (radios_of n) q ≡ cond (eq_by_cmp path_cmp q (id_path k)) w (map.get (radios_of m) q)
changed m n k w small m_small n_small new q = by (length q == 48) (whole_or_not (length q) (length q == 48) refl)
  where
    same : (j : ℕ) → IsSmall j → map.get (radios_of n) (id_path j) ≡ cond (eq_by_cmp path_cmp (id_path j) (id_path k)) w (map.get (radios_of m) (id_path j))
    same j j_small =
        found n j j_small n_small ∙ new j
        ∙ (λ i. cond ((turned j k ∙ ap is_eq (sym (ordered j k j_small small))) i) w (sym (found m j j_small m_small) i))

    by : (b : Bool) → cond b (length q ≡ 48) (length q ≡ 48 → ⊥) → map.get (radios_of n) q ≡ cond (eq_by_cmp path_cmp q (id_path k)) w (map.get (radios_of m) q)
    by true whole =
        subst (λ p. map.get (radios_of n) p ≡ cond (eq_by_cmp path_cmp p (id_path k)) w (map.get (radios_of m) p)) (id_path-number q whole)
        (same (number q) (subst (λ l. number q < 2 ^ l) whole (number-lt q)))
    by false other = absent n q other ∙ sym (ap (λ (b : Bool). cond b w (map.get (radios_of m) q)) (apart q k other) ∙ absent m q other)

pub inserted : (m n : List (ℕ × Radio)) (k : ℕ) (v : Radio) → IsSmall k → All IsSmall (keys_of m) → All IsSmall (keys_of n)
    → ((j : ℕ) → lookup (is_at (nat_cmp j)) n ≡ cond (is_at (nat_cmp k) j) (Some v) (lookup (is_at (nat_cmp j)) m))
    → radios_of n ≡ map.insert (radios_of m) (id_path k) v
inserted m n k v small m_small n_small new =
    same_map paths_total paths_exact (radios_of n) (map.insert (radios_of m) (id_path k) v)
    (λ q. changed m n k (Some v) small m_small n_small new q ∙ sym (map.get-insert paths_total (radios_of m) (id_path k) v q))

pub removed : (m n : List (ℕ × Radio)) (k : ℕ) → IsSmall k → All IsSmall (keys_of m) → All IsSmall (keys_of n)
    → ((j : ℕ) → lookup (is_at (nat_cmp j)) n ≡ cond (is_at (nat_cmp k) j) None (lookup (is_at (nat_cmp j)) m))
    → radios_of n ≡ map.remove (radios_of m) (id_path k)
removed m n k small m_small n_small new =
    same_map paths_total paths_exact (radios_of n) (map.remove (radios_of m) (id_path k))
    (λ q. changed m n k None small m_small n_small new q ∙ sym (map.get-remove paths_total (radios_of m) (id_path k) q))

-- ---- in order

both : (a b : Bool) → T a → T b → T (a && b)
both true b x y = y
both false b x y = absurd x

below : (k : ℕ) (es : List (ℕ × Radio)) → IsSmall k → All IsSmall (keys_of es) → AllByRecursion (λ j. nat_cmp k j ≡ Less) (keys_of es) → T (below_all path_cmp (id_path k) (under_bits es))
below k [] small all rise = tt
below k (e ∷ es) small all rise =
    both _ _ (subst (λ o. T (is_lt o)) (sym (ordered k e.0 small (All-head IsSmall e.0 (keys_of es) all) ∙ rise.0)) tt)
    (below k es small (All-tail IsSmall e.0 (keys_of es) all) rise.1)

in_order : (es : List (ℕ × Radio)) → IsStrictlySortedBy nat_cmp (keys_of es) → All IsSmall (keys_of es) → T (is_sorted path_cmp (under_bits es))
unfolding IsStrictlySortedBy
in_order [] rise all = tt
in_order (e ∷ es) rise all =
    let rest = All-tail IsSmall e.0 (keys_of es) all in
    both _ _ (below e.0 es (All-head IsSmall e.0 (keys_of es) all) rest rise.0) (in_order es rise.1 rest)

pub entries_of : (es : List (ℕ × Radio)) → AreInOrder es → map.entries (radios_of es) ≡ under_bits es
entries_of es order =
    same_entries path_cmp paths_total paths_exact (map.entries (radios_of es)) (under_bits es) (map.entries_sorted (radios_of es)) (in_order es order.0 order.1)
    (λ q. sym (map.get-entries (radios_of es) q) ∙ map.get-from_entries paths_total (under_bits es) q)

-- ---- one after another

abbrev first : List (ℕ × Radio) → Option (ℕ × Radio)
first [] = None
first (e ∷ es) = Some e

-- those from a number on
abbrev from : ℕ → List (ℕ × Radio) → List (ℕ × Radio)
from n es = entries_between nat_cmp (Included n) Unbounded es

beyond : (k n : ℕ) → range_contains nat_cmp (Included (k + 1)) Unbounded n ≡ is_lt (nat_cmp k n)
beyond k n = grind (arith, nat_tests)

all_from : (n : ℕ) → range_contains nat_cmp (Included 0) Unbounded n ≡ true
all_from n = grind (arith, nat_tests)

next_is : (es : List (ℕ × Radio)) (after : Option ℕ) → past after ≤ 2 ^ 48 → AreInOrder es →
    option_map under_its_bits (first (from (past after) es)) ≡ next_entry (radios_of es) (option_map id_path after)
next_is es after small order = step es order.1 ∙ ap (find_first (is_after path_cmp (λ e. e.0) (option_map id_path after))) (sym (entries_of es order))
  where
    same : (after : Option ℕ) (e : ℕ × Radio) → past after ≤ 2 ^ 48 → IsSmall e.0 →
        range_contains nat_cmp (Included (past after)) Unbounded e.0 ≡ is_after path_cmp (λ (e : Path × Radio). e.0) (option_map id_path after)
        (under_its_bits e)
    same None e small e_small = all_from e.0
    same (Some k) e small e_small = let k_small : IsSmall k = omega (arith, small) in beyond k e.0 ∙ ap is_lt (sym (ordered k e.0 k_small e_small))

    by : (b : Bool) (e : ℕ × Radio) (rest : List (ℕ × Radio)) (o : Option (Path × Radio)) → option_map under_its_bits (first rest) ≡ o →
        option_map under_its_bits (first (cond b (e ∷ rest) rest)) ≡ cond b (Some (under_its_bits e)) o
    by true e rest o is = refl
    by false e rest o is = is

    step : (es : List (ℕ × Radio)) → All IsSmall (keys_of es) →
        option_map under_its_bits (first (from (past after) es)) ≡ find_first (is_after path_cmp (λ e. e.0) (option_map id_path after))
        (under_bits es)
    step [] all = refl
    step (e ∷ es) all =
        by (range_contains nat_cmp (Included (past after)) Unbounded e.0) e (from (past after) es) _ (step es (All-tail IsSmall e.0 (keys_of es) all))
        ∙ ap (λ (b : Bool). cond b (Some (under_its_bits e)) (find_first (is_after path_cmp (λ e. e.0) (option_map id_path after)) (under_bits es)))
        (same after e small (All-head IsSmall e.0 (keys_of es) all))

-- the first of those from there on is the next, and where there are none there is no next
pub next_there : (es rest : List (ℕ × Radio)) (m : PathMap Radio) (n k itsi : ℕ) (r : Radio) (after : Option ℕ) → radios_of es ≡ m → AreInOrder es →
    n ≡ past after → n ≤ 2 ^ 48 → from n es ≡ (k, r) ∷ rest → itsi ≡ k → Some (under_its_bits (itsi, r)) ≡ next_entry m (option_map id_path after)
next_there es rest m n k itsi r after seen order at small is same =
    ap (λ l. Some (under_its_bits (l, r))) same
    ∙ sym (ap (λ l. option_map under_its_bits (first l)) (ap (λ l. from l es) (sym at) ∙ is))
    ∙ next_is es after (subst (λ l. l ≤ 2 ^ 48) at small) order
    ∙ ap (λ l. next_entry l (option_map id_path after)) seen

pub no_next : (es : List (ℕ × Radio)) (m : PathMap Radio) (n : ℕ) (after : Option ℕ) → radios_of es ≡ m → AreInOrder es → n ≡ past after →
    n ≤ 2 ^ 48 → from n es ≡ [] → None ≡ next_entry m (option_map id_path after)
no_next es m n after seen order at small is =
    sym (ap (λ l. option_map under_its_bits (first l)) (ap (λ l. from l es) (sym at) ∙ is))
    ∙ next_is es after (subst (λ l. l ≤ 2 ^ 48) at small) order
    ∙ ap (λ l. next_entry l (option_map id_path after)) seen

-- an item of those from there on is an identity's number
pub small_there : (es rest : List (ℕ × Radio)) (n k : ℕ) (r : Radio) → AreInOrder es → from n es ≡ (k, r) ∷ rest → k < 2 ^ 48
small_there es rest n k r order is = All-head IsSmall k (keys_of rest) (subst (λ l. All IsSmall (keys_of l)) is (step es order.1))
  where
    by : (b : Bool) (e : ℕ × Radio) (fs : List (ℕ × Radio)) → IsSmall e.0 → All IsSmall (keys_of fs) → All IsSmall (keys_of (cond b (e ∷ fs) fs))
    by true e fs small all = All-cons IsSmall e.0 (keys_of fs) small all
    by false e fs small all = all

    step : (es : List (ℕ × Radio)) → All IsSmall (keys_of es) → All IsSmall (keys_of (from n es))
    step [] all = all
    step (e ∷ es) all = by (range_contains nat_cmp (Included n) Unbounded e.0) e (from n es) (All-head IsSmall e.0 (keys_of es) all) (step es (All-tail IsSmall e.0 (keys_of es) all))

-- ---- the last

-- the last of two entries or more is the last of those after the first
one_fewer : (e f : ℕ × Radio) (es : List (ℕ × Radio)) → slice_get (f ∷ es) (length (f ∷ es) - 1) ≡ slice_get (e ∷ f ∷ es) (length (e ∷ f ∷ es) - 1)
one_fewer e f es = let less : suc (length (f ∷ es) - 1) ≡ length (e ∷ f ∷ es) - 1 = omega arith in ap (slice_get (e ∷ f ∷ es)) less

last_in : (es : List (ℕ × Radio)) (k : ℕ) (r : Radio) → slice_get es (length es - 1) ≡ Some (k, r) → last_or None (each (λ (e : Path × Radio). e.0) (under_bits es)) ≡ Some (id_path k)
last_in [] k r is = absurd cc
last_in (e ∷ []) k r is = ap (λ o. Some (id_path (unwrap_or o e).0)) is
last_in (e ∷ f ∷ es) k r is = last_in (f ∷ es) k r (one_fewer e f es ∙ is)

-- the last entry has the last of the keys
pub last_there : (es : List (ℕ × Radio)) (m : PathMap Radio) (k itsi : ℕ) (r : Radio) → radios_of es ≡ m → AreInOrder es →
    slice_get es (length es - 1) ≡ Some (k, r) → itsi ≡ k → Some (id_path itsi) ≡ last_or None (map.keys m)
last_there es m k itsi r seen order is same =
    ap (λ l. Some (id_path l)) same ∙ sym (last_in es k r is)
    ∙ ap (λ l. last_or None (each (λ (e : Path × Radio). e.0) l)) (sym (entries_of es order)) ∙ ap (λ l. last_or None (map.keys l)) seen

-- the last entry's number is an identity's
pub small_last : (es : List (ℕ × Radio)) (k : ℕ) (r : Radio) → AreInOrder es → slice_get es (length es - 1) ≡ Some (k, r) → k < 2 ^ 48
small_last es k r order is = step es order.1 is
  where
    step : (es : List (ℕ × Radio)) → All IsSmall (keys_of es) → slice_get es (length es - 1) ≡ Some (k, r) → IsSmall k
    step [] all is = absurd cc
    step (e ∷ []) all is = subst (λ o. IsSmall (unwrap_or o e).0) is (All-head IsSmall e.0 [] all)
    step (e ∷ f ∷ es) all is = step (f ∷ es) (All-tail IsSmall e.0 (keys_of (f ∷ es)) all) (one_fewer e f es ∙ is)

-- where there is no entry there is no key
pub no_last : (es : List (ℕ × Radio)) (m : PathMap Radio) → radios_of es ≡ m → AreInOrder es → (0 < length es → ⊥) → None ≡ last_or None (map.keys m)
no_last es m seen order none =
    sym (step es none) ∙ ap (λ l. last_or None (each (λ (e : Path × Radio). e.0) l)) (sym (entries_of es order)) ∙ ap (λ l. last_or None (map.keys l)) seen
  where
    step : (es : List (ℕ × Radio)) → (0 < length es → ⊥) → last_or None (each (λ (e : Path × Radio). e.0) (under_bits es)) ≡ None
    step [] none = refl
    step (e ∷ es) none = absurd (none (omega arith))

-- ---- what the calls of the map say

pub found_in : (es : List (ℕ × Radio)) (m : PathMap Radio) (k itsi : ℕ) → radios_of es ≡ m → AreInOrder es → k ≡ itsi → k < 2 ^ 48 → lookup (is_at (nat_cmp k)) es ≡ map.get m (id_path itsi)
found_in es m k itsi seen order same small = sym (found es k small order.1) ∙ (λ i. map.get (seen i) (id_path (same i)))

pub small_with : (m n : List (ℕ × Radio)) (k : ℕ) (v : Radio) → AreInOrder m → k < 2 ^ 48 → n ≡ insert_entry nat_cmp m k v → All (λ number. number < 2 ^ 48) (keys_of n)
small_with m n k v order small is = subst (λ l. All IsSmall (keys_of l)) (sym is) (All-keys-insert_entry nat_cmp k v IsSmall m order.1 small)

pub small_without : (m n : List (ℕ × Radio)) (k : ℕ) → AreInOrder m → n ≡ remove_entry (is_at (nat_cmp k)) m → All (λ number. number < 2 ^ 48) (keys_of n)
small_without m n k order is = subst (λ l. All IsSmall (keys_of l)) (sym is) (All-map-remove_entry (is_at (nat_cmp k)) (λ e. e.0) IsSmall m order.1)

pub inserted_in : (m n : List (ℕ × Radio)) (a : PathMap Radio) (k itsi : ℕ) (v : Radio) → radios_of m ≡ a → AreInOrder m → k ≡ itsi → k < 2 ^ 48 → All (λ number. number < 2 ^ 48) (keys_of n)
    → ((j : ℕ) → lookup (is_at (nat_cmp j)) n ≡ cond (is_at (nat_cmp k) j) (Some v) (lookup (is_at (nat_cmp j)) m))
    → radios_of n ≡ map.insert a (id_path itsi) v
inserted_in m n a k itsi v seen order same small n_small new = inserted m n k v small order.1 n_small new ∙ (λ i. map.insert (seen i) (id_path (same i)) v)

pub replaced_in : (m n : BTreeMap ℕ Radio) (a : PathMap Radio) (k itsi : ℕ) (there v : Radio) → radios_of m.entries ≡ a → AreInOrder m.entries →
    k ≡ itsi → k < 2 ^ 48 → Some there ≡ lookup (is_at (nat_cmp k)) m.entries
    → WritesThrough nat_cmp (nat_cmp k) m v n → radios_of n.entries ≡ map.insert a (id_path itsi) v
replaced_in m n a k itsi there v seen order same small was written =
    inserted_in m.entries n.entries a k itsi v seen order same small (subst (All IsSmall) (sym written.1) order.1) (written.3 (subst IsSome was refl)).0

pub removed_in : (m n : List (ℕ × Radio)) (a : PathMap Radio) (k itsi : ℕ) → radios_of m ≡ a → AreInOrder m → k ≡ itsi → k < 2 ^ 48 → All (λ number. number < 2 ^ 48) (keys_of n)
    → ((j : ℕ) → lookup (is_at (nat_cmp j)) n ≡ cond (is_at (nat_cmp k) j) None (lookup (is_at (nat_cmp j)) m))
    → radios_of n ≡ map.remove a (id_path itsi)
removed_in m n a k itsi seen order same small n_small new = removed m n k small order.1 n_small new ∙ (λ i. map.remove (seen i) (id_path (same i)))

-- ---- listed one by one

moved : (xs rest : List (ℕ × Radio)) (e : ℕ × Radio) → under_bits (xs ++ e ∷ []) ++ under_bits rest ≡ under_bits xs ++ under_bits (e ∷ rest)
moved [] rest e = refl
moved (x ∷ xs) rest e = ap (λ (l : List (Path × Radio)). under_its_bits x ∷ l) (moved xs rest e)

pub begun : (es before xs : List (ℕ × Radio)) (m : PathMap Radio) → radios_of es ≡ m → AreInOrder es → before ≡ es → xs ≡ [] →
    (under_bits xs ++ under_bits before ≡ map.entries m) × All (λ number. number < 2 ^ 48) (keys_of before)
begun es before xs m seen order is none =
    ((λ i. under_bits (none i) ++ under_bits (is i)) ∙ sym (entries_of es order) ∙ ap map.entries seen, subst (λ l. All IsSmall (keys_of l)) (sym is) order.1)

pub one_more : (xs ys before rest : List (ℕ × Radio)) (k itsi : ℕ) (r : Radio) (es : List (Path × Radio)) → ys ≡ xs ++ (itsi, r) ∷ [] → itsi ≡ k →
    before ≡ (k, r) ∷ rest → under_bits xs ++ under_bits before ≡ es → under_bits ys ++ under_bits rest ≡ es
one_more xs ys before rest k itsi r es is same next was =
    ap (λ (l : List (ℕ × Radio)). under_bits l ++ under_bits rest) (is ∙ ap (λ l. xs ++ (l, r) ∷ []) same)
    ∙ moved xs rest (k, r) ∙ sym (ap (λ (l : List (ℕ × Radio)). under_bits xs ++ under_bits l) next) ∙ was

pub rest_small : (before rest : List (ℕ × Radio)) (k : ℕ) (r : Radio) → before ≡ (k, r) ∷ rest → All (λ number. number < 2 ^ 48) (keys_of before) →
    (k < 2 ^ 48) × All (λ number. number < 2 ^ 48) (keys_of rest)
rest_small before rest k r is all =
    let here : All IsSmall (k ∷ keys_of rest) = subst (λ l. All IsSmall (keys_of l)) is all in
    (All-head IsSmall k (keys_of rest) here, All-tail IsSmall k (keys_of rest) here)

pub all_listed : (xs before : List (ℕ × Radio)) (es : List (Path × Radio)) → before ≡ [] → under_bits xs ++ under_bits before ≡ es → under_bits xs ≡ es
all_listed xs before es none was = sym (append-nil (under_bits xs)) ∙ ap (λ (l : List (ℕ × Radio)). under_bits xs ++ under_bits l) (sym none) ∙ was

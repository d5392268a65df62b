-- That a key comes after all others, as the table states it: nothing is after it, and it is not there itself, or it
-- comes after the last.
use Rattle.std.proofs.Common.{◌≡◌, ℕ, ◌-◌, ◌<◌, ◌^◌, ◌++◌, Bool, true, false, cond, List, [], ◌∷◌, length, take, replicate, Option, Some, None, refl, sym, ap, subst, ◌∙◌, arith}
use lib.Dec.{T}
use mathlib.Core.Bool.{false≢true}
use Rattle.std.specs.Prelude.{◌&&◌, not, nat_lt, map as each, unwrap_or}
use Rattle.std.specs.List.{list_all, last_or}
use Rattle.std.specs.Option.{is_some, is_none}
use Rattle.std.specs.Ordering.{is_lt, eq_by_cmp, nat_cmp, ordering_reverse}
use Rattle.std.specs.declared.cmp.Ordering.{Ordering}
use Rattle.std.specs.declared.cmp.Ordering.TheVariants.{Less, Equal, Greater}
use Rattle.std.specs.Cmp.{IsTotalOrder}
use Rattle.std.specs.FinMap as map
use Rattle.std.specs.FinMap.Entries as entries
use Rattle.identity.specs.Path.{Path, path_cmp, begins, id_path}
use Rattle.std.proofs.lemmas.Bool.{ltb-true, ltb-false}
use Rattle.std.proofs.lemmas.Bool.Decides.{nat_tests}
use Rattle.base.proofs.Bools.{and_false, with_true}
use Rattle.identity.specs.Inside.PathLaws.{paths_total, tied, tie_exact, begins_then, length-id_path, number-id_path}
use Rattle.prefix_tree.specs.Table.{PathMap, longest, NamesLongest}
use Rattle.prefix_tree.specs.Next.{next_entry}
use Rattle.prefix_tree.specs.Following.{next_of}
use Rattle.prefix_tree.proofs.Longest.{names_longest}
use Rattle.prefix_tree.proofs.Order.{by_number}
use Rattle.image_rows.specs.Loading.{is_next}

module _ {K X : Type 0} {R : K → K → Ordering} (o : IsTotalOrder R) where
  abbrev first_past : K → List (K × X) → Option (K × X)
  first_past k es = next_of R (λ e. e.0) es (Some k)

  below_all : (k : K) (es : List (K × X)) → list_all (λ e. is_lt (R e.0 k)) es ≡ (is_none (first_past k es) && is_none (entries.find R k es))
  below_all k [] = refl
  below_all k (e ∷ es) =
      let other : R e.0 k ≡ ordering_reverse (R k e.0) = o.antisymm e.0 k in
      elim (R k e.0) as (λ r. R k e.0 ≡ r → list_all (λ e. is_lt (R e.0 k)) (e ∷ es) ≡ (is_none (first_past k (e ∷ es)) && is_none (entries.find R k (e ∷ es)))) [
        | Less ↦ λ is. rw (other, is) refl
        | Equal ↦ λ is. rw (other, is) (sym (and_false (is_none (first_past k es))))
        | Greater ↦ λ is. rw (other, is) (below_all k es)
      ] refl

  pub none_past : (m : map.FinMap R X) (k : K) → is_next m k ≡ (is_none (next_of R (λ e. e.0) (map.entries m) (Some k)) && is_none (map.get m k))
  unfolding is_next
  none_past m k = below_all k (map.entries m) ∙ ap (λ (r : Option X). is_none (first_past k (map.entries m)) && is_none r) (sym (map.get-entries m k))

  -- what is in the list is not after a key after which there is nothing
  none_beyond : (k x : K) (v : X) (es : List (K × X)) → ((a b : K) → eq_by_cmp R a b ≡ true → a ≡ b) → first_past k es ≡ None → entries.find R x es ≡ Some v → is_lt (R k x) ≡ false
  none_beyond k x v [] exact none there = absurd cc
  none_beyond k x v (e ∷ es) exact none there =
      elim (is_lt (R k e.0)) as (λ b. is_lt (R k e.0) ≡ b → is_lt (R k x) ≡ false) [
        | true ↦ λ past. let found : Some e ≡ None = sym (ap (λ (b : Bool). cond b (Some e) (first_past k es)) past) ∙ none in absurd cc
        | false ↦ λ before.
            let later : first_past k es ≡ None = sym (ap (λ (b : Bool). cond b (Some e) (first_past k es)) before) ∙ none in
            elim (eq_by_cmp R x e.0) as (λ b. eq_by_cmp R x e.0 ≡ b → is_lt (R k x) ≡ false) [
              | true ↦ λ tie. ap (λ (y : K). is_lt (R k y)) (exact x e.0 tie) ∙ before
              | false ↦ λ other. none_beyond k x v es exact later (sym (ap (λ (b : Bool). cond b (Some e.1) (entries.find R x es)) other) ∙ there)
            ] refl
      ] refl

-- of two beginnings of one path the shorter comes first
shorter_before : (p r q : Path) → begins p q ≡ true → begins r q ≡ true → length p < length r → path_cmp p r ≡ Less
shorter_before [] [] q a b lt = absurd (omega (arith, lt))
shorter_before [] (y ∷ r) q a b lt = refl
shorter_before (x ∷ p) [] q a b lt = absurd (omega (arith, lt))
shorter_before (x ∷ p) (y ∷ r) [] a b lt = absurd (false≢true a)
shorter_before (true ∷ p) (true ∷ r) (true ∷ q) a b lt = shorter_before p r q a b (omega (arith, lt))
shorter_before (false ∷ p) (false ∷ r) (false ∷ q) a b lt = shorter_before p r q a b (omega (arith, lt))
shorter_before (true ∷ p) (true ∷ r) (false ∷ q) a b lt = absurd (false≢true a)
shorter_before (true ∷ p) (false ∷ r) (true ∷ q) a b lt = absurd (false≢true b)
shorter_before (true ∷ p) (false ∷ r) (false ∷ q) a b lt = absurd (false≢true a)
shorter_before (false ∷ p) (true ∷ r) (true ∷ q) a b lt = absurd (false≢true a)
shorter_before (false ∷ p) (true ∷ r) (false ∷ q) a b lt = absurd (false≢true b)
shorter_before (false ∷ p) (false ∷ r) (true ∷ q) a b lt = absurd (false≢true a)

begins_prefix : (p zs : Path) → begins p (p ++ zs) ≡ true
begins_prefix [] zs = refl
begins_prefix (true ∷ p) zs = begins_prefix p zs
begins_prefix (false ∷ p) zs = begins_prefix p zs

-- two beginnings of one path of one length are one
one_length : (p r q : Path) → begins p q ≡ true → begins r q ≡ true → length p ≡ length r → p ≡ r
one_length p r q a b same = begins_then p q a ∙ ap (λ n. take n q) same ∙ sym (begins_then r q b)

module _ {V : Type 0} where
  -- under a prefix that no other comes after, the longest that begins its bits is itself, if it is there
  there_longest : (m : PathMap V) (p q : Path) (e : Path × V) → next_entry m (Some p) ≡ None → begins p q ≡ true → NamesLongest m q (Some e) → eq_by_cmp path_cmp e.0 p ≡ is_some (map.get m p)
  there_longest m p q e none begun is =
      elim (eq_by_cmp path_cmp e.0 p) as (λ b. eq_by_cmp path_cmp e.0 p ≡ b → b ≡ is_some (map.get m p)) [
        | true ↦ λ tie. sym (ap is_some (ap (map.get m) (sym (tie_exact e.0 p tie)) ∙ is.in_map))
        | false ↦ λ apart. sym (ap is_some (elim (nat_lt (length e.0) (length p)) as (λ b. nat_lt (length e.0) (length p) ≡ b → map.get m p ≡ None) [
          | true ↦ λ lt. is.no_longer p begun (ltb-true _ _ lt)
          | false ↦ λ le.
              elim (nat_lt (length p) (length e.0)) as (λ b. nat_lt (length p) (length e.0) ≡ b → map.get m p ≡ None) [
                | true ↦ λ lt.
                    let before : is_lt (path_cmp p e.0) ≡ true = ap is_lt (shorter_before p e.0 q begun is.begins_path (ltb-true _ _ lt)) in
                    let beyond : is_lt (path_cmp p e.0) ≡ false = none_beyond paths_total p e.0 e.1 (map.entries m) tie_exact none (sym (map.get-entries m e.0) ∙ is.in_map) in
                    absurd (false≢true (sym beyond ∙ before))
                | false ↦ λ ge.
                    let same : e.0 ≡ p = one_length e.0 p q is.begins_path begun (let a = ltb-false _ _ le in let b = ltb-false _ _ ge in omega (arith, a, b)) in
                    absurd (false≢true (sym apart ∙ ap (λ r. eq_by_cmp path_cmp r p) same ∙ tied p))
              ] refl
        ] refl))
      ] refl

  pub rule_there : (m : PathMap V) (p : Path) (a : ℕ) (e : Path × V) → next_entry m (Some p) ≡ None →
      id_path a ≡ p ++ replicate (48 - length p) false → Some e ≡ longest m (id_path a) → eq_by_cmp path_cmp e.0 p ≡ is_some (map.get m p)
  rule_there m p a e none bits is =
      there_longest m p (id_path a) e none (subst (λ q. begins p q ≡ true) (sym bits) (begins_prefix p (replicate (48 - length p) false)))
      (subst (λ r. NamesLongest m (id_path a) r) (sym is) (names_longest m (id_path a)))

  pub rule_not_there : (m : PathMap V) (p : Path) (a : ℕ) → id_path a ≡ p ++ replicate (48 - length p) false → None ≡ longest m (id_path a) → false ≡ is_some (map.get m p)
  rule_not_there m p a bits is =
      let named : NamesLongest m (id_path a) None = subst (λ r. NamesLongest m (id_path a) r) (sym is) (names_longest m (id_path a)) in
      sym (ap is_some (named p (subst (λ q. begins p q ≡ true) (sym bits) (begins_prefix p (replicate (48 - length p) false)))))

module _ {K X : Type 0} {R : K → K → Ordering} (o : IsTotalOrder R) where
  abbrev past : map.FinMap R X → K → Option (K × X)
  past m k = next_of R (λ e. e.0) (map.entries m) (Some k)

  pub then_next : (m : map.FinMap R X) (k : K) (there : Bool) → is_none (past m k) ≡ true → there ≡ is_some (map.get m k) → not there ≡ is_next m k
  then_next m k there nothing is = ap not is ∙ by (map.get m k) ∙ sym (none_past o m k ∙ ap (λ (b : Bool). b && is_none (map.get m k)) nothing)
    where
      by : (r : Option X) → not (is_some r) ≡ is_none r
      by None = refl
      by (Some x) = refl

  pub not_next : (m : map.FinMap R X) (k : K) → is_none (past m k) ≡ false → false ≡ is_next m k
  not_next m k some = sym (none_past o m k ∙ ap (λ (b : Bool). b && is_none (map.get m k)) some)

pub none_if : {X : Type 0} (o : Option X) (r : Bool) → is_some o ≡ not r → is_none o ≡ r
none_if o r e = ap not e ∙ twice r
  where
    twice : (b : Bool) → not (not b) ≡ b
    twice true = refl
    twice false = refl

-- ---- by the last of the keys

and_first : (a b : Bool) → T (a && b) → T a
and_first true b p = tt
and_first false b p = p

and_second : (a b : Bool) → T (a && b) → T b
and_second true b p = p
and_second false b p = absurd p

less_if : (r : Ordering) → T (is_lt r) → r ≡ Less
less_if Less p = refl
less_if Equal p = absurd p
less_if Greater p = absurd p

some_last : {K : Type 0} (k : K) (ks : List K) → last_or (Some k) ks ≡ None → ⊥
some_last k [] none = absurd cc
some_last k (l ∷ ks) none = some_last l ks none

module _ {K X : Type 0} {R : K → K → Ordering} (o : IsTotalOrder R) where
  abbrev last_key : List (K × X) → Option K
  last_key es = last_or None (each (λ e. e.0) es)

  -- what comes before all of these comes before the last of them
  before_last : (k : K) (es : List (K × X)) (l : K) → T (entries.below_all R k es) → last_key es ≡ Some l → R k l ≡ Less
  before_last k [] l below is = absurd cc
  before_last k (e ∷ []) l below is = subst (λ p. R k (unwrap_or p l) ≡ Less) is (less_if _ (and_first _ _ below))
  before_last k (e ∷ f ∷ es) l below is = before_last k (f ∷ es) l (and_second _ _ below) is

  -- what comes after the last of entries in order comes after all of them
  after_last : (es : List (K × X)) (k l : K) → T (map.is_sorted R es) → last_key es ≡ Some l → is_lt (R l k) ≡ list_all (λ e. is_lt (R e.0 k)) es
  after_last [] k l order is = absurd cc
  after_last (e ∷ []) k l order is = ap (λ p. is_lt (R (unwrap_or p l) k)) (sym is) ∙ with_true (is_lt (R e.0 k))
  after_last (e ∷ f ∷ es) k l order is =
      let rest : is_lt (R l k) ≡ list_all (λ e. is_lt (R e.0 k)) (f ∷ es) = after_last (f ∷ es) k l (and_second _ _ order) is in
      elim (is_lt (R l k)) as (λ b. is_lt (R l k) ≡ b → is_lt (R l k) ≡ (is_lt (R e.0 k) && list_all (λ e. is_lt (R e.0 k)) (f ∷ es))) [
        | true ↦ λ after.
            let before : R e.0 l ≡ Less = before_last e.0 (f ∷ es) l (and_first _ _ order) is in
            let here : R e.0 k ≡ Less = o.trans e.0 l k before (less_if _ (subst T (sym after) tt)) in
            rest ∙ ap (λ r. is_lt r && list_all (λ e. is_lt (R e.0 k)) (f ∷ es)) (sym here)
        | false ↦ λ before. before ∙ sym (ap (λ b. is_lt (R e.0 k) && b) (sym rest ∙ before) ∙ and_false (is_lt (R e.0 k)))
      ] refl

  pub by_last : (m : map.FinMap R X) (k l : K) → Some l ≡ last_or None (map.keys m) → is_lt (R l k) ≡ is_next m k
  unfolding is_next
  by_last m k l is = after_last (map.entries m) k l (map.entries_sorted m) (sym is)

  pub first_of_all : (m : map.FinMap R X) (k : K) → None ≡ last_or None (map.keys m) → true ≡ is_next m k
  unfolding is_next
  first_of_all m k is = step (map.entries m) (sym is)
    where
      step : (es : List (K × X)) → last_key es ≡ None → true ≡ list_all (λ e. is_lt (R e.0 k)) es
      step [] none = refl
      step (e ∷ es) none = absurd (some_last e.0 (each (λ (f : K × X). f.0) es) none)

lt_test : (a b : ℕ) → nat_lt a b ≡ is_lt (nat_cmp a b)
lt_test a b = grind (arith, nat_tests)

-- a radio comes after all others if its number is greater than that of the last
pub by_last_radio : {X : Type 0} (m : PathMap X) (last itsi : ℕ) → last < 2 ^ 48 → itsi < 2 ^ 48 → Some (id_path last) ≡ last_or None (map.keys m) → nat_lt last itsi ≡ is_next m (id_path itsi)
by_last_radio m last itsi last_small small is =
    lt_test last itsi
    ∙ ap is_lt (sym (by_number (id_path last) (id_path itsi) (length-id_path last ∙ sym (length-id_path itsi)) ∙ (λ i. nat_cmp (number-id_path last last_small i) (number-id_path itsi small i))))
    ∙ by_last paths_total m (id_path itsi) (id_path last) is

-- What is left of an attachment where something ends.
use Rattle.std.proofs.Common.{◌≡◌, ℕ, Bool, true, false, cond, List, [], ◌∷◌, Option, Some, None, refl, sym, ap, ◌∙◌, subst}
use Rattle.std.specs.Prelude.{T, ◌&&◌, ◌==◌, not}
use Rattle.std.specs.List.{filter}
use Rattle.std.specs.declared.cmp.Ordering.TheVariants.{Less, Equal, Greater}
use Rattle.std.specs.Ordering.{is_eq, eq_by_cmp}
use Rattle.std.specs.FinMap as finite
use Rattle.std.specs.FinMap.{find}
use Rattle.std.specs.FinMap.Entries.{below_all, is_sorted}
use mathlib.Core.Bool.{false≢true}
use Rattle.base.proofs.Bools.{cond_same, less_apart}
use Rattle.base.proofs.Numbers.{same_test}
use Rattle.mm_pdus.specs.declared.update.LocationUpdateType.{LocationUpdateType}
use Rattle.group_attach.specs.declared.ending.Ending.{Ending}
use Rattle.group_attach.specs.declared.ending.Ending.TheVariants as ending
use Rattle.group_attach.specs.Attached.{Pair, Usage, Attached, pair_cmp, no_groups}
use Rattle.group_attach.specs.Applied.{passing, is_dropped}
use Rattle.group_attach.specs.Inside.Filed.{ended}
use Rattle.group_attach.proofs.Pairs.{pairs_total, pairs_exact}
use Rattle.group_attach.proofs.Filtered.{left, right, entries_passing}

pub tie : (p q : Pair) → eq_by_cmp pair_cmp p q ≡ true → p ≡ q
tie p q e =
    elim (pair_cmp p q) as (λ o. pair_cmp p q ≡ o → is_eq o ≡ true → p ≡ q) [
      | Less ↦ λ f g. absurd (false≢true g)
      | Equal ↦ λ f g. pairs_exact p q f
      | Greater ↦ λ f g. absurd (false≢true g)
    ] refl e

-- a pair before all others is none of them
pub apart : (x : Pair) (es : List (Pair × Usage)) → T (below_all pair_cmp x es) → find pair_cmp x es ≡ None
apart x [] below = refl
apart x (e ∷ es) below = rw (less_apart (pair_cmp x e.0) (left _ _ below)) (apart x es (right _ _ below))

unfoldable pub passing_usage : (Pair × Usage → Bool) → Pair → Option Usage → Option Usage
passing_usage t q None = None
passing_usage t q (Some u) = cond (t (q, u)) (Some u) None

first_of_two : (q : Pair) (b : Bool) (e : Pair × Usage) (es : List (Pair × Usage)) →
    find pair_cmp q (cond b (e ∷ es) es) ≡ cond b (cond (eq_by_cmp pair_cmp q e.0) (Some e.1) (find pair_cmp q es)) (find pair_cmp q es)
first_of_two q true e es = refl
first_of_two q false e es = refl

find_passing : (t : Pair × Usage → Bool) (q : Pair) (es : List (Pair × Usage)) → T (is_sorted pair_cmp es) → find pair_cmp q (filter t es) ≡ passing_usage t q (find pair_cmp q es)
unfolding passing_usage
find_passing t q [] order = refl
find_passing t q (e ∷ es) order =
    let rest = find_passing t q es (right _ _ order) in
    first_of_two q (t e) e (filter t es)
    ∙ (elim (eq_by_cmp pair_cmp q e.0) as
    (λ b. eq_by_cmp pair_cmp q e.0 ≡ b → cond (t e) (cond b (Some e.1) (find pair_cmp q (filter t es))) (find pair_cmp q (filter t es)) ≡
    passing_usage t q (cond b (Some e.1) (find pair_cmp q es))) [
      | true ↦ λ same.
          let here : q ≡ e.0 = tie q e.0 same in
          let none : find pair_cmp q (filter t es) ≡ None = rest ∙ ap (passing_usage t q) (subst (λ k. find pair_cmp k es ≡ None) (sym here) (apart e.0 es (left _ _ order))) in
          ap (cond (t e) (Some e.1)) none ∙ ap (λ k. cond (t (k, e.1)) (Some e.1) None) (sym here)
      | false ↦ λ other. cond_same (t e) (find pair_cmp q (filter t es)) ∙ rest
    ]) refl

pub get_passing : (t : Pair × Usage → Bool) (m : Attached) (q : Pair) → finite.get (passing t m) q ≡ passing_usage t q (finite.get m q)
get_passing t m q =
    finite.get-entries (passing t m) q
    ∙ ap (find pair_cmp q) (entries_passing t m)
    ∙ find_passing t q (finite.entries m) (finite.entries_sorted m)
    ∙ ap (passing_usage t q) (sym (finite.get-entries m q))

unfoldable pub ended_usage : ℕ → Ending → Pair → Option Usage → Option Usage
ended_usage itsi (ending.Leave gtsi) q o = cond (eq_by_cmp pair_cmp q (itsi, gtsi)) None o
ended_usage itsi (ending.Update update) q o = passing_usage (λ e. not ((e.0.0 == itsi) && is_dropped update e.1.1)) q o

pub get_ended : (m : Attached) (itsi : ℕ) (e : Ending) (q : Pair) → finite.get (ended m itsi e) q ≡ ended_usage itsi e q (finite.get m q)
unfolding ended_usage
get_ended m itsi (ending.Leave gtsi) q = finite.get-remove pairs_total m (itsi, gtsi) q
get_ended m itsi (ending.Update update) q = get_passing (λ e. not ((e.0.0 == itsi) && is_dropped update e.1.1)) m q

-- nothing comes of nothing
pub ended_none : (itsi : ℕ) (e : Ending) (q : Pair) → ended_usage itsi e q None ≡ None
unfolding ended_usage passing_usage
ended_none itsi (ending.Leave gtsi) q = cond_same (eq_by_cmp pair_cmp q (itsi, gtsi)) None
ended_none itsi (ending.Update update) q = refl

pub nothing_ends : (itsi : ℕ) (e : Ending) → ended no_groups itsi e ≡ no_groups
nothing_ends itsi e =
    finite.same_map pairs_total pairs_exact _ _ (λ q.
    get_ended no_groups itsi e q ∙ ap (ended_usage itsi e q) (finite.get-empty pair_cmp q) ∙ ended_none itsi e q ∙ sym (finite.get-empty pair_cmp q))

pub passed : (b : Bool) (x y : Option Usage) → (b ≡ true → ⊥) → cond b x y ≡ y
passed true x y not_so = absurd (not_so refl)
passed false x y not_so = refl

-- a radio that leaves a group does so under that one number; an update ends attachments of one radio
pub leave_spares : (key : Pair → ℕ) (itsi gtsi : ℕ) (q : Pair) (o : Option Usage) → (key q == key (itsi, gtsi)) ≡ false → ended_usage itsi (ending.Leave gtsi) q o ≡ o
unfolding ended_usage
leave_spares key itsi gtsi q o other =
    passed (eq_by_cmp pair_cmp q (itsi, gtsi)) None o (λ same. false≢true (sym other ∙ ap (λ r. key r == key (itsi, gtsi)) (tie q (itsi, gtsi) same) ∙ same_test (key (itsi, gtsi))))

pub update_spares : (itsi : ℕ) (update : LocationUpdateType) (q : Pair) (o : Option Usage) → (q.0 == itsi) ≡ false → ended_usage itsi (ending.Update update) q o ≡ o
unfolding ended_usage passing_usage
update_spares itsi update q None other = refl
update_spares itsi update q (Some u) other = ap (λ b. cond (not (b && is_dropped update u.1)) (Some u) None) other

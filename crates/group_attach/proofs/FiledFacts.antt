-- What single changes of a list under a path come to.
use Rattle.std.proofs.Common.{◌≡◌, ℕ, Bool, true, false, cond, Option, Some, None, Result, Ok, Err, ◌⊎◌, inl, inr, refl, sym, ap, ◌∙◌}
use Rattle.std.specs.Prelude.{◌==◌, IsSome, OnOk, OnErr, unwrap_or}
use Rattle.std.specs.Option.{is_some, option_map}
use Rattle.std.specs.Ordering.{eq_by_cmp}
use Rattle.std.specs.FinMap as finite
use mathlib.Core.Bool.{false≢true}
use Rattle.identity.specs.Path.{Path, path_cmp}
use Rattle.identity.specs.Inside.PathLaws.{paths_total, paths_exact, tie_exact}
use Rattle.group_attach.specs.declared.ending.Ending.{Ending}
use Rattle.group_attach.specs.Attached.{Attached, Pair, Usage, pair_cmp, no_groups, attachment_of, attachment_at}
use Rattle.group_attach.specs.Inside.Filed.{Filed, under, placed, unless_empty, ended}
use Rattle.prefix_tree.specs.Change.{with_value}
use Rattle.group_attach.proofs.Endings.{nothing_ends}

at_tie : {A : Type 0} (b : Bool) (x y : Option A) → (b ≡ true → x ≡ y) → cond b x y ≡ y
at_tie true x y h = h refl
at_tie false x y h = refl

pub remove_nothing : (f : Filed) (p : Path) → None ≡ finite.get f p → finite.remove f p ≡ f
remove_nothing f p none =
    finite.same_map paths_total paths_exact _ _ (λ q.
    finite.get-remove paths_total f p q
    ∙ at_tie (eq_by_cmp path_cmp q p) None (finite.get f q) (λ tie. none ∙ ap (finite.get f) (sym (tie_exact q p tie))))

pub insert_same : (f : Filed) (p : Path) (list : Attached) → Some list ≡ finite.get f p → finite.insert f p list ≡ f
insert_same f p list there =
    finite.same_map paths_total paths_exact _ _ (λ q.
    finite.get-insert paths_total f p list q
    ∙ at_tie (eq_by_cmp path_cmp q p) (Some list) (finite.get f q) (λ tie. there ∙ ap (finite.get f) (sym (tie_exact q p tie))))

-- a closure's answer, that it is the answer, and what its relation says
pub by_answer : {A G : Type 0} {B C : A → Type 0} → ((a : A) × B a × C a) → ((a : A) → B a → C a → G) → G
by_answer made use_it = use_it made.0 made.1 made.2

-- a closure writes the list, or leaves it as it was where it fails
pub written : {X E : Type 0} (r : Result X E) (f new : Filed) (p : Path) (left : Option Attached) (list : Attached) → new ≡ with_value f p left →
    OnOk r (left ≡ Some list) → OnOk r (new ≡ finite.insert f p list)
written (Ok x) f new p left list is made = is ∙ ap (with_value f p) made
written (Err e) f new p left list is made = tt

pub unwritten : {X E : Type 0} (r : Result X E) (f new : Filed) (p : Path) (left : Option Attached) (list : Attached) → new ≡ with_value f p left →
    finite.get f p ≡ Some list → OnErr r (left ≡ Some list) → OnErr r (new ≡ f)
unwritten (Ok x) f new p left list is there same = tt
unwritten (Err e) f new p left list is there same = is ∙ ap (with_value f p) same ∙ insert_same f p list (sym there)

pub none_under : (f : Filed) (p : Path) → None ≡ finite.get f p → under f p ≡ no_groups
none_under f p none = ap (λ o. unwrap_or o no_groups) (sym none)

pub absent_not : {A : Type 0} {o : Option A} → None ≡ o → IsSome o → ⊥
absent_not none there = false≢true (ap is_some none ∙ there)

by_test : (b : Bool) (f : Filed) (p : Path) (list : Attached) → with_value f p (cond b None (Some list)) ≡ cond b (finite.remove f p) (finite.insert f p list)
by_test true f p list = refl
by_test false f p list = refl

-- a list that is left empty goes
pub with_unless_empty : (f : Filed) (p : Path) (list : Attached) → with_value f p (unless_empty list) ≡ placed f p list
with_unless_empty f p list = by_test (finite.len list == 0) f p list

-- nothing is left of no list
pub none_ended : (itsi : ℕ) (e : Ending) → unless_empty (ended no_groups itsi e) ≡ None
none_ended itsi e =
    let empty : finite.len (ended no_groups itsi e) ≡ 0 = ap finite.len (nothing_ends itsi e) ∙ finite.len-empty pair_cmp Usage in
    ap (λ n. cond (n == 0) None (Some (ended no_groups itsi e))) empty

-- there is no list, or this one
pub list_or_none : (o : Option Attached) → (o ≡ None) ⊎ ((list : Attached) × (o ≡ Some list))
list_or_none None = inl refl
list_or_none (Some list) = inr (list, refl)

-- where there is no list, an attachment is not overwritten
pub none_to_overwrite : (f : Filed) (p : Path) (q : Pair) → false ≡ is_some (finite.get f p) → IsSome (finite.get (under f p) q) → ⊥
none_to_overwrite f p q none there =
    elim (finite.get f p) as (λ o. o ≡ finite.get f p → ⊥) [
      | None ↦ λ e. false≢true (sym (ap is_some (ap (λ m. finite.get m q) (none_under f p e) ∙ finite.get-empty pair_cmp q)) ∙ there)
      | Some list ↦ λ e. false≢true (none ∙ ap is_some (sym e))
    ] refl

pub first_under : (f : Filed) (p : Path) → false ≡ is_some (finite.get f p) → under f p ≡ no_groups
first_under f p none =
    elim (finite.get f p) as (λ o. o ≡ finite.get f p → under f p ≡ no_groups) [
      | None ↦ λ e. none_under f p e
      | Some list ↦ λ e. absurd (false≢true (none ∙ ap is_some (sym e)))
    ] refl

-- nor was there one
pub none_before : (f : Filed) (p : Path) (q : Pair) → false ≡ is_some (finite.get f p) → None ≡ attachment_at (under f p) q
none_before f p q none = ap (option_map (λ usage. attachment_of (q, usage))) (sym (finite.get-empty pair_cmp q) ∙ ap (λ m. finite.get m q) (sym (first_under f p none)))

-- The groups of one radio, put in one after another.
use Rattle.std.proofs.Common.{◌≡◌, ℕ, suc, true, cond, List, [], ◌∷◌, length, None, refl, sym, ap, subst, ◌∙◌}
use Rattle.std.specs.Prelude.{◌==◌, map as each}
use Rattle.std.specs.List.{All}
use Rattle.std.specs.Option.{option_or}
use Rattle.std.specs.Ordering.{nat_cmp, is_lt, ordering_then}
use Rattle.std.specs.Cmp.{unsigned_tied}
use Rattle.std.specs.FinMap as map
use Rattle.std.specs.FinMap.Entries.{below_all, is_sorted}
use Rattle.std.proofs.lemmas.Bool.{eqb-true}
use Rattle.std.proofs.lemmas.List.Elements.{All-head, All-tail, filter_passes}
use Rattle.base.proofs.Bools.{true_if, is_equal, first_true, second_true, and_is_true}
use Rattle.base.proofs.Numbers.{same_test}
use Rattle.group_attach.specs.Attached.{Attached, Pair, Usage, pair_cmp, of_radio, attachment_of, all_attached}
use Rattle.group_attach.proofs.Pairs.{alike}
use Rattle.group_attach.proofs.Filtered.{entries_retained}
use Rattle.group_attach.proofs.Moves.{get_added}
use Rattle.image_rows.specs.Rows.{group_of, groups_of}
use Rattle.image_rows.specs.Loading.{with_attachments, attachment_in}

-- with one radio pairs are as their groups
pub within_one : (itsi a b : ℕ) → pair_cmp (itsi, a) (itsi, b) ≡ nat_cmp a b
within_one itsi a b = ap (λ r. ordering_then r (nat_cmp a b)) (is_equal (nat_cmp itsi itsi) (unsigned_tied itsi itsi ∙ same_test itsi))

-- all of these are of the radio
abbrev pub AllOwn : ℕ → List (Pair × Usage) → Type 0
AllOwn itsi es = All (λ e. (e.0.0 == itsi) ≡ true) es

abbrev of_this : ℕ → Pair × Usage → Type 0
of_this itsi e = (e.0.0 == itsi) ≡ true

all_own : (full : Attached) (itsi : ℕ) → AllOwn itsi (map.entries (of_radio full itsi))
all_own full itsi = subst (AllOwn itsi) (sym (entries_retained (λ pair. pair.0 == itsi) full)) (filter_passes (λ e. e.0.0 == itsi) (map.entries full))

-- a radio's groups with the radio's number are its attachments
back : (itsi : ℕ) (es : List (Pair × Usage)) → AllOwn itsi es → each (attachment_in itsi) (each group_of es) ≡ each attachment_of es
back itsi [] own = refl
back itsi (e ∷ es) own =
    let here : e.0.0 ≡ itsi = eqb-true _ _ (All-head (of_this itsi) e es own) in
    let rest = back itsi es (All-tail (of_this itsi) e es own) in
    λ i. record { itsi = sym here i; gtsi = e.0.1; class = e.1.0; lifetime = e.1.1 } ∷ rest i

below_so : (itsi : ℕ) (e : Pair × Usage) (es : List (Pair × Usage)) → e.0.0 ≡ itsi → AllOwn itsi es → below_all pair_cmp e.0 es ≡ true → below_all nat_cmp e.0.1 (each group_of es) ≡ true
below_so itsi e [] is own h = refl
below_so itsi e (f ∷ es) is own h =
    let next : f.0.0 ≡ itsi = eqb-true _ _ (All-head (of_this itsi) f es own) in
    and_is_true _ _ (ap is_lt
    (sym (ap (λ n. pair_cmp (n, e.0.1) f.0) is ∙ ap (λ n. pair_cmp (itsi, e.0.1) (n, f.0.1)) next ∙ within_one itsi e.0.1 f.0.1)) ∙
    first_true _ _ h) (below_so itsi e es is (All-tail (of_this itsi) f es own) (second_true _ _ h))

sorted_so : (itsi : ℕ) (es : List (Pair × Usage)) → AllOwn itsi es → is_sorted pair_cmp es ≡ true → is_sorted nat_cmp (each group_of es) ≡ true
sorted_so itsi [] own h = refl
sorted_so itsi (e ∷ es) own h =
    let rest = All-tail (of_this itsi) e es own in
    and_is_true _ _ (below_so itsi e es (eqb-true _ _ (All-head (of_this itsi) e es own)) rest (first_true _ _ h)) (sorted_so itsi es rest (second_true (below_all pair_cmp e.0 es) _ h))

pub groups_sorted : (full : Attached) (itsi : ℕ) → map.is_sorted nat_cmp (groups_of full itsi) ≡ true
groups_sorted full itsi = sorted_so itsi (map.entries (of_radio full itsi)) (all_own full itsi) (true_if _ (map.entries_sorted (of_radio full itsi)))

pub length_each : {A B : Type 0} (f : A → B) (es : List A) → length (each f es) ≡ length es
length_each f [] = refl
length_each f (e ∷ es) = ap suc (length_each f es)

pub length_groups : (full : Attached) (itsi : ℕ) → length (groups_of full itsi) ≡ map.len (of_radio full itsi)
length_groups full itsi = length_each group_of (map.entries (of_radio full itsi)) ∙ sym (map.len-entries (of_radio full itsi))

-- what a radio's row adds
pub get_with_attachments : (m full : Attached) (itsi : ℕ) (q : Pair) → map.get (with_attachments m itsi (groups_of full itsi)) q ≡ option_or (cond (q.0 == itsi) (map.get full q) None) (map.get m q)
get_with_attachments m full itsi q =
    ap (λ l. map.get (all_attached m l) q) (back itsi (map.entries (of_radio full itsi)) (all_own full itsi))
    ∙ get_added m (of_radio full itsi) q
    ∙ ap (λ o. option_or o (map.get m q)) (map.get-retain_keys full (λ pair. pair.0 == itsi) q (alike (λ pair. pair.0 == itsi) q))

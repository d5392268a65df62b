-- A radio's attachments come in order of their groups.
use Rattle.std.proofs.Common.{◌≡◌, ℕ, ◌<◌, Bool, true, false, cond, List, [], ◌∷◌, map, get_or, length, Option, Some, refl, sym, ◌∙◌, ap, subst, arith}
use Rattle.std.specs.Prelude.{IsSome}
use Rattle.std.specs.List.{All}
use Rattle.std.specs.Ordering.{nat_cmp, ordering_then, eq_by_cmp}
use Rattle.std.specs.Cmp.{nat_cmp_total, eq_by_cmp_equiv}
use Rattle.std.specs.declared.cmp.Ordering.TheVariants.{Less}
use Rattle.std.specs.FinMap as finite
use Rattle.std.specs.FinMap.Entries.{find}
use Rattle.std.proofs.Math.ListN.{get_or-map}
use Rattle.std.proofs.lemmas.List.{length-map}
use Rattle.std.proofs.lemmas.List.Elements.{All-nil, All-cons}
use Rattle.std.proofs.lemmas.Cmp.{tied_itself}
use Rattle.prefix_tree.specs.Following.{AreRising}
use Rattle.prefix_tree.proofs.Following.{sorted_rise}
use Rattle.group_attach.specs.Attached.{Pair, Usage, Attached, pair_cmp, attachment_of, entry_of, of_radio, groups_of}
use Rattle.group_attach.proofs.Pairs.{pairs_total}
use Rattle.group_attach.proofs.BothSides.{part_has}

abbrev Entry : Type 0
Entry = Pair × Usage

some_still : (b : Bool) (x : Usage) (o : Option Usage) → IsSome o → IsSome (cond b (Some x) o)
some_still true x o some = refl
some_still false x o some = some

each_has : (itsi : ℕ) (es : List Entry) → ((p : Pair) → IsSome (find pair_cmp p es) → p.0 ≡ itsi) → All (λ e. e.0.0 ≡ itsi) es
each_has itsi [] own = All-nil (λ (e : Entry). e.0.0 ≡ itsi)
each_has itsi (e ∷ es) own =
    All-cons (λ (e : Entry). e.0.0 ≡ itsi) e es (own e.0 (rw ((eq_by_cmp_equiv pairs_total).refl e.0) refl))
    (each_has itsi es (λ p some. own p (some_still (eq_by_cmp pair_cmp p e.0) e.1 (find pair_cmp p es) some)))

-- of two pairs of one radio the lower one has the lower group
lower : (itsi : ℕ) (p q : Pair) → p.0 ≡ itsi → q.0 ≡ itsi → pair_cmp p q ≡ Less → nat_cmp p.1 q.1 ≡ Less
lower itsi p q e f less =
    sym (ap (λ o. ordering_then o (nat_cmp p.1 q.1)) ((λ i. nat_cmp (e i) (f i)) ∙ tied_itself nat_cmp_total itsi)) ∙ less

listed_rise : (itsi : ℕ) (es : List Entry) → All (λ e. e.0.0 ≡ itsi) es → AreRising pair_cmp (λ e. e.0) es → AreRising nat_cmp (λ a. a.gtsi) (map attachment_of es)
listed_rise itsi es own rise i j d lt within =
    let short : j < length es = subst (λ n. j < n) (length-map es attachment_of) within in
    let x : Entry = get_or es i (entry_of d) in
    let y : Entry = get_or es j (entry_of d) in
    (λ k. nat_cmp (get_or-map attachment_of es i (entry_of d) k).gtsi (get_or-map attachment_of es j (entry_of d) k).gtsi)
    ∙ lower itsi x.0 y.0 (own i (entry_of d) (omega (arith, lt, short))) (own j (entry_of d) short) (rise i j (entry_of d) lt short)

pub groups_rise : (m : Attached) (itsi : ℕ) → AreRising nat_cmp (λ a. a.gtsi) (groups_of m itsi)
groups_rise m itsi =
    let own : Attached = of_radio m itsi in
    listed_rise itsi (finite.entries own) (each_has itsi (finite.entries own) (λ p some. part_has m own itsi refl p (subst IsSome (sym (finite.get-entries own p)) some)))
    (sorted_rise pair_cmp (finite.entries own) (finite.entries_sorted own))

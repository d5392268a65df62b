-- What one register gives by reference, another that is built of it can take.
use Rattle.std.proofs.Common.{◌≡◌, ℕ, true, false, List, [], ◌∷◌, map, Option, Some, None, refl, sym, ◌∙◌, ap, subst}
use Rattle.std.specs.Prelude.{◌==◌, IsTrue}
use Rattle.std.specs.List.{All}
use Rattle.std.specs.BTreeMap.Comparable.{le_lt_trans}
use Rattle.std.specs.Cmp.{tied_itself}
use Rattle.std.specs.Ordering.{is_le, is_lt, ordering_reverse}
use Rattle.std.specs.declared.cmp.Ordering.{Ordering}
use Rattle.std.specs.declared.cmp.Ordering.TheVariants.{Less, Equal, Greater}
use Rattle.std.specs.FinMap as finite
use Rattle.std.proofs.lemmas.Bool.{eqb-true}
use Rattle.std.proofs.lemmas.List.Elements.{All-nil, All-cons, All-append, All-map, All-weaker, filter_passes}
use Rattle.base.proofs.Bools.{true_if, is_less}
use Rattle.group_attach.specs.Attached.{Pair, Usage, Attached, pair_cmp, attachment_of, entry_of, of_radio, groups_of}
use Rattle.group_attach.specs.InOrder.{IsInOrder}
use Rattle.group_attach.proofs.Filtered.{entries_retained}
use Rattle.mailbox.specs.declared.key.Key.{Key}
use Rattle.mailbox.specs.Values.{Item, Mailed}
use Rattle.mailbox.specs.Order.{ComesLast, named, named_cmp, next_item}
use Rattle.mailbox.specs.Mail.{with_item}
use Rattle.mailbox.proofs.Keys.{named_total}
use Rattle.mailbox.proofs.Lists.{found_passes}
use Rattle.prefix_tree.specs.Following.{is_after}
use Rattle.bench_registers.specs.Building.{EndsBy}

abbrev Entry : Type 0
Entry = Pair × Usage

-- a radio's attachments are its own
pub borrowed_own : (m : Attached) (itsi : ℕ) → All (λ a. a.itsi ≡ itsi) (groups_of m itsi)
borrowed_own m itsi =
    let es : List Entry = finite.entries (of_radio m itsi) in
    let own : All (λ e. (e.0.0 == itsi) ≡ true) es =
    subst (λ xs. All (λ (e : Entry). (e.0.0 == itsi) ≡ true) xs) (sym (entries_retained (λ pair. pair.0 == itsi) m)) (filter_passes (λ e. e.0.0 == itsi) (finite.entries m)) in
    All-map (λ a. a.itsi ≡ itsi) attachment_of es (All-weaker (λ (e : Entry). (e.0.0 == itsi) ≡ true) (λ e. e.0.0 ≡ itsi) (λ e same. eqb-true _ _ same) es own)

each_back : (es : List Entry) → map entry_of (map attachment_of es) ≡ es
each_back [] = refl
each_back (e ∷ es) = ap (λ r. e ∷ r) (each_back es)

-- they are in order
pub borrowed_in_order : (m : Attached) (itsi : ℕ) → IsInOrder (groups_of m itsi)
borrowed_in_order m itsi =
    ap (finite.is_sorted pair_cmp) (each_back (finite.entries (of_radio m itsi))) ∙ true_if _ (finite.entries_sorted (of_radio m itsi))

at_most : (o : Ordering) → is_lt o ≡ false → IsTrue (is_le (ordering_reverse o))
at_most Less h = absurd cc
at_most Equal h = refl
at_most Greater h = refl

abbrev pub Place : Type 0
Place = ℕ × Key

not_after : (a b : Place) → is_lt (named_cmp a b) ≡ false → IsTrue (is_le (named_cmp b a))
not_after a b h = subst (λ o. IsTrue (is_le o)) (sym (named_total.antisymm b a)) (at_most (named_cmp a b) h)

before : (last : Option Place) (w x : Item) → is_after named_cmp named last x ≡ true → is_after named_cmp named last w ≡ false → named_cmp (named w) (named x) ≡ Less
before None w x after h = absurd cc
before (Some k) w x after h = le_lt_trans named_total (named w) k (named x) (not_after k (named w) h) (is_less _ after)

-- a copy of the item after the last place comes after all
pub comes_last : (full m : Mailed) (last : Option Place) (x copy : Item) → Some x ≡ next_item full last → copy ≡ x → EndsBy m last → ComesLast m copy.number copy.key
comes_last full m last x copy is same ends =
    let after = found_passes (is_after named_cmp named last) full.items x (sym is) in
    subst (λ (w : Item). ComesLast m w.number w.key) (sym same)
    (All-weaker (λ w. is_after named_cmp named last w ≡ false) (λ w. named_cmp (named w) (named x) ≡ Less) (λ w h. before last w x after h) m.items ends)

none_after : (x w : Item) → named_cmp (named w) (named x) ≡ Less → is_after named_cmp named (Some (named x)) w ≡ false
none_after x w less = ap is_lt (named_total.antisymm (named x) (named w) ∙ ap ordering_reverse less)

-- and once it is put, it is the last
pub ends_by : (m n : Mailed) (x : Item) → ComesLast m x.number x.key → n ≡ with_item m x → EndsBy n (Some (named x))
ends_by m n x last is =
    subst (λ ws. All (λ w. is_after named_cmp named (Some (named x)) w ≡ false) ws) (ap (λ k. k.items) (sym is))
    (All-append (λ w. is_after named_cmp named (Some (named x)) w ≡ false) m.items (x ∷ [])
    (All-weaker (λ w. named_cmp (named w) (named x) ≡ Less) (λ w. is_after named_cmp named (Some (named x)) w ≡ false) (none_after x) m.items last)
    (All-cons (λ w. is_after named_cmp named (Some (named x)) w ≡ false) x [] (ap is_lt (tied_itself named_total (named x))) (All-nil (λ w. is_after named_cmp named (Some (named x)) w ≡ false))))

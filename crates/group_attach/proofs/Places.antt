-- Where a radio's attachment to a group is in the list in order, or would go, and what an edit there makes of the map.
use Rattle.std.proofs.Common.{◌≡◌, ℕ, zero, suc, ◌<◌, ◌≤◌, ◌-◌, true, List, [], ◌∷◌, length, map, get_or, set, Some, None, Result, Ok, Err, refl, sym, ap, ◌∙◌, subst, arith}
use Rattle.std.specs.Prelude.{IsSome}
use Rattle.std.specs.declared.cmp.Ordering.{Ordering}
use Rattle.std.specs.declared.cmp.Ordering.TheVariants.{Less, Equal, Greater}
use Rattle.std.specs.Ordering.{ordering_index, ordering_reverse}
use Rattle.std.specs.Cmp.{tied_itself}
use Rattle.std.specs.List.{insert, HoldsAt}
use Rattle.std.specs.List.Sorted.{IsBinarySearchResult, IsSearchInRange, IsNonDecreasingBy}
use Rattle.std.specs.Option.{is_some, option_map}
use Rattle.std.specs.Result.{is_ok}
use mathlib.Core.Bool.{false≢true}
use Rattle.std.specs.FinMap as finite
use Rattle.std.specs.FinMap.{find, put}
use Rattle.std.specs.FinMap.Entries.{below_all, is_sorted-put}
use Rattle.base.proofs.Bools.{true_if, is_less, first_true, second_true}
use Rattle.base.proofs.Numbers.{at_most_two}
use Rattle.group_attach.specs.declared.attachment.Attachment.{Attachment}
use Rattle.group_attach.specs.Attached.{Pair, Usage, pair_cmp, entry_of, attachment_of, pair_of}
use Rattle.group_attach.specs.InOrder.{IsInOrder}
use Rattle.group_attach.specs.Inside.ListedMap.{map_of}
use Rattle.group_attach.proofs.Pairs.{pairs_total, pairs_exact}
use Rattle.group_attach.proofs.Filtered.{to_T, entries_of}

-- the other way round
turned : (p q : Pair) (o : Ordering) → pair_cmp p q ≡ o → pair_cmp q p ≡ ordering_reverse o
turned p q o e = pairs_total.antisymm q p ∙ ap ordering_reverse e

-- a pair before another one compares no higher with q
earlier : (x y q : Pair) → pair_cmp x y ≡ Less → ordering_index (pair_cmp x q) ≤ ordering_index (pair_cmp y q)
earlier x y q less =
    elim (pair_cmp y q) as (λ o. pair_cmp y q ≡ o → ordering_index (pair_cmp x q) ≤ ordering_index o) [
      | Less ↦ λ e. subst (λ o. ordering_index o ≤ 0) (sym (pairs_total.trans x y q less e)) (omega arith)
      | Equal ↦ λ e. subst (λ o. ordering_index o ≤ 1) (sym (subst (λ z. pair_cmp x z ≡ Less) (pairs_exact y q e) less)) (omega arith)
      | Greater ↦ λ e. at_most_two (pair_cmp x q)
    ] refl

abbrev pub usage_of : Attachment → Usage
usage_of a = (a.class, a.lifetime)

-- the attachment of q is at place i
pub record IsAt (es : List Attachment) (q : Pair) (i : ℕ) : Type 0 where
  pub in_range : i < length es
  pub here : (d : Attachment) → pair_of (get_or es i d) ≡ q

-- q has no attachment in the list, and would go to place i
pub record IsGap (es : List Attachment) (q : Pair) (i : ℕ) : Type 0 where
  pub within : i ≤ length es
  pub before : (j : ℕ) (d : Attachment) → j < i → pair_cmp (pair_of (get_or es j d)) q ≡ Less
  pub after : (j : ℕ) (d : Attachment) → i ≤ j → j < length es → pair_cmp (pair_of (get_or es j d)) q ≡ Greater

below_at : (x : Pair) (es : List Attachment) (i : ℕ) (d : Attachment) → below_all pair_cmp x (map entry_of es) ≡ true → i < length es → pair_cmp x (pair_of (get_or es i d)) ≡ Less
below_at x [] i d all lt = absurd (omega arith)
below_at x (e ∷ es) zero d all lt = is_less _ (first_true _ _ all)
below_at x (e ∷ es) (suc i) d all lt = below_at x es i d (second_true _ _ all) (omega arith)

-- an earlier attachment's pair comes before a later one's
rising : (es : List Attachment) (i j : ℕ) (d : Attachment) → IsInOrder es → i < j → j < length es → pair_cmp (pair_of (get_or es i d)) (pair_of (get_or es j d)) ≡ Less
rising [] i j d order lt in_range = absurd (omega arith)
rising (e ∷ es) zero zero d order lt in_range = absurd (omega arith)
rising (e ∷ es) (suc i) zero d order lt in_range = absurd (omega arith)
rising (e ∷ es) zero (suc j) d order lt in_range = below_at (pair_of e) es j d (first_true _ _ order) (omega arith)
rising (e ∷ es) (suc i) (suc j) d order lt in_range = rising es i j d (second_true _ _ order) (omega arith) (omega arith)

-- the comparisons with q rise along the list, as a binary search asks
comparisons_rise : (es : List Attachment) (q : Pair) → IsInOrder es → IsNonDecreasingBy (λ a. ordering_index (pair_cmp (pair_of a) q)) es
comparisons_rise [] q order i j d le in_range = absurd (omega arith)
comparisons_rise (e ∷ es) q order zero zero d le in_range = omega arith
comparisons_rise (e ∷ es) q order (suc i) zero d le in_range = absurd (omega arith)
comparisons_rise (e ∷ es) q order zero (suc j) d le in_range = earlier _ _ q (below_at (pair_of e) es j d (first_true _ _ order) (omega arith))
comparisons_rise (e ∷ es) q order (suc i) (suc j) d le in_range = comparisons_rise es q (second_true _ _ order) i j d (omega arith) (omega arith)

no_higher : (o : Ordering) → ordering_index o ≤ 0 → o ≡ Less
no_higher Less le = refl
no_higher Equal le = absurd (omega (arith, le))
no_higher Greater le = absurd (omega (arith, le))

-- after a last attachment that comes before q all do
pub after_all : (es : List Attachment) (q : Pair) → 0 < length es → HoldsAt (λ a. pair_cmp (pair_of a) q ≡ Less) es (length es - 1) →
    IsBinarySearchResult (λ a. pair_cmp (pair_of a) q) es (Err (length es))
after_all es q some last = λ rises. (
  (λ j d low lt. no_higher (pair_cmp (pair_of (get_or es j d)) q)
      (subst (λ o. ordering_index (pair_cmp (pair_of (get_or es j d)) q) ≤ ordering_index o) (last d)
      (rises j (length es - 1) d (omega (arith, lt)) (omega (arith, some))))),
  (λ j d le lt. absurd (omega (arith, le, lt))),
)

-- a search in the list l, which is es, ends where q is or at the gap for it
pub found_at : (es l : List Attachment) (q : Pair) (i : ℕ) → l ≡ es → i < length l → HoldsAt (λ a. pair_cmp (pair_of a) q ≡ Equal) l i → IsAt es q i
found_at es l q i same in_range equal = subst (λ z. IsAt z q i) same (record { in_range = in_range; here = λ d. pairs_exact _ _ (equal d) })

pub gap_at : (es l : List Attachment) (q : Pair) (i : ℕ) → l ≡ es → IsInOrder es → i ≤ length l → IsBinarySearchResult (λ a. pair_cmp (pair_of a) q) l (Err i) → IsGap es q i
gap_at es l q i same order within parted =
    let rises = subst (λ z. IsNonDecreasingBy (λ (a : Attachment). ordering_index (pair_cmp (pair_of a) q)) z) (sym same) (comparisons_rise es q order) in
    subst (λ z. IsGap z q i) same (record {
      within = within;
      before = λ j d lt. (parted rises).0 j d (omega arith) lt;
      after = λ j d le lt. (parted rises).1 j d le lt;
    })

tail_at : {q : Pair} {e : Attachment} {es : List Attachment} {i : ℕ} → IsAt (e ∷ es) q (suc i) → IsAt es q i
tail_at h = record { in_range = omega (arith, h.in_range); here = h.here }

tail_gap : {q : Pair} {e : Attachment} {es : List Attachment} {i : ℕ} → IsGap (e ∷ es) q (suc i) → IsGap es q i
tail_gap h = record {
  within = omega (arith, h.within);
  before = λ j d lt. h.before (suc j) d (omega arith);
  after = λ j d le lt. h.after (suc j) d (omega arith) (omega arith);
}

rest_gap : {q : Pair} {e : Attachment} {es : List Attachment} → IsGap (e ∷ es) q 0 → IsGap es q 0
rest_gap h = record {
  within = omega arith;
  before = λ j d lt. absurd (omega arith);
  after = λ j d le lt. h.after (suc j) d (omega arith) (omega arith);
}

-- the first attachment comes before the one at a later place
head_before : (e : Attachment) (es : List Attachment) (q : Pair) (i : ℕ) → IsInOrder (e ∷ es) → IsAt (e ∷ es) q (suc i) → pair_cmp q (pair_of e) ≡ Greater
head_before e es q i order h = turned (pair_of e) q Less (subst (λ z. pair_cmp (pair_of e) z ≡ Less) (h.here e) (rising (e ∷ es) 0 (suc i) e order (omega arith) h.in_range))

-- the first attachment is that of q
head_same : (e : Attachment) (es : List Attachment) (q : Pair) → IsAt (e ∷ es) q 0 → pair_cmp q (pair_of e) ≡ Equal
head_same e es q h = subst (λ z. pair_cmp q z ≡ Equal) (sym (h.here e)) (tied_itself pairs_total q)

find_at : (es : List Attachment) (q : Pair) (i : ℕ) (d : Attachment) → IsInOrder es → IsAt es q i → find pair_cmp q (map entry_of es) ≡ Some (usage_of (get_or es i d))
find_at [] q i d order h = absurd (omega (arith, h.in_range))
find_at (e ∷ es) q zero d order h = rw (head_same e es q h)
find_at (e ∷ es) q (suc i) d order h = rw (head_before e es q i order h) (find_at es q i d (second_true _ _ order) (tail_at h))

put_at : (es : List Attachment) (a : Attachment) (i : ℕ) → IsInOrder es → IsAt es (pair_of a) i → put pair_cmp (pair_of a) (usage_of a) (map entry_of es) ≡ map entry_of (set es i a)
put_at [] a i order h = absurd (omega (arith, h.in_range))
put_at (e ∷ es) a zero order h = rw (head_same e es (pair_of a) h) (ap (λ (k : Pair). (k, usage_of a) ∷ map entry_of es) (h.here e))
put_at (e ∷ es) a (suc i) order h = rw (head_before e es (pair_of a) i order h) (ap (λ r. entry_of e ∷ r) (put_at es a i (second_true _ _ order) (tail_at h)))

find_gap : (es : List Attachment) (q : Pair) (i : ℕ) → IsGap es q i → find pair_cmp q (map entry_of es) ≡ None
find_gap [] q i h = refl
find_gap (e ∷ es) q zero h = rw (turned (pair_of e) q Greater (h.after 0 e (omega arith) (omega arith))) (find_gap es q 0 (rest_gap h))
find_gap (e ∷ es) q (suc i) h = rw (turned (pair_of e) q Less (h.before 0 e (omega arith))) (find_gap es q i (tail_gap h))

put_gap : (es : List Attachment) (a : Attachment) (i : ℕ) → IsGap es (pair_of a) i → put pair_cmp (pair_of a) (usage_of a) (map entry_of es) ≡ map entry_of (insert es i a)
put_gap [] a zero h = refl
put_gap [] a (suc i) h = absurd (omega (arith, h.within))
put_gap (e ∷ es) a zero h = rw (turned (pair_of e) (pair_of a) Greater (h.after 0 e (omega arith) (omega arith)))
put_gap (e ∷ es) a (suc i) h = rw (turned (pair_of e) (pair_of a) Less (h.before 0 e (omega arith))) (ap (λ r. entry_of e ∷ r) (put_gap es a i (tail_gap h)))

-- an edit that puts an attachment in its place
put_in_order : (es new : List Attachment) (a : Attachment) → IsInOrder es → map entry_of new ≡ put pair_cmp (pair_of a) (usage_of a) (map entry_of es) → IsInOrder new
put_in_order es new a order is = rw is (true_if _ (is_sorted-put pair_cmp pairs_total (pair_of a) (usage_of a) (map entry_of es) (to_T _ order)))

put_is_insert : (es new : List Attachment) (a : Attachment) → IsInOrder es →
    map entry_of new ≡ put pair_cmp (pair_of a) (usage_of a) (map entry_of es) → map_of new ≡ finite.insert (map_of es) (pair_of a) (usage_of a)
put_is_insert es new a order is =
    finite.same_entries_map _ _ (
    entries_of new (put_in_order es new a order is) ∙ is ∙ ap (put pair_cmp (pair_of a) (usage_of a)) (sym (entries_of es order))
    ∙ sym (finite.entries-insert pairs_total (map_of es) (pair_of a) (usage_of a))
    )

pub set_in_order : (es : List Attachment) (a : Attachment) (i : ℕ) → IsInOrder es → IsAt es (pair_of a) i → IsInOrder (set es i a)
set_in_order es a i order at = put_in_order es _ a order (sym (put_at es a i order at))

pub set_is_insert : (es : List Attachment) (a : Attachment) (i : ℕ) → IsInOrder es → IsAt es (pair_of a) i → map_of (set es i a) ≡ finite.insert (map_of es) (pair_of a) (a.class, a.lifetime)
set_is_insert es a i order at = put_is_insert es _ a order (sym (put_at es a i order at))

pub new_in_order : (es new : List Attachment) (a : Attachment) (i : ℕ) → IsInOrder es → IsGap es (pair_of a) i → new ≡ insert es i a → IsInOrder new
new_in_order es new a i order gap is = put_in_order es new a order (ap (map entry_of) is ∙ sym (put_gap es a i gap))

pub new_is_insert : (es new : List Attachment) (a : Attachment) (i : ℕ) → IsInOrder es → IsGap es (pair_of a) i → new ≡ insert es i a →
    map_of new ≡ finite.insert (map_of es) (pair_of a) (a.class, a.lifetime)
new_is_insert es new a i order gap is = put_is_insert es new a order (ap (map entry_of) is ∙ sym (put_gap es a i gap))

-- what the map has at q
pub has_found : (es : List Attachment) (q : Pair) (i : ℕ) (d : Attachment) → IsInOrder es → IsAt es q i → finite.get (map_of es) q ≡ Some (usage_of (get_or es i d))
has_found es q i d order at = finite.get-from_sorted pair_cmp (map entry_of es) q (to_T _ order) ∙ find_at es q i d order at

pub has_none : (es : List Attachment) (q : Pair) (i : ℕ) → IsInOrder es → IsGap es q i → finite.get (map_of es) q ≡ None
has_none es q i order gap = finite.get-from_sorted pair_cmp (map entry_of es) q (to_T _ order) ∙ find_gap es q i gap

-- a search reports whether the map has q
pub has_at : (es l : List Attachment) (q : Pair) (r : Result ℕ ℕ) → l ≡ es → IsInOrder es → IsSearchInRange r (length l) →
    IsBinarySearchResult (λ a. pair_cmp (pair_of a) q) l r → is_ok r ≡ is_some (finite.get (map_of es) q)
has_at es [] q (Ok i) same order within place = absurd (omega (arith, within))
has_at es (a ∷ l) q (Ok i) same order within place = sym (ap is_some (has_found es q i a order (found_at es (a ∷ l) q i same within place)))
has_at es l q (Err i) same order within place = sym (ap is_some (has_none es q i order (gap_at es l q i same order within place)))

-- the attachment that a search finds, and that it finds none
pub reports_found : (es : List Attachment) (q : Pair) (i : ℕ) (a : Attachment) → IsInOrder es → IsAt es q i → a ≡ get_or es i a →
    Some a ≡ option_map (λ usage. attachment_of (q, usage)) (finite.get (map_of es) q)
reports_found es q i a order at is =
    let here : pair_of a ≡ q = ap pair_of is ∙ at.here a in
    let there : finite.get (map_of es) q ≡ Some (usage_of a) = has_found es q i a order at ∙ ap (λ (x : Attachment). Some (usage_of x)) (sym is) in
    (λ j. Some (attachment_of (here j, usage_of a))) ∙ ap (option_map (λ usage. attachment_of (q, usage))) (sym there)

pub reports_none : (es : List Attachment) (q : Pair) (i : ℕ) → IsInOrder es → IsGap es q i → None ≡ option_map (λ usage. attachment_of (q, usage)) (finite.get (map_of es) q)
reports_none es q i order gap = ap (option_map (λ usage. attachment_of (q, usage))) (sym (has_none es q i order gap))

-- where there is a gap, the map has nothing
pub not_in_gap : (es : List Attachment) (q : Pair) (i : ℕ) → IsInOrder es → IsGap es q i → IsSome (finite.get (map_of es) q) → ⊥
not_in_gap es q i order gap there = false≢true (sym (ap is_some (has_none es q i order gap)) ∙ there)

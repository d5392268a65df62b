-- Each effect keeps what holds of the mail.
use Rattle.std.proofs.Common.{◌≡◌, ℕ, ◌+◌, ◌<◌, ◌≤◌, Bool, true, false, cond, List, [], ◌∷◌, ◌++◌, get_or, refl, ap, sym, ◌∙◌, subst, arith, Option, Some, None}
use Rattle.std.specs.Prelude.{not, nat_lt, count_by, if◌then◌else◌}
use Rattle.std.specs.List.{All, filter, list_any}
use Rattle.std.specs.Ordering.{nat_cmp, ordering_then}
use Rattle.std.specs.declared.cmp.Ordering.TheVariants.{Less}
use Rattle.std.specs.Cmp.{ranks}
use Rattle.std.specs.Cmp.Lexicographic.{slice_cmp}
use Rattle.std.proofs.lemmas.List.Elements.{All-nil, All-cons, All-filter, All-push, All-weaker, All-get_or, filter_passes}
use Rattle.std.proofs.lemmas.List.Kept.{AllPairs-filter}
use Rattle.std.proofs.lemmas.List.Quantifiers.{all_pairs_push}
use Rattle.std.proofs.lemmas.List.Sums.{length-filter, count_by-le-length, sum_by-cons, sum_by_push}
use Rattle.std.proofs.lemmas.Bool.Decides.{nat_tests}
use Rattle.std.specs.Option.{option_or}
use Rattle.base.proofs.Bools.{neither, not_true}
use Rattle.base.proofs.Numbers.{same_by_test, first_less}
use Rattle.registration.specs.Registered.{rule_of}
use Rattle.mailbox.specs.declared.fault.MailFault.{MailFault}
use Rattle.mailbox.specs.declared.fault.MailFault.TheVariants.{ReferenceBusy, MailboxFull, CentreFull}
use Rattle.mailbox.specs.declared.key.Kind.TheVariants.{Message}
use Rattle.mailbox.specs.declared.key.Key.{Key}
use Rattle.mailbox.specs.Values.{Item, Mailed}
use Rattle.mailbox.specs.Item.{same_key, answered, is_to, is_at, is_reported, is_ended_by}
use Rattle.mailbox.specs.Mail.{holds, without, with_item, posted, reported}
use Rattle.registration.specs.Refusals.{refused_if}
use Rattle.mailbox.specs.Refusals.{unknown_refusal, absent_refusal, busy_refusal, missing_refusal, crowd_refusal, full_refusal, restore_refusal, most_for_one}
use Rattle.mailbox.specs.Order.{kind_number, place_at, IsBefore}
use Rattle.mailbox.specs.Sound.{IsSpelt, IsNumbered, IsMail}
use Rattle.mailbox.specs.Laws.{EmptyIsMail, MoreIsMail, RemovalIsMail, PostIsMail, ReportIsMail, NewComesLast}

-- the rest of a place
abbrev key_place : Key → List ℕ
key_place k = k.destination ∷ k.source ∷ k.reference ∷ kind_number k.kind ∷ []

-- a smaller number is before
pub is_before : (m n : ℕ) (j k : Key) → m < n → slice_cmp nat_cmp (place_at m j) (place_at n k) ≡ Less
is_before m n j k below = ap (λ order. ordering_then order (slice_cmp nat_cmp (key_place j) (key_place k))) (first_less m n (nat_cmp m n) (ranks m n) below)

pub new_comes_last : NewComesLast
new_comes_last count m number k h new i d below = let p = All-get_or (IsNumbered count) m.items i d below h.numbered in let w = get_or m.items i d in
    is_before w.number number w.key k (omega (arith, p.1, new))

abbrev weight : Bool → ℕ
weight b = cond b 1 0

-- no more of the items that pass q pass p than of all
count_cond : (p : Item → Bool) (b : Bool) (x : Item) (xs ys : List Item) → count_by p ys ≤ count_by p xs → count_by p (cond b (x ∷ ys) ys) ≤ count_by p (x ∷ xs)
count_cond p true x xs ys h =
    let new : count_by p (x ∷ ys) ≡ weight (p x) + count_by p ys = sum_by-cons (λ y. weight (p y)) x ys in
    let all : count_by p (x ∷ xs) ≡ weight (p x) + count_by p xs = sum_by-cons (λ y. weight (p y)) x xs in
    omega (arith, new, all, h)
count_cond p false x xs ys h = let all : count_by p (x ∷ xs) ≡ weight (p x) + count_by p xs = sum_by-cons (λ y. weight (p y)) x xs in omega (arith, all, h)

pub count_by-filter : (p q : Item → Bool) (xs : List Item) → count_by p (filter q xs) ≤ count_by p xs
count_by-filter p q [] = omega arith
count_by-filter p q (x ∷ xs) = count_cond p (q x) x xs (filter q xs) (count_by-filter p q xs)

pub one_more : (count more : ℕ) → count ≤ more → (w : Item) → IsNumbered count w → IsNumbered more w
one_more count more below w h = (h.0, omega (arith, below, h.1))

pub empty_is_mail : EmptyIsMail
empty_is_mail limits count = record {
  numbered = All-nil (IsNumbered count);
  ordered = λ i j d less below. absurd (omega arith);
  apart = λ i j d less below. absurd (omega arith);
  fits = omega arith;
  fits_each = λ destination. omega arith;
  spelt = All-nil IsSpelt;
}

pub more_is_mail : MoreIsMail
more_is_mail count more m below h = record {
  numbered = All-weaker (IsNumbered count) (IsNumbered more) (one_more count more below) m.items h.numbered;
  ordered = h.ordered;
  apart = h.apart;
  fits = h.fits;
  fits_each = h.fits_each;
  spelt = h.spelt;
}

pub removal_is_mail : RemovalIsMail
removal_is_mail count m test h = record {
  numbered = All-filter (λ w. not (test w)) (IsNumbered count) m.items h.numbered;
  ordered = AllPairs-filter IsBefore (λ w. not (test w)) m.items h.ordered;
  apart = AllPairs-filter (λ a b. same_key b.key a.key ≡ false) (λ w. not (test w)) m.items h.apart;
  fits = omega (arith, length-filter (λ w. not (test w)) m.items, count_by-le-length (λ w. not (test w)) m.items, h.fits);
  fits_each = λ destination. omega (arith, count_by-filter (is_to destination) (λ w. not (test w)) m.items, h.fits_each destination);
  spelt = All-filter (λ w. not (test w)) IsSpelt m.items h.spelt;
}

-- what a new item must be for the mail to take it
record IsNew (count : ℕ) (m : Mailed) (w : Item) : Type 0 where
  number : w.number ≡ count + 1
  alone : All (λ o. same_key w.key o.key ≡ false) m.items
  none : full_refusal (with_item m w) w.key.destination ≡ None
  spelt : IsSpelt w

not_some : (b : Bool) (fault : MailFault) → (if b then Some fault else None) ≡ None → b ≡ false
not_some true fault h = cc
not_some false fault h = refl

pub at_most : (most n : ℕ) → nat_lt most n ≡ false → n ≤ most
at_most most n h = grind (arith, nat_tests)

crowd_if : (b : Bool) (room in_all : ℕ) → option_or (refused_if b MailboxFull) (refused_if (nat_lt room in_all) CentreFull) ≡ None → (b ≡ false) × (in_all ≤ room)
crowd_if true room in_all h = cc
crowd_if false room in_all h = (refl, at_most room in_all (not_some (nat_lt room in_all) CentreFull h))

not_crowded : (room for_one in_all : ℕ) → crowd_refusal room for_one in_all ≡ None → (for_one ≤ most_for_one) × (in_all ≤ room)
not_crowded room for_one in_all h =
    let e = crowd_if (nat_lt most_for_one for_one) room in_all h in
    (at_most most_for_one for_one e.0, e.1)

not_over : (most n : ℕ) → n ≤ most → nat_lt most n ≡ false
not_over most n h = grind (arith, nat_tests)

-- where so many have their places, fewer have
pub fewer_fit : (room a b c d : ℕ) → crowd_refusal room a b ≡ None → c ≤ a → d ≤ b → None ≡ crowd_refusal room c d
fewer_fit room a b c d h for_one in_all =
    let e = not_crowded room a b h in
    λ i. option_or (refused_if (sym (not_over most_for_one c (omega (arith, for_one, e.0))) i) MailboxFull) (refused_if (sym (not_over room d (omega (arith, in_all, e.1))) i) CentreFull)

-- the destination of the new item has room for it, and the others have no more than before
each_fits : (m : Mailed) (w : Item) (destination : ℕ) (b : Bool) → is_to destination w ≡ b → count_by (is_to destination) m.items ≤ most_for_one →
    count_by (is_to w.key.destination) (m.items ++ w ∷ []) ≤ most_for_one → count_by (is_to destination) (m.items ++ w ∷ []) ≤ most_for_one
each_fits m w destination true e old new = subst (λ d. count_by (is_to d) (m.items ++ w ∷ []) ≤ most_for_one) (same_by_test w.key.destination destination e) new
each_fits m w destination false e old new =
    let sum : count_by (is_to destination) (m.items ++ w ∷ []) ≡ count_by (is_to destination) m.items + weight (is_to destination w) = sum_by_push (λ x. cond (is_to destination x) 1 0) m.items w in
    let nothing : weight (is_to destination w) ≡ 0 = ap weight e in
    omega (arith, sum, nothing, old)

with_new : (count : ℕ) (m : Mailed) (w : Item) → IsMail count m → IsNew count m w → IsMail (count + 1) (with_item m w)
with_new count m w h new =
    let crowd = not_crowded m.room _ _ new.none in
    record {
      numbered = All-push (IsNumbered (count + 1)) m.items w
          (All-weaker (IsNumbered count) (IsNumbered (count + 1)) (one_more count (count + 1) (omega arith)) m.items h.numbered)
          (omega (arith, new.number), omega (arith, new.number));
      ordered = all_pairs_push IsBefore m.items w h.ordered (λ k d below. let p = All-get_or (IsNumbered count) m.items k d below h.numbered in
          is_before (get_or m.items k d).number w.number (get_or m.items k d).key w.key (omega (arith, p.1, new.number)));
      apart = all_pairs_push (λ a b. same_key b.key a.key ≡ false) m.items w h.apart (λ k d below. All-get_or (λ o. same_key w.key o.key ≡ false) m.items k d below new.alone);
      fits = crowd.1;
      fits_each = λ destination. each_fits m w destination (is_to destination w) refl (h.fits_each destination) crowd.0;
      spelt = All-push IsSpelt m.items w h.spelt new.spelt;
    }

pub or_none : (f g : Option MailFault) → option_or f g ≡ None → (f ≡ None) × (g ≡ None)
or_none (Some fault) g h = cc
or_none None g h = (refl, h)

not_any : (p : Item → Bool) (xs : List Item) → list_any p xs ≡ false → All (λ x. p x ≡ false) xs
not_any p [] h = All-nil (λ x. p x ≡ false)
not_any p (x ∷ xs) h = let e = neither (p x) (list_any p xs) h in All-cons (λ y. p y ≡ false) x xs e.0 (not_any p xs e.1)

-- an item that is left does not pass the test
pub drops : (test : Item → Bool) (m : Mailed) → All (λ o. test o ≡ false) (without test m).items
drops test m = All-weaker (λ o. not (test o) ≡ true) (λ o. test o ≡ false) (λ o e. not_true (test o) e) (filter (λ w. not (test w)) m.items) (filter_passes (λ w. not (test w)) m.items)

pub post_is_mail : PostIsMail
post_is_mail s count m w h number spelt none =
    let a = or_none (unknown_refusal (rule_of s w.key.destination)) _ none in
    let b = or_none (absent_refusal s w.key.source) _ a.1 in
    let c = or_none (busy_refusal m w.key) (full_refusal (posted m w) w.key.destination) b.1 in
    let alone : All (λ o. same_key w.key o.key ≡ false) m.items = not_any (is_at w.key) m.items (not_some (holds m w.key) ReferenceBusy c.0) in
    with_new count m w h (record { number = number; alone = alone; none = c.1; spelt = spelt })

-- an item that has a place has a key of its own
pub not_taken : (m : Mailed) (w : Item) → restore_refusal m w ≡ None → holds m w.key ≡ false
not_taken m w none = not_some (holds m w.key) ReferenceBusy (or_none (busy_refusal m w.key) (full_refusal (posted m w) w.key.destination) none).0

pub report_is_mail : ReportIsMail
report_is_mail s count m e status w h number at spelt none =
    let a = or_none (unknown_refusal (rule_of s e.destination)) _ none in
    let b = or_none (absent_refusal s e.source) _ a.1 in
    let c = or_none (missing_refusal m (answered e Message)) (full_refusal (reported m e status w) e.destination) b.1 in
    let left : Mailed = without (is_ended_by e status) m in
    let alone : All (λ o. same_key w.key o.key ≡ false) left.items = All-weaker (λ o. is_ended_by e status o ≡ false) (λ o. same_key w.key o.key ≡ false)
    (λ o ended. subst (λ k. same_key k o.key ≡ false) (sym at) (neither (is_reported e status o) _ ended).1) left.items (drops (is_ended_by e status) m) in
    let full : full_refusal (with_item left w) w.key.destination ≡ None = ap (λ k. full_refusal (with_item left w) k.destination) at ∙ c.1 in
    with_new count left w (removal_is_mail count m (is_ended_by e status) h) (record { number = number; alone = alone; none = full; spelt = spelt })

-- The rows of the mail, taken one after another, give the mail.
use Rattle.std.proofs.Common.{◌≡◌, ℕ, ◌<◌, ◌≤◌, true, false, cond, List, [], ◌∷◌, ◌++◌, length, Option, Some, refl, sym, ap, subst, ◌∙◌, append_assoc, arith}
use Rattle.std.specs.Prelude.{not, map as each, count_by}
use Rattle.std.specs.List.{All, AllPairs}
use Rattle.std.specs.Ordering.{is_lt}
use Rattle.std.proofs.lemmas.Bool.{lt-ltb, le-leb}
use Rattle.std.proofs.lemmas.List.{append-nil, length-append}
use Rattle.std.proofs.lemmas.List.Elements.{All-nil, All-cons, All-head, All-tail, All-weaker}
use Rattle.std.proofs.lemmas.List.Folds.{list_any_none}
use Rattle.std.proofs.lemmas.List.Sums.{list_all-from_AllPass, sum_by-append, sum_by-cons}
use Rattle.base.proofs.Bools.{and_is_true}
use Rattle.base.proofs.Numbers.{same_test}
use Rattle.mailbox.specs.Values.{Item, Mailed}
use Rattle.mailbox.specs.Sound.{IsMail, IsSpelt, IsNumbered}
use Rattle.mailbox.specs.Order.{IsBefore, named, named_cmp}
use Rattle.mailbox.specs.Refusals.{most_for_one}
use Rattle.mailbox.specs.Item.{same_key, is_to, is_at}
use Rattle.mailbox.proofs.Lists.{pairs_head, pairs_tail}
use Rattle.centre_core.specs.State.{State}
use Rattle.image_rows.specs.Rows.{Header, MailRow}
use Rattle.image_rows.specs.Loading.{◌>>=◌, Loading, row_taken, all_taken, radios_done, mail_may, taken_mail}
use Rattle.image_rows.proofs.Rules.{at}

module _ {X : Type 0} where
  -- what holds of all holds of the one after these
  pub all_at : (P : X → Type 0) (xs ys : List X) (y : X) → All P (xs ++ y ∷ ys) → P y
  all_at P [] ys y all = All-head P y ys all
  all_at P (x ∷ xs) ys y all = all_at P xs ys y (All-tail P x (xs ++ y ∷ ys) all)

  -- each of these comes before it
  pub all_before : (R : X → X → Type 0) (xs ys : List X) (y : X) → AllPairs R (xs ++ y ∷ ys) → All (λ x. R x y) xs
  all_before R [] ys y pairs = All-nil (λ x. R x y)
  all_before R (x ∷ xs) ys y pairs =
      All-cons (λ x. R x y) x xs (all_at (R x) xs ys y (pairs_head R x (xs ++ y ∷ ys) pairs)) (all_before R xs ys y (pairs_tail R x (xs ++ y ∷ ys) pairs))

abbrev pub with_mail : State → List Item → State
with_mail s items = record s { mail = record { room = s.mail.room; items = items } }

-- one of those for its destination is left to come
room_left : (most : ℕ) (w : Item) (xs ys : List Item) → count_by (is_to w.key.destination) (xs ++ w ∷ ys) ≤ most → count_by (is_to w.key.destination) xs < most
room_left most w xs ys few =
    let weight = λ (x : Item). cond (is_to w.key.destination x) 1 0 in
    let parts = sum_by-append weight xs (w ∷ ys) in
    let last = sum_by-cons weight w ys in
    let one : weight w ≡ 1 = ap (λ b. cond b 1 0) (same_test w.key.destination) in
    omega (arith, few, parts, last, one)

-- the items that are left
pub mail_taken : (h : Header) (s : State) (m : Mailed) (ws : List Item) → radios_done h s ≡ true → h.mail ≡ length m.items → IsMail s.count m → s.mail.items ++ ws ≡ m.items
    → all_taken (at h s) (each MailRow ws) ≡ Some (at h (with_mail s m.items))
unfolding row_taken
mail_taken h s m [] placed stated mail is = ap (λ (l : List Item). Some (at h (with_mail s l))) (sym (append-nil s.mail.items) ∙ is)
mail_taken h s m (w ∷ ws) placed stated mail is =
    let old = s.mail.items in
    let fewer : length old < h.mail = let a = length-append old (w ∷ ws) in let b = ap length is in omega (arith, a, b, stated) in
    let number = all_at (IsNumbered s.count) old ws w (subst (All (IsNumbered s.count)) (sym is) mail.numbered) in
    let before = list_all-from_AllPass (λ o. is_lt (named_cmp (named o) (named w))) old
    (All-weaker (λ o. IsBefore o w) (λ o. is_lt (named_cmp (named o) (named w)) ≡ true) (λ o less. ap is_lt less) old
    (all_before IsBefore old ws w (subst (AllPairs IsBefore) (sym is) mail.ordered))) in
    let free = list_any_none (is_at w.key) old (all_before (λ a b. same_key b.key a.key ≡ false) old ws w (subst (AllPairs (λ a b. same_key b.key a.key ≡ false)) (sym is) mail.apart)) in
    let room = room_left most_for_one w old ws (subst (λ (l : List Item). count_by (is_to w.key.destination) l ≤ most_for_one) (sym is) (mail.fits_each w.key.destination)) in
    let spelt = all_at IsSpelt old ws w (subst (All IsSpelt) (sym is) mail.spelt) in
    let may : mail_may h s w ≡ true =
    and_is_true _ _ (and_is_true _ _
    (and_is_true _ _ (and_is_true _ _
    (and_is_true _ _ (and_is_true _ _ placed (lt-ltb _ _ fewer)) (and_is_true _ _ (lt-ltb _ _ number.0) (le-leb _ _ number.1))) before)
    (ap not free)) (lt-ltb _ _ room)) spelt.head in
    let n : State = taken_mail s w in
    let here : row_taken (at h s) (MailRow w) ≡ Some (at h n) = rw may refl in
    ap (λ (r : Option Loading). r >>= λ n. all_taken n (each MailRow ws)) here
    ∙ mail_taken h n m ws placed stated mail (append_assoc old (w ∷ []) ws ∙ is)

-- Whether an item may come, as the mail states it.
use Rattle.std.proofs.Common.{◌≡◌, ℕ, ◌+◌, ◌<◌, ◌≤◌, Bool, true, false, cond, List, [], ◌∷◌, ◌++◌, length, Some, None, refl, sym, ap, ◌∙◌, arith}
use mathlib.Core.Bool.{false≢true}
use Rattle.std.specs.Prelude.{◌&&◌, not, nat_lt, count_by, IsTrue}
use Rattle.std.specs.List.{All, list_all}
use Rattle.std.specs.Option.{is_none, option_or}
use Rattle.std.specs.Ordering.{is_lt}
use Rattle.std.specs.declared.cmp.Ordering.{Ordering}
use Rattle.std.specs.declared.cmp.Ordering.TheVariants.{Less}
use Rattle.std.proofs.lemmas.Bool.{ltb-true, ltb-false, lt-ltb, le-ltb}
use Rattle.std.proofs.lemmas.List.{length-append}
use Rattle.std.proofs.lemmas.List.Elements.{All-head, All-tail, All-nil, All-cons}
use Rattle.std.proofs.lemmas.List.Sums.{sum_by_push}
use Rattle.base.proofs.Bools.{with_true, is_less, first_true, second_true, and_is_true}
use Rattle.base.proofs.Numbers.{same_test}
use Rattle.mailbox.specs.declared.fault.MailFault.TheVariants.{ReferenceBusy}
use Rattle.mailbox.specs.Values.{Item, Mailed}
use Rattle.mailbox.specs.Sound.{is_as_named}
use Rattle.mailbox.specs.Mail.{holds, with_item}
use Rattle.mailbox.specs.Order.{ComesLast, named, named_cmp}
use Rattle.mailbox.specs.Refusals.{most_for_one, crowd_refusal, full_refusal, restore_refusal}
use Rattle.mailbox.specs.Item.{is_to}
use Rattle.centre_core.specs.State.{State}
use Rattle.image_rows.specs.Rows.{Header}
use Rattle.image_rows.specs.Loading.{radios_done, is_numbered, mail_may, before_place}
use Rattle.image_rows.specs.Held.{IsHeld}

-- ---- all come before

pub all_less : (f : Item → Ordering) (ws : List Item) → list_all (λ o. is_lt (f o)) ws ≡ true → All (λ o. f o ≡ Less) ws
all_less f [] h = All-nil (λ o. f o ≡ Less)
all_less f (w ∷ ws) h = All-cons (λ o. f o ≡ Less) w ws (is_less _ (first_true _ _ h)) (all_less f ws (second_true (is_lt (f w)) _ h))

less_all : (f : Item → Ordering) (ws : List Item) → All (λ o. f o ≡ Less) ws → list_all (λ o. is_lt (f o)) ws ≡ true
less_all f [] all = refl
less_all f (w ∷ ws) all = and_is_true _ _ (ap is_lt (All-head (λ o. f o ≡ Less) w ws all)) (less_all f ws (All-tail (λ o. f o ≡ Less) w ws all))

pub last_stated : (f : Item → Ordering) (ws : List Item) (r : Bool) → (IsTrue r → All (λ o. f o ≡ Less) ws) → (All (λ o. f o ≡ Less) ws → IsTrue r) → r ≡ list_all (λ o. is_lt (f o)) ws
last_stated f ws true to from = sym (less_all f ws (to refl))
last_stated f ws false to from =
    elim (list_all (λ o. is_lt (f o)) ws) as (λ b. list_all (λ o. is_lt (f o)) ws ≡ b → false ≡ b) [
      | true ↦ λ e. absurd (false≢true (from (all_less f ws e)))
      | false ↦ λ e. refl
    ] refl

-- ---- there is a place

crowd_none : (room a b n : ℕ) → a ≡ n + 1 → b ≤ room → is_none (crowd_refusal room a b) ≡ nat_lt n most_for_one
crowd_none room a b n one fits =
    elim (nat_lt n most_for_one) as (λ t. nat_lt n most_for_one ≡ t → is_none (crowd_refusal room a b) ≡ t) [
      | true ↦ λ e.
          let lt = ltb-true n most_for_one e in
          let x : nat_lt most_for_one a ≡ false = le-ltb most_for_one a (omega (arith, lt, one)) in
          let y : nat_lt room b ≡ false = le-ltb room b fits in
          rw (x, y) refl
      | false ↦ λ e.
          let ge = ltb-false n most_for_one e in
          let x : nat_lt most_for_one a ≡ true = lt-ltb most_for_one a (omega (arith, ge, one)) in
          rw x refl
    ] refl

abbrev weight : ℕ → Item → ℕ
weight destination w = cond (is_to destination w) 1 0

pub place_free : (m : Mailed) (w : Item) → length m.items < m.room → is_none (restore_refusal m w) ≡ (not (holds m w.key) && nat_lt (count_by (is_to w.key.destination) m.items) most_for_one)
place_free m w room =
    let d = w.key.destination in
    let sum : count_by (is_to d) (m.items ++ w ∷ []) ≡ count_by (is_to d) m.items + weight d w = sum_by_push (weight d) m.items w in
    let one : weight d w ≡ 1 = ap (λ b. cond b 1 0) (same_test d) in
    let longer = length-append m.items (w ∷ []) in
    elim (holds m w.key) as (λ b. is_none (option_or (cond b (Some ReferenceBusy) None) (full_refusal (with_item m w) d)) ≡ (not b && nat_lt (count_by (is_to d) m.items) most_for_one)) [
      | true ↦ refl
      | false ↦ crowd_none m.room (count_by (is_to d) (m.items ++ w ∷ [])) (length (m.items ++ w ∷ [])) (count_by (is_to d) m.items) (omega (arith, sum, one)) (omega (arith, longer, room))
    ]

-- ---- the whole

pub may_by_place : (h : Header) (s : State) (w : Item) (free : Bool) → before_place h s w ≡ true → is_as_named w ≡ true →
    free ≡ (not (holds s.mail w.key) && nat_lt (count_by (is_to w.key.destination) s.mail.items) most_for_one) → free ≡ mail_may h s w
may_by_place h s w free before head is =
    let few = nat_lt (count_by (is_to w.key.destination) s.mail.items) most_for_one in
    is ∙ with_true (not (holds s.mail w.key) && few) ∙ (λ i. ((sym before i && not (holds s.mail w.key)) && few) && sym head i)

pub may_not : (h : Header) (s : State) (w : Item) → before_place h s w ≡ false → false ≡ mail_may h s w
may_not h s w before =
    let few = nat_lt (count_by (is_to w.key.destination) s.mail.items) most_for_one in
    λ i. ((sym before i && not (holds s.mail w.key)) && few) && is_as_named w

pub few_yet : (h : Header) (s : State) (w : Item) → IsHeld h s → before_place h s w ≡ true → length s.mail.items < s.mail.room
few_yet h s w held before =
    let few : length s.mail.items < h.mail = ltb-true _ _ (second_true (radios_done h s) _ (first_true _ _ (first_true _ _ before))) in
    let room = held.mail in
    omega (arith, few, room)

pub comes_last_of : (h : Header) (s : State) (w : Item) → mail_may h s w ≡ true → ComesLast s.mail w.number w.key
comes_last_of h s w may =
    let before : before_place h s w ≡ true = first_true _ _ (first_true _ _ (first_true _ _ may)) in
    all_less (λ o. named_cmp (named o) (named w)) s.mail.items (second_true (radios_done h s && nat_lt (length s.mail.items) h.mail && is_numbered s.count w.number) _ before)

-- What the calls ask of the items of one destination, and what they make of all.
use Rattle.std.proofs.Common.{◌≡◌, ℕ, ◌+◌, Bool, true, false, cond, List, [], ◌∷◌, ◌++◌, length, refl, ap, sym, ◌∙◌, arith}
use Rattle.std.specs.Prelude.{◌==◌, not, ◌&&◌, ◌||◌, count_by}
use Rattle.std.specs.List.{All, AllPairs, filter, find, list_all, list_any}
use Rattle.std.proofs.lemmas.Bool.{false≢true, false_from_ne_true, not-true, and_parts, and_right}
use Rattle.std.proofs.lemmas.List.Elements.{All-weaker, filter_agree, filter-append}
use Rattle.std.proofs.lemmas.List.{append-nil, length-append}
use Rattle.std.proofs.lemmas.List.Folds.{list_any-append}
use Rattle.std.proofs.lemmas.List.Sums.{length-filter, sum_by_push}
use Rattle.base.proofs.Bools.{or_false}
use Rattle.base.proofs.Numbers.{same_test}
use Rattle.mailbox.specs.declared.key.Kind.TheVariants.{Message, Report}
use Rattle.mailbox.specs.declared.key.Key.{Key}
use Rattle.mailbox.specs.declared.key.Envelope.{Envelope}
use Rattle.mailbox.specs.Values.{Item, Mailed}
use Rattle.mailbox.specs.Item.{same_kind, same_key, key_of, answered, is_at, is_to, is_reported, ends_request, request_of, is_ended_by}
use Rattle.mailbox.specs.Mail.{holds, without, with_item, posted, reported, waiting}
use Rattle.mailbox.specs.Judged.{waits_alone}
use Rattle.mailbox.proofs.Lists.{filter_within, filter_turned, filter_twice, filter_alike, any_within, find_within, none_passes, any_of_none, filter_all, some_pass, pairs_head, pairs_tail}
use Rattle.mailbox.specs.Refusals.{crowd_refusal, full_refusal}
use Rattle.mailbox.proofs.Keys.{key_turned, key_itself, key_exact, at_is_to}

abbrev AreApart : List Item → Type 0
AreApart ws = AllPairs (λ a b. same_key b.key a.key ≡ false) ws

pub holds_waiting : (m : Mailed) (k : Key) → list_any (is_at k) (waiting m k.destination) ≡ holds m k
holds_waiting m k = any_within (is_at k) (is_to k.destination) (at_is_to k) m.items

pub count_waiting : (m : Mailed) (destination : ℕ) → length (waiting m destination) ≡ count_by (is_to destination) m.items
count_waiting m destination = length-filter (is_to destination) m.items

-- what is at a key and passes a test is for the key's destination
at_and : (k : Key) (test : Item → Bool) (w : Item) → (is_at k w && test w) ≡ true → is_to k.destination w ≡ true
at_and k test w h = at_is_to k w (and_parts (is_at k w) (test w) h).0

pub reported_waiting : (m : Mailed) (e : Envelope) (status : ℕ) → length (filter (is_reported e status) (waiting m e.source)) ≡ length (filter (is_reported e status) m.items)
reported_waiting m e status = ap length (filter_within (is_reported e status) (is_to e.source) (at_and (answered e Message) (λ w. ends_request status (request_of w.pdu))) m.items)

pub at_waiting : (m : Mailed) (k : Key) → length (filter (is_at k) (waiting m k.destination)) ≡ length (filter (is_at k) m.items)
at_waiting m k = ap length (filter_within (is_at k) (is_to k.destination) (at_is_to k) m.items)

pub left_waiting : (m : Mailed) (e : Envelope) (status : ℕ) → length (filter (λ w. not (is_ended_by e status w)) (waiting m e.destination)) ≡ count_by
    (is_to e.destination) (filter (λ w. not (is_ended_by e status w)) m.items)
left_waiting m e status =
    ap length (filter_turned (λ w. not (is_ended_by e status w)) (is_to e.destination) m.items)
    ∙ length-filter (is_to e.destination) (filter (λ w. not (is_ended_by e status w)) m.items)

-- a message that is reported on is no report
no_report : (e : Envelope) (status : ℕ) (w : Item) → is_reported e status w ≡ true → is_at (key_of e Report) w ≡ false
no_report e status w h =
    let at : is_at (answered e Message) w ≡ true = (and_parts (is_at (answered e Message) w) (ends_request status (request_of w.pdu)) h).0 in
    ap (same_key (key_of e Report)) (sym (key_exact (answered e Message) w.key at)) ∙ and_right _ (same_kind Report Message) refl

one_counted : (r a : Bool) (w : Item) (ls rs bs ws : List Item) → (r ≡ true → a ≡ false) → length ls + length rs + length bs ≡ length ws →
    length (cond (not (r || a)) (w ∷ ls) ls) + length (cond r (w ∷ rs) rs) + length (cond a (w ∷ bs) bs) ≡ length (w ∷ ws)
one_counted true true w ls rs bs ws h e = absurd (false≢true (sym (h refl)))
one_counted true false w ls rs bs ws h e = omega (arith, e)
one_counted false true w ls rs bs ws h e = omega (arith, e)
one_counted false false w ls rs bs ws h e = omega (arith, e)

-- each item is left, is a message that ends, or is the report before
pub all_counted : (e : Envelope) (status : ℕ) (ws : List Item) →
    length (filter (λ w. not (is_ended_by e status w)) ws) + length (filter (is_reported e status) ws) + length
    (filter (is_at (key_of e Report)) ws) ≡ length ws
all_counted e status [] = refl
all_counted e status (w ∷ ws) = one_counted (is_reported e status w) (is_at (key_of e Report) w) w _ _ _ ws (no_report e status w) (all_counted e status ws)

module _ (k : Key) (test : Item → Bool) where
  no_more : (w : Item) (ws : List Item) → is_at k w ≡ true → AreApart (w ∷ ws) → All (λ o. is_at k o ≡ false) ws
  no_more w ws at apart =
      All-weaker (λ o. same_key o.key w.key ≡ false) (λ o. is_at k o ≡ false) (λ o other. ap (λ j. same_key j o.key) (key_exact k w.key at) ∙ key_turned w.key o.key ∙ other) ws
      (pairs_head (λ a b. same_key b.key a.key ≡ false) w ws apart)

  one_goes : (w : Item) (ws : List Item) (a b : Bool) → is_at k w ≡ a → AreApart (w ∷ ws) → ((a && b) || list_any (λ o. is_at k o && test o) ws) ≡ true
      → (list_any (λ o. is_at k o && test o) ws ≡ true → filter (λ o. not (is_at k o)) ws ≡ filter (λ o. not (is_at k o && test o)) ws)
      → cond (not a) (w ∷ filter (λ o. not (is_at k o)) ws) (filter (λ o. not (is_at k o)) ws) ≡ cond (not (a && b))
      (w ∷ filter (λ o. not (is_at k o && test o)) ws) (filter (λ o. not (is_at k o && test o)) ws)
  one_goes w ws false b at apart some rest = ap (λ os. w ∷ os) (rest some)
  one_goes w ws true true at apart some rest =
      filter_alike (λ o. not (is_at k o)) (λ o. not (is_at k o && test o)) ws
      (All-weaker (λ o. is_at k o ≡ false) (λ o. not (is_at k o) ≡ not (is_at k o && test o)) (λ o f. ap not f ∙ sym (ap (λ c. not (c && test o)) f)) ws (no_more w ws at apart))
  one_goes w ws true false at apart some rest =
      let none : list_any (λ o. is_at k o && test o) ws ≡ false =
      any_of_none (λ o. is_at k o && test o) ws (All-weaker (λ o. is_at k o ≡ false) (λ o. (is_at k o && test o) ≡ false) (λ o f. ap (λ c. c && test o) f) ws (no_more w ws at apart)) in
      absurd (false≢true (sym none ∙ some))

  one_gone : (ws : List Item) → AreApart ws → list_any (λ o. is_at k o && test o) ws ≡ true → filter (λ o. not (is_at k o)) ws ≡ filter (λ o. not (is_at k o && test o)) ws
  one_gone [] apart some = refl
  one_gone (w ∷ ws) apart some = one_goes w ws (is_at k w) (test w) refl apart some (one_gone ws (pairs_tail (λ a b. same_key b.key a.key ≡ false) w ws apart))

  -- of the items, of which the one at the key passes the test: it goes
  pub removed_if : (m : Mailed) → AreApart m.items → list_any (λ o. is_at k o && test o) m.items ≡ true → without (is_at k) m ≡ without (λ o. is_at k o && test o) m
  removed_if m apart found = λ i. record { room = m.room; items = one_gone m.items apart found i }

  -- where it does not, nothing goes
  pub unchanged_if : (m : Mailed) → list_any (λ o. is_at k o && test o) m.items ≡ false → m ≡ without (λ o. is_at k o && test o) m
  unchanged_if m all = λ i. record { room = m.room; items = sym (filter_all (λ o. is_at k o && test o) m.items (none_passes (λ o. is_at k o && test o) m.items all)) i }

  -- so too of those for the key's destination
  pub removed_some : (m : Mailed) → AreApart m.items → list_any (λ o. is_at k o && test o) (waiting m k.destination) ≡ true → without (is_at k) m ≡ without (λ o. is_at k o && test o) m
  removed_some m apart some =
      let found : list_any (λ o. is_at k o && test o) m.items ≡ true = sym (any_within (λ o. is_at k o && test o) (is_to k.destination) (at_and k test) m.items) ∙ some in
      removed_if m apart found

  pub removed_none : (m : Mailed) → list_any (λ o. is_at k o && test o) (waiting m k.destination) ≡ false → m ≡ without (λ o. is_at k o && test o) m
  removed_none m none =
      let all : list_any (λ o. is_at k o && test o) m.items ≡ false = sym (any_within (λ o. is_at k o && test o) (is_to k.destination) (at_and k test) m.items) ∙ none in
      unchanged_if m all

-- a message under a key of its own takes no item's place
pub posted_alone : (m : Mailed) (w : Item) → holds m w.key ≡ false → with_item (without (is_at w.key) m) w ≡ posted m w
posted_alone m w alone = λ i. record { room = m.room; items = filter_all (is_at w.key) m.items (none_passes (is_at w.key) m.items alone) i ++ w ∷ [] }

neither_one : (a b : Bool) → (not a && not b) ≡ not (b || a)
neither_one true true = refl
neither_one true false = refl
neither_one false true = refl
neither_one false false = refl

-- to put the report and then to end the message is what a report does
pub reported_then : (m : Mailed) (e : Envelope) (status : ℕ) (w : Item) → w.key ≡ key_of e Report → without (is_reported e status) (with_item (without (is_at w.key) m) w) ≡ reported m e status w
reported_then m e status w is =
    let at : is_at (key_of e Report) w ≡ true = ap (same_key (key_of e Report)) is ∙ key_itself (key_of e Report) in
    let stays : is_reported e status w ≡ false = false_from_ne_true (is_reported e status w) (λ h. false≢true (sym (no_report e status w h) ∙ at)) in
    let first : filter (λ o. not (is_reported e status o)) (filter (λ o. not (is_at w.key o)) m.items) ≡ filter (λ o. not (is_ended_by e status o)) m.items =
    filter_twice (λ o. not (is_reported e status o)) (λ o. not (is_at w.key o)) m.items
    ∙ filter_agree (λ o. not (is_at w.key o) && not (is_reported e status o)) (λ o. not (is_ended_by e status o))
    (λ o. ap (λ k. not (is_at k o) && not (is_reported e status o)) is ∙ neither_one (is_at (key_of e Report) o) (is_reported e status o)) m.items in
    let all : filter (λ o. not (is_reported e status o)) (filter (λ o. not (is_at w.key o)) m.items ++ w ∷ []) ≡ filter (λ o. not (is_ended_by e status o)) m.items ++ w ∷ [] =
    filter-append (λ o. not (is_reported e status o)) (filter (λ o. not (is_at w.key o)) m.items) (w ∷ [])
    ∙ (λ i. first i ++ cond (not (stays i)) (w ∷ []) []) in
    λ i. record { room = m.room; items = all i }

-- to put the report ends no message, and none that the report ends goes
pub still_ends : (m : Mailed) (e : Envelope) (status : ℕ) (w : Item) → w.key ≡ key_of e Report →
    list_any (is_reported e status) (with_item (without (is_at w.key) m) w).items ≡ list_any (is_reported e status) m.items
still_ends m e status w is =
    let at : is_at (key_of e Report) w ≡ true = ap (same_key (key_of e Report)) is ∙ key_itself (key_of e Report) in
    let stays : is_reported e status w ≡ false = false_from_ne_true (is_reported e status w) (λ h. false≢true (sym (no_report e status w h) ∙ at)) in
    list_any-append (is_reported e status) (filter (λ o. not (is_at w.key o)) m.items) (w ∷ [])
    ∙ (λ i. any_within (is_reported e status) (λ o. not (is_at w.key o)) (λ o h. ap (λ k. not (is_at k o)) is ∙ ap not (no_report e status o h)) m.items i || (stays i || false))
    ∙ or_false (list_any (is_reported e status) m.items)

-- to put the report for another leaves alone what is alone for its source
pub still_alone : (m : Mailed) (e : Envelope) (w : Item) → w.key ≡ key_of e Report →
    (not (e.destination == e.source) && waits_alone m (answered e Message)) ≡ true →
    waits_alone (with_item (without (is_at w.key) m) w) (answered e Message) ≡ true
still_alone m e w is alone =
    let k : Key = answered e Message in
    let both = and_parts (not (e.destination == e.source)) (waits_alone m k) alone in
    let apart : is_to e.source w ≡ false = ap (λ (j : Key). j.destination == e.source) is ∙ not-true (e.destination == e.source) both.0 in
    let left : filter (is_to e.source) (filter (λ o. not (is_at w.key o)) m.items ++ w ∷ []) ≡ filter (λ o. not (is_at w.key o)) (waiting m e.source) =
    filter-append (is_to e.source) (filter (λ o. not (is_at w.key o)) m.items) (w ∷ [])
    ∙ (λ i. filter (is_to e.source) (filter (λ o. not (is_at w.key o)) m.items) ++ cond (apart i) (w ∷ []) [])
    ∙ append-nil (filter (is_to e.source) (filter (λ o. not (is_at w.key o)) m.items))
    ∙ filter_turned (is_to e.source) (λ o. not (is_at w.key o)) m.items in
    ap (list_all (is_at k)) left ∙ some_pass (is_at k) (λ o. not (is_at w.key o)) (waiting m e.source) both.1

-- what a report ends is for its source
pub ends_waiting : (m : Mailed) (e : Envelope) (status : ℕ) → list_any (is_reported e status) (waiting m e.source) ≡ list_any (is_reported e status) m.items
ends_waiting m e status = any_within (is_reported e status) (is_to e.source) (at_and (answered e Message) (λ w. ends_request status (request_of w.pdu))) m.items

pub found_waiting : (m : Mailed) (k : Key) → find (is_at k) (waiting m k.destination) ≡ find (is_at k) m.items
found_waiting m k = find_within (is_at k) (is_to k.destination) (at_is_to k) m.items

-- how many wait for its destination, and in all, with one more item
pub one_more_waits : (m : Mailed) (w : Item) → crowd_refusal m.room (count_by (is_to w.key.destination) m.items + 1) (length m.items + 1) ≡ full_refusal (posted m w) w.key.destination
one_more_waits m w =
    let d : ℕ = w.key.destination in
    let itself : is_to d w ≡ true = same_test d in
    let sum : count_by (is_to d) (m.items ++ w ∷ []) ≡ count_by (is_to d) m.items + cond (is_to d w) 1 0 = sum_by_push (λ x. cond (is_to d x) 1 0) m.items w in
    let counted : count_by (is_to d) m.items + 1 ≡ count_by (is_to d) (m.items ++ w ∷ []) = sym (sum ∙ ap (λ b. count_by (is_to d) m.items + cond b 1 0) itself) in
    λ i. crowd_refusal m.room (counted i) (sym (length-append m.items (w ∷ [])) i)

-- What is known once a centre is closed.
use Rattle.std.proofs.Common.{◌≡◌, ℕ, zero, suc, ◌≤◌, List, [], ◌∷◌, ◌++◌, length, refl, sym, ap, ◌∙◌, subst, arith, append_assoc}
use Rattle.std.specs.Prelude.{All, Contains, Some, map, slice_get, take}
use Rattle.std.specs.List.{AllByRecursion, AllZip}
use Rattle.std.proofs.lemmas.List.Elements.{All-from_recursion, recursion_from_All}
use Rattle.std.proofs.lemmas.List.{append-nil}
use mathlib.Core.List.{IsPrefix}
use Rattle.base.proofs.Options.{some_is}
use Rattle.base.proofs.Lists.{all_after, get_within}
use Rattle.snapshots.proofs.Prefixes.{prefix_trans}
use Rattle.crossbeam_channel.specs.Ends.{sends_on, receives_on}
use Rattle.centre_core.specs.State.{State}
use Rattle.station_queue.specs.declared.entry.Entry.{Entry}
use Rattle.station_queue.specs.declared.entry.Entry.TheVariants.{Ended as EndOf}
use Rattle.station_queue.specs.declared.rule.Settled.{Settled}
use Rattle.station_queue.specs.Ends.{Taking, taking, with_settled}
use Rattle.station_queue.specs.Entries.{entries_of}
use Rattle.station_queue.specs.Order.{AreAllSent, settled}
use Rattle.answers.specs.Views.{sent_of, received_of}
use Rattle.answers.specs.declared.channel.AnswerSender.{AnswerSender}
use Rattle.flusher.specs.declared.session.Ended.{Ended}
use Rattle.flusher.specs.Stages.{Sent}
use Rattle.flusher.specs.View.{FlusherView}
use Rattle.flusher.specs.Served.{IsSettled}
use Rattle.flusher.specs.Runs.{HasTakenEnds}
use Rattle.flusher.specs.Closed.{AreSessionsOf, IsClosed}
use Rattle.flusher.proofs.Borne.{are_prefix}
use Rattle.flusher.proofs.Endings.{all_taken}
use Rattle.flusher.proofs.Ordered.{settled_in_order}

-- what holds of so many of a list that they are all
pub all_of_take : {X : Type 0} (P : X → Type 0) (xs : List X) (n : ℕ) → length xs ≤ n → All P (take n xs) → All P xs
all_of_take {X} P xs n le all = subst (λ (l : List X). All P l) (whole xs n le) all
  where
    whole : (ys : List X) (m : ℕ) → length ys ≤ m → take m ys ≡ ys
    whole [] zero le = refl
    whole [] (suc m) le = refl
    whole (y ∷ ys) zero le = absurd (omega (arith, le))
    whole (y ∷ ys) (suc m) le = ap (λ l. y ∷ l) (whole ys m (omega (arith, le)))

module _ {A B : Type 0} where
  -- what holds at each place holds of the lists, and the other way round
  pub by_place : (R : A → B → Type 0) (xs : List A) (ys : List B) → length ys ≡ length xs → ((k : ℕ) (a : A) (b : B) → slice_get xs k ≡ Some a → slice_get ys k ≡ Some b → R a b) → AllZip R xs ys
  by_place R [] [] e each = tt
  by_place R [] (y ∷ ys) e each = absurd (omega (arith, e))
  by_place R (x ∷ xs) [] e each = absurd (omega (arith, e))
  by_place R (x ∷ xs) (y ∷ ys) e each = (each 0 x y refl refl, by_place R xs ys (omega (arith, e)) (λ k a b here there. each (suc k) a b here there))

  at_place : (R : A → B → Type 0) (xs : List A) (ys : List B) → AllZip R xs ys → (k : ℕ) (a : A) (b : B) → slice_get xs k ≡ Some a → slice_get ys k ≡ Some b → R a b
  at_place R [] [] all k a b here there = absurd cc
  at_place R [] (y ∷ ys) all k a b here there = absurd all
  at_place R (x ∷ xs) [] all k a b here there = absurd all
  at_place R (x ∷ xs) (y ∷ ys) all zero a b here there = subst (λ (q : A × B). R q.0 q.1) (λ i. (some_is x a here i, some_is y b there i)) all.0
  at_place R (x ∷ xs) (y ∷ ys) all (suc k) a b here there = at_place R xs ys all.1 k a b here there

  -- what holds of each of the second list
  of_second : (P : B → Type 0) (xs : List A) (ys : List B) → AllZip (λ a b. P b) xs ys → AllByRecursion P ys
  of_second P [] [] all = tt
  of_second P [] (y ∷ ys) all = absurd all
  of_second P (x ∷ xs) [] all = absurd all
  of_second P (x ∷ xs) (y ∷ ys) all = (all.0, of_second P xs ys all.1)

  -- what holds of the values of all holds of that of the item at a place
  value_at : (P : B → Type 0) (value : A → B) (xs : List A) → AllByRecursion P (map value xs) → (k : ℕ) (x : A) → slice_get xs k ≡ Some x → P (value x)
  value_at P value [] all k x e = absurd cc
  value_at P value (y ∷ xs) all zero x e = subst (λ (z : A). P (value z)) (one y x e) all.0
    where
      one : (p q : A) → Some p ≡ Some q → p ≡ q
      one p q e = cc
  value_at P value (y ∷ xs) all (suc k) x e = value_at P value xs all.1 k x e

  pub no_first : (R : A → B → Type 0) (xs : List A) (ys : List B) → AllZip R xs ys → ys ≡ [] → xs ≡ []
  no_first R [] ys all e = refl
  no_first R (x ∷ xs) [] all e = absurd all
  no_first R (x ∷ xs) (y ∷ ys) all e = absurd cc

  too_few_go : (R : A → B → Type 0) (xs : List A) (y : B) (ys : List B) → AllZip R xs (y ∷ ys) → length xs ≡ 0 → ⊥
  too_few_go R [] y ys all e = all
  too_few_go R (x ∷ xs) y ys all e = omega (arith, e)

  pub too_few : (R : A → B → Type 0) (xs : List A) (ys zs : List B) (y : B) → AllZip R xs ys → length xs ≡ 0 → ys ≡ y ∷ zs → ⊥
  too_few R xs ys zs y all e is = too_few_go R xs y zs (subst (AllZip R xs) is all) e

-- what holds of all holds of the next one
pub next_of_all : {X : Type 0} (P : X → Type 0) (xs ys all zs : List X) (x : X) → xs ++ ys ≡ all → ys ≡ x ∷ zs → All P all → P x
next_of_all {X} P xs ys all zs x split is holds = (subst (AllByRecursion P) is (all_after P xs ys (recursion_from_All P (xs ++ ys) (subst (λ (l : List X). All P l) (sym split) holds)))).0

-- the taker, once no sender or one more came back
pub none_settled : (t : Taking) → t ≡ with_settled t []
none_settled t = ap (λ l. taking t.queue t.made t.taken l t.empty) (sym (append-nil t.settled))

pub more_settled : (t u v : Taking) (old : List Settled) (one : Settled) → u ≡ with_settled t old → v ≡ with_settled u (one ∷ []) → v ≡ with_settled t (old ++ one ∷ [])
more_settled t u v old one p q = q ∙ ap (λ (w : Taking). with_settled w (one ∷ [])) p ∙ ap (λ l. taking t.queue t.made t.taken l t.empty) (append_assoc t.settled old (one ∷ []))

item_of : {X : Type 0} (P : X → Type 0) (xs : List X) → AllByRecursion P xs → (k : ℕ) (x : X) → slice_get xs k ≡ Some x → P x
item_of P [] all k x e = absurd cc
item_of {X} P (y ∷ xs) all zero x e = subst P (some_is y x e) all.0
item_of P (y ∷ xs) all (suc k) x e = item_of P xs all.1 k x e

module _ {J D : Type 0} (f : FlusherView D) (ended : List (Ended J)) (sessions : AreSessionsOf f ended) where
  -- the queue and the channels of the sessions
  pub of_the_queue : All (λ (e : Ended J). e.sender.queue ≡ f.taker.queue) ended
  of_the_queue = All-from_recursion (λ (e : Ended J). e.sender.queue ≡ f.taker.queue) ended
      (of_second (λ (e : Ended J). e.sender.queue ≡ f.taker.queue) f.senders ended
      (by_place (λ (a : AnswerSender Sent) (e : Ended J). e.sender.queue ≡ f.taker.queue) f.senders ended sessions.count
      (λ k a e here there. (sessions.each k a e here there).queue)))

  pub of_the_channels : AllZip (λ (a : AnswerSender Sent) (e : Ended J). receives_on e.receiver.channel ≡ sends_on a.channel) f.senders ended
  of_the_channels = by_place (λ (a : AnswerSender Sent) (e : Ended J). receives_on e.receiver.channel ≡ sends_on a.channel) f.senders ended
      sessions.count (λ k a e here there. (sessions.each k a e here there).channel)

  -- all ends were taken, both ends of each session were taken back, and each was compared with what is published
  pub all_closed : (base : State) (before : List Settled) (items : List Entry) → IsSettled base f → HasTakenEnds f →
      AreAllSent f.taker.taken items (before ++ map (λ (e : Ended J). settled e.sender.station e.sender.sent) ended)
      → AllZip (λ (a : AnswerSender Sent) (e : Ended J). IsPrefix (received_of e.receiver.pass) (sent_of a.pass)) f.senders ended
      → All (λ (e : Ended J). IsPrefix e.viewer f.published) ended → IsClosed base f ended
  all_closed base before items now has sent received seen = record {
    each = λ k a e here there.
        let is = (sessions.each k a e here there).station in
        let Sends : Settled → Type 0 = λ s. entries_of s.station (f.taker.taken ++ items) ≡ s.sent in
        let values : List Settled = map (λ (x : Ended J). settled x.sender.station x.sender.sent) ended in
        let mine = value_at Sends (λ (x : Ended J). settled x.sender.station x.sender.sent) ended (all_after Sends before values (recursion_from_All Sends (before ++ values) sent)) k e there in
        let last = subst (λ (n : ℕ). Contains f.taker.taken (EndOf n)) (sym is) (has k (get_within f.senders k a here)) in
        let took = all_taken e.sender.station f.taker.taken items e.sender.sent e.ended last mine in
        let got = at_place (λ (b : AnswerSender Sent) (x : Ended J). IsPrefix (received_of x.receiver.pass) (sent_of b.pass)) f.senders ended received k a e here there in
        record {
          taken = took;
          received = got;
          seen = prefix_trans e.viewer f.published f.durable
              (item_of (λ (x : Ended J). IsPrefix x.viewer f.published) ended (recursion_from_All (λ (x : Ended J). IsPrefix x.viewer f.published) ended seen) k e there) now.prefix;
          borne_out = are_prefix base f.durable 0 (received_of e.receiver.pass) (sent_of a.pass) got (now.sent k a here);
          order = settled_in_order e.sender.station f.durable f.taker.taken e.sender.sent now.order took;
        };
  }

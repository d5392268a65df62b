-- The sessions of a centre, one after another as they are made.
use Rattle.std.specs.Prelude.{All, Some, slice_get, ◌⊎◌}
use Rattle.std.specs.List.{AllByRecursion}
use Rattle.std.proofs.Common.{◌≡◌, ℕ, zero, suc, ◌+◌, ◌<◌, inl, inr, Bool, List, [], ◌∷◌, ◌++◌, length, refl, ap, sym, ◌∙◌, subst, arith, length-append}
use Rattle.std.proofs.lemmas.List.Elements.{All-from_recursion, recursion_from_All}
use Rattle.std.proofs.lemmas.Option.{slice_get_within}
use mathlib.Core.List.{IsPrefix}
use Rattle.std.specs.declared.alloc.Global.{Global}
use Rattle.base.proofs.Lists.{some_beside}
use Rattle.base.proofs.Options.{some_is}
use Rattle.centre_core.specs.Asked.{Asked}
use Rattle.centre_core.specs.State.{State}
use Rattle.centre_core.specs.History.{after}
use Rattle.centre_core.specs.Histories.{IsHistory}
use Rattle.recovery.specs.Lives.{StoreView}
use Rattle.atomic_table.specs.Seated.{TableId}
use Rattle.station_queue.specs.declared.entry.Entry.{Entry}
use Rattle.station_queue.specs.Ends.{Sending, Taking, sending}
use Rattle.answers.specs.declared.channel.AnswerSender.{AnswerSender}
use Rattle.answers.specs.Views.{sent_of}
use Rattle.flusher.specs.Stages.{Sent}
use Rattle.flusher.specs.Opened.{IsNewSession, AreNewSessions, IsNewFlusher}
use Rattle.flusher.specs.View.{FlusherView}
use Rattle.flusher.specs.Endings.{AreEnded}
use Rattle.flusher.specs.Order.{AreInOrder}
use Rattle.flusher.specs.Served.{IsSettled}
use Rattle.flusher.specs.declared.session.Session.{Session}
use Rattle.flusher.proofs.Endings.{none_ended}
use Rattle.flusher.proofs.Borne.{none_sent}
use Rattle.flusher.proofs.Ordered.{none_in_order}

-- what is at a place of a list with one more at its end
at_end : {X : Type 0} (xs : List X) (x y : X) (k : ℕ) → slice_get (xs ++ x ∷ []) k ≡ Some y → (slice_get xs k ≡ Some y) ⊎ ((k ≡ length xs) × (y ≡ x))
at_end [] x y zero h = inr (refl, cc h)
at_end [] x y (suc k) h = absurd (cc h)
at_end (z ∷ zs) x y zero h = inl h
at_end (z ∷ zs) x y (suc k) h = elim (at_end zs x y k h) [ inl q ↦ inl q | inr q ↦ inr (ap suc q.0, q.1) ]

-- the item after these
at_place : {X : Type 0} (xs : List X) (x : X) (ys : List X) → slice_get (xs ++ x ∷ ys) (length xs) ≡ Some x
at_place [] x ys = refl
at_place (z ∷ zs) x ys = at_place zs x ys

-- the station whose turn it is
pub this_station : (q : TableId) (done : List Sending) (x : Sending) (rest all : List Sending) → done ++ x ∷ rest ≡ all
    → ((k : ℕ) → k < length all → slice_get all k ≡ Some (sending q (k + 1) [])) → x ≡ sending q (length done + 1) []
this_station q done x rest all split each =
    let at = subst (λ l. slice_get l (length done) ≡ Some x) split (at_place done x rest) in
    some_is x (sending q (length done + 1) []) (sym at ∙ each (length done) (slice_get_within all (length done) x at))

but_last : {X : Type 0} (P : X → Type 0) (xs : List X) (x : X) → AllByRecursion P (xs ++ x ∷ []) → AllByRecursion P xs × P x
but_last P [] x h = (tt, h.0)
but_last P (y ∷ ys) x h = let r = but_last P ys x h.1 in ((h.0, r.0), r.1)

-- what holds of all holds of those before the last, and of the last
pub all_but_last : {X : Type 0} (P : X → Type 0) (all xs : List X) (x : X) → all ≡ xs ++ x ∷ [] → All P all → All P xs × P x
all_but_last P all xs x is h = let r = but_last P xs x (recursion_from_All P (xs ++ x ∷ []) (subst (All P) is h)) in (All-from_recursion P xs r.0, r.1)

-- one session more
one_more_at_end : {J : Type 0} (q : TableId) (senders : List (AnswerSender Sent)) (sessions : List (Session J)) (a : AnswerSender Sent) (s : Session J)
    → AreNewSessions q senders sessions → IsNewSession q (length senders + 1) a s → AreNewSessions q (senders ++ a ∷ []) (sessions ++ s ∷ [])
one_more_at_end {J} q senders sessions a s h new = record {
  count = omega (arith, length-append sessions (s ∷ []), length-append senders (a ∷ []), h.count);
  each = λ k b t here there. elim (at_end senders a b k here) [
    | inl x ↦ elim (at_end sessions s t k there) [
      | inl y ↦ h.each k b t x y
      | inr y ↦ absurd (omega (arith, slice_get_within senders k b x, y.0, h.count))
    ]
    | inr x ↦ elim (at_end sessions s t k there) [
      | inl y ↦ absurd (omega (arith, slice_get_within sessions k t y, x.0, h.count))
      | inr y ↦ subst (λ n. IsNewSession q (n + 1) b t) (sym x.0)
          (subst (λ (w : Session J). IsNewSession q (length senders + 1) b w) (sym y.1)
          (subst (λ (w : AnswerSender Sent). IsNewSession q (length senders + 1) w s) (sym x.1) new))
    ]
  ];
}

pub one_more_session : {J : Type 0} (q : TableId) (senders more : List (AnswerSender Sent)) (sessions also_more : List (Session J)) (a : AnswerSender Sent) (s : Session J)
    → more ≡ senders ++ a ∷ [] → also_more ≡ sessions ++ s ∷ [] → AreNewSessions q senders sessions → IsNewSession q (length senders + 1) a s → AreNewSessions q more also_more
one_more_session {J} q senders more sessions also_more a s is also_is h new =
    subst (λ (l : List (AnswerSender Sent)). AreNewSessions q l also_more) (sym is)
    (subst (λ (l : List (Session J)). AreNewSessions q (senders ++ a ∷ []) l) (sym also_is) (one_more_at_end q senders sessions a s h new))

-- none yet
pub no_sessions : {J : Type 0} (q : TableId) (senders : List (AnswerSender Sent)) (sessions : List (Session J)) → senders ≡ [] → sessions ≡ [] → AreNewSessions q senders sessions
no_sessions {J} q senders sessions none also_none = record {
  count = omega (arith, ap length none, ap length also_none);
  each = λ k b t here there. absurd (omega (arith, slice_get_within senders k b here, ap length none));
}

-- nothing was sent to a session before its first call
abbrev pub HaveSentNothing : List (AnswerSender Sent) → Type 0
HaveSentNothing senders = (k : ℕ) (a : AnswerSender Sent) → slice_get senders k ≡ Some a → sent_of a.pass ≡ []

pub nothing_sent : {J : Type 0} (q : TableId) (senders : List (AnswerSender Sent)) (sessions : List (Session J)) → AreNewSessions q senders sessions → HaveSentNothing senders
nothing_sent {J} q senders sessions h k a at = let s = some_beside sessions senders k a (sym h.count) at in (h.each k a s.0 at s.1).channel.1

-- a new flusher of a store that has the base is settled
pub new_is_settled : {D : Type 0} (base : State) (n : ℕ) (store : StoreView Global D) (f : FlusherView D) → IsNewFlusher n store f →
    HaveSentNothing f.senders → store.register ≡ base → IsSettled base f
new_is_settled {D} base n store f h nothing is = record {
  history = subst (IsHistory base) (sym h.durable) tt;
  made = λ _. ap (λ (s : StoreView Global D). s.register) h.store ∙ is ∙ ap (after base) (sym h.durable);
  prefix = subst (λ l. IsPrefix l f.durable) (sym h.published) (f.durable, refl);
  sent = none_sent base f.durable f.senders nothing;
  order = subst (λ (q : List (Asked Global) × List Entry). AreInOrder q.0 q.1) (λ j. (sym h.durable j, sym (ap (λ (t : Taking). t.taken) h.queue) j)) none_in_order;
  ended = subst (λ (q : List Bool × List Entry). AreEnded q.0 q.1) (λ j. (sym h.ended j, sym (ap (λ (t : Taking). t.taken) h.queue) j)) (none_ended n);
}

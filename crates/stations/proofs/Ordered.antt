-- What a session submits, if its station may give no orders.
use Rattle.std.proofs.Common.{◌≡◌, ◌∙◌, ◌||◌, List, [], ◌∷◌, ◌++◌, Bool, true, false, refl, ap, sym, subst, inl, inr, append_assoc, true≢false}
use Rattle.std.specs.Prelude.{not, Option, Some, None, Result}
use Rattle.std.specs.declared.alloc.Global.{Global}
use Rattle.std.proofs.lemmas.List.{append-nil}
use Rattle.std.proofs.lemmas.List.Folds.{list_any-append}
use Rattle.std.proofs.Math.Bool.{Bool-set}
use mathlib.Core.List.{IsPrefix, Sublist, Sublistᴰ}
use mathlib.Core.Logic.{∥∥₁_elim}
use Rattle.base.proofs.Bools.{first_false, second_false}
use Rattle.snapshots.proofs.Prefixes.{prefix_trans}
use Rattle.centre_core.specs.Asked.{Asked}
use Rattle.centre_core.specs.State.{State}
use Rattle.centre_core.specs.declared.reply.Reply.{Reply}
use Rattle.desk.specs.declared.outage.Outage.{Outage}
use Rattle.desk.specs.Rules.{AreApplied}
use Rattle.station_queue.specs.Ends.{Sending}
use Rattle.station_queue.specs.declared.entry.Entry.{Entry}
use Rattle.station_queue.specs.declared.entry.Entry.TheVariants.{Submitted}
use Rattle.console.specs.Reading.{is_order}
use Rattle.flusher.specs.Sessions.{SessionHasOnlyRead, IsSameSession}
use Rattle.flusher.specs.Shared.{commands_among}
use Rattle.flusher.specs.declared.session.Session.{Session}
use Rattle.flusher.proofs.Batched.{commands_among-append}
use Rattle.flusher.proofs.Sessions.{read_same}
use Rattle.stations.specs.GoesOn.{Beginning, GoesOn, GoesOnFrom, beginning_of}
use Rattle.stations.specs.OfSession.{Applies, AtSession, IsSubmitted, of_session}
use Rattle.stations.specs.Orders.{Submits, has_order, is_allowed}

abbrev G : Type 0
G = Asked Global

-- ---- lists of commands without an order

joined : (a b : Bool) → a ≡ false → b ≡ false → (a || b) ≡ false
joined a b e f = ap (λ x. x || b) e ∙ f

no_order_append : (xs ys : List G) → has_order xs ≡ false → has_order ys ≡ false → has_order (xs ++ ys) ≡ false
no_order_append xs ys e f = list_any-append (λ (c : G). is_order c.body) xs ys ∙ joined (has_order xs) (has_order ys) e f

some_without : (xs ys : List G) → Sublistᴰ xs ys → has_order ys ≡ false → has_order xs ≡ false
some_without [] ys h none = refl
some_without (x ∷ xs) [] h none = elim h [ ]
some_without (x ∷ xs) (y ∷ ys) (Sublistᴰ.cons h) none = some_without (x ∷ xs) ys h (second_false (is_order y.body) (has_order ys) none)
some_without (x ∷ xs) (y ∷ ys) (Sublistᴰ.cons-cons e h) none =
    joined (is_order x.body) (has_order xs) (ap (λ (c : G). is_order c.body) e ∙ first_false (is_order y.body) (has_order ys) none)
    (some_without xs ys h (second_false (is_order y.body) (has_order ys) none))

-- some of the commands of such a list, in order
pub sublist_without : (xs ys : List G) → Sublist xs ys → has_order ys ≡ false → has_order xs ≡ false
sublist_without xs ys h none = ∥∥₁_elim h (Bool-set (has_order xs) false) (λ (d : Sublistᴰ xs ys). some_without xs ys d none)

-- ---- what is submitted

module _ (may_order : Bool) where
  -- nothing
  pub submits_nothing : (old new : List Entry) → new ≡ old → Submits may_order old new
  submits_nothing old new e = ([], e ∙ sym (append-nil old), λ never. refl)

  -- one after the other
  pub submits_on : (old mid new : List Entry) → Submits may_order old mid → Submits may_order mid new → Submits may_order old new
  submits_on old mid new a b = (
    a.0 ++ b.0,
    b.1 ∙ ap (λ l. l ++ b.0) a.1 ∙ append_assoc old a.0 b.0,
    λ never. ap has_order (commands_among-append a.0 b.0) ∙ no_order_append (commands_among a.0) (commands_among b.0) (a.2 never) (b.2 never),
  )

  not_order : (c : G) → is_allowed may_order c ≡ true → may_order ≡ false → is_order c.body ≡ false
  not_order c allowed never = by (is_order c.body) (subst (λ b. (b || not (is_order c.body)) ≡ true) never allowed)
    where
      by : (b : Bool) → (false || not b) ≡ true → b ≡ false
      by true e = absurd (true≢false (sym e))
      by false e = refl

  module _ (J : Type 0) (base : State) where
    submitted : (s t : AtSession) (c : G) (result : Result (Reply Global) Outage) → is_allowed may_order c ≡ true → IsSubmitted J base s c result t → Submits may_order s.view.sent t.view.sent
    submitted s t c result allowed is = elim is.submission.put [
      | inl put ↦ (
        Submitted put.0 ∷ [],
        put.2,
        λ never. joined _ false (ap (λ (d : G). is_order d.body) put.1 ∙ not_order c allowed never) refl,
      )
      | inr out ↦ submits_nothing s.view.sent t.view.sent (ap (λ v. v.sent) out.0)
    ]

    -- a command
    pub applied_submits : (s t : AtSession) (c : G) (result : Result (Reply Global) Outage) → Applies J base may_order s c result t → Submits may_order s.view.sent t.view.sent
    applied_submits s t c result h = elim h.1 [
      | inl own ↦ submitted s t c result own.1 own.2
      | inr refused ↦ (elim refused [
        | inl other ↦ submits_nothing s.view.sent t.view.sent (ap (λ (u : AtSession). u.view.sent) other.2)
        | inr forbidden ↦ submits_nothing s.view.sent t.view.sent (ap (λ (u : AtSession). u.view.sent) forbidden.2)
      ])
    ]

    -- several commands
    pub all_submit : (s t : AtSession) (cs : List G) (results : List (Result (Reply Global) Outage)) →
        AreApplied (of_session J base may_order) s cs results t → Submits may_order s.view.sent t.view.sent
    all_submit s t [] [] h = submits_nothing s.view.sent t.view.sent (ap (λ (u : AtSession). u.view.sent) h)
    all_submit s t [] (r ∷ rs) h = absurd h
    all_submit s t (c ∷ cs) [] h = absurd h
    all_submit s t (c ∷ cs) (r ∷ rs) h = submits_on s.view.sent h.0.view.sent t.view.sent (applied_submits s h.0 c r h.1) (all_submit h.0 t cs rs h.2)

  module _ {J : Type 0} where
    from_beginning : (b : Beginning) (s t : Session J) → GoesOnFrom may_order b s → IsSameSession s t → IsPrefix s.viewer t.viewer →
        Submits may_order s.sender.sent t.sender.sent → GoesOnFrom may_order b t
    from_beginning b s t on same seen more = record {
      queue = same.queue ∙ on.queue;
      station = same.station ∙ on.station;
      channel = same.channel ∙ on.channel;
      seen = prefix_trans b.seen s.viewer t.viewer on.seen seen;
      submits = submits_on b.sender.sent s.sender.sent t.sender.sent on.submits more;
    }

    -- a session that goes on
    pub goes_on : (b : Option Beginning) (s t : Session J) → GoesOn may_order b s → IsSameSession s t → IsPrefix s.viewer t.viewer →
        Submits may_order s.sender.sent t.sender.sent → GoesOn may_order b t
    goes_on None s t on same seen more = tt
    goes_on (Some b) s t on same seen more = from_beginning b s t on same seen more

    -- one that only read
    pub goes_on_reading : (b : Option Beginning) (s t : Session J) → GoesOn may_order b s → SessionHasOnlyRead s t → GoesOn may_order b t
    goes_on_reading b s t on read =
        goes_on b s t on (read_same s t read) read.seen (submits_nothing s.sender.sent t.sender.sent (ap (λ (x : Sending). x.sent) read.sender))

    -- one that did nothing yet
    pub goes_on_yet : (s : Session J) → GoesOnFrom may_order (beginning_of s) s
    goes_on_yet s = record {
      queue = refl;
      station = refl;
      channel = refl;
      seen = ([], append-nil s.viewer);
      submits = submits_nothing s.sender.sent s.sender.sent refl;
    }

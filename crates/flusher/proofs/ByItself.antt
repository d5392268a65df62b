-- The flusher by itself, through a round.
use Rattle.std.specs.declared.alloc.Global.{Global}
use Rattle.std.proofs.Common.{◌≡◌, ℕ, inl, inr, Bool, true, false, List, [], ◌++◌, length, sym, ◌∙◌, subst, arith}
use Rattle.std.proofs.lemmas.List.{append-nil}
use mathlib.Core.List.{IsPrefix, Sublist, nil-sublist}
use Rattle.sector_disk.specs.Disk.{View}
use Rattle.centre_core.specs.Asked.{Asked}
use Rattle.centre_core.specs.State.{State}
use Rattle.centre_core.specs.Histories.{IsHistory}
use Rattle.recovery.specs.declared.fault.StoreFault.{StoreFault}
use Rattle.recovery.specs.declared.fault.StoreFault.TheVariants.{BadGeometry, Broken, Damaged, DiskFault, EpochsUsedUp, NoMemory, Unformatted, Unready}
use Rattle.flusher.specs.declared.decision.Decision.TheVariants as decision
use Rattle.station_queue.specs.declared.entry.Entry.{Entry}
use Rattle.flusher.specs.Stages.{Sent}
use Rattle.flusher.specs.Shared.{commands_among}
use Rattle.flusher.specs.Batches.{accepted_by}
use Rattle.answers.specs.declared.channel.AnswerSender.{AnswerSender}
use Rattle.flusher.specs.View.{FlusherView, RoundProgress, progress_of}
use Rattle.flusher.specs.Served.{AreServedBy, HasServed, decision_by}
use Rattle.flusher.specs.Rounds.{IsRound}
use Rattle.flusher.specs.Borne.{IsDecisionAfter, AreBorneOut, AreSentInOrder}
use Rattle.flusher.specs.Order.{AreInOrder}
use Rattle.flusher.proofs.Borne.{commit_borne_out, alike_borne_out, sent_in_order}
use Rattle.flusher.proofs.Ordered.{accepted_are_some, order_longer}

abbrev G : Type 0
G = Asked Global

-- a fault says nothing of the commands
says_nothing : (base : State) (fault : StoreFault) (l : List G) (c : G) → IsDecisionAfter base l c (decision_by fault)
says_nothing base NoMemory l c = tt
says_nothing base DiskFault l c = tt
says_nothing base Broken l c = tt
says_nothing base EpochsUsedUp l c = tt
says_nothing base Unready l c = tt
says_nothing base Unformatted l c = tt
says_nothing base BadGeometry l c = tt
says_nothing base (Damaged at) l c = tt

module _ {D : Type 0} (base : State) (t : ℕ) (f g : RoundProgress D) where
  -- what a round adds to the durable commands: some of those that it took, in order; and with these each answer is borne out
  pub record HasAdded (commands : List G) (answers : List Sent) : Type 0 where
    pub more : List G
    pub durable : g.durable ≡ f.durable ++ more
    pub some : Sublist more commands
    pub borne : IsHistory base f.durable → AreBorneOut base (f.durable ++ more) (length f.durable) answers

  -- nothing, and a decision for all that is no reply
  added_none : (commands : List G) (answers : List Sent) → g.durable ≡ f.durable → AreBorneOut base f.durable (length f.durable) answers → HasAdded commands answers
  added_none commands answers same borne = record {
    more = [];
    durable = same ∙ sym (append-nil f.durable);
    some = nil-sublist commands;
    borne = λ a. subst (λ l. AreBorneOut base l (length f.durable) answers) (sym (append-nil f.durable)) borne;
  }

  added_by : (commands : List G) (answers : List Sent) (broken : Bool) → AreServedBy base t f g commands answers broken → HasAdded commands answers
  added_by commands answers true h =
      added_none commands answers h.durable
      (subst (λ l. AreBorneOut base f.durable (length f.durable) l) (sym h.each)
      (alike_borne_out base f.durable (length f.durable) t g.published (decision.Fault Broken) commands (λ l c. tt) (omega arith)))
  added_by commands answers false h = elim h [
    | inl done ↦ record {
      more = accepted_by commands done.outcomes;
      durable = done.durable;
      some = accepted_are_some commands done.outcomes;
      borne = λ a. subst (λ l. AreBorneOut base (f.durable ++ accepted_by commands done.outcomes) (length f.durable) l) (sym done.each)
          (commit_borne_out base t f.durable g.published done.all commands done.outcomes _ a done.answered);
    }
    | inr rest ↦ elim rest [
      | inl refused ↦ added_none commands answers refused.durable
          (subst (λ l. AreBorneOut base f.durable (length f.durable) l) (sym refused.each)
          (alike_borne_out base f.durable (length f.durable) t g.published (decision_by refused.fault) commands (says_nothing base refused.fault)
          (omega arith)))
      | inr late ↦ added_none commands answers late.durable
          (subst (λ l. AreBorneOut base f.durable (length f.durable) l) (sym late.each)
          (alike_borne_out base f.durable (length f.durable) t g.published decision.NoMemory commands (λ l c. tt) (omega arith)))
    ]
  ]

  served_adds : (commands : List G) (old new : List (AnswerSender Sent)) → (r : HasServed base t f g commands old new) → HasAdded commands r.answers
  served_adds commands old new r = added_by commands r.answers f.store.broken r.served

  -- what was sent stays borne out, and so are the answers to them
  pub served_sent : (commands : List G) (old new : List (AnswerSender Sent)) → IsHistory base f.durable → HasServed base t f g commands old new →
      AreSentInOrder base f.durable old → AreSentInOrder base g.durable new
  served_sent commands old new a r sent =
      let h = served_adds commands old new r in
      subst (λ l. AreSentInOrder base l new) (sym h.durable) (sent_in_order base f.durable h.more old new r.answers sent (h.borne a) r.answered)

  -- the durable commands stay in the order in which they were taken
  pub served_order : (popped taken : List Entry) (old new : List (AnswerSender Sent)) → HasServed base t f g (commands_among popped) old new →
      AreInOrder f.durable taken → AreInOrder g.durable (taken ++ popped)
  served_order popped taken old new r order =
      let h = served_adds (commands_among popped) old new r in
      subst (λ l. AreInOrder l (taken ++ popped)) (sym h.durable) (order_longer f.durable h.more taken popped order h.some)

module _ {D : Type 0} (view : D → View) (base : State) (f g : FlusherView D) where
  -- what was durable is a prefix of what is durable after a round
  pub round_longer : IsRound view base f g → IsPrefix f.durable g.durable
  round_longer r = let h = served_adds base (view g.store.disk).moment (progress_of f) (progress_of g) (commands_among r.popped) f.senders g.senders r.served in (h.more, sym h.durable)

  -- the same of a round
  pub round_sent : IsHistory base f.durable → IsRound view base f g → AreSentInOrder base f.durable f.senders → AreSentInOrder base g.durable g.senders
  round_sent a r sent = served_sent base (view g.store.disk).moment (progress_of f) (progress_of g) (commands_among r.popped) f.senders g.senders a r.served sent

  pub round_order : IsRound view base f g → AreInOrder f.durable f.taker.taken → AreInOrder g.durable g.taker.taken
  round_order r order =
      subst (λ l. AreInOrder g.durable l) (sym r.taken.taken) (served_order base (view g.store.disk).moment (progress_of f) (progress_of g) r.popped f.taker.taken f.senders g.senders r.served order)

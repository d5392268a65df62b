-- Answers, and the prefixes of the durable commands that bear them out.
use Rattle.std.specs.Prelude.{◌==◌, map, replicate, slice_get}
use Rattle.std.specs.declared.alloc.Global.{Global}
use Rattle.std.proofs.Common.{◌≡◌, ℕ, zero, suc, ◌+◌, ◌-◌, ◌≤◌, inl, inr, Bool, true, false, cond, List, [], ◌∷◌, ◌++◌, length, take, drop, refl, ap}
use Rattle.std.proofs.Common.{sym, ◌∙◌, subst, arith, append_assoc, length-append, Some, true≢false}
use Rattle.std.proofs.lemmas.List.{take-append-le, take_at, take-append-drop, append-nil}
use mathlib.Core.List.{IsPrefix}
use Rattle.base.proofs.Lists.{some_beside}
use Rattle.centre_core.specs.Asked.{Asked}
use Rattle.centre_core.specs.State.{State}
use Rattle.centre_core.specs.Step.{last_at}
use Rattle.centre_core.specs.History.{is_acceptance, next, after}
use Rattle.centre_core.specs.Histories.{IsHistory}
use Rattle.centre_core.specs.InTurn.{reply_to, last_of, Replied}
use Rattle.centre_core.specs.Batches.{replies, taken}
use Rattle.centre_core.specs.declared.reply.Reply.{Reply}
use Rattle.centre_core.specs.declared.reply.Reply.TheVariants.{Accepted, Kept, Refused}
use Rattle.centre_core.proofs.RepliesSay.{replies_say}
use Rattle.centre_core.proofs.HistoryLaws.{counted}
use Rattle.centre_core.proofs.InTurnLaws.{after-append, history-append, kept_is_there}
use Rattle.schedule.specs.Next.{answer_from}
use Rattle.schedule.proofs.Lists.{get_last}
use Rattle.schedule.proofs.Stepping.{not_accepted}
use Rattle.recovery.specs.declared.outcome.Outcome.{Outcome}
use Rattle.recovery.specs.declared.outcome.Outcome.TheVariants as outcome
use Rattle.recovery.specs.Outcomes.{IsAnswered}
use Rattle.answers.specs.declared.channel.AnswerSender.{AnswerSender}
use Rattle.answers.specs.Views.{sent_of}
use Rattle.flusher.specs.declared.decision.Decision.{Decision}
use Rattle.flusher.specs.Stages.{Sent, sent_by, sent_to_all}
use Rattle.flusher.specs.Batches.{accepted_by}
use Rattle.flusher.specs.Answerings.{answers_to, HasAnswered, HaveAnswered}
use Rattle.flusher.proofs.Decided.{accepted_are}
use Rattle.flusher.specs.Borne.{IsReplyAfter, IsDecisionAfter, AreBorneOut, AreSentInOrder}

abbrev G : Type 0
G = Asked Global

-- ---- lists of answers

pub are_lower : (base : State) (durable : List G) (low high : ℕ) (xs : List Sent) → low ≤ high → AreBorneOut base durable high xs → AreBorneOut base durable low xs
are_lower base durable low high [] le h = tt
are_lower base durable low high (x ∷ xs) le h = (h.0, let at = h.1 in omega arith, h.2, h.3, h.4)

-- answers after answers: these lie past all that was durable when those were sent
pub are_joined : (base : State) (durable more : List G) (low : ℕ) (xs ys : List Sent) → low ≤ length durable → AreBorneOut base durable low xs → AreBorneOut base (durable ++ more) (length durable) ys
    → AreBorneOut base (durable ++ more) low (xs ++ ys)
are_joined base durable more low [] ys le h later = are_lower base (durable ++ more) low (length durable) ys le later
are_joined base durable more low (x ∷ xs) ys le h later = (
  h.0,
  h.1,
  let at = h.2 in omega (arith, length-append durable more),
  subst (λ l. IsDecisionAfter base l x.command x.decision) (sym (take-append-le h.0 durable more h.2)) h.3,
  are_joined base durable more h.0 xs ys h.2 h.4 later,
)

pub are_first : (base : State) (durable : List G) (low : ℕ) (xs ys : List Sent) → AreBorneOut base durable low (xs ++ ys) → AreBorneOut base durable low xs
are_first base durable low [] ys h = tt
are_first base durable low (x ∷ xs) ys h = (h.0, h.1, h.2, h.3, are_first base durable h.0 xs ys h.4)

pub are_prefix : (base : State) (durable : List G) (low : ℕ) (xs ys : List Sent) → IsPrefix xs ys → AreBorneOut base durable low ys → AreBorneOut base durable low xs
are_prefix base durable low xs ys p h = are_first base durable low xs p.0 (subst (λ l. AreBorneOut base durable low l) (sym p.1) h)

-- those to one station
pub are_to_one : (base : State) (durable : List G) (low : ℕ) (s : ℕ) (xs : List Sent) → AreBorneOut base durable low xs → AreBorneOut base durable low (answers_to s xs)
are_to_one base durable low s [] h = tt
are_to_one base durable low s (x ∷ xs) h = by (x.command.station == s) (are_to_one base durable h.0 s xs h.4)
  where
    by : (b : Bool) → AreBorneOut base durable h.0 (answers_to s xs) → AreBorneOut base durable low (cond b (x ∷ answers_to s xs) (answers_to s xs))
    by true rest = (h.0, h.1, h.2, h.3, rest)
    by false rest = are_lower base durable low h.0 (answers_to s xs) h.1 rest

-- ---- the answers of a round

-- the same decision on all, one that is no reply
pub alike_borne_out : (base : State) (durable : List G) (low t : ℕ) (published : List G) (d : Decision) (cs : List G) → ((l : List G) (c : G) → IsDecisionAfter base l c d) → low ≤ length durable
    → AreBorneOut base durable low (sent_to_all t published d cs)
alike_borne_out base durable low t published d [] any le = tt
alike_borne_out base durable low t published d (c ∷ cs) any le = (low, omega arith, le, any (take low durable) c, alike_borne_out base durable low t published d cs any le)

-- an accepted command that is reported as kept is one that is kept
answer_after : (base : State) (l : List G) (c : G) (all : Bool) (r : Reply Global) → IsReplyAfter base l c r → IsReplyAfter base l c (answer_from all r)
answer_after base l c true (Accepted n p) h = h
answer_after base l c false (Accepted n p) h = inl (record { first = c; of_station = refl; of_sequence = refl; lands = h })
answer_after base l c all (Kept n p) h = h
answer_after base l c all (Refused r) h = h

-- the reply to the command after a list: an acceptance is borne out once the command is on the list
reply_taken : (base s : State) (l : List G) (c : G) → IsHistory base l → s ≡ after base l → (r : Reply Global) → reply_to s c ≡ r →
    Replied s c (next s c) r → is_acceptance r ≡ true → IsReplyAfter base (l ++ c ∷ []) c r
reply_taken base s l c a at (Accepted n p) is says it =
    let count : (after base l).count ≡ base.count + length l = counted base l a in
    let same : s.count ≡ (after base l).count = ap (λ (t : State). t.count) at in
    record {
      place = length l;
      numbered = let m = says.1 in omega arith;
      is_there = get_last l c;
      replied = subst (λ t. reply_to (after base t) c ≡ Accepted n p) (sym (take_at l (c ∷ []) (length l) refl)) (subst (λ t. reply_to t c ≡ Accepted n p) at is);
    }
reply_taken base s l c a at (Kept n p) is says it = absurd (true≢false (sym it))
reply_taken base s l c a at (Refused r) is says it = absurd (true≢false (sym it))

-- any other is borne out by the list as it is
reply_alone : (base s : State) (l : List G) (c : G) → IsHistory base l → s ≡ after base l → (r : Reply Global) → reply_to s c ≡ r →
    Replied s c (next s c) r → is_acceptance r ≡ false → IsReplyAfter base l c r
reply_alone base s l c a at (Accepted n p) is says not_it = absurd (true≢false not_it)
reply_alone base s l c a at (Kept n p) is says not_it =
    let kept : last_at (after base l) c.station ≡ Some (last_of c n p) = subst (λ t. last_at t c.station ≡ Some (last_of c n p)) at says.2 in
    kept_is_there base l a c.station (last_of c n p) says.1 kept
reply_alone base s l c a at (Refused r) is says not_it = subst (λ t. reply_to t c ≡ Refused r) at is

-- what ran out of memory is borne out by anything
none_borne_out : (base : State) (durable : List G) (low t : ℕ) (published : List G) (all : Bool) (cs : List G) (k : ℕ) → low ≤ length durable
    → AreBorneOut base durable low (sent_by t published all cs (replicate k outcome.NoMemory))
none_borne_out base durable low t published all [] k le = tt
none_borne_out base durable low t published all (c ∷ cs) zero le = tt
none_borne_out base durable low t published all (c ∷ cs) (suc k) le = (low, omega arith, le, tt, none_borne_out base durable low t published all cs k le)

-- what was answered to the first commands, of the rest none found memory
abbrev pub outcomes_of : State → List G → ℕ → List (Outcome Global)
outcomes_of s cs k = map outcome.Replied (replies Global s cs) ++ replicate k outcome.NoMemory

module _ (base : State) (total published : List G) (all : Bool) (rest : List G) (k t : ℕ) where
  -- one command and the answers after it
  step_by : (b : Bool) (s : State) (l : List G) (c : G) (cs : List G) → is_acceptance (reply_to s c) ≡ b
      → ((l' : List G) → IsHistory base l' → next s c ≡ after base l' → total ≡ l' ++ taken (next s c) cs →
      AreBorneOut base total (length l') (sent_by t published all (cs ++ rest) (outcomes_of (next s c) cs k)))
      → IsHistory base l → s ≡ after base l → total ≡ l ++ cond b (c ∷ taken (next s c) cs) (taken (next s c) cs)
      → AreBorneOut base total (length l) (sent_by t published all (c ∷ (cs ++ rest)) (outcome.Replied (reply_to s c) ∷ outcomes_of (next s c) cs k))
  step_by true s l c cs is more a at split =
      let l' = l ++ c ∷ [] in
      let took : IsHistory base l' = history-append base l (c ∷ []) a (subst (λ t. is_acceptance (reply_to t c) ≡ true) at is, tt) in
      let goes : next s c ≡ after base l' = ap (λ t. next t c) at ∙ sym (after-append base l (c ∷ [])) in
      let parts : total ≡ l' ++ taken (next s c) cs = split ∙ sym (append_assoc l (c ∷ []) (taken (next s c) cs)) in
      let long : length l' ≡ length l + 1 = length-append l (c ∷ []) in
      let whole : length total ≡ length l' + length (taken (next s c) cs) = ap length parts ∙ length-append l' (taken (next s c) cs) in
      let first : take (length l') total ≡ l' = ap (take (length l')) parts ∙ take_at l' (taken (next s c) cs) (length l') refl in
      let here = answer_after base l' c all (reply_to s c) (reply_taken base s l c a at (reply_to s c) refl (replies_say Global s c) is) in
      (length l', omega arith, omega arith, subst (λ t. IsReplyAfter base t c (answer_from all (reply_to s c))) (sym first) here, more l' took goes parts)
  step_by false s l c cs is more a at split =
      let parts : total ≡ l ++ taken (next s c) cs = split in
      let goes : next s c ≡ after base l = not_accepted s c is ∙ at in
      let whole : length total ≡ length l + length (taken (next s c) cs) = ap length parts ∙ length-append l (taken (next s c) cs) in
      let first : take (length l) total ≡ l = ap (take (length l)) parts ∙ take_at l (taken (next s c) cs) (length l) refl in
      let here = answer_after base l c all (reply_to s c) (reply_alone base s l c a at (reply_to s c) refl (replies_say Global s c) is) in
      (length l, omega arith, omega arith, subst (λ t. IsReplyAfter base t c (answer_from all (reply_to s c))) (sym first) here, more l a goes parts)

  -- a batch is borne out by the list with all that it accepted
  pub batch_borne_by : (cs : List G) (s : State) (l : List G) → IsHistory base l → s ≡ after base l → total ≡ l ++ taken s cs →
      AreBorneOut base total (length l) (sent_by t published all (cs ++ rest) (outcomes_of s cs k))
  batch_borne_by [] s l a at split =
      let whole : length total ≡ length l = ap length (split ∙ append-nil l) in none_borne_out base total (length l) t published all rest k (omega arith)
  batch_borne_by (c ∷ cs) s l a at split =
      step_by (is_acceptance (reply_to s c)) s l c cs refl (λ l' a' at' split'. batch_borne_by cs (next s c) l' a' at' split') a at split

-- a commit that was answered, with its commands in two: those that were applied, and the rest
pub record Parts (s t : State) (cs : List G) (os : List (Outcome Global)) : Type 0 where
  pub first : List G
  pub rest : List G
  pub none : ℕ
  pub whole : first ++ rest ≡ cs
  pub outcomes : outcomes_of s first none ≡ os
  pub accepted : accepted_by cs os ≡ taken s first
  pub state : t ≡ after s first

pub parts_of : (s t : State) (cs : List G) (os : List (Outcome Global)) → IsAnswered s cs t os → Parts s t cs os
parts_of s t cs os h =
    let first : List G = take h.applied cs in
    let rest : List G = drop h.applied cs in
    let whole : first ++ rest ≡ cs = take-append-drop h.applied cs in
    let none : ℕ = length cs - h.applied in
    record {
      first = first;
      rest = rest;
      none = none;
      whole = whole;
      outcomes = sym h.outcomes_are;
      accepted = ap (λ l. accepted_by l os) (sym whole) ∙ (ap (λ l. accepted_by (first ++ rest) l) h.outcomes_are ∙ accepted_are first rest s none);
      state = h.state;
    }

-- the answers to it are borne out by what was durable before, with all that it accepted
pub commit_borne_out : (base : State) (t : ℕ) (durable published : List G) (all : Bool) (cs : List G) (os : List (Outcome Global)) (u : State) →
    IsHistory base durable → IsAnswered (after base durable) cs u os
    → AreBorneOut base (durable ++ accepted_by cs os) (length durable) (sent_by t published all cs os)
commit_borne_out base t durable published all cs os u a h =
    let s = after base durable in
    let p = parts_of s u cs os h in
    let total : List G = durable ++ accepted_by cs os in
    let made : AreBorneOut base total (length durable) (sent_by t published all (p.first ++ p.rest) (outcomes_of s p.first p.none)) =
    batch_borne_by base total published all p.rest p.none t p.first s durable a refl (ap (λ l. durable ++ l) p.accepted) in
    subst (λ (l : List (Outcome Global)). AreBorneOut base total (length durable) (sent_by t published all cs l)) p.outcomes
    (subst (λ l. AreBorneOut base total (length durable) (sent_by t published all l (outcomes_of s p.first p.none))) p.whole made)

-- ---- what was sent to each station

-- what was sent on a channel are the first of what there was to send
pub sent_first : (old new xs : List Sent) (was now : Bool) → HasAnswered old new was now xs → IsPrefix new (old ++ xs)
sent_first old new xs was now h = elim h.sent [ inl q ↦ ([], append-nil new ∙ q.2) | inr q ↦ q.2 ]

-- answers that are borne out past all that was durable are sent in order
pub sent_in_order : (base : State) (durable more : List G) (old new : List (AnswerSender Sent)) (answers : List Sent) →
    AreSentInOrder base durable old → AreBorneOut base (durable ++ more) (length durable) answers
    → HaveAnswered old answers new → AreSentInOrder base (durable ++ more) new
sent_in_order base durable more old new answers h borne did k b there =
    let was = some_beside old new k b did.count there in
    let a = was.0 in
    let sent = did.each k a b was.1 there in
    let mine : List Sent = answers_to (k + 1) answers in
    let first = sent_first (sent_of a.pass) (sent_of b.pass) mine a.gone b.gone sent.1 in
    let all : AreBorneOut base (durable ++ more) 0 (sent_of a.pass ++ mine) =
    are_joined base durable more 0 (sent_of a.pass) mine (omega arith) (h k a was.1) (are_to_one base (durable ++ more) (length durable) (k + 1) answers borne) in
    are_prefix base (durable ++ more) 0 (sent_of b.pass) (sent_of a.pass ++ mine) first all

-- at the start nothing was sent
pub none_sent : (base : State) (durable : List G) (senders : List (AnswerSender Sent)) →
    ((k : ℕ) (a : AnswerSender Sent) → slice_get senders k ≡ Some a → sent_of a.pass ≡ []) → AreSentInOrder base durable senders
none_sent base durable senders none k a at = subst (λ l. AreBorneOut base durable 0 l) (sym (none k a at)) tt

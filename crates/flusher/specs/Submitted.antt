-- What a session submits, and how it is answered.
use Rattle.std.specs.Prelude.{◌≡◌, ◌⊎◌, ◌<◌, ◌≤◌, ◌+◌, ◌-◌, ℕ, Bool, true, false, List, [], ◌∷◌, ◌++◌, length}
use Rattle.std.specs.Arc.{arc_value}
use Rattle.std.specs.declared.alloc.Global.{Global}
use mathlib.Core.List.{IsPrefix}
use Rattle.centre_core.specs.Asked.{Asked}
use Rattle.centre_core.specs.State.{State}
use Rattle.centre_core.specs.History.{after}
use Rattle.centre_core.specs.Histories.{IsHistory}
use Rattle.centre_core.specs.InTurn.{reply_to, Lands}
use Rattle.centre_core.specs.declared.reply.Reply.TheVariants.{Accepted, Kept, Refused}
use Rattle.centre_core.specs.Ranges.{IsShort}
use Rattle.desk.specs.Replies.{HasShortReject}
use Rattle.station_queue.specs.declared.entry.Entry.{Entry}
use Rattle.station_queue.specs.declared.entry.Entry.TheVariants.{Submitted, Ended}
use Rattle.station_queue.specs.declared.entry.Request.{Request}
use Rattle.flusher.specs.declared.decision.Decision.{Decision}
use Rattle.flusher.specs.declared.decision.Decision.TheVariants as decision
use Rattle.flusher.specs.declared.answer.Answer.{Answer}
use Rattle.flusher.specs.declared.answer.Answer.TheVariants as answer
use Rattle.flusher.specs.Stages.{Sent, IsKeptOf}

-- each entry is of a command that was submitted
abbrev pub are_submitted : List Entry → Bool
are_submitted [] = true
are_submitted (Submitted request ∷ entries) = are_submitted entries
are_submitted (Ended station ∷ entries) = false

-- the last entry is the end of a session, and each one before it is of a command that was submitted
abbrev pub is_ended : List Entry → Bool
is_ended [] = false
is_ended (Submitted request ∷ entries) = is_ended entries
is_ended (Ended station ∷ []) = true
is_ended (Ended station ∷ (next ∷ entries)) = false

-- What a session put into the queue, what it received, the list that it has seen, and how many commands of that list it has reached. It has
-- reached all of them, except between the answers to commands that it submitted together: their lists may hold commands that are
-- answered later. Then it has reached all that it had seen before, and its last accepted command.
pub record SessionView : Type 0 where
  pub sent : List Entry
  pub received : List Sent
  pub seen : List (Asked Global)
  pub reached : ℕ

-- The decision accepts a command under a number that was reached already. Here and in `reached_by`, `base` is the number of commands that the
-- register had accepted when the centre was opened, and `reached` counts further ones.
abbrev pub IsAlreadyReached : ℕ → ℕ → Decision → Type 0
IsAlreadyReached base reached (decision.Replied (Accepted n p)) = n ≤ base + reached
IsAlreadyReached base reached (decision.Replied (Kept n p)) = ⊥
IsAlreadyReached base reached (decision.Replied (Refused r)) = ⊥
IsAlreadyReached base reached decision.NoMemory = ⊥
IsAlreadyReached base reached (decision.Fault f) = ⊥

-- how many commands are reached once this was decided, if `reached` were before
abbrev pub reached_by : ℕ → ℕ → Decision → ℕ
reached_by base reached (decision.Replied (Accepted n p)) = n - base
reached_by base reached (decision.Replied (Kept n p)) = reached
reached_by base reached (decision.Replied (Refused r)) = reached
reached_by base reached decision.NoMemory = reached
reached_by base reached (decision.Fault f) = reached

-- what was received, `x`, is not for the command c, its list is shorter than what was seen, or it accepts under a number reached already
abbrev pub IsMisfit : State → Asked Global → List (Asked Global) → ℕ → Sent → Type 0
IsMisfit base c seen reached x =
    (x.command ≡ c → ⊥) ⊎ (length x.published < length seen) ⊎ IsAlreadyReached base.count reached x.decision

-- the command was put into the queue, after all that the session put there
abbrev pub IsPut : Asked Global → List Entry → List Entry → Type 0
IsPut c old new = (request : Request) × (arc_value request.command ≡ c) × (new ≡ old ++ Submitted request ∷ [])

module _ {J : Type 0} where
  -- the session's answer for a decision, with the list that was published then
  abbrev pub answer_by : List (Asked Global) → Decision → Answer J
  answer_by published (decision.Replied (Accepted n p)) = answer.Accepted n p published
  answer_by published (decision.Replied (Kept n p)) = answer.Kept n p
  answer_by published (decision.Replied (Refused r)) = answer.Refused r
  answer_by published decision.NoMemory = answer.NoMemory
  answer_by published (decision.Fault f) = answer.Fault f

  -- What an answer says of its command, with the list that was seen before, how much of it was reached, and the list that is seen now.
  -- Accepted: the published list begins with all that was seen, and is now seen; the command is in it at its number, past all that was
  -- reached, with this reply. Kept: if the list that is now seen reaches this number, the list or the base keeps number and reply for the
  -- command's station and sequence. Refused: the step refuses the command after some list of commands that are accepted in turn.
  abbrev pub BearsOutAnswer : State → Asked Global → List (Asked Global) → ℕ → List (Asked Global) → Answer J → Type 0
  BearsOutAnswer base c seen reached now (answer.Accepted n p published) =
      IsPrefix seen published × (base.count + reached < n) × Lands base published c n p × (now ≡ published)
  BearsOutAnswer base c seen reached now (answer.Kept n p) = n ≤ base.count + length now → IsKeptOf base now c n p
  BearsOutAnswer base c seen reached now (answer.Refused r) = (l : List (Asked Global)) × IsHistory base l × (reply_to (after base l) c ≡ Refused r)
  BearsOutAnswer base c seen reached now answer.NoMemory = Unit {0}
  BearsOutAnswer base c seen reached now (answer.Fault f) = Unit {0}
  BearsOutAnswer base c seen reached now answer.Closed = Unit {0}

  -- if the answer accepts its command, the command is among the reached ones
  abbrev pub IsWithin : State → ℕ → Answer J → Type 0
  IsWithin base reached (answer.Accepted n p published) = n ≤ base.count + reached
  IsWithin base reached (answer.Kept n p) = Unit {0}
  IsWithin base reached (answer.Refused r) = Unit {0}
  IsWithin base reached answer.NoMemory = Unit {0}
  IsWithin base reached (answer.Fault f) = Unit {0}
  IsWithin base reached answer.Closed = Unit {0}

  -- Of the list `now`, which is now seen, `new` commands are reached: no fewer than the `old` ones before, and with them an accepted command.
  abbrev pub HasReached : State → ℕ → ℕ → List (Asked Global) → Answer J → Type 0
  HasReached base old new now a = (old ≤ new) × (new ≤ length now) × IsWithin base new a

  -- what was received, `x`, is for the command c and is the answer, and its list is seen now; or it does not fit, and the answer is `Closed`
  abbrev pub Fits : State → Asked Global → List (Asked Global) → ℕ → Sent → List (Asked Global) → Answer J → Type 0
  Fits base c seen reached x now a =
      ((x.command ≡ c) × (a ≡ answer_by x.published x.decision) × (now ≡ x.published)) ⊎ (IsMisfit base c seen reached x × (a ≡ answer.Closed) × (now ≡ seen))

  -- one answer was received
  abbrev pub IsAnswered : State → Asked Global → SessionView → SessionView → Answer J → Type 0
  IsAnswered base c old new a = (x : Sent) × (new.received ≡ old.received ++ x ∷ []) × Fits base c old.seen old.reached x new.seen a

  -- no answer was received, no more is seen, and the command is answered as `Closed`
  abbrev pub IsUnanswered : SessionView → SessionView → Answer J → Type 0
  IsUnanswered old new a = (new.received ≡ old.received) × (new.seen ≡ old.seen) × (a ≡ answer.Closed)

  -- memory ran out before the command was put into the queue, and nothing has changed
  abbrev pub IsOutOfMemory : SessionView → SessionView → Answer J → Type 0
  IsOutOfMemory old new a = (new ≡ old) × (a ≡ answer.NoMemory)

  -- the command was put into the queue; or memory ran out before
  abbrev pub HasPut : Asked Global → SessionView → SessionView → Answer J → Type 0
  HasPut c old new a = IsPut c old.sent new.sent ⊎ IsOutOfMemory old new a

  -- one answer was received, or none; or memory ran out before the command was put into the queue
  abbrev pub HasReceived : State → Asked Global → SessionView → SessionView → Answer J → Type 0
  HasReceived base c old new a = IsAnswered base c old new a ⊎ IsUnanswered old new a ⊎ IsOutOfMemory old new a

  -- A command was submitted, and this is its answer: what was put into the queue, what was received, and what the answer says. What was seen
  -- stays seen.
  pub record IsSubmission (base : State) (c : Asked Global) (old new : SessionView) (a : Answer J) : Type 0 where
    pub put : HasPut c old new a
    pub received : HasReceived base c old new a
    pub borne_out : BearsOutAnswer base c old.seen old.reached new.seen a
    pub seen : IsPrefix old.seen new.seen
    pub reached : HasReached base old.reached new.reached new.seen a

  -- commands that were submitted together: each is answered as if it were submitted once the one before it was answered
  abbrev pub AreSubmissions : State → List (Asked Global) → SessionView → SessionView → List (Answer J) → Type 0
  AreSubmissions base [] old new [] = new ≡ old
  AreSubmissions base [] old new (a ∷ answers) = ⊥
  AreSubmissions base (c ∷ cs) old new [] = ⊥
  AreSubmissions base (c ∷ cs) old new (a ∷ answers) = (mid : SessionView) × IsSubmission base c old mid a × AreSubmissions base cs mid new answers

  -- the PDU of a reply has at most 2,048 bits, and so has the PDU that rejects a location update
  abbrev pub HasShortAnswer : Answer J → Type 0
  HasShortAnswer (answer.Accepted n p published) = IsShort p
  HasShortAnswer (answer.Kept n p) = IsShort p
  HasShortAnswer (answer.Refused r) = HasShortReject r
  HasShortAnswer answer.NoMemory = Unit {0}
  HasShortAnswer (answer.Fault f) = Unit {0}
  HasShortAnswer answer.Closed = Unit {0}

-- What each answer says, by the flusher's own list of durable commands.
use Rattle.std.specs.Prelude.{◌≡◌, ◌≤◌, ℕ, List, [], ◌∷◌, length, take, slice_get, Some}
use Rattle.std.specs.declared.alloc.Global.{Global}
use Rattle.centre_core.specs.Asked.{Asked}
use Rattle.centre_core.specs.State.{State}
use Rattle.centre_core.specs.History.{after}
use Rattle.centre_core.specs.InTurn.{reply_to, Lands}
use Rattle.centre_core.specs.declared.reply.Reply.{Reply}
use Rattle.centre_core.specs.declared.reply.Reply.TheVariants.{Accepted, Kept, Refused}
use Rattle.answers.specs.declared.channel.AnswerSender.{AnswerSender}
use Rattle.answers.specs.Views.{sent_of}
use Rattle.flusher.specs.declared.decision.Decision.{Decision}
use Rattle.flusher.specs.declared.decision.Decision.TheVariants as decision
use Rattle.flusher.specs.Stages.{Sent, IsKeptOf}

-- These commands bear out a reply to the command c. Accepted: the command is among them at its number, with this reply. Kept: they or the base
-- keep this number and reply for the command's station and sequence. Refused: the step refuses the command after them.
abbrev pub IsReplyAfter : State → List (Asked Global) → Asked Global → Reply Global → Type 0
IsReplyAfter base commands c (Accepted n p) = Lands base commands c n p
IsReplyAfter base commands c (Kept n p) = IsKeptOf base commands c n p
IsReplyAfter base commands c (Refused r) = reply_to (after base commands) c ≡ Refused r

-- These commands bear out a decision on the command c: its reply, if it is one. Out of memory and a fault need nothing.
abbrev pub IsDecisionAfter : State → List (Asked Global) → Asked Global → Decision → Type 0
IsDecisionAfter base commands c (decision.Replied r) = IsReplyAfter base commands c r
IsDecisionAfter base commands c decision.NoMemory = Unit {0}
IsDecisionAfter base commands c (decision.Fault e) = Unit {0}

-- the first of the durable commands, as many as `place`, bear out the answer
abbrev pub IsBorneAt : State → List (Asked Global) → ℕ → Sent → Type 0
IsBorneAt base durable place x = IsDecisionAfter base (take place durable) x.command x.decision

-- each answer is borne out by a prefix of the durable commands. No prefix is shorter than the one before it, nor than `low` commands:
-- so it holds each command that an earlier answer reported as accepted or kept
abbrev pub AreBorneOut : State → List (Asked Global) → ℕ → List Sent → Type 0
AreBorneOut base durable low [] = Unit {0}
AreBorneOut base durable low (x ∷ xs) =
    (place : ℕ) × (low ≤ place) × (place ≤ length durable) × IsBorneAt base durable place x × AreBorneOut base durable place xs

-- the answers that each station was sent, in their order, are borne out by the durable commands (`AreBorneOut`)
abbrev pub AreSentInOrder : State → List (Asked Global) → List (AnswerSender Sent) → Type 0
AreSentInOrder base durable senders = (k : ℕ) (a : AnswerSender Sent) → slice_get senders k ≡ Some a → AreBorneOut base durable 0 (sent_of a.pass)

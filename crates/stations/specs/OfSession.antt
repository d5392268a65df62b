-- A session as a desk.
use Rattle.std.specs.Prelude.{◌≡◌, ◌⊎◌, Bool, true, false, List, Result, Ok, Err, length}
use Rattle.std.specs.declared.alloc.Global.{Global}
use mathlib.Core.List.{IsPrefix}
use Rattle.registration.specs.Numbers.{Station}
use Rattle.centre_core.specs.Asked.{Asked}
use Rattle.centre_core.specs.State.{State}
use Rattle.centre_core.specs.History.{after, is_acceptance}
use Rattle.centre_core.specs.Queries.{answer_to, AsksForList}
use Rattle.centre_core.specs.declared.reply.Reply.{Reply}
use Rattle.centre_core.specs.declared.reply.Reply.TheVariants as reply
use Rattle.centre_core.specs.declared.query.Query.{Query}
use Rattle.centre_core.specs.declared.query.QueryAnswer.{QueryAnswer}
use Rattle.recovery.specs.declared.fault.StoreFault.{StoreFault}
use Rattle.recovery.specs.declared.fault.StoreFault.TheVariants as fault
use Rattle.desk.specs.declared.outage.Outage.{Outage}
use Rattle.desk.specs.declared.outage.Outage.TheVariants.{Memory, Device, Broken, Epochs, Closed}
use Rattle.desk.specs.Rules.{Rules}
use Rattle.flusher.specs.declared.answer.Answer.{Answer}
use Rattle.flusher.specs.declared.answer.Answer.TheVariants as answer
use Rattle.flusher.specs.declared.session.Session.{Session}
use Rattle.flusher.specs.Submitted.{SessionView, IsSubmission}
use Rattle.flusher.specs.Sessions.{view_of_session}
use Rattle.stations.specs.Orders.{is_allowed}

-- the model of a session as a desk: its station, and what it has sent, received, seen and reached
pub record AtSession : Type 0 where
  pub station : Station
  pub view : SessionView

-- the outage word for a fault, the same that a store as a desk answers
abbrev pub word_of : StoreFault → Outage
word_of fault.DiskFault = Device
word_of fault.NoMemory = Memory
word_of fault.EpochsUsedUp = Epochs
word_of fault.Unformatted = Broken
word_of fault.BadGeometry = Broken
word_of (fault.Damaged sector) = Broken
word_of fault.Broken = Broken
word_of fault.Unready = Broken

module _ {J : Type 0} where
  -- the model of this session as a desk
  abbrev pub at_session : Session J → AtSession
  at_session s = record { station = s.sender.station; view = view_of_session s }

  -- the reply in an answer, or the outage word in its place
  abbrev pub result_of : Answer J → Result (Reply Global) Outage
  result_of (answer.Accepted n p published) = Ok (reply.Accepted n p)
  result_of (answer.Kept n p) = Ok (reply.Kept n p)
  result_of (answer.Refused r) = Ok (reply.Refused r)
  result_of answer.NoMemory = Err Memory
  result_of (answer.Fault f) = Err (word_of f)
  result_of answer.Closed = Err Closed

-- The result is `device` or `broken`. Once the device has failed, a command is answered so.
abbrev pub is_failure : Result (Reply Global) Outage → Bool
is_failure (Ok replied) = false
is_failure (Err Memory) = false
is_failure (Err Device) = true
is_failure (Err Broken) = true
is_failure (Err Epochs) = false
is_failure (Err Closed) = false

-- the answer accepts its command as a new one
abbrev pub accepts : Result (Reply Global) Outage → Bool
accepts (Ok replied) = is_acceptance replied
accepts (Err word) = false

-- The command was submitted, and its answer gives this result. Here and below, s is the session before the call, and t after it.
pub record IsSubmitted (J : Type 0) (base : State) (s : AtSession) (c : Asked Global) (result : Result (Reply Global) Outage) (t : AtSession) : Type 0 where
  pub answer : Answer J
  pub result_is : result ≡ result_of answer
  pub submission : IsSubmission base c s.view t.view answer

-- a command of another station: it is not submitted, and nothing changes
abbrev pub IsOfAnother : AtSession → Asked Global → Result (Reply Global) Outage → AtSession → Type 0
IsOfAnother s c result t = (c.station ≡ s.station → ⊥) × (result ≡ Err Closed) × (t ≡ s)

-- The command is an order, and the session's station may give none: the command is not submitted, and nothing changes.
abbrev pub IsForbidden : Bool → AtSession → Asked Global → Result (Reply Global) Outage → AtSession → Type 0
IsForbidden may_order s c result t = (is_allowed may_order c ≡ false) × (result ≡ Err Closed) × (t ≡ s)

-- The result of a query: what the register answers after the commands that are seen now. They begin with those that were seen before. Or
-- memory ran out for a list. Or the result is `closed`, and no more is seen.
abbrev pub AnswersAfter : State → List (Asked Global) → Query → Result (QueryAnswer Global) Outage → List (Asked Global) → Type 0
AnswersAfter base old q (Ok query_answer) new = (query_answer ≡ answer_to (after base new) q) × IsPrefix old new
AnswersAfter base old q (Err Memory) new = AsksForList q × IsPrefix old new
AnswersAfter base old q (Err Closed) new = new ≡ old
AnswersAfter base old q (Err Device) new = ⊥
AnswersAfter base old q (Err Broken) new = ⊥
AnswersAfter base old q (Err Epochs) new = ⊥

-- What is read for a listing: the register after the commands that are seen now. They begin with those that were seen before. Or the result
-- is `closed`, and no more is seen. No other outage word comes.
abbrev pub ReadsAfter : State → List (Asked Global) → Result State Outage → List (Asked Global) → Type 0
ReadsAfter base old (Ok r) new = (r ≡ after base new) × IsPrefix old new
ReadsAfter base old (Err Closed) new = new ≡ old
ReadsAfter base old (Err Memory) new = ⊥
ReadsAfter base old (Err Device) new = ⊥
ReadsAfter base old (Err Broken) new = ⊥
ReadsAfter base old (Err Epochs) new = ⊥

module _ (J : Type 0) (base : State) where
  -- nothing is sent or received, and all that is seen is reached
  abbrev pub SessionOnlyReads : AtSession → AtSession → Type 0
  SessionOnlyReads s t =
      (t.station ≡ s.station) × (t.view.sent ≡ s.view.sent) × (t.view.received ≡ s.view.received) × (t.view.reached ≡ length t.view.seen)

  -- a query is answered
  abbrev pub Answers : AtSession → Query → Result (QueryAnswer Global) Outage → AtSession → Type 0
  Answers s q result t = SessionOnlyReads s t × AnswersAfter base s.view.seen q result t.view.seen

  -- a register is read for a listing
  abbrev pub SessionReads : AtSession → Result State Outage → AtSession → Type 0
  SessionReads s result t = SessionOnlyReads s t × ReadsAfter base s.view.seen result t.view.seen

-- `may_order` says whether the session's station may give orders
module _ (J : Type 0) (base : State) (may_order : Bool) where
  -- a command of the session's station is submitted, but an order only if the station may give it
  abbrev pub Applies : AtSession → Asked Global → Result (Reply Global) Outage → AtSession → Type 0
  Applies s c result t = (t.station ≡ s.station)
      × (((c.station ≡ s.station) × (is_allowed may_order c ≡ true) × IsSubmitted J base s c result t) ⊎ IsOfAnother s c result t ⊎ IsForbidden may_order s c result t)

  -- the rules of a session with a centre that was opened over this register
  abbrev pub of_session : Rules Global AtSession
  of_session = record { applies = Applies; answers = Answers J base; reads = SessionReads J base }

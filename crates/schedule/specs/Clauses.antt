-- The terms in which the laws over every list of events are stated.
use Rattle.std.specs.Prelude.{◌≡◌, ℕ, ◌+◌, ◌≤◌, ◌==◌, Bool, true, false, cond, ◌⊎◌, List, [], ◌∷◌, ◌++◌, length, take, Some}
use Rattle.registration.specs.Numbers.{Station}
use Rattle.mailbox.specs.Numbers.{Count}
use Rattle.centre_core.specs.declared.command.Command.{Command}
use Rattle.centre_core.specs.declared.reply.Reply.TheVariants.{Accepted, Kept, Refused}
use Rattle.centre_core.specs.State.{State}
use Rattle.centre_core.specs.Step.{last_at}
use Rattle.centre_core.specs.History.{after}
use Rattle.centre_core.specs.InTurn.{reply_to, last_of, Lands, IsLeftBy}
use Rattle.schedule.specs.declared.event.Event.{Event}
use Rattle.schedule.specs.declared.event.Event.TheVariants.{Submit, Seal, Crash, Reopen}
use Rattle.schedule.specs.World.{World, Entry, queue_of, seen_of}
use Rattle.schedule.specs.Next.{effect, first_one}

module _ {A : Type 0} where
  -- the first list begins the second
  abbrev pub IsBeginning : List (Command A) → List (Command A) → Type 0
  IsBeginning xs ys = (rest : List (Command A)) × (ys ≡ xs ++ rest)

  -- the list of accepted commands bears out an answer. Accepted: its command is there under its number, with this reply. Kept:
  -- the list has a command of its station and sequence with that number and reply, or the base keeps that. Refused: the
  -- command is refused after some beginning of the list.
  abbrev pub IsBorneOut : State → List (Command A) → Entry A → Type 0
  IsBorneOut base l (c, Accepted n p) = Lands base l c n p
  IsBorneOut base l (c, Kept n p) = IsLeftBy base l c.station (last_of c n p) ⊎ (last_at base c.station ≡ Some (last_of c n p))
  IsBorneOut base l (c, Refused r) = (place : ℕ) × (place ≤ length l) × (reply_to (after base (take place l)) c ≡ Refused r)

  -- an accepted answer lies within so many published commands
  abbrev pub IsWithin : State → Count → Entry A → Type 0
  IsWithin base published (c, Accepted n p) = n ≤ base.count + published
  IsWithin base published (c, Kept n p) = Unit {0}
  IsWithin base published (c, Refused r) = Unit {0}

  -- whether the event is a crash
  abbrev pub is_crash : Event A → Bool
  is_crash (Crash k) = true
  is_crash other = false

  -- whether the event is a reopening
  abbrev pub is_reopen : Event A → Bool
  is_reopen Reopen = true
  is_reopen other = false

  -- only a crash shortens the accepted commands, to a beginning that has all durable ones
  pub record IsShortenedByCrashAlone (w : World A) (e : Event A) (w' : World A) : Type 0 where
    pub else_stays : is_crash e ≡ false → IsBeginning w.accepted w'.accepted
    pub to_a_beginning : is_crash e ≡ true → IsBeginning w'.accepted w.accepted
    pub with_durable : is_crash e ≡ true → IsBeginning (take w.durable w.accepted) w'.accepted

  -- the accepted commands that a station has seen
  abbrev pub seen_by : World A → Station → List (Command A)
  seen_by w s = take (seen_of w s) w.accepted

  -- the commands of a station that an event submits
  abbrev pub submitted_by : Station → Event A → List (Command A)
  submitted_by t (Submit s c) = cond (s == t) (c ∷ []) []
  submitted_by t other = []

  -- the commands of a station that events submit, in order
  abbrev pub submitted : Station → List (Event A) → List (Command A)
  submitted t [] = []
  submitted t (e ∷ es) = submitted_by t e ++ submitted t es

  -- the commands of a station that an event seals
  abbrev pub sealed_by : Station → World A → Event A → List (Command A)
  sealed_by t w (Seal s) = cond (s == t) (first_one (queue_of w s)) []
  sealed_by t w other = []

  -- the commands of a station that events seal, in order, from this world on
  abbrev pub sealed : State → Station → World A → List (Event A) → List (Command A)
  sealed base t w [] = []
  sealed base t w (e ∷ es) = sealed_by t w e ++ sealed base t (effect base w e) es

  -- no reopening among the events
  abbrev pub IsOneLife : List (Event A) → Type 0
  IsOneLife [] = Unit {0}
  IsOneLife (e ∷ es) = (is_reopen e ≡ false) × IsOneLife es

  -- the start, or just after a reopening
  abbrev pub IsFresh : List (Event A) → Type 0
  IsFresh es = (es ≡ []) ⊎ ((before : List (Event A)) × (es ≡ before ++ Reopen ∷ []))

-- The two parts of submitting commands together: a prefix of them is put into the queue, and then their answers are received.
use Rattle.std.specs.Prelude.{◌≡◌, ◌⊎◌, ◌+◌, ◌-◌, ℕ, Bool, false, List, [], ◌∷◌, ◌++◌, drop, length, replicate, take}
use Rattle.std.specs.declared.alloc.Global.{Global}
use mathlib.Core.List.{IsPrefix}
use Rattle.centre_core.specs.Asked.{Asked}
use Rattle.centre_core.specs.State.{State}
use Rattle.station_queue.specs.declared.entry.Entry.{Entry}
use Rattle.flusher.specs.declared.answer.Answer.{Answer}
use Rattle.flusher.specs.declared.answer.Answer.TheVariants as answer
use Rattle.flusher.specs.Stages.{Sent}
use Rattle.flusher.specs.Submitted.{SessionView, BearsOutAnswer, Fits, HasReached, IsPut}

-- the commands were put into the queue, in order, after all that the session put there
abbrev pub ArePut : List (Asked Global) → List Entry → List Entry → Type 0
ArePut [] old new = new ≡ old
ArePut (c ∷ cs) old new = (mid : List Entry) × IsPut c old mid × ArePut cs mid new

-- So many more answers were received, or the flusher was found gone. `was` and `now` say whether it was found gone before and after.
pub record HaveAllCome (count : ℕ) (was now : Bool) (old new : List Sent) : Type 0 where
  pub found : now ≡ false → was ≡ false
  pub all : now ≡ false → length new ≡ length old + count

-- what a session received, the list that it has seen, and how many commands of that list it has reached
pub record Heard : Type 0 where
  pub received : List Sent
  pub seen : List (Asked Global)
  pub reached : ℕ

-- what a session has heard, with these parts
abbrev pub heard : List Sent → List (Asked Global) → ℕ → Heard
heard received seen reached = record { received = received; seen = seen; reached = reached }

-- a session that put this into the queue, and has heard this
abbrev pub session_view : List Entry → Heard → SessionView
session_view sent h = record { sent = sent; received = h.received; seen = h.seen; reached = h.reached }

module _ {J : Type 0} where
  -- a prefix of the commands was put into the queue, and each of the others is answered as out of memory
  abbrev pub ArePutFirst : List (Asked Global) → List Entry → List Entry → List (Answer J) → Type 0
  ArePutFirst cs old new answers =
      (put : ℕ) × ArePut (take put cs) old new × (drop put answers ≡ replicate (length cs - put) answer.NoMemory)

  -- How a command that was put into the queue is answered. One more answer was received (`Fits`). Or none was, no more is seen, and the
  -- command is answered as `Closed`.
  pub record IsHeard (base : State) (c : Asked Global) (old new : Heard) (a : Answer J) : Type 0 where
    pub received : ((x : Sent) × (new.received ≡ old.received ++ x ∷ []) × Fits base c old.seen old.reached x new.seen a)
        ⊎ ((new.received ≡ old.received) × (new.seen ≡ old.seen) × (a ≡ answer.Closed))
    pub borne_out : BearsOutAnswer base c old.seen old.reached new.seen a
    pub seen : IsPrefix old.seen new.seen
    pub reached : HasReached base old.reached new.reached new.seen a

  -- each of these commands, in order, is answered as `IsHeard` states, from what was heard after the one before it
  abbrev pub AreHeard : State → List (Asked Global) → Heard → Heard → List (Answer J) → Type 0
  AreHeard base [] old new [] = new ≡ old
  AreHeard base [] old new (a ∷ answers) = ⊥
  AreHeard base (c ∷ cs) old new [] = ⊥
  AreHeard base (c ∷ cs) old new (a ∷ answers) = (mid : Heard) × IsHeard base c old mid a × AreHeard base cs mid new answers

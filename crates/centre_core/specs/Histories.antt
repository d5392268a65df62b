-- Histories: commands that are accepted one after the other.
use Rattle.std.specs.Prelude.{◌-◌, ◌==◌, nat_lt, IsTrue, Bool, List, [], ◌∷◌, Option, Some, None, if◌then◌else◌}
use Rattle.std.specs.List.{slice_get}
use Rattle.registration.specs.Numbers.{Station}
use Rattle.mailbox.specs.Numbers.{Number}
use Rattle.centre_core.specs.declared.command.Command.{Command}
use Rattle.centre_core.specs.declared.reply.Reply.{Reply}
use Rattle.centre_core.specs.declared.reply.Reply.TheVariants.{Accepted, Kept, Refused}
use Rattle.centre_core.specs.State.{State, LastAccepted}
use Rattle.centre_core.specs.Step.{step, kept_of}
use Rattle.centre_core.specs.History.{accepts, next}

-- the PDU of a reply
abbrev pub reply_pdu : {B : Type 0} → Reply B → Option (List Bool)
reply_pdu (Accepted number pdu) = pdu
reply_pdu (Kept number pdu) = pdu
reply_pdu (Refused refusal) = None

module _ {A : Type 0} where
  -- from this base each command is accepted in turn
  abbrev pub IsHistory : State → List (Command A) → Type 0
  IsHistory base [] = Unit {0}
  IsHistory base (c ∷ cs) = IsTrue (accepts base c) × IsHistory (next base c) cs

  -- the command numbered n, which is at place n less the base's count; places are counted from 1
  abbrev pub numbered : State → List (Command A) → Number → Option (Command A)
  numbered base cs n = if nat_lt base.count n then slice_get cs (n - base.count - 1) else None

  -- the entry of a command that this state accepts: its sequence, its number and the PDU of its reply
  abbrev pub accepted_by : State → Command A → LastAccepted
  accepted_by s c = kept_of s c (reply_pdu (step {B = A} s c).1)

  -- the entry of a station after a command: that of the command if it is the station's, else the old entry
  abbrev pub entry_after : State → Command A → Station → Option LastAccepted → Option LastAccepted
  entry_after s c station entry = if station == c.station then Some (accepted_by s c) else entry

  -- the entry of a station after these commands: that of its last one among them, or else the old entry
  abbrev pub last_accepted_of : Station → Option LastAccepted → State → List (Command A) → Option LastAccepted
  last_accepted_of station entry base [] = entry
  last_accepted_of station entry base (c ∷ cs) = last_accepted_of station (entry_after base c station entry) (next base c) cs

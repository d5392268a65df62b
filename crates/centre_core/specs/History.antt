-- The register over lists of commands.
use Rattle.std.specs.Prelude.{nat_le, ◌==◌, Bool, true, false, cond, ◌&&◌, ◌||◌, List, [], ◌∷◌, Option, Some, None, Result, Ok, Err}
use Rattle.std.specs.List.{list_any}
use Rattle.identity.specs.Numbers.{Itsi, Gtsi}
use Rattle.registration.specs.Numbers.{Station}
use Rattle.sds_tl.specs.Numbers.{Reference}
use Rattle.sds_tl.specs.declared.fault.SdsFault.{SdsFault}
use Rattle.sds_tl.specs.declared.pdu.Head.{Head}
use Rattle.sds_tl.specs.declared.pdu.Head.TheVariants as heads
use Rattle.sds_tl.specs.Reading.{heading}
use Rattle.sds_tl.specs.Transfers.{transfer_reference}
use Rattle.mailbox.specs.Numbers.{Moment}
use Rattle.mailbox.specs.Values.{Item}
use Rattle.mailbox.specs.Item.{is_at, is_reported, is_confirmed, is_expired}
use Rattle.centre_core.specs.Numbers.{Sequence}
use Rattle.centre_core.specs.declared.command.Command.{Command}
use Rattle.centre_core.specs.declared.command.Body.{Body}
use Rattle.centre_core.specs.declared.command.Body.TheVariants.{RuleSet, RuleClear, Mm, Sds, GroupSds, Sent, Expire, Delete}
use Rattle.centre_core.specs.declared.reply.Reply.{Reply}
use Rattle.centre_core.specs.declared.reply.Reply.TheVariants.{Accepted, Kept, Refused}
use Rattle.centre_core.specs.State.{State, LastAccepted}
use Rattle.centre_core.specs.Step.{step, is_station, last_at, envelope, message_of, group_envelope, copies_of}

-- the last accepted command has this sequence or a greater one
abbrev pub is_at_least : Sequence → Option LastAccepted → Bool
is_at_least sequence None = false
is_at_least sequence (Some last) = nat_le sequence last.sequence

-- the station, where it is one, has an accepted command of this sequence or a greater one
abbrev pub has_reached : State → Station → Sequence → Bool
has_reached s station sequence = is_station s station && is_at_least sequence (last_at s station)

-- the reply accepts its command; a kept reply and a refusal do not accept it
abbrev pub is_acceptance : {B : Type 0} → Reply B → Bool
is_acceptance (Accepted number pdu) = true
is_acceptance (Kept number pdu) = false
is_acceptance (Refused refusal) = false

-- a report ends the message that it reports on, if its status says so
abbrev pub names_by_head : Itsi → Itsi → Result Head SdsFault → Item → Bool
names_by_head source destination (Err fault) m = false
names_by_head source destination (Ok (heads.Transfer request reference)) m = false
names_by_head source destination (Ok (heads.Report acknowledge status reference)) m = is_reported (envelope source destination reference) status m
names_by_head source destination (Ok (heads.Ack status reference)) m = false

-- A command of this moment that the state accepts.
module _ (s : State) (moment : Moment) where
  -- the messages that a short data PDU makes: one if it is an SDS-TRANSFER, else none
  abbrev pub made_by_head : Itsi → Itsi → List Bool → Result Head SdsFault → List Item
  made_by_head source destination pdu (Err fault) = []
  made_by_head source destination pdu (Ok (heads.Transfer request reference)) = message_of s moment (envelope source destination reference) pdu ∷ []
  made_by_head source destination pdu (Ok (heads.Report acknowledge status reference)) = []
  made_by_head source destination pdu (Ok (heads.Ack status reference)) = []

  -- the messages that a message to a group makes: its copies
  abbrev pub made_by_reference : Itsi → Gtsi → List Bool → Result Reference SdsFault → List Item
  made_by_reference source group pdu (Err fault) = []
  made_by_reference source group pdu (Ok reference) = copies_of s moment (group_envelope source group reference) pdu

module _ {A : Type 0} where
  -- the state accepts the command
  abbrev pub accepts : State → Command A → Bool
  accepts s c = is_acceptance (step {B = A} s c).1

  -- the state after the command
  abbrev pub next : State → Command A → State
  next s c = (step {B = A} s c).0

  -- the state after the commands, one after another
  abbrev pub after : State → List (Command A) → State
  after s [] = s
  after s (c ∷ cs) = after (next s c) cs

  -- the command ends this message: a report from its destination that says so, a `sent` where no report is asked for,
  -- an expiry at its deadline or later, a deletion
  abbrev pub names_in : Moment → Body A → Item → Bool
  names_in moment (RuleSet prefix rule) m = false
  names_in moment (RuleClear prefix) m = false
  names_in moment (Mm itsi area pdu) m = false
  names_in moment (Sds source destination pdu) m = names_by_head source destination (heading pdu) m
  names_in moment (GroupSds source group pdu) m = false
  names_in moment (Sent key) m = is_confirmed key m
  names_in moment Expire m = is_expired moment m
  names_in moment (Delete key) m = is_at key m

  -- the command, with its own moment and body, ends this message
  abbrev pub names : Command A → Item → Bool
  names c m = names_in c.moment c.body m

  -- some command of the list is accepted in turn and ends the message
  abbrev pub ended : State → List (Command A) → Item → Bool
  ended s [] m = false
  ended s (c ∷ cs) m = (accepts s c && names c m) || ended (next s c) cs m

  -- the messages that an accepted command makes: one, or each copy of a message to a group
  abbrev pub made_in : State → Moment → Body A → List Item
  made_in s moment (RuleSet prefix rule) = []
  made_in s moment (RuleClear prefix) = []
  made_in s moment (Mm itsi area pdu) = []
  made_in s moment (Sds source destination pdu) = made_by_head s moment source destination pdu (heading pdu)
  made_in s moment (GroupSds source group pdu) = made_by_reference s moment source group pdu (transfer_reference (heading pdu))
  made_in s moment (Sent key) = []
  made_in s moment Expire = []
  made_in s moment (Delete key) = []

  -- the messages that this command makes, if the state accepts it
  abbrev pub made : State → Command A → List Item
  made s c = made_in s c.moment c.body

  -- the later command d is of the station of c, with its sequence or a greater one
  abbrev pub is_no_later : Command A → Command A → Bool
  is_no_later c d = (d.station == c.station) && nat_le c.sequence d.sequence

  -- its station has an accepted command of its sequence or a greater one: in the state s, or among those done since
  abbrev pub is_resend : State → List (Command A) → Command A → Bool
  is_resend s done c = has_reached s c.station c.sequence || list_any (is_no_later c) done

  -- the accepted commands after one more command: it is added if the state that was reached accepts it
  abbrev pub done_after : State → List (Command A) → Command A → List (Command A)
  done_after now done c = cond (accepts now c) (c ∷ done) done

  -- the command and these after it, or these alone where it is left out
  abbrev pub unless : Bool → Command A → List (Command A) → List (Command A)
  unless left_out c cs = cond left_out cs (c ∷ cs)

  -- the commands that are no resends; s is the state at the start, done what was accepted since, now the state that is reached
  abbrev pub fresh_from : State → List (Command A) → State → List (Command A) → List (Command A)
  fresh_from s done now [] = []
  fresh_from s done now (c ∷ cs) = unless (is_resend s done c) c (fresh_from s (done_after now done c) (next now c) cs)

  -- the commands that are no resends, from this state on
  abbrev pub fresh : State → List (Command A) → List (Command A)
  fresh s cs = fresh_from s [] s cs

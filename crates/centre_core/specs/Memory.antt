-- Which commands need memory; every other one is answered without it. Memory is for a rule under a new prefix, for a radio
-- that is new, for a message or a report that is accepted, for the groups that are read of a PDU and are acknowledged, for the
-- list of the radios attached to a group, and for a copy of more than 64 bits.
use Rattle.std.specs.Prelude.{nat_lt, ◌==◌, Bool, true, false, not, ◌&&◌, ◌||◌, List, length, Option, Some, None, Result, Ok, Err, if◌then◌else◌}
use Rattle.std.specs.Option.{is_none}
use Rattle.identity.specs.Numbers.{Itsi}
use Rattle.identity.specs.Path.{Path}
use Rattle.mm_pdus.specs.declared.fault.MmFault.{MmFault}
use Rattle.mm_pdus.specs.declared.fault.MmFault.TheVariants as fault
use Rattle.mm_pdus.specs.declared.update.LocationUpdateType.{LocationUpdateType}
use Rattle.mm_pdus.specs.declared.uplink.MmUp.{MmUp}
use Rattle.mm_pdus.specs.declared.uplink.MmUp.TheVariants as up
use Rattle.mm_pdus.specs.UplinkReading.{reading_up, unkept_up}
use Rattle.registration.specs.Numbers.{Area}
use Rattle.registration.specs.Registered.{has_rule, has_radio, set_refusal, locate_refusal}
use Rattle.group_attach.specs.Applied.{apply_refusal}
use Rattle.sds_tl.specs.Numbers.{Reference, Status}
use Rattle.sds_tl.specs.declared.fault.SdsFault.{SdsFault}
use Rattle.sds_tl.specs.declared.pdu.Head.{Head}
use Rattle.sds_tl.specs.declared.pdu.Head.TheVariants as heads
use Rattle.sds_tl.specs.Reading.{heading}
use Rattle.sds_tl.specs.Transfers.{transfer_reference}
use Rattle.mailbox.specs.Numbers.{Moment}
use Rattle.mailbox.specs.Refusals.{post_refusal, report_refusal}
use Rattle.mailbox.specs.declared.key.Envelope.{Envelope}
use Rattle.centre_core.specs.declared.command.Command.{Command}
use Rattle.centre_core.specs.declared.command.Body.{Body}
use Rattle.centre_core.specs.declared.command.Body.TheVariants.{RuleSet, RuleClear, Mm, Sds, GroupSds, Sent, Expire, Delete}
use Rattle.centre_core.specs.State.{State, LastAccepted, last_number}
use Rattle.centre_core.specs.Step.{is_station, last_at, envelope, message_of, report_of}

-- a rule under a new prefix, for which there is room; not one that replaces another
abbrev pub needs_rule : State → Path → Bool
needs_rule s prefix = not (has_rule s.registered prefix) && is_none (set_refusal s.registered prefix)

-- a location update that is accepted, of a radio that the register doesn't know: for its entry in the table of radios. The PDU
-- of the reply is short, also where the update is refused
abbrev pub needs_update : State → Itsi → Area → LocationUpdateType → Bool
needs_update s itsi area update = not (has_radio s.registered itsi) && is_none (locate_refusal s.registered itsi area update)

-- a PDU of more than 64 bits: a copy of it takes memory, one of fewer never does
abbrev pub is_long : Option (List Bool) → Bool
is_long None = false
is_long (Some pdu) = nat_lt 64 (length pdu)

-- a PDU has a group before any fault: a reading of it that can keep no group ends in out of memory
abbrev pub reads_group : {B : Type 0} → Result (MmUp B) MmFault → Bool
reads_group (Ok pdu) = false
reads_group (Err fault.Short) = false
reads_group (Err fault.Trailing) = false
reads_group (Err fault.UnknownType) = false
reads_group (Err fault.BadElement) = false
reads_group (Err fault.UnsupportedAddress) = false
reads_group (Err fault.TooMany) = false
reads_group (Err fault.NoMemory) = true

-- of a PDU's reading: a location update that is accepted of a new radio, or a change of groups that is accepted; no detach,
-- no bits at fault
abbrev pub needs_read : {B : Type 0} → State → Itsi → Area → Result (MmUp B) MmFault → Bool
needs_read s itsi area (Err fault) = false
needs_read s itsi area (Ok (up.Demand update)) = needs_update s itsi area update
needs_read s itsi area (Ok up.Detach) = false
needs_read s itsi area (Ok (up.Groups mode items)) = is_none (apply_refusal s.registered s.groups itsi mode items)

-- A command of this moment.
module _ (s : State) (moment : Moment) where
  -- a message that is accepted
  abbrev pub needs_message : Envelope → List Bool → Bool
  needs_message e pdu = is_none (post_refusal s.registered s.mail (message_of s moment e pdu))

  -- a report of this status that is accepted
  abbrev pub needs_report : Envelope → Status → List Bool → Bool
  needs_report e status pdu = is_none (report_refusal s.registered s.mail e status (report_of s moment e pdu))

  -- of a short data PDU's head: a message or a report that is accepted; no acknowledgement, no bits at fault
  abbrev pub needs_head : Itsi → Itsi → List Bool → Result Head SdsFault → Bool
  needs_head source destination pdu (Err fault) = false
  needs_head source destination pdu (Ok (heads.Transfer request reference)) = needs_message (envelope source destination reference) pdu
  needs_head source destination pdu (Ok (heads.Report acknowledge status reference)) = needs_report (envelope source destination reference) status pdu
  needs_head source destination pdu (Ok (heads.Ack status reference)) = false

-- a message to a group, accepted or refused; no bits at fault, no other PDU
abbrev pub needs_reference : Result Reference SdsFault → Bool
needs_reference (Err fault) = false
needs_reference (Ok reference) = true

module _ {A : Type 0} where
  -- by the body, as above; never for the clearing of a rule, `sent`, `expire` and `delete`
  abbrev pub needs_body : State → Moment → Body A → Bool
  needs_body s moment (RuleSet prefix rule) = needs_rule s prefix
  needs_body s moment (RuleClear prefix) = false
  needs_body s moment (Mm itsi area pdu) = reads_group (unkept_up {A = A} pdu) || needs_read s itsi area (reading_up {A = A} pdu)
  needs_body s moment (Sds source destination pdu) = needs_head s moment source destination pdu (heading pdu)
  needs_body s moment (GroupSds source group pdu) = needs_reference (transfer_reference (heading pdu))
  needs_body s moment (Sent key) = false
  needs_body s moment Expire = false
  needs_body s moment (Delete key) = false

  -- a command whose sequence is new to its station, while there are numbers left
  abbrev pub needs_new : State → Command A → Bool
  needs_new s c = nat_lt s.count last_number && needs_body s c.moment c.body

  -- a command with an old sequence needs none; a resend of the last one needs it if the kept reply's PDU is long
  abbrev pub needs_after : State → Command A → Option LastAccepted → Bool
  needs_after s c None = needs_new s c
  needs_after s c (Some last) =
      if nat_lt c.sequence last.sequence then false
      else if c.sequence == last.sequence then is_long last.pdu
      else needs_new s c

  -- whether a command needs memory in this state; of an unknown station none does
  unfoldable pub needs_memory : State → Command A → Bool
  needs_memory s c = is_station s c.station && needs_after s c (last_at s c.station)

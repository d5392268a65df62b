-- The register as a machine: the state after a command, and the reply.
use Rattle.std.specs.Prelude.{◌<◌, ◌≤◌, zero, suc, ◌+◌, ◌-◌, ◌==◌, nat_lt, nat_le, Bool, false, ◌&&◌}
use Rattle.std.specs.Prelude.{List, map, slice_index_or, slice_set, Option, Some, None, Result, Ok, Err, if◌then◌else◌, IfSome}
use Rattle.std.specs.Option.{option_map}
use Rattle.identity.specs.Numbers.{Itsi, Gtsi}
use Rattle.identity.specs.Path.{Path}
use Rattle.mm_pdus.specs.Numbers.{Cause}
use Rattle.mm_pdus.specs.declared.update.LocationUpdateType.{LocationUpdateType}
use Rattle.mm_pdus.specs.declared.group.GroupMode.{GroupMode}
use Rattle.mm_pdus.specs.declared.group.GroupUp.{GroupUp}
use Rattle.mm_pdus.specs.declared.uplink.MmUp.{MmUp}
use Rattle.mm_pdus.specs.declared.uplink.MmUp.TheVariants as up
use Rattle.mm_pdus.specs.declared.fault.MmFault.{MmFault}
use Rattle.mm_pdus.specs.Values.{accept_of}
use Rattle.mm_pdus.specs.UplinkReading.{reading_up}
use Rattle.mm_pdus.specs.Downlink.{accept_text, reject_text, acknowledge_text}
use Rattle.registration.specs.Numbers.{Area, Station}
use Rattle.registration.specs.declared.rule.Rule.{Rule}
use Rattle.registration.specs.declared.fault.RegFault.{RegFault}
use Rattle.registration.specs.declared.fault.RegFault.TheVariants.{UnknownIdentity, LaNotAllowed, Congestion, Migration}
use Rattle.registration.specs.declared.fault.RegFault.TheVariants.{UnsupportedType, NotAttached, RulesFull, NoMemory}
use Rattle.registration.specs.Registered.{Registered, set_refusal, with_rule, without_rule, locate_refusal, located, detach_refusal, detached}
use Rattle.group_attach.specs.Attached.{members_of}
use Rattle.group_attach.specs.Applied.{after_update, applied, answers, apply_refusal}
use Rattle.sds_tl.specs.Numbers.{Reference, Status}
use Rattle.sds_tl.specs.declared.fault.SdsFault.{SdsFault}
use Rattle.sds_tl.specs.declared.pdu.Head.{Head}
use Rattle.sds_tl.specs.declared.pdu.Head.TheVariants as heads
use Rattle.sds_tl.specs.Reading.{heading, cleared}
use Rattle.sds_tl.specs.Transfers.{transfer_reference}
use Rattle.mailbox.specs.Numbers.{Moment}
use Rattle.mailbox.specs.declared.fault.MailFault.{MailFault}
use Rattle.mailbox.specs.declared.key.Kind.TheVariants as kind
use Rattle.mailbox.specs.declared.key.Key.{Key}
use Rattle.mailbox.specs.declared.key.Stamp.{Stamp}
use Rattle.mailbox.specs.declared.key.Envelope.{Envelope}
use Rattle.mailbox.specs.declared.key.GroupEnvelope.{GroupEnvelope}
use Rattle.mailbox.specs.Values.{Item, Mailed}
use Rattle.mailbox.specs.Item.{key_of}
use Rattle.mailbox.specs.Mail.{item_for, posted, reported, acknowledged, confirmed, expired, deleted}
use Rattle.mailbox.specs.Refusals.{post_refusal, report_refusal, ack_refusal, sent_refusal, delete_refusal}
use Rattle.mailbox.specs.GroupPost.{copies, group_posted, group_refusal}
use Rattle.centre_core.specs.declared.command.Command.{Command}
use Rattle.centre_core.specs.declared.command.Body.{Body}
use Rattle.centre_core.specs.declared.command.Body.TheVariants.{RuleSet, RuleClear, Mm, Sds, GroupSds, Sent, Expire, Delete}
use Rattle.centre_core.specs.declared.reply.Reply.{Reply}
use Rattle.centre_core.specs.declared.reply.Reply.TheVariants.{Accepted, Kept, Refused}
use Rattle.centre_core.specs.declared.reply.Refusal.{Refusal}
use Rattle.centre_core.specs.declared.reply.Refusal.TheVariants.{UnknownStation, OldSequence, NumbersUsedUp, Pdu, ShortData}
use Rattle.centre_core.specs.declared.reply.Refusal.TheVariants.{Registration, Location, Groups, Mail}
use Rattle.centre_core.specs.State.{State, LastAccepted, last_number}

-- the register has a station of this number, from 1 to its limit
abbrev pub is_station : State → Station → Bool
is_station s station = nat_lt 0 station && nat_le station s.registered.limits.stations

-- the entry of a station; none where there is no such station
abbrev pub last_at : State → Station → Option LastAccepted
last_at s zero = None
last_at s (suc before) = slice_index_or s.served before None

-- the cause in a D-LOCATION UPDATE REJECT (clause 16.10, reject cause); the other refusals have no PDU
abbrev pub cause_of : RegFault → Option Cause
cause_of UnknownIdentity = Some 1
cause_of LaNotAllowed = Some 3
cause_of Congestion = Some 6
cause_of Migration = Some 12
cause_of UnsupportedType = None
cause_of NotAttached = None
cause_of RulesFull = None
cause_of NoMemory = None

-- the D-LOCATION UPDATE ACCEPT of an update that may be accepted
abbrev pub accept_pdu : LocationUpdateType → Option (List Bool)
accept_pdu update = option_map accept_text (accept_of update)

-- the D-ATTACH/DETACH GROUP IDENTITY ACKNOWLEDGEMENT of a radio's group items
abbrev pub acknowledge_pdu : Registered → Itsi → List GroupUp → List Bool
acknowledge_pdu r itsi items = acknowledge_text false (answers r itsi items)

-- the rule is set under the prefix
abbrev pub rule_set : State → Path → Rule → State
rule_set s prefix rule = record s { registered = with_rule s.registered prefix rule }

-- the rule under the prefix is removed
abbrev pub rule_cleared : State → Path → State
rule_cleared s prefix = record s { registered = without_rule s.registered prefix }

-- the radio is present at the station and location area, and loses the attachments that the update ends
abbrev pub radio_located : State → Itsi → Station → Area → LocationUpdateType → State
radio_located s itsi station area update = record s {
  registered = located s.registered itsi station area;
  groups = after_update s.groups itsi update;
}

-- the radio is no longer present; its attachments stay
abbrev pub radio_detached : State → Itsi → State
radio_detached s itsi = record s { registered = detached s.registered itsi }

-- the attachments are those after the radio's group PDU
abbrev pub groups_changed : State → Itsi → GroupMode → List GroupUp → State
groups_changed s itsi mode items = record s { groups = applied s.registered s.groups itsi mode items }

-- the mail is this, and all else is unchanged
abbrev pub mail_changed : State → Mailed → State
mail_changed s mail = record s { mail = mail }

-- the number of the next accepted command, and this moment
abbrev pub next_stamp : State → Moment → Stamp
next_stamp s moment = record { number = s.count + 1; moment = moment }

-- the message that the next accepted command makes: a PDU in this envelope
abbrev pub message_of : State → Moment → Envelope → List Bool → Item
message_of s moment e pdu = item_for s.registered (key_of e kind.Message) (next_stamp s moment) pdu

-- the item of a report, its PDU in canonical form
abbrev pub report_of : State → Moment → Envelope → List Bool → Item
report_of s moment e pdu = item_for s.registered (key_of e kind.Report) (next_stamp s moment) (cleared pdu)

-- who sent a short data PDU, whom it is for, and its message reference
abbrev pub envelope : Itsi → Itsi → Reference → Envelope
envelope source destination reference = record { source = source; destination = destination; reference = reference }

-- the radios that are attached to a group, present or not, in order of number
abbrev pub members : State → Gtsi → List Itsi
members s group = map (λ a. a.itsi) (members_of s.groups group)

-- the copies of a message to a group that the next accepted command makes, one for each member that has one
abbrev pub copies_of : State → Moment → GroupEnvelope → List Bool → List Item
copies_of s moment e pdu = copies s.registered e (members s e.group) (next_stamp s moment) pdu

-- who sent a message to a group, the group, and the message reference
abbrev pub group_envelope : Itsi → Gtsi → Reference → GroupEnvelope
group_envelope source group reference = record { source = source; group = group; reference = reference }

-- A and B are the allocators of a command's and a reply's bits. Nothing here depends on them.
module _ {B : Type 0} where
  -- the refusal of a location update, with a D-LOCATION UPDATE REJECT where there is a cause
  abbrev pub rejected : LocationUpdateType → RegFault → Option Cause → Refusal B
  rejected update fault None = Registration fault
  rejected update fault (Some cause) = Location fault (reject_text update cause)

  -- the refusal of a location update of this type
  abbrev pub location_refusal : LocationUpdateType → RegFault → Refusal B
  location_refusal update fault = rejected update fault (cause_of fault)

module _ {A : Type 0} where
  -- the entry of the next accepted command, whose reply has this PDU
  abbrev pub kept_of : State → Command A → Option (List Bool) → LastAccepted
  kept_of s c pdu = record { sequence = c.sequence; number = s.count + 1; pdu = pdu }

  -- the state after one more accepted command, whose reply has this PDU
  abbrev pub accepted : State → Command A → Option (List Bool) → State
  accepted s c pdu = record s {
    served = slice_set s.served (c.station - 1) (Some (kept_of s c pdu));
    count = s.count + 1;
  }

  -- the command comes from a station of the register
  abbrev pub IsOfStation : State → Command A → Type 0
  IsOfStation s c = (0 < c.station) × (c.station ≤ s.registered.limits.stations)

  -- its sequence is new to the station that it comes from
  abbrev pub IsNew : State → Command A → Type 0
  IsNew s c = IsOfStation s c × IfSome (last_at s c.station) (λ last. last.sequence < c.sequence)

  -- the command comes from a station, and there is a number left for it
  abbrev pub CanBeAccepted : State → Command A → Type 0
  CanBeAccepted s c = IsOfStation s c × (s.count < last_number)

-- A command that comes to this state.
module _ {A B : Type 0} (s : State) (c : Command A) where
  -- the command is refused, or makes this state and is answered with this PDU
  abbrev pub step_made : State → Option (List Bool) → Option (Refusal B) → State × Reply B
  step_made made pdu (Some refusal) = (s, Refused refusal)
  step_made made pdu None = (accepted made c pdu, Accepted (s.count + 1) pdu)

  -- a rule is set, if it replaces one or there is room for it
  abbrev pub step_rule : Path → Rule → State × Reply B
  step_rule prefix rule = step_made (rule_set s prefix rule) None (option_map Registration (set_refusal s.registered prefix))

  -- the rule under a prefix is removed; this is never refused
  abbrev pub step_clear : Path → State × Reply B
  step_clear prefix = step_made (rule_cleared s prefix) None None

  -- a location update: the radio is located and gets a D-LOCATION UPDATE ACCEPT, or the update is refused
  abbrev pub step_locate : Itsi → Area → LocationUpdateType → State × Reply B
  step_locate itsi area update =
      step_made
      (radio_located s itsi c.station area update)
      (accept_pdu update)
      (option_map (location_refusal update) (locate_refusal s.registered itsi area update))

  -- a radio detaches, and the reply has no PDU; refused if the radio is not present
  abbrev pub step_detach : Itsi → State × Reply B
  step_detach itsi = step_made (radio_detached s itsi) None (option_map Registration (detach_refusal s.registered itsi))

  -- a group PDU of a radio: its items are applied and acknowledged, or all of it is refused
  abbrev pub step_groups : Itsi → GroupMode → List GroupUp → State × Reply B
  step_groups itsi mode items =
      step_made
      (groups_changed s itsi mode items)
      (Some (acknowledge_pdu s.registered itsi items))
      (option_map Groups (apply_refusal s.registered s.groups itsi mode items))

  -- a mobility management PDU by its reading, or its first fault
  abbrev pub step_mm : Itsi → Area → Result (MmUp B) MmFault → State × Reply B
  step_mm itsi area (Err fault) = (s, Refused (Pdu fault))
  step_mm itsi area (Ok (up.Demand update)) = step_locate itsi area update
  step_mm itsi area (Ok up.Detach) = step_detach itsi
  step_mm itsi area (Ok (up.Groups mode items)) = step_groups itsi mode items

  -- the mail becomes this, or the command is refused for this
  abbrev pub step_mail : Mailed → Option MailFault → State × Reply B
  step_mail mail refusal = step_made (mail_changed s mail) None (option_map Mail refusal)

  -- a message waits as the last item, or is refused
  abbrev pub step_message : Item → State × Reply B
  step_message w = step_mail (posted s.mail w) (post_refusal s.registered s.mail w)

  -- a report waits as the last item, and its message is removed if it ends that; or the report is refused
  abbrev pub step_report : Envelope → Status → Item → State × Reply B
  step_report e status w = step_mail (reported s.mail e status w) (report_refusal s.registered s.mail e status w)

  -- an acknowledgement: the report that it answers is removed, or it is refused
  abbrev pub step_ack : Envelope → State × Reply B
  step_ack e = step_mail (acknowledged s.mail e) (ack_refusal s.registered s.mail e)

  -- a short data PDU by its head, or its first fault
  abbrev pub step_sds : Itsi → Itsi → List Bool → Result Head SdsFault → State × Reply B
  step_sds source destination pdu (Err fault) = (s, Refused (ShortData fault))
  step_sds source destination pdu (Ok (heads.Transfer request reference)) = step_message (message_of s c.moment (envelope source destination reference) pdu)
  step_sds source destination pdu (Ok (heads.Report acknowledge status reference)) =
      step_report (envelope source destination reference) status (report_of s c.moment (envelope source destination reference) pdu)
  step_sds source destination pdu (Ok (heads.Ack status reference)) = step_ack (envelope source destination reference)

  -- the copies of a message to a group wait, all of them, or the message is refused
  abbrev pub step_copies : GroupEnvelope → List Item → State × Reply B
  step_copies e ws = step_mail (group_posted s.mail ws) (group_refusal s.registered s.mail e ws)

  -- a message to a group by the reference of its PDU, or its first fault
  abbrev pub step_group_sds : Itsi → Gtsi → List Bool → Result Reference SdsFault → State × Reply B
  step_group_sds source group pdu (Err fault) = (s, Refused (ShortData fault))
  step_group_sds source group pdu (Ok reference) =
      step_copies (group_envelope source group reference) (copies_of s c.moment (group_envelope source group reference) pdu)

  -- the item at the key was sent, and is removed if it waits for no answer; refused if nothing waits there
  abbrev pub step_sent : Key → State × Reply B
  step_sent key = step_mail (confirmed s.mail key) (sent_refusal s.registered s.mail key)

  -- the items that have ended by the command's moment are removed; this is never refused
  abbrev pub step_expire : State × Reply B
  step_expire = step_mail (expired s.mail c.moment) None

  -- the item at the key is removed; refused if nothing waits there
  abbrev pub step_delete : Key → State × Reply B
  step_delete key = step_mail (deleted s.mail key) (delete_refusal s.mail key)

  -- by the kind of body; a PDU is read first
  abbrev pub step_body : Body A → State × Reply B
  step_body (RuleSet prefix rule) = step_rule prefix rule
  step_body (RuleClear prefix) = step_clear prefix
  step_body (Mm itsi area pdu) = step_mm itsi area (reading_up pdu)
  step_body (Sds source destination pdu) = step_sds source destination pdu (heading pdu)
  step_body (GroupSds source group pdu) = step_group_sds source group pdu (transfer_reference (heading pdu))
  step_body (Sent key) = step_sent key
  step_body Expire = step_expire
  step_body (Delete key) = step_delete key

  -- a command whose sequence is new to its station
  abbrev pub step_new : State × Reply B
  step_new = if nat_lt s.count last_number then step_body c.body else (s, Refused NumbersUsedUp)

  -- a command from a station with this entry: an older one is refused, a resend of the last one is answered as before
  abbrev pub step_after : Option LastAccepted → State × Reply B
  step_after None = step_new
  step_after (Some last) =
      if nat_lt c.sequence last.sequence then (s, Refused (OldSequence last.sequence))
      else if c.sequence == last.sequence then (s, Kept last.number last.pdu)
      else step_new

  -- the state after a command, and the reply
  unfoldable pub step : State × Reply B
  step = if is_station s c.station then step_after (last_at s c.station) else (s, Refused UnknownStation)

-- Tests of a single item.
use Rattle.std.specs.Prelude.{◌==◌, nat_le, Bool, true, false, ◌&&◌, ◌||◌, not, List, Result, Ok, Err}
use Rattle.identity.specs.Numbers.{Itsi}
use Rattle.sds_tl.specs.Numbers.{Status}
use Rattle.sds_tl.specs.declared.fault.SdsFault.{SdsFault}
use Rattle.sds_tl.specs.declared.pdu.DeliveryReportRequest.{DeliveryReportRequest}
use Rattle.sds_tl.specs.declared.pdu.DeliveryReportRequest.TheVariants as requests
use Rattle.sds_tl.specs.declared.pdu.Head.{Head}
use Rattle.sds_tl.specs.declared.pdu.Head.TheVariants as heads
use Rattle.sds_tl.specs.Reading.{heading}
use Rattle.mailbox.specs.Numbers.{Moment}
use Rattle.mailbox.specs.declared.key.Kind.{Kind}
use Rattle.mailbox.specs.declared.key.Kind.TheVariants.{Message, Report}
use Rattle.mailbox.specs.declared.key.Key.{Key}
use Rattle.mailbox.specs.declared.key.Envelope.{Envelope}
use Rattle.mailbox.specs.Values.{Item}

-- the two kinds are the same
abbrev pub same_kind : Kind → Kind → Bool
same_kind Message Message = true
same_kind Message Report = false
same_kind Report Message = false
same_kind Report Report = true

-- the two keys are the same, in all four parts
abbrev pub same_key : Key → Key → Bool
same_key k j = (k.destination == j.destination) && (k.source == j.source) && (k.reference == j.reference) && same_kind k.kind j.kind

-- the key of what is sent in this envelope
abbrev pub key_of : Envelope → Kind → Key
key_of e kind = record { destination = e.destination; source = e.source; reference = e.reference; kind = kind }

-- the key of what a PDU in this envelope answers, which went the other way
abbrev pub answered : Envelope → Kind → Key
answered e kind = record { destination = e.source; source = e.destination; reference = e.reference; kind = kind }

-- which reports a message asks for
abbrev pub requested : Result Head SdsFault → DeliveryReportRequest
requested (Ok (heads.Transfer request reference)) = request
requested (Ok (heads.Report acknowledge status reference)) = requests.None
requested (Ok (heads.Ack status reference)) = requests.None
requested (Err fault) = requests.None

-- which reports the PDU of an item asks for
abbrev pub request_of : List Bool → DeliveryReportRequest
request_of pdu = requested (heading pdu)

-- it asks for no report
abbrev pub asks_nothing : DeliveryReportRequest → Bool
asks_nothing requests.None = true
asks_nothing requests.Received = false
asks_nothing requests.Consumed = false
asks_nothing requests.Both = false

-- it asks for a report once the message is consumed
abbrev pub asks_consumed : DeliveryReportRequest → Bool
asks_consumed requests.None = false
asks_consumed requests.Received = false
asks_consumed requests.Consumed = true
asks_consumed requests.Both = true

-- whether a report asks for an acknowledgement
abbrev pub acknowledge_of : Result Head SdsFault → Bool
acknowledge_of (Ok (heads.Transfer request reference)) = false
acknowledge_of (Ok (heads.Report acknowledge status reference)) = acknowledge
acknowledge_of (Ok (heads.Ack status reference)) = false
acknowledge_of (Err fault) = false

-- the PDU is a report's, and asks for an acknowledgement
abbrev pub wants_acknowledgement : List Bool → Bool
wants_acknowledgement pdu = acknowledge_of (heading pdu)

-- a message
abbrev pub is_message_kind : Kind → Bool
is_message_kind Message = true
is_message_kind Report = false

-- the item is a message, not a report
abbrev pub is_message : Item → Bool
is_message w = is_message_kind w.key.kind

-- it is for this destination
abbrev pub is_to : Itsi → Item → Bool
is_to destination w = w.key.destination == destination

-- the item's key is this one
abbrev pub is_at : Key → Item → Bool
is_at k w = same_key k w.key

-- a report of this status ends a message with this request: it was consumed, or it was received and asks for no report of consumption
abbrev pub ends_request : Status → DeliveryReportRequest → Bool
ends_request status request = (status == 2) || ((status == 0) && not (asks_consumed request))

-- a report in this envelope is on this message, and ends it
abbrev pub is_reported : Envelope → Status → Item → Bool
is_reported e status w = is_at (answered e Message) w && ends_request status (request_of w.pdu)

-- a report in this envelope ends this message, or replaces this report
abbrev pub is_ended_by : Envelope → Status → Item → Bool
is_ended_by e status w = is_reported e status w || is_at (key_of e Report) w

-- an item that asks for no answer: a message that asks for no report, a report that asks for no acknowledgement
abbrev pub is_answerless : Kind → List Bool → Bool
is_answerless Message pdu = asks_nothing (request_of pdu)
is_answerless Report pdu = not (wants_acknowledgement pdu)

-- it is at this key, and is removed once it was sent
abbrev pub is_confirmed : Key → Item → Bool
is_confirmed k w = is_at k w && is_answerless w.key.kind w.pdu

-- the item has ended by the moment
abbrev pub is_expired : Moment → Item → Bool
is_expired moment w = nat_le w.deadline moment

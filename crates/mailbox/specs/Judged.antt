-- What judging finds, and the item that is made by it.
use Rattle.std.specs.Prelude.{◌+◌, ◌≡◌, ◌==◌, ◌&&◌, not, Bool, List, length, Option, Some, None}
use Rattle.std.specs.List.{find, list_all, list_any}
use Rattle.std.specs.Option.{option_map}
use Rattle.identity.specs.Numbers.{Itsi}
use Rattle.registration.specs.Numbers.{Seconds}
use Rattle.registration.specs.declared.rule.Rule.{Rule}
use Rattle.registration.specs.Registered.{Registered}
use Rattle.sds_tl.specs.Numbers.{Status}
use Rattle.mailbox.specs.declared.key.Kind.TheVariants.{Message, Report}
use Rattle.mailbox.specs.declared.key.Key.{Key}
use Rattle.mailbox.specs.declared.key.Envelope.{Envelope}
use Rattle.mailbox.specs.declared.key.Stamp.{Stamp}
use Rattle.mailbox.specs.declared.opening.Opening.{Opening}
use Rattle.mailbox.specs.declared.opening.ReportOpening.{ReportOpening}
use Rattle.mailbox.specs.Values.{Item, Mailed}
use Rattle.mailbox.specs.Item.{key_of, answered, is_at, is_reported}
use Rattle.mailbox.specs.Order.{place_of}
use Rattle.mailbox.specs.Mail.{waiting}
use Rattle.mailbox.specs.Refusals.{post_refusal, report_refusal}

-- for how long a rule keeps an item, in seconds
abbrev pub keep_of : Option Rule → Seconds
keep_of None = 0
keep_of (Some rule) = rule.keep

-- whether nothing waits for a destination
abbrev pub none_waits : Mailed → Itsi → Bool
none_waits m destination = length (waiting m destination) == 0

-- whether only what is at a key waits for its destination
abbrev pub waits_alone : Mailed → Key → Bool
waits_alone m k = list_all (is_at k) (waiting m k.destination)

-- what judging finds for a new item at a key, which is kept so long
abbrev pub opening : Mailed → Seconds → Key → Opening
opening m keep k = record { key = k; keep = keep; is_first = none_waits m k.destination }

-- the item that is made by it
abbrev pub item_in : Opening → Stamp → List Bool → Item
item_in o stamp pdu = record { key = o.key; number = stamp.number; deadline = stamp.moment + o.keep; pdu = pdu; group = None }

-- what waits at the key
abbrev pub item_at : Mailed → Key → Option Item
item_at m k = find (is_at k) m.items

-- what judging finds for a report: what it finds for it as a new item, the place of the report that it replaces, whether it ends the
-- message, and whether only the message waits for the message's destination, once the report is put
abbrev pub report_opening : Mailed → Seconds → Envelope → Status → ReportOpening
report_opening m keep e status =
    record {
      opening = opening m keep (key_of e Report);
      earlier = option_map place_of (item_at m (key_of e Report));
      ends = list_any (is_reported e status) m.items;
      is_alone = not (e.destination == e.source) && waits_alone m (answered e Message);
    }

-- with some rules and radios the message is not refused
abbrev pub MayPost : Mailed → Item → Type 0
MayPost m w = (s : Registered) × (post_refusal s m w ≡ None)

-- with some rules and radios the report is not refused, with this envelope and status
abbrev pub MayReport : Mailed → Envelope → Status → Item → Type 0
MayReport m e status w = (s : Registered) × (report_refusal s m e status w ≡ None)

-- The mail after each call: items are filtered out, or one is added at the end.
use Rattle.std.specs.Prelude.{◌+◌, Bool, not, List, [], ◌∷◌, ◌++◌, Option, Some, None}
use Rattle.std.specs.List.{filter, list_any}
use Rattle.identity.specs.Numbers.{Itsi}
use Rattle.registration.specs.declared.rule.Rule.{Rule}
use Rattle.registration.specs.Registered.{Registered, rule_of}
use Rattle.sds_tl.specs.Numbers.{Status}
use Rattle.mailbox.specs.Numbers.{Moment}
use Rattle.mailbox.specs.declared.key.Kind.TheVariants.{Message, Report}
use Rattle.mailbox.specs.declared.key.Key.{Key}
use Rattle.mailbox.specs.declared.key.Envelope.{Envelope}
use Rattle.mailbox.specs.declared.key.Stamp.{Stamp}
use Rattle.mailbox.specs.Values.{Item, Mailed}
use Rattle.mailbox.specs.Item.{key_of, answered, is_at, is_to, is_ended_by, is_confirmed, is_expired}

-- whether something waits at the key
abbrev pub holds : Mailed → Key → Bool
holds m k = list_any (is_at k) m.items

-- the items that do not pass the test
abbrev pub without : (Item → Bool) → Mailed → Mailed
without test m = record { room = m.room; items = filter (λ w. not (test w)) m.items }

-- one more item at the end
abbrev pub with_item : Mailed → Item → Mailed
with_item m w = record { room = m.room; items = m.items ++ w ∷ [] }

-- the moment at which an item made at this one ends: after the keep of its destination's rule
abbrev pub deadline_by : Option Rule → Moment → Moment
deadline_by None moment = moment
deadline_by (Some rule) moment = moment + rule.keep

-- the item at a key that a command makes
abbrev pub item_for : Registered → Key → Stamp → List Bool → Item
item_for s k stamp pdu = record {
  key = k;
  number = stamp.number;
  deadline = deadline_by (rule_of s k.destination) stamp.moment;
  pdu = pdu;
  group = None;
}

-- the item that a message in this envelope makes
abbrev pub message_item : Registered → Envelope → Stamp → List Bool → Item
message_item s e stamp pdu = item_for s (key_of e Message) stamp pdu

-- the item that a report in this envelope makes
abbrev pub report_item : Registered → Envelope → Stamp → List Bool → Item
report_item s e stamp pdu = item_for s (key_of e Report) stamp pdu

-- a new message is the last item
abbrev pub posted : Mailed → Item → Mailed
posted = with_item

-- a message that the report ends goes, an earlier report on it goes, and the new report is the last item
abbrev pub reported : Mailed → Envelope → Status → Item → Mailed
reported m e status w = with_item (without (is_ended_by e status) m) w

-- the report that an acknowledgement in this envelope answers goes
abbrev pub acknowledged : Mailed → Envelope → Mailed
acknowledged m e = without (is_at (answered e Report)) m

-- the item at the key was sent, and goes if it asks for no answer
abbrev pub confirmed : Mailed → Key → Mailed
confirmed m k = without (is_confirmed k) m

-- what has ended by the moment goes
abbrev pub expired : Mailed → Moment → Mailed
expired m moment = without (is_expired moment) m

-- what waits at the key goes
abbrev pub deleted : Mailed → Key → Mailed
deleted m k = without (is_at k) m

-- what waits for a destination
abbrev pub waiting : Mailed → Itsi → List Item
waiting m itsi = filter (is_to itsi) m.items

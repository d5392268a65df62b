-- What holds of the mail after any commands.
use Rattle.std.specs.Prelude.{◌≡◌, ◌<◌, ◌≤◌, ◌==◌, ◌&&◌, Bool, true, false, length, count_by, Option, Some, None, Result, Ok, Err}
use Rattle.std.specs.List.{All, AllPairs}
use Rattle.identity.specs.Numbers.{Itsi, Gtsi}
use Rattle.sds_tl.specs.declared.fault.SdsFault.{SdsFault}
use Rattle.sds_tl.specs.declared.pdu.Head.{Head}
use Rattle.sds_tl.specs.declared.pdu.Head.TheVariants as heads
use Rattle.sds_tl.specs.Reading.{heading, cleared}
use Rattle.mailbox.specs.Numbers.{Number, Count}
use Rattle.mailbox.specs.declared.key.Kind.{Kind}
use Rattle.mailbox.specs.declared.key.Kind.TheVariants.{Message, Report}
use Rattle.mailbox.specs.Values.{Item, Mailed}
use Rattle.mailbox.specs.Item.{same_key, is_to, is_message_kind}
use Rattle.mailbox.specs.Order.{IsBefore}
use Rattle.mailbox.specs.Refusals.{most_for_one}

-- a message's PDU is an SDS-TRANSFER of its reference, a report item's an SDS-REPORT
abbrev pub is_head_of : Kind → Number → Result Head SdsFault → Bool
is_head_of Message number (Ok (heads.Transfer request reference)) = reference == number
is_head_of Message number (Ok (heads.Report acknowledge status reference)) = false
is_head_of Message number (Ok (heads.Ack status reference)) = false
is_head_of Report number (Ok (heads.Transfer request reference)) = false
is_head_of Report number (Ok (heads.Report acknowledge status reference)) = reference == number
is_head_of Report number (Ok (heads.Ack status reference)) = false
is_head_of kind number (Err fault) = false

-- only a message is sent to a group
abbrev pub may_have_group : Kind → Option Gtsi → Bool
may_have_group kind None = true
may_have_group kind (Some group) = is_message_kind kind

-- the item is what its key says: it is a message if it has a group, and its PDU is of its kind and reference
abbrev pub is_as_named : Item → Bool
is_as_named w = may_have_group w.key.kind w.group && is_head_of w.key.kind w.key.reference (heading w.pdu)

-- it is what its key says, and its PDU is in its written form: the reserved bits are 0
pub record IsSpelt (w : Item) : Type 0 where
  pub head : is_as_named w ≡ true
  pub written : cleared w.pdu ≡ w.pdu

-- the item is of one of the commands that were accepted
abbrev pub IsNumbered : Count → Item → Type 0
IsNumbered count w = (0 < w.number) × (w.number ≤ count)

-- What holds of the mail after so many accepted commands: each item is of one of them, they are in order, no two have the same key,
-- there are no more than may be, in all and for one destination, and each item is what its key says.
pub record IsMail (count : Count) (m : Mailed) : Type 0 where
  pub numbered : All (IsNumbered count) m.items
  pub ordered : AllPairs IsBefore m.items
  pub apart : AllPairs (λ a b. same_key b.key a.key ≡ false) m.items
  pub fits : length m.items ≤ m.room
  pub fits_each : (destination : Itsi) → count_by (is_to destination) m.items ≤ most_for_one
  pub spelt : All IsSpelt m.items

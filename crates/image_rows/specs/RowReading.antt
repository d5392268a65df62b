-- Reading rows from bytes: one field after the other, each checked for its range.
use Rattle.std.specs.Prelude.{◌≡◌, ◌⊎◌, ℕ, zero, suc, ◌^◌, ◌<◌, ◌≤◌, ◌==◌, ◌/◌, ◌%◌, nat_le, nat_lt}
use Rattle.std.specs.Prelude.{Bool, true, false, ◌&&◌, ◌||◌, if◌then◌else◌, List, [], ◌∷◌, ◌++◌, length, Option, Some, None, IfSome}
use Rattle.identity.specs.Numbers.{Gtsi, Byte}
use Rattle.mm_pdus.specs.Values.{lifetime_of}
use Rattle.sds_tl.specs.Reading.{cleared}
use Rattle.group_attach.specs.Attached.{Usage}
use Rattle.mailbox.specs.Numbers.{Number}
use Rattle.mailbox.specs.Sound.{is_as_named}
use Rattle.mailbox.specs.Values.{Item, KeyInRange, latest_deadline}
use Rattle.identity.specs.BitsText.{most_bits}
use Rattle.centre_core.specs.StateRanges.{RuleEntryInRange}
use Rattle.command_bytes.specs.Fields.{◌>>=◌, big, number_at}
use Rattle.command_bytes.specs.Reading.{Read, prefix_at, rule_at, area_at, key_at, bits_at}
use Rattle.image_rows.specs.Rows.{Row, HeaderRow, RuleRow, RadioRow, MailRow, ServedRow, Header, Group, last_epoch}
use Rattle.image_rows.specs.Rows.{RowInRange, HeaderInRange, RadioRowInRange, ServedRowInRange}
use Rattle.image_rows.specs.RowText.{fields_of, header_tag, plain_header_tag, tag_of}

-- ---- each kind of row

-- epochs count from 1, up to the last one
abbrev pub is_epoch : ℕ → Bool
is_epoch number = nat_lt 0 number && nat_le number last_epoch

-- a header: the epoch, and the numbers after it
unfoldable pub header_at : List Byte → Read Header
header_at bytes = do
  epoch ← number_at 8 bytes
  count ← number_at 8 epoch.1
  rules ← number_at 4 count.1
  radios ← number_at 4 rules.1
  mail ← number_at 4 radios.1
  served ← number_at 4 mail.1
  if is_epoch epoch.0
      then Some (record { epoch = epoch.0; count = count.0; rules = rules.0; radios = radios.0; mail = mail.0; served = served.0 }, served.1)
      else None

-- a prefix and its rule
unfoldable pub rule_row_at : List Byte → Read Row
rule_row_at bytes = do
  prefix ← prefix_at bytes
  rule ← rule_at prefix.1
  Some (RuleRow prefix.0 rule.0, rule.1)

-- whether a radio is present: 0 or 1
abbrev pub present_of : Number → Option Bool
present_of number = if number == 0 then Some false else if number == 1 then Some true else None

-- a class of 3 bits, and one of the four lifetimes
abbrev pub usage_of : Number → Option Usage
usage_of number = if nat_lt number 32 then (lifetime_of (number % 4) >>= λ lifetime. Some (number / 4, lifetime)) else None

-- a group, and how the radio is attached to it
unfoldable pub group_at : List Byte → Read Group
group_at bytes = do
  gtsi ← number_at 6 bytes
  number ← number_at 1 gtsi.1
  usage ← usage_of number.0
  Some ((gtsi.0, usage), number.1)

-- the first n groups in the bytes
abbrev pub groups_at : ℕ → List Byte → Read (List Group)
groups_at zero bytes = Some ([], bytes)
groups_at (suc n) bytes = group_at bytes >>= λ g. groups_at n g.1 >>= λ gs. Some (g.0 ∷ gs.0, gs.1)

-- a radio, where it is, and its groups
unfoldable pub radio_row_at : List Byte → Read Row
radio_row_at bytes = do
  itsi ← number_at 6 bytes
  station ← number_at 2 itsi.1
  area ← area_at station.1
  number ← number_at 1 area.1
  present ← present_of number.0
  count ← number_at 1 number.1
  groups ← groups_at count.0 count.1
  Some (RadioRow itsi.0 (record { station = station.0; area = area.0; present = present }) groups.0, groups.1)

-- the group that a copy was sent to
abbrev pub copied_at : Bool → List Byte → Read (Option Gtsi)
copied_at false bytes = Some (None, bytes)
copied_at true bytes = number_at 6 bytes >>= λ gtsi. Some (Some gtsi.0, gtsi.1)

-- an item, or a copy of a message to a group, with its PDU unchanged
unfoldable pub item_at : Bool → List Byte → Read Item
item_at copied bytes = do
  number ← number_at 8 bytes
  deadline ← number_at 8 number.1
  key ← key_at deadline.1
  group ← copied_at copied key.1
  pdu ← bits_at group.1
  if nat_le deadline.0 latest_deadline
      then Some (record { key = key.0; number = number.0; deadline = deadline.0; pdu = pdu.0; group = group.0 }, pdu.1)
      else None

-- the PDU of a reply: none where there are no bits
abbrev pub reply_of : List Bool → Option (List Bool)
reply_of [] = None
reply_of (b ∷ bits) = Some (b ∷ bits)

-- a station's last accepted command; sequences count from 1
unfoldable pub served_row_at : List Byte → Read Row
served_row_at bytes = do
  station ← number_at 2 bytes
  sequence ← number_at 4 station.1
  number ← number_at 8 sequence.1
  pdu ← bits_at number.1
  if sequence.0 == 0 then None else Some (ServedRow station.0 (record { sequence = sequence.0; number = number.0; pdu = reply_of pdu.0 }), pdu.1)

-- ---- the whole

-- a header has the tag of either layout
abbrev pub is_header_tag : Byte → Bool
is_header_tag tag = tag == header_tag || tag == plain_header_tag

-- the fields after a tag
unfoldable pub fields_at : Byte → List Byte → Read Row
fields_at tag bytes =
    if is_header_tag tag then (header_at bytes >>= λ header. Some (HeaderRow header.0, header.1))
    else if tag == 17 then rule_row_at bytes
    else if tag == 18 then radio_row_at bytes
    else if tag == 19 then (item_at false bytes >>= λ item. Some (MailRow item.0, item.1))
    else if tag == 20 then served_row_at bytes
    else if tag == 21 then (item_at true bytes >>= λ item. Some (MailRow item.0, item.1))
    else None

-- the row that the bytes begin with, with its PDU unchanged, and the bytes after it
unfoldable pub row_at : List Byte → Read Row
row_at bytes = number_at 1 bytes >>= λ tag. fields_at tag.0 tag.1

-- an item's PDU fits its key: an SDS-TRANSFER or SDS-REPORT of its reference; a copy is a message
abbrev pub is_known : Row → Bool
is_known (HeaderRow h) = true
is_known (RuleRow prefix rule) = true
is_known (RadioRow itsi radio groups) = true
is_known (MailRow w) = is_as_named w
is_known (ServedRow station last) = true

-- a row as it is written: the reserved bits of its PDU are 0
abbrev pub written : Row → Row
written (HeaderRow h) = HeaderRow h
written (RuleRow prefix rule) = RuleRow prefix rule
written (RadioRow itsi radio groups) = RadioRow itsi radio groups
written (MailRow w) = MailRow (record w { pdu = cleared w.pdu })
written (ServedRow station last) = ServedRow station last

-- the row as it is written, if an item's PDU fits its key
abbrev pub settled : Row → Option Row
settled row = if is_known row then Some (written row) else None

-- the row of the fields after a tag; bytes after them are ignored
unfoldable pub fields_in : Byte → List Byte → Option Row
fields_in tag bytes = fields_at tag bytes >>= λ row. settled row.0

-- the row that the bytes begin with; bytes after it are ignored
unfoldable pub row_in : List Byte → Option Row
row_in bytes = number_at 1 bytes >>= λ tag. fields_in tag.0 tag.1

-- ---- what has bytes

-- a row that has bytes: its fields are in their ranges, and an item's PDU fits its key
pub record IsRow (row : Row) : Type 0 where
  pub range : RowInRange row
  pub known : is_known row ≡ true

-- an item as it is read: its PDU is any bits for which there is room
pub record ItemAsRead (w : Item) : Type 0 where
  pub key : KeyInRange w.key
  pub number : w.number < 2 ^ 64
  pub deadline : w.deadline ≤ latest_deadline
  pub pdu : length w.pdu ≤ most_bits
  pub group : IfSome w.group (λ gtsi. gtsi < 2 ^ 48)

-- the fields of a row as it is read are in their ranges
abbrev pub RowAsRead : Row → Type 0
RowAsRead (HeaderRow h) = HeaderInRange h
RowAsRead (RuleRow prefix rule) = RuleEntryInRange prefix rule
RowAsRead (RadioRow itsi radio groups) = RadioRowInRange itsi radio groups
RowAsRead (MailRow w) = ItemAsRead w
RowAsRead (ServedRow station last) = ServedRowInRange station last

-- a tag that a row may have: the one it is written with; for a header also that of layout 1
abbrev pub IsTagOf : Row → Byte → Type 0
IsTagOf row tag = (tag ≡ tag_of row) ⊎ ((h : Header) × (row ≡ HeaderRow h) × (tag ≡ plain_header_tag))

-- bytes spell a row: they begin with a tag and the fields of a row that equals it but for reserved bits of its PDU
pub record Spells (row : Row) (bytes : List Byte) : Type 0 where
  pub seen : Row
  pub tag : Byte
  pub tagged : IsTagOf seen tag
  pub rest : List Byte
  pub is : bytes ≡ big 1 tag ++ fields_of seen ++ rest
  pub fits : RowAsRead seen
  pub known : is_known seen ≡ true
  pub same : written seen ≡ row

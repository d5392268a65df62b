-- How rows are spelt in bytes: a tag, and the fields of each kind, with their widths in bytes.
use Rattle.std.specs.Prelude.{ℕ, ◌+◌, ◌-◌, ◌*◌, Bool, true, false, List, [], ◌++◌, length, replicate, Option, Some, None}
use Rattle.std.specs.List.{flat_map}
use Rattle.identity.specs.Numbers.{Itsi, Gtsi, Byte}
use Rattle.mm_pdus.specs.Values.{lifetime_number}
use Rattle.registration.specs.Numbers.{Station}
use Rattle.registration.specs.declared.radio.Radio.{Radio}
use Rattle.group_attach.specs.declared.attachment.Attachment.{Attachment}
use Rattle.group_attach.specs.Attached.{Usage}
use Rattle.mailbox.specs.Values.{Item}
use Rattle.centre_core.specs.State.{LastAccepted}
use Rattle.command_bytes.specs.Fields.{big}
use Rattle.command_bytes.specs.Text.{prefix_text, rule_text, key_text, bits_text}
use Rattle.image_rows.specs.Rows.{Row, HeaderRow, RuleRow, RadioRow, MailRow, ServedRow, Header, Group}

-- ---- the parts

-- the epoch, how many commands were accepted, and how many rows of each kind follow
abbrev pub header_text : Header → List Byte
header_text h = big 8 h.epoch ++ big 8 h.count ++ big 4 h.rules ++ big 4 h.radios ++ big 4 h.mail ++ big 4 h.served

-- 1 for a radio that is present
abbrev pub present_number : Bool → ℕ
present_number false = 0
present_number true = 1

-- how a radio is attached to a group: four times the class of usage, plus the lifetime
abbrev pub usage_number : Usage → ℕ
usage_number usage = 4 * usage.0 + lifetime_number usage.1

-- an attachment as a group of its radio's row
abbrev pub group_in : Attachment → Group
group_in a = (a.gtsi, (a.class, a.lifetime))

-- a group, and how the radio is attached to it
abbrev pub group_text : Group → List Byte
group_text g = big 6 g.0 ++ big 1 (usage_number g.1)

-- a radio's number, where it is, how many groups it has, and those groups
abbrev pub radio_text : Itsi → Radio → List Group → List Byte
radio_text itsi radio groups =
    big 6 itsi ++ big 2 radio.station ++ big 2 radio.area ++ big 1 (present_number radio.present) ++ big 1 (length groups)
    ++ flat_map group_text groups

-- the group that a copy was sent to; nothing for an item that is no copy
abbrev pub copied_text : Option Gtsi → List Byte
copied_text None = []
copied_text (Some gtsi) = big 6 gtsi

-- an item: its number, its deadline, its key, the group of a copy, and its PDU
abbrev pub item_text : Item → List Byte
item_text w = big 8 w.number ++ big 8 w.deadline ++ key_text w.key ++ copied_text w.group ++ bits_text w.pdu

-- the bits of a reply: none where it has no PDU
abbrev pub reply_bits : Option (List Bool) → List Bool
reply_bits None = []
reply_bits (Some bits) = bits

-- a station and its last accepted command
abbrev pub served_text : Station → LastAccepted → List Byte
served_text station last = big 2 station ++ big 4 last.sequence ++ big 8 last.number ++ bits_text (reply_bits last.pdu)

-- ---- the whole

-- a copy of a message to a group has a tag of its own
abbrev pub mail_tag : Option Gtsi → Byte
mail_tag None = 19
mail_tag (Some gtsi) = 21

-- a header of layout 2: the records after its image state the number of their first command
abbrev pub header_tag : Byte
header_tag = 22

-- a header of layout 1: the records after its image state no number; it is read, and no longer written
abbrev pub plain_header_tag : Byte
plain_header_tag = 16

-- the tag that a row is written with
abbrev pub tag_of : Row → Byte
tag_of (HeaderRow h) = header_tag
tag_of (RuleRow prefix rule) = 17
tag_of (RadioRow itsi radio groups) = 18
tag_of (MailRow w) = mail_tag w.group
tag_of (ServedRow station last) = 20

-- what follows the tag
abbrev pub fields_of : Row → List Byte
fields_of (HeaderRow h) = header_text h
fields_of (RuleRow prefix rule) = prefix_text prefix ++ rule_text rule
fields_of (RadioRow itsi radio groups) = radio_text itsi radio groups
fields_of (MailRow w) = item_text w
fields_of (ServedRow station last) = served_text station last

-- a row's bytes
unfoldable pub row_bytes : Row → List Byte
row_bytes row = big 1 (tag_of row) ++ fields_of row

-- a sector that begins with these bytes, with zeros after them
abbrev pub padded : List Byte → List Byte
padded bytes = bytes ++ replicate (512 - length bytes) 0

-- the sector of a row
unfoldable pub sector_of : Row → List Byte
sector_of row = padded (row_bytes row)

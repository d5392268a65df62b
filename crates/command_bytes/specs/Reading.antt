-- Reading commands from bytes: one field after the other, each checked for its range.
use Rattle.std.specs.Prelude.{ℕ, ◌^◌, ◌==◌, Bool, List, [], ◌∷◌, Option, Some, None, nat_le, nat_lt, if◌then◌else◌}
use Rattle.identity.specs.Numbers.{Byte}
use Rattle.mm_pdus.specs.declared.lifetime.Lifetime.{Lifetime}
use Rattle.mm_pdus.specs.Values.{lifetime_of}
use Rattle.registration.specs.Numbers.{Area}
use Rattle.registration.specs.declared.rule.Rule.{Rule}
use Rattle.mailbox.specs.declared.key.Key.{Key}
use Rattle.mailbox.specs.declared.key.Kind.{Kind}
use Rattle.mailbox.specs.declared.key.Kind.TheVariants.{Message, Report}
use Rattle.centre_core.specs.declared.command.Body.{Body}
use Rattle.centre_core.specs.declared.command.Body.TheVariants.{RuleSet, RuleClear, Mm, Sds, GroupSds, Sent, Expire, Delete}
use Rattle.centre_core.specs.Asked.{Asked}
use Rattle.identity.specs.BitsText.{most_bits}
use Rattle.centre_core.specs.Ranges.{pdu_of}
use Rattle.command_bytes.specs.Fields.{◌>>=◌, number_at, left_at, bytes_for}

-- what was read from the first bytes, and the bytes after it
abbrev pub Read : Type 0 → Type 0
Read X = Option (X × List Byte)

-- ---- the parts

-- a prefix: at most 48 bits from the left of 48
unfoldable pub prefix_at : List Byte → Read (List Bool)
prefix_at bytes = do
  len ← number_at 1 bytes
  if nat_le len.0 48 then left_at 6 len.0 len.1 else None

-- a string of bits, as long as a PDU may be
unfoldable pub bits_at : List Byte → Read (List Bool)
bits_at bytes = do
  len ← number_at 2 bytes
  if nat_le len.0 most_bits then left_at (bytes_for len.0) len.0 len.1 else None

-- a location area, below 2^14
unfoldable pub area_at : List Byte → Read Area
area_at bytes = do
  area ← number_at 2 bytes
  if nat_lt area.0 (2 ^ 14) then Some area else None

-- a lifetime, one of the four
unfoldable pub lifetime_at : List Byte → Read Lifetime
lifetime_at bytes = do
  number ← number_at 1 bytes
  lifetime ← lifetime_of number.0
  Some (lifetime, number.1)

-- a rule, low not above high
unfoldable pub rule_at : List Byte → Read Rule
rule_at bytes = do
  low ← area_at bytes
  high ← area_at low.1
  lifetime ← lifetime_at high.1
  keep ← number_at 4 lifetime.1
  if nat_le low.0 high.0 then Some (record { low = low.0; high = high.0; lifetime = lifetime.0; keep = keep.0 }, keep.1) else None

-- a message is 0, a report 1
abbrev pub kind_of : ℕ → Option Kind
kind_of number = if number == 0 then Some Message else if number == 1 then Some Report else None

-- the key of a message or a report
unfoldable pub key_at : List Byte → Read Key
key_at bytes = do
  destination ← number_at 6 bytes
  source ← number_at 6 destination.1
  reference ← number_at 1 source.1
  number ← number_at 1 reference.1
  kind ← kind_of number.0
  Some (record { destination = destination.0; source = source.0; reference = reference.0; kind = kind }, number.1)

-- ---- the bodies

module _ {A : Type 0} where
  -- set a rule: its prefix, and its values
  unfoldable pub rule_set_at : List Byte → Read (Body A)
  rule_set_at bytes = do
    prefix ← prefix_at bytes
    rule ← rule_at prefix.1
    Some (RuleSet prefix.0 rule.0, rule.1)

  -- clear a rule: its prefix
  unfoldable pub rule_clear_at : List Byte → Read (Body A)
  rule_clear_at bytes = do
    prefix ← prefix_at bytes
    Some (RuleClear prefix.0, prefix.1)

  -- a mobility management PDU: the radio, the location area, and the bits
  unfoldable pub mm_at : List Byte → Read (Body A)
  mm_at bytes = do
    itsi ← number_at 6 bytes
    area ← area_at itsi.1
    pdu ← bits_at area.1
    Some (Mm itsi.0 area.0 pdu.0, pdu.1)

  -- a short data PDU: the source, the destination, and the bits
  unfoldable pub sds_at : List Byte → Read (Body A)
  sds_at bytes = do
    source ← number_at 6 bytes
    destination ← number_at 6 source.1
    pdu ← bits_at destination.1
    Some (Sds source.0 destination.0 pdu.0, pdu.1)

  -- an item was sent: its key
  unfoldable pub sent_at : List Byte → Read (Body A)
  sent_at bytes = do
    key ← key_at bytes
    Some (Sent key.0, key.1)

  -- delete an item: its key
  unfoldable pub delete_at : List Byte → Read (Body A)
  delete_at bytes = do
    key ← key_at bytes
    Some (Delete key.0, key.1)

  -- a message to a group: the source, the group, and the bits
  unfoldable pub group_sds_at : List Byte → Read (Body A)
  group_sds_at bytes = do
    source ← number_at 6 bytes
    group ← number_at 6 source.1
    pdu ← bits_at group.1
    Some (GroupSds source.0 group.0 pdu.0, pdu.1)

  -- the body after a tag
  unfoldable pub body_at : Byte → List Byte → Read (Body A)
  body_at tag bytes =
      if tag == 1 then rule_set_at bytes
      else if tag == 2 then rule_clear_at bytes
      else if tag == 3 then mm_at bytes
      else if tag == 4 then sds_at bytes
      else if tag == 5 then sent_at bytes
      else if tag == 6 then Some (Expire, bytes)
      else if tag == 7 then delete_at bytes
      else if tag == 8 then group_sds_at bytes
      else None

  -- ---- the whole

  -- the command that the bytes begin with, and the bytes after it; sequences count from 1
  unfoldable pub first_command : List Byte → Read (Asked A)
  first_command bytes = do
    station ← number_at 2 bytes
    sequence ← number_at 4 station.1
    moment ← number_at 4 sequence.1
    tag ← number_at 1 moment.1
    body ← body_at tag.0 tag.1
    if sequence.0 == 0 then None else Some (record { station = station.0; sequence = sequence.0; moment = moment.0; body = body.0 }, body.1)

  -- what was read, if no byte is left
  abbrev pub whole : Read (Asked A) → Option (Asked A)
  whole None = None
  whole (Some (c, [])) = Some c
  whole (Some (c, b ∷ rest)) = None

  -- the command that all of the bytes spell
  abbrev pub command_of : List Byte → Option (Asked A)
  command_of bytes = whole (first_command bytes)

  -- the PDU of a command, if there is a command and it has one
  abbrev pub pdu_in : Option (Asked A) → Option (List Bool)
  pdu_in None = None
  pdu_in (Some c) = pdu_of c.body

-- How commands are spelt in bytes: the fields of each one, with their widths in bytes.
use Rattle.std.specs.Prelude.{◌≡◌, ℕ, ◌<◌, ◌^◌, Bool, List, [], ◌++◌, length}
use Rattle.identity.specs.Numbers.{Byte}
use Rattle.mm_pdus.specs.Values.{lifetime_number}
use Rattle.registration.specs.declared.rule.Rule.{Rule}
use Rattle.mailbox.specs.declared.key.Key.{Key}
use Rattle.mailbox.specs.declared.key.Kind.{Kind}
use Rattle.mailbox.specs.declared.key.Kind.TheVariants.{Message, Report}
use Rattle.centre_core.specs.declared.command.Body.{Body}
use Rattle.centre_core.specs.declared.command.Body.TheVariants.{RuleSet, RuleClear, Mm, Sds, GroupSds, Sent, Expire, Delete}
use Rattle.centre_core.specs.Asked.{Asked}
use Rattle.centre_core.specs.Ranges.{InRange}
use Rattle.command_bytes.specs.Fields.{big, left, bytes_for}

-- ---- the parts

-- a prefix: its length, and its bits from the left of 48
abbrev pub prefix_text : List Bool → List Byte
prefix_text prefix = big 1 (length prefix) ++ left 6 prefix

-- a rule: lowest and highest location area, lifetime, keep
abbrev pub rule_text : Rule → List Byte
rule_text rule = big 2 rule.low ++ big 2 rule.high ++ big 1 (lifetime_number rule.lifetime) ++ big 4 rule.keep

-- a string of bits: its length, then the bits
abbrev pub bits_text : List Bool → List Byte
bits_text bits = big 2 (length bits) ++ left (bytes_for (length bits)) bits

-- a message is 0, a report 1
abbrev pub kind_number : Kind → ℕ
kind_number Message = 0
kind_number Report = 1

-- the key of a message or a report
abbrev pub key_text : Key → List Byte
key_text key = big 6 key.destination ++ big 6 key.source ++ big 1 key.reference ++ big 1 (kind_number key.kind)

-- ---- the whole

module _ {A : Type 0} where
  -- the tag of a body
  abbrev pub tag_of : Body A → Byte
  tag_of (RuleSet prefix rule) = 1
  tag_of (RuleClear prefix) = 2
  tag_of (Mm itsi area pdu) = 3
  tag_of (Sds source destination pdu) = 4
  tag_of (Sent key) = 5
  tag_of Expire = 6
  tag_of (Delete key) = 7
  tag_of (GroupSds source group pdu) = 8

  -- what follows the tag
  abbrev pub body_text : Body A → List Byte
  body_text (RuleSet prefix rule) = prefix_text prefix ++ rule_text rule
  body_text (RuleClear prefix) = prefix_text prefix
  body_text (Mm itsi area pdu) = big 6 itsi ++ big 2 area ++ bits_text pdu
  body_text (Sds source destination pdu) = big 6 source ++ big 6 destination ++ bits_text pdu
  body_text (Sent key) = key_text key
  body_text Expire = []
  body_text (Delete key) = key_text key
  body_text (GroupSds source group pdu) = big 6 source ++ big 6 group ++ bits_text pdu

  -- a command's text: station, sequence, moment, tag, and the body
  unfoldable pub command_text : Asked A → List Byte
  command_text c = big 2 c.station ++ big 4 c.sequence ++ big 4 c.moment ++ big 1 (tag_of c.body) ++ body_text c.body

  -- this command has a text: its fields are in their ranges
  pub record IsCommand (c : Asked A) : Type 0 where
    pub station : c.station < 2 ^ 16
    pub range : InRange c

  -- these bytes spell this command
  abbrev pub Spells : Asked A → List Byte → Type 0
  Spells c bytes = IsCommand c × (bytes ≡ command_text c)

-- how many bytes the longest command has
abbrev pub longest : ℕ
longest = 281

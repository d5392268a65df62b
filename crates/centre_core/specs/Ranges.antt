-- The ranges of a command.
use Rattle.std.specs.Prelude.{◌<◌, ◌≤◌, ◌^◌, length, Bool, List, Option, Some, None}
use Rattle.identity.specs.BitsText.{most_bits}
use Rattle.registration.specs.declared.rule.Rule.{Rule}
use Rattle.mailbox.specs.Values.{KeyInRange}
use Rattle.centre_core.specs.declared.command.Body.{Body}
use Rattle.centre_core.specs.declared.command.Body.TheVariants.{RuleSet, RuleClear, Mm, Sds, GroupSds, Sent, Expire, Delete}
use Rattle.centre_core.specs.Asked.{Asked}

-- two location areas of 14 bits in order, and a keep of 32 bits
abbrev pub RuleInRange : Rule → Type 0
RuleInRange rule = (rule.low ≤ rule.high) × (rule.high < 2 ^ 14) × (rule.keep < 2 ^ 32)

-- a PDU, if there is one, has at most 2,048 bits
abbrev pub IsShort : Option (List Bool) → Type 0
IsShort None = Unit {0}
IsShort (Some bits) = length bits ≤ most_bits

module _ {A : Type 0} where
  -- the PDU of a body
  abbrev pub pdu_of : Body A → Option (List Bool)
  pdu_of (RuleSet prefix rule) = None
  pdu_of (RuleClear prefix) = None
  pdu_of (Mm itsi area pdu) = Some pdu
  pdu_of (Sds source destination pdu) = Some pdu
  pdu_of (GroupSds source group pdu) = Some pdu
  pdu_of (Sent key) = None
  pdu_of Expire = None
  pdu_of (Delete key) = None

  -- prefixes of at most 48 bits, identities of 48, areas of 14, PDUs of at most 2,048
  abbrev pub BodyInRange : Body A → Type 0
  BodyInRange (RuleSet prefix rule) = (length prefix ≤ 48) × RuleInRange rule
  BodyInRange (RuleClear prefix) = length prefix ≤ 48
  BodyInRange (Mm itsi area pdu) = (itsi < 2 ^ 48) × (area < 2 ^ 14) × (length pdu ≤ most_bits)
  BodyInRange (Sds source destination pdu) = (source < 2 ^ 48) × (destination < 2 ^ 48) × (length pdu ≤ most_bits)
  BodyInRange (GroupSds source group pdu) = (source < 2 ^ 48) × (group < 2 ^ 48) × (length pdu ≤ most_bits)
  BodyInRange (Sent key) = KeyInRange key
  BodyInRange Expire = Unit {0}
  BodyInRange (Delete key) = KeyInRange key

  -- sequences count from 1; sequence and moment have 32 bits
  pub record InRange (c : Asked A) : Type 0 where
    pub above : 0 < c.sequence
    pub sequence : c.sequence < 2 ^ 32
    pub moment : c.moment < 2 ^ 32
    pub body : BodyInRange c.body

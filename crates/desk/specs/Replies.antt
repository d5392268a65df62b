-- Replies whose PDU is short enough for a line. B is the allocator of the bits; nothing depends on it.
use Rattle.std.specs.Prelude.{◌≤◌, length}
use Rattle.identity.specs.BitsText.{most_bits}
use Rattle.centre_core.specs.declared.reply.Reply.{Reply}
use Rattle.centre_core.specs.declared.reply.Reply.TheVariants as reply
use Rattle.centre_core.specs.declared.reply.Refusal.{Refusal}
use Rattle.centre_core.specs.declared.reply.Refusal.TheVariants as refusal
use Rattle.centre_core.specs.Ranges.{IsShort}

module _ {B : Type 0} where
  -- the PDU that rejects a location update has at most 2,048 bits
  abbrev pub HasShortReject : Refusal B → Type 0
  HasShortReject (refusal.Location fault reject) = length reject ≤ most_bits
  HasShortReject other = Unit {0}

  -- a reply with a PDU of at most 2,048 bits, or with none
  abbrev pub HasShortPdu : Reply B → Type 0
  HasShortPdu (reply.Accepted number pdu) = IsShort pdu
  HasShortPdu (reply.Kept number pdu) = IsShort pdu
  HasShortPdu (reply.Refused refusal) = HasShortReject refusal

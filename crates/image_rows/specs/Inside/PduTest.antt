-- The test of a few fields that a message's or a report's PDU passes.
use Rattle.std.specs.Prelude.{ℕ, ◌-◌, ◌*◌, ◌==◌, nat_le, Bool, ◌&&◌, not, List, length}
use Rattle.sds_tl.specs.Numbers.{Reference}
use Rattle.sds_tl.specs.Identifier.{first_identifier}
use Rattle.sds_tl.specs.Syntax.{most_bits}
use Rattle.sds_tl.specs.Reading.{field, flag, type_of}

-- a PDU without fault of this message type, whose reference is the last of its first octets
unfoldable pub is_of_type : List Bool → ℕ → ℕ → Reference → Bool
is_of_type pdu kind octets reference =
    nat_le (8 * octets) (length pdu) && nat_le (length pdu) most_bits && nat_le first_identifier (field 0 8 pdu)
    && (type_of pdu == kind) && not (flag 15 pdu) && (field (8 * (octets - 1)) 8 pdu == reference)

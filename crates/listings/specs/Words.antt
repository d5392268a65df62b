-- Words of lines that answers share.
use Rattle.std.specs.Prelude.{Bool, true, false, List, Option, Some, None, codes}
use Rattle.identity.specs.Numbers.{Byte}
use Rattle.identity.specs.BitsText.{bits_text}
use Rattle.mailbox.specs.declared.key.Kind.{Kind}
use Rattle.mailbox.specs.declared.key.Kind.TheVariants as kind

-- a message or a delivery report
abbrev pub kind_word : Kind → List Byte
kind_word kind.Message = codes "m"
kind_word kind.Report = codes "r"

-- whether a radio is present
abbrev pub presence_text : Bool → List Byte
presence_text true = codes " present"
presence_text false = codes " absent"

-- the PDU for the radio, or `-`
abbrev pub pdu_text : Option (List Bool) → List Byte
pdu_text None = codes "-"
pdu_text (Some bits) = bits_text bits

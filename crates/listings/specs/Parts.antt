-- The parts of a line, and the most bytes that each takes.
use Rattle.std.specs.Prelude.{ℕ, ◌+◌, ◌/◌, List, length, decimal, sum_by}
use Rattle.std.specs.List.{flat_map}
use Rattle.identity.specs.Numbers.{Byte}
use Rattle.identity.specs.IdentityText.{identity_text, prefix_text}
use Rattle.identity.specs.BitsText.{bits_text}
use Rattle.listings.specs.declared.part.Part.{Part}
use Rattle.listings.specs.declared.part.Part.TheVariants as part

module _ {B : Type 0} where
  -- the bytes of a part
  abbrev pub part_text : Part B → List Byte
  part_text (part.Text text) = text.now
  part_text (part.Number number) = decimal number
  part_text (part.Radio itsi) = identity_text itsi
  part_text (part.Group gtsi) = identity_text gtsi
  part_text (part.Prefix prefix) = prefix_text prefix
  part_text (part.Pdu bits) = bits_text bits.now

  -- the bytes of the parts, one after another
  abbrev pub parts_text : List (Part B) → List Byte
  parts_text parts = flat_map part_text parts

  -- the most bytes of a part: a number has at most 20 digits, and a digit of a PDU stands for four bits
  abbrev pub part_room : Part B → ℕ
  part_room (part.Text text) = length text.now
  part_room (part.Number number) = 20
  part_room (part.Radio itsi) = 62
  part_room (part.Group gtsi) = 62
  part_room (part.Prefix prefix) = 83
  part_room (part.Pdu bits) = 21 + (length bits.now + 3) / 4

  -- the most bytes of all parts together
  abbrev pub parts_room : List (Part B) → ℕ
  parts_room parts = sum_by part_room parts

-- the most bytes of a PDU of 2,048 bits
abbrev pub pdu_room : ℕ
pdu_room = 533

-- the room for an answer or a listing of one line, in bytes
abbrev pub answer_room : ℕ
answer_room = 1024

-- A mark's fields from its word.
use Rattle.std.proofs.Common.{◌≡◌, ◌-◌, List, ◌++◌, length, replicate}
use Rattle.identity.specs.Numbers.{Byte}
use Rattle.console.specs.declared.mark.Mark.TheInside.{Inside}

-- the word, and zeros after it: 32 bytes
abbrev pub padded : List Byte → List Byte
padded word = word ++ replicate (32 - length word) 0

-- the fields hold this word
abbrev pub HoldsWord : Inside → List Byte → Type 0
HoldsWord m word = (length word ≡ m.len) × (padded word ≡ m.bytes)

-- the fields are those of their word
pub fields_of_word : (m : Inside) (word : List Byte) → HoldsWord m word → record { bytes = padded word; len = length word } ≡ m
fields_of_word m word holds = λ i. record { bytes = holds.1 i; len = holds.0 i }

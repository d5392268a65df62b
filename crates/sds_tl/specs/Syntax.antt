-- The bits of PDUs: the tables of ETSI EN 300 392-2, clause 29, as texts.
use Rattle.std.specs.Prelude.{◌≡◌, ℕ, ◌<◌, ◌≤◌, ◌^◌, Bool, false, List, ◌∷◌, ◌++◌, length, replicate}
use Rattle.identity.specs.Number.{num}
use Rattle.sds_tl.specs.Numbers.{Reference, Status}
use Rattle.sds_tl.specs.Identifier.{first_identifier}
use Rattle.sds_tl.specs.declared.pdu.Sds.{Sds}
use Rattle.sds_tl.specs.declared.pdu.Sds.TheVariants.{Transfer, Report, Ack}
use Rattle.sds_tl.specs.Values.{code_of}

-- The most bits that a PDU has.
abbrev pub most_bits : ℕ
most_bits = 2047

-- How many bits of a PDU are reserved.
abbrev pub reserved_width : {A : Type 0} → Sds A → ℕ
reserved_width (Transfer identifier request selection reference user_data) = 0
reserved_width (Report identifier acknowledge status reference user_data) = 2
reserved_width (Ack identifier status reference) = 4

-- The bits of a PDU with these reserved ones. The last bit of the second octet is the storage/forward control, 0.
abbrev pub text : {A : Type 0} → Sds A → List Bool → List Bool
text (Transfer identifier request selection reference user_data) reserved =
    num 8 identifier ++ num 4 0 ++ num 2 (code_of request) ++ selection ∷ false ∷ num 8 reference ++ user_data
text (Report identifier acknowledge status reference user_data) reserved =
    num 8 identifier ++ num 4 1 ++ acknowledge ∷ reserved ++ false ∷ num 8 status ++ num 8 reference ++ user_data
text (Ack identifier status reference) reserved =
    num 8 identifier ++ num 4 2 ++ reserved ++ num 8 status ++ num 8 reference

-- Each number fits its field, and the identifier is one of this layer.
pub record InRange (identifier : ℕ) (status : Status) (reference : Reference) : Type 0 where
  pub layer : first_identifier ≤ identifier
  pub identifier_fits : identifier < 2 ^ 8
  pub status_fits : status < 2 ^ 8
  pub reference_fits : reference < 2 ^ 8

-- Each number in the PDU is in its range.
abbrev pub IsInRange : {A : Type 0} → Sds A → Type 0
IsInRange (Transfer identifier request selection reference user_data) = InRange identifier 0 reference
IsInRange (Report identifier acknowledge status reference user_data) = InRange identifier status reference
IsInRange (Ack identifier status reference) = InRange identifier status reference

-- The bits spell the PDU: they are its text with some reserved bits.
pub record Spells {A : Type 0} (sds : Sds A) (bits : List Bool) : Type 0 where
  pub reserved : List Bool
  pub width : length reserved ≡ reserved_width sds
  pub range : IsInRange sds
  pub is : bits ≡ text sds reserved
  pub room : length bits ≤ most_bits

-- The canonical text, which is written: every reserved bit is 0.
abbrev pub canon : {A : Type 0} → Sds A → List Bool
canon sds = text sds (replicate (reserved_width sds) false)

-- Reading bits: each field at its place, and the first fault from the left.
use Rattle.std.specs.Prelude.{◌≡◌, ℕ, Bool, false, List, ◌++◌, replicate, length, take, drop, nat_lt, ◌==◌, if◌then◌else◌, Option, Some, None, Result, Ok, Err}
use Rattle.identity.specs.Number.{number}
use Rattle.sds_tl.specs.declared.fault.SdsFault.{SdsFault}
use Rattle.sds_tl.specs.declared.fault.SdsFault.TheVariants.{Short, Trailing, NotSdsTl, UnknownType, StorageControl, TooLong, NoMemory}
use Rattle.sds_tl.specs.declared.pdu.Sds.{Sds}
use Rattle.sds_tl.specs.declared.pdu.Sds.TheVariants.{Transfer, Report, Ack}
use Rattle.sds_tl.specs.declared.pdu.Head.{Head}
use Rattle.sds_tl.specs.declared.pdu.Head.TheVariants as heads
use Rattle.sds_tl.specs.Identifier.{first_identifier}
use Rattle.sds_tl.specs.Values.{request_of}
use Rattle.sds_tl.specs.Syntax.{most_bits, canon}

-- the w bits from place `at` on, as a number
abbrev pub field : ℕ → ℕ → List Bool → ℕ
field at w bits = number (take w (drop at bits))

-- the bit at a place
abbrev pub flag : ℕ → List Bool → Bool
flag at bits = field at 1 bits == 1

-- the message type
abbrev pub type_of : List Bool → ℕ
type_of bits = field 8 4 bits

-- The first fault of a message or a report, from its storage control on. Its user data begin at `begin`.
unfoldable pub data_fault : ℕ → List Bool → Option SdsFault
data_fault begin bits = if flag 15 bits then Some StorageControl else if nat_lt (length bits) begin then Some Short else None

-- The first fault of an acknowledgement, from its delivery status on.
unfoldable pub ack_fault : List Bool → Option SdsFault
ack_fault bits = if nat_lt (length bits) 32 then Some Short else if nat_lt 32 (length bits) then Some Trailing else None

-- The first fault from the left, if there is one.
unfoldable pub fault : List Bool → Option SdsFault
fault bits =
    if nat_lt most_bits (length bits) then Some TooLong
    else if nat_lt (length bits) 8 then Some Short
    else if nat_lt (field 0 8 bits) first_identifier then Some NotSdsTl
    else if nat_lt (length bits) 12 then Some Short
    else if nat_lt 2 (type_of bits) then Some UnknownType
    else if nat_lt (length bits) 16 then Some Short
    else if type_of bits == 0 then data_fault 24 bits
    else if type_of bits == 1 then data_fault 32 bits
    else ack_fault bits

-- an SDS-TRANSFER by its fields
abbrev pub transfer : {A : Type 0} → List Bool → Sds A
transfer bits = Transfer (field 0 8 bits) (request_of (flag 12 bits) (flag 13 bits)) (flag 14 bits) (field 16 8 bits) (drop 24 bits)

-- an SDS-REPORT by its fields
abbrev pub report : {A : Type 0} → List Bool → Sds A
report bits = Report (field 0 8 bits) (flag 12 bits) (field 16 8 bits) (field 24 8 bits) (drop 32 bits)

-- an SDS-ACK by its fields
abbrev pub ack : {A : Type 0} → List Bool → Sds A
ack bits = Ack (field 0 8 bits) (field 16 8 bits) (field 24 8 bits)

-- The PDU of bits without a fault.
unfoldable pub value : {A : Type 0} → List Bool → Sds A
value bits = if type_of bits == 0 then transfer bits else if type_of bits == 1 then report bits else ack bits

-- a value where there is no fault
abbrev pub unless : {A : Type 0} → Option SdsFault → A → Result A SdsFault
unless None x = Ok x
unless (Some f) x = Err f

-- the PDU that the bits spell, or their first fault
abbrev pub reading : {A : Type 0} → List Bool → Result (Sds A) SdsFault
reading bits = unless (fault bits) (value bits)

-- The head of a PDU.
abbrev pub head_of : {A : Type 0} → Sds A → Head
head_of (Transfer identifier request selection reference user_data) = heads.Transfer request reference
head_of (Report identifier acknowledge status reference user_data) = heads.Report acknowledge status reference
head_of (Ack identifier status reference) = heads.Ack status reference

-- The head of the PDU of bits without a fault.
unfoldable pub head_value : List Bool → Head
head_value bits =
    if type_of bits == 0 then heads.Transfer (request_of (flag 12 bits) (flag 13 bits)) (field 16 8 bits)
    else if type_of bits == 1 then heads.Report (flag 12 bits) (field 16 8 bits) (field 24 8 bits)
    else heads.Ack (field 16 8 bits) (field 24 8 bits)

-- the head of the PDU that the bits spell, or their first fault
abbrev pub heading : List Bool → Result Head SdsFault
heading bits = unless (fault bits) (head_value bits)

-- The bits with the reserved ones 0.
unfoldable pub cleared : List Bool → List Bool
cleared bits =
    if type_of bits == 0 then bits
    else if type_of bits == 1 then take 13 bits ++ replicate 2 false ++ drop 15 bits
    else take 12 bits ++ replicate 4 false ++ drop 16 bits

-- the bits with the reserved ones 0, or their first fault
abbrev pub clearing : List Bool → Result (List Bool) SdsFault
clearing bits = unless (fault bits) (cleared bits)

-- the canonical text of a PDU, unless it has more bits than a PDU may have
abbrev pub writing : {A : Type 0} → Sds A → Result (List Bool) SdsFault
writing sds = if nat_lt most_bits (length (canon sds)) then Err TooLong else Ok (canon sds)

-- The result is `known`. Out of memory may replace a value, but never a fault.
abbrev pub Gives : {A : Type 0} → Result A SdsFault → Result A SdsFault → Type 0
Gives (Ok x) known = known ≡ Ok x
Gives (Err f) (Ok y) = f ≡ NoMemory
Gives (Err f) (Err fault) = f ≡ fault

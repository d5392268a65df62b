-- Reading where only a message is accepted: a report and an acknowledgement are refused, after every other fault.
use Rattle.std.specs.Prelude.{Bool, true, false, List, Result, Ok, Err}
use Rattle.sds_tl.specs.Numbers.{Reference}
use Rattle.sds_tl.specs.declared.fault.SdsFault.{SdsFault}
use Rattle.sds_tl.specs.declared.fault.SdsFault.TheVariants.{NotATransfer}
use Rattle.sds_tl.specs.declared.pdu.Sds.{Sds}
use Rattle.sds_tl.specs.declared.pdu.Sds.TheVariants.{Transfer, Report, Ack}
use Rattle.sds_tl.specs.declared.pdu.Head.{Head}
use Rattle.sds_tl.specs.declared.pdu.Head.TheVariants as heads
use Rattle.sds_tl.specs.Reading.{reading}

-- a PDU, if it is a message
abbrev pub only_transfer : {A : Type 0} → Result (Sds A) SdsFault → Result (Sds A) SdsFault
only_transfer (Ok (Transfer identifier request selection reference user_data)) = Ok (Transfer identifier request selection reference user_data)
only_transfer (Ok (Report identifier acknowledge status reference user_data)) = Err NotATransfer
only_transfer (Ok (Ack identifier status reference)) = Err NotATransfer
only_transfer (Err fault) = Err fault

-- the message that the bits spell, or their fault
abbrev pub reading_transfer : {A : Type 0} → List Bool → Result (Sds A) SdsFault
reading_transfer bits = only_transfer (reading bits)

-- whether a PDU is a message
abbrev pub is_transfer : {A : Type 0} → Sds A → Bool
is_transfer (Transfer identifier request selection reference user_data) = true
is_transfer (Report identifier acknowledge status reference user_data) = false
is_transfer (Ack identifier status reference) = false

-- a PDU's message reference
abbrev pub reference_of : {A : Type 0} → Sds A → Reference
reference_of (Transfer identifier request selection reference user_data) = reference
reference_of (Report identifier acknowledge status reference user_data) = reference
reference_of (Ack identifier status reference) = reference

-- the message reference of a head, if it is a message's
abbrev pub transfer_reference : Result Head SdsFault → Result Reference SdsFault
transfer_reference (Ok (heads.Transfer request reference)) = Ok reference
transfer_reference (Ok (heads.Report acknowledge status reference)) = Err NotATransfer
transfer_reference (Ok (heads.Ack status reference)) = Err NotATransfer
transfer_reference (Err fault) = Err fault

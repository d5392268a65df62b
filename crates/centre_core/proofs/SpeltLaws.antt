-- What waits of a short data PDU is the written form of one of its kind and reference.
use Rattle.std.proofs.Common.{◌≡◌, ℕ, Bool, true, List, refl, ap, sym, ◌∙◌, Option, Some, None, Result, Ok, Err}
use Rattle.std.specs.Prelude.{◌==◌}
use mathlib.Core.Bool.{false≢true}
use Rattle.base.proofs.Numbers.{same_test}
use Rattle.sds_tl.specs.declared.fault.SdsFault.{SdsFault}
use Rattle.sds_tl.specs.declared.pdu.DeliveryReportRequest.{DeliveryReportRequest}
use Rattle.sds_tl.specs.declared.pdu.Head.{Head}
use Rattle.sds_tl.specs.declared.pdu.Head.TheVariants as heads
use Rattle.sds_tl.specs.Reading.{fault, value, unless, heading, head_value, cleared, clearing}
use Rattle.sds_tl.specs.Transfers.{transfer_reference}
use Rattle.sds_tl.proofs.Spelling.{value_takes}
use Rattle.sds_tl.proofs.Cleared.{cleared_is_canon, cleared_spells, heading-cleared, cleared-message}
use Rattle.mailbox.specs.declared.key.Kind.TheVariants.{Message, Report}
use Rattle.mailbox.specs.declared.key.Envelope.{Envelope}
use Rattle.mailbox.specs.Sound.{is_head_of, IsSpelt}
use Rattle.centre_core.specs.State.{State}
use Rattle.centre_core.specs.Step.{message_of, report_of}

no_fault : (f : Option SdsFault) (x head : Head) → unless f x ≡ Ok head → f ≡ None
no_fault None x head e = refl
no_fault (Some f) x head e = cc

pub message_written : (pdu : List Bool) (reference : ℕ) (head : Result Head SdsFault) → heading pdu ≡ head → is_head_of Message reference head ≡ true → cleared pdu ≡ pdu
message_written pdu reference (Err fault) is e = absurd (false≢true e)
message_written pdu reference (Ok (heads.Transfer request r)) is e = cleared-message pdu request r is
message_written pdu reference (Ok (heads.Report acknowledge status r)) is e = absurd (false≢true e)
message_written pdu reference (Ok (heads.Ack status r)) is e = absurd (false≢true e)

-- a message's PDU waits as it came
pub message_spelt : (s : State) (moment : ℕ) (e : Envelope) (pdu : List Bool) → is_head_of Message e.reference (heading pdu) ≡ true → IsSpelt (message_of s moment e pdu)
message_spelt s moment e pdu is = record { head = is; written = message_written pdu e.reference (heading pdu) refl is }

report_read : (pdu : List Bool) (reference : ℕ) (head : Result Head SdsFault) → heading pdu ≡ head → is_head_of Report reference head ≡ true → fault pdu ≡ None
report_read pdu reference (Err fault) is e = absurd (false≢true e)
report_read pdu reference (Ok head) is e = no_fault (fault pdu) (head_value pdu) head is

pub cleared_twice : (pdu : List Bool) → fault pdu ≡ None → cleared (cleared pdu) ≡ cleared pdu
cleared_twice pdu none =
    let spells = value_takes (Unit {0}) pdu none in
    cleared_is_canon (Unit {0}) (value pdu) (cleared pdu) (cleared_spells (Unit {0}) (value pdu) pdu spells) ∙ sym (cleared_is_canon (Unit {0}) (value pdu) pdu spells)

-- a report's PDU waits in its written form
pub report_spelt : (s : State) (moment : ℕ) (e : Envelope) (pdu : List Bool) → is_head_of Report e.reference (heading pdu) ≡ true → IsSpelt (report_of s moment e pdu)
report_spelt s moment e pdu is =
    let none : fault pdu ≡ None = report_read pdu e.reference (heading pdu) refl is in
    record {
      head = ap (is_head_of Report e.reference) (heading-cleared (Unit {0}) pdu none) ∙ is;
      written = cleared_twice pdu none;
    }

unless_ok : {X : Type 0} (f : Option SdsFault) (x y : X) → unless f x ≡ Ok y → y ≡ x
unless_ok None x y e = cc
unless_ok (Some f) x y e = cc

-- what is written of a PDU is its written form
pub is_cleared : (pdu bits : List Bool) → clearing pdu ≡ Ok bits → bits ≡ cleared pdu
is_cleared pdu bits e = unless_ok (fault pdu) (cleared pdu) bits e

-- a PDU is of the kind and reference that its head says
pub message_headed : (pdu : List Bool) (request : DeliveryReportRequest) (reference : ℕ) → heading pdu ≡ Ok (heads.Transfer request reference) → is_head_of Message reference (heading pdu) ≡ true
message_headed pdu request reference is = ap (is_head_of Message reference) is ∙ same_test reference

pub report_headed : (pdu : List Bool) (acknowledge : Bool) (status reference : ℕ) → heading pdu ≡ Ok (heads.Report acknowledge status reference) → is_head_of Report reference (heading pdu) ≡ true
report_headed pdu acknowledge status reference is = ap (is_head_of Report reference) is ∙ same_test reference

referenced : (head : Result Head SdsFault) (reference : ℕ) → transfer_reference head ≡ Ok reference → is_head_of Message reference head ≡ true
referenced (Err fault) reference e = cc
referenced (Ok (heads.Transfer request r)) reference e = let n : r ≡ reference = cc in ap (λ k. r == k) (sym n) ∙ same_test r
referenced (Ok (heads.Report acknowledge status r)) reference e = cc
referenced (Ok (heads.Ack status r)) reference e = cc

-- so too by its reference, where it is a message
pub transfer_headed : (pdu : List Bool) (reference : ℕ) → transfer_reference (heading pdu) ≡ Ok reference → is_head_of Message reference (heading pdu) ≡ true
transfer_headed pdu reference is = referenced (heading pdu) reference is

-- Of what is read, whether it is a message is reported by its head.
use Rattle.std.proofs.Common.{◌≡◌, ℕ, List, Bool, Result, Ok, Err, refl, sym, ap, ◌∙◌}
use Rattle.std.specs.Prelude.{IfOk, IsTrue}
use Rattle.std.specs.Result.{result_map_both}
use Rattle.sds_tl.specs.declared.fault.SdsFault.{SdsFault}
use Rattle.sds_tl.specs.declared.fault.SdsFault.TheVariants.{NotATransfer}
use Rattle.sds_tl.specs.declared.pdu.Sds.{Sds}
use Rattle.sds_tl.specs.declared.pdu.Sds.TheVariants.{Transfer, Report, Ack}
use Rattle.sds_tl.specs.Syntax.{Spells}
use Rattle.sds_tl.specs.Reading.{head_of, heading, reading}
use Rattle.sds_tl.specs.Transfers.{only_transfer, reading_transfer, is_transfer, reference_of, transfer_reference}
use Rattle.sds_tl.proofs.Heads as heads
use Rattle.sds_tl.proofs.Spelling.{reading_again}

module _ (A : Type 0) where
  one_agrees : (r : Result (Sds A) SdsFault) → transfer_reference (result_map_both head_of (λ (f : SdsFault). f) r) ≡ result_map_both reference_of (λ (f : SdsFault). f) (only_transfer r)
  one_agrees (Ok (Transfer identifier request selection reference user_data)) = refl
  one_agrees (Ok (Report identifier acknowledge status reference user_data)) = refl
  one_agrees (Ok (Ack identifier status reference)) = refl
  one_agrees (Err fault) = refl

  pub references_agree : (bits : List Bool) → transfer_reference (heading bits) ≡ result_map_both reference_of (λ (f : SdsFault). f) (reading_transfer {A = A} bits)
  references_agree bits = ap transfer_reference (heads.heads_agree A bits) ∙ one_agrees (reading bits)

  fault_back : (r : Result (Sds A) SdsFault) (fault : SdsFault) → result_map_both reference_of (λ (f : SdsFault). f) r ≡ Err fault → r ≡ Err fault
  fault_back (Ok sds) fault e = cc
  fault_back (Err f) fault e = cc

  -- where its head reports a fault
  pub refused_alike : (bits : List Bool) (fault : SdsFault) → transfer_reference (heading bits) ≡ Err fault → reading_transfer {A = A} bits ≡ Err fault
  refused_alike bits fault e = fault_back (reading_transfer bits) fault (sym (references_agree bits) ∙ e)

  no_fault : (r : Result (Sds A) SdsFault) (reference : ℕ) (fault : SdsFault) → result_map_both reference_of (λ (f : SdsFault). f) (only_transfer r) ≡ Ok reference → only_transfer r ≡ r
  no_fault (Ok (Transfer identifier request selection reference user_data)) n fault e = refl
  no_fault (Ok (Report identifier acknowledge status reference user_data)) n fault e = cc
  no_fault (Ok (Ack identifier status reference)) n fault e = cc
  no_fault (Err f) n fault e = cc

  -- where it reports a message
  pub taken_alike : (bits : List Bool) (reference : ℕ) → transfer_reference (heading bits) ≡ Ok reference → reading_transfer {A = A} bits ≡ reading bits
  taken_alike bits reference e = no_fault (reading bits) reference NotATransfer (sym (references_agree bits) ∙ e)

  passed : (sds : Sds A) (reference : ℕ) → result_map_both reference_of (λ (f : SdsFault). f) (only_transfer (Ok sds)) ≡ Ok reference → IsTrue (is_transfer sds)
  passed (Transfer identifier request selection reference user_data) n e = refl
  passed (Report identifier acknowledge status reference user_data) n e = cc
  passed (Ack identifier status reference) n e = cc

  pub found_alike : (bits : List Bool) (reference : ℕ) (r : Result (Sds A) SdsFault) → transfer_reference (heading bits) ≡ Ok reference →
      IfOk r (λ sds. Spells sds bits) → IfOk r (λ sds. Spells sds bits × IsTrue (is_transfer sds))
  found_alike bits reference (Ok sds) e spells =
      (spells, passed sds reference (ap (λ r. result_map_both reference_of (λ (f : SdsFault). f) (only_transfer r)) (sym (reading_again A sds bits spells)) ∙ sym (references_agree bits) ∙ e))
  found_alike bits reference (Err f) e spells = tt

  -- of what the bits spell
  pub spelt_alike : (sds : Sds A) (bits : List Bool) → Spells sds bits → reading_transfer bits ≡ only_transfer (Ok sds)
  spelt_alike sds bits spells = ap only_transfer (reading_again A sds bits spells)

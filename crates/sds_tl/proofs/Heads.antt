-- The head that is read of bits is that of their PDU.
use Rattle.std.proofs.Common.{◌≡◌, Bool, true, false, eqb, cond, List, Option, Some, None, refl, ap}
use Rattle.std.specs.Result.{result_map_both}
use Rattle.sds_tl.specs.declared.fault.SdsFault.{SdsFault}
use Rattle.sds_tl.specs.Reading.{type_of, fault, value, transfer, report, ack, head_value, head_of, unless, reading, heading}

module _ (A : Type 0) where
  value_head : (bits : List Bool) → head_value bits ≡ head_of {A = A} (value bits)
  unfolding head_value value
  value_head bits = by (eqb (type_of bits) 0) (eqb (type_of bits) 1)
    where
      by : (b d : Bool) → cond b (head_of {A = A} (transfer bits)) (cond d (head_of {A = A} (report bits)) (head_of {A = A} (ack bits))) ≡ head_of
          {A = A} (cond b (transfer bits) (cond d (report bits) (ack bits)))
      by true d = refl
      by false true = refl
      by false false = refl

  pub heads_agree : (bits : List Bool) → heading bits ≡ result_map_both head_of (λ (f : SdsFault). f) (reading {A = A} bits)
  heads_agree bits = by (fault bits)
    where
      by : (f : Option SdsFault) → unless f (head_value bits) ≡ result_map_both head_of (λ (f : SdsFault). f) (unless f (value {A = A} bits))
      by (Some f) = refl
      by None = ap (unless None) (value_head bits)

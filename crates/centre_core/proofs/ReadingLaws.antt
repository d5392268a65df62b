-- What a PDU from a radio says does not depend on where its groups are kept.
use Rattle.std.proofs.Common.{◌≡◌, Bool, true, false, List, length, refl, ap, ◌∙◌, Result, Ok, Err}
use Rattle.std.specs.Prelude.{◌==◌, if◌then◌else◌}
use Rattle.mm_pdus.specs.declared.fault.MmFault.{MmFault}
use Rattle.mm_pdus.specs.declared.group.GroupUp.{GroupUp}
use Rattle.mm_pdus.specs.declared.uplink.MmUp.{MmUp}
use Rattle.mm_pdus.specs.declared.uplink.MmUp.TheVariants.{Demand, Detach, Groups}
use Rattle.mm_pdus.specs.Values.{update_of}
use Rattle.mm_pdus.specs.Reading.{◌>>=◌, known, bit_at, field_at, optional_at, extension_at, whole}
use Rattle.mm_pdus.specs.Uplink.{detach_widths, demand_widths}
use Rattle.mm_pdus.specs.GroupReading.{group_up_at, unkept}
use Rattle.mm_pdus.specs.UplinkReading.{all_groups_at, detach_at, demand_at, groups_up_at, up_at, reading_up, unkept_up}

module _ (B C : Type 0) where
  abbrev moved_pdu : MmUp B → MmUp C
  moved_pdu (Demand update) = Demand update
  moved_pdu Detach = Detach
  moved_pdu (Groups mode items) = Groups mode items

  abbrev pub moved : Result (MmUp B) MmFault → Result (MmUp C) MmFault
  moved (Ok pdu) = Ok (moved_pdu pdu)
  moved (Err fault) = Err fault

  -- so too with the bits after it
  abbrev moved_prefix : Result (MmUp B × List Bool) MmFault → Result (MmUp C × List Bool) MmFault
  moved_prefix (Ok p) = Ok (moved_pdu p.0, p.1)
  moved_prefix (Err fault) = Err fault

  moved_bind : {X : Type 0} (r : Result X MmFault) (k : X → Result (MmUp B × List Bool) MmFault) (l : X → Result (MmUp C × List Bool) MmFault) →
      ((x : X) → l x ≡ moved_prefix (k x)) → (r >>= l) ≡ moved_prefix (r >>= k)
  moved_bind (Ok x) k l h = h x
  moved_bind (Err fault) k l h = refl

  moved_if : (b : Bool) (x y : Result (MmUp B × List Bool) MmFault) (v w : Result (MmUp C × List Bool) MmFault) → v ≡ moved_prefix x →
      w ≡ moved_prefix y → (if b then v else w) ≡ moved_prefix (if b then x else y)
  moved_if true x y v w h k = h
  moved_if false x y v w h k = k

  detach_moved : (bits : List Bool) → detach_at {A = C} bits ≡ moved_prefix (detach_at {A = B} bits)
  unfolding detach_at
  detach_moved bits = moved_bind (extension_at detach_widths bits) _ _ (λ rest. refl)

  demand_moved : (bits : List Bool) → demand_at {A = C} bits ≡ moved_prefix (demand_at {A = B} bits)
  unfolding demand_at
  demand_moved bits = moved_bind (field_at 3 bits) _ _
      (λ number. moved_bind (known (update_of number.0)) _ _
      (λ update. moved_bind (bit_at number.1) _ _
      (λ append. moved_bind (optional_at 10 append.1) _ _ (λ rest. moved_bind (extension_at demand_widths rest) _ _ (λ end. refl)))))

  -- each group is read by this function
  module _ (group_at : List Bool → Result (GroupUp × List Bool) MmFault) where
    groups_moved : (bits : List Bool) → groups_up_at {A = C} group_at bits ≡ moved_prefix (groups_up_at {A = B} group_at bits)
    unfolding groups_up_at
    groups_moved bits = moved_bind (bit_at bits) _ _ (λ report. moved_bind (bit_at report.1) _ _ (λ mode. moved_bind (all_groups_at group_at mode.1) _ _ (λ items. refl)))

    up_moved : (bits : List Bool) → up_at {A = C} group_at bits ≡ moved_prefix (up_at {A = B} group_at bits)
    unfolding up_at
    up_moved bits =
        moved_bind (field_at 4 bits) _ _
        (λ kind. moved_if (kind.0 == 1) _ _ _ _ (detach_moved kind.1) (moved_if (kind.0 == 2) _ _ _ _ (demand_moved kind.1) (moved_if (kind.0 == 7) _ _ _ _ (groups_moved kind.1) refl)))

  moved_if_whole : (b : Bool) (pdu : MmUp B) (f : MmFault) → (if b then Ok (moved_pdu pdu) else Err f) ≡ moved (if b then Ok pdu else Err f)
  moved_if_whole true pdu f = refl
  moved_if_whole false pdu f = refl

  moved_whole : (r : Result (MmUp B × List Bool) MmFault) → whole (moved_prefix r) ≡ moved (whole r)
  moved_whole (Ok p) = moved_if_whole (length p.1 == 0) p.0 _
  moved_whole (Err fault) = refl

  pub reading_moved : (bits : List Bool) → reading_up {A = C} bits ≡ moved (reading_up {A = B} bits)
  unfolding reading_up
  reading_moved bits = ap whole (up_moved group_up_at bits) ∙ moved_whole (up_at group_up_at bits)

  pub unkept_moved : (bits : List Bool) → unkept_up {A = C} bits ≡ moved (unkept_up {A = B} bits)
  unfolding unkept_up
  unkept_moved bits = ap whole (up_moved (unkept group_up_at) bits) ∙ moved_whole (up_at (unkept group_up_at) bits)

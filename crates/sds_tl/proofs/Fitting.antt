-- What bits without a fault have.
use Rattle.std.proofs.Common.{◌≡◌, ℕ, ◌≤◌, Bool, true, false, cond, List, length, Option, Some, None, refl, arith, eqb, ltb}
use Rattle.std.proofs.lemmas.Bool.{ltb-false, le-ltb, ne_eqb}
use Rattle.sds_tl.specs.declared.fault.SdsFault.{SdsFault}
use Rattle.sds_tl.specs.declared.fault.SdsFault.TheVariants.{Short, Trailing, NotSdsTl, UnknownType, StorageControl, TooLong}
use Rattle.sds_tl.specs.Syntax.{most_bits}
use Rattle.sds_tl.specs.Reading.{field, flag, type_of, data_fault, ack_fault, fault}

-- a test that was passed
passed : (b : Bool) (f : SdsFault) (more : Option SdsFault) → cond b (Some f) more ≡ None → (b ≡ false) × (more ≡ None)
passed true f more e = absurd cc
passed false f more e = (refl, e)

-- What all types have in common, and what is left to judge.
pub record Passes (bits : List Bool) : Type 0 where
  pub most : length bits ≤ most_bits
  pub layer : 128 ≤ field 0 8 bits
  pub known : type_of bits ≤ 2
  pub header : 16 ≤ length bits
  pub left : cond (eqb (type_of bits) 0) (data_fault 24 bits) (cond (eqb (type_of bits) 1) (data_fault 32 bits) (ack_fault bits)) ≡ None

pub passes : (bits : List Bool) → fault bits ≡ None → Passes bits
unfolding fault
passes bits e =
    let p1 = passed (ltb most_bits (length bits)) TooLong _ e in
    let p2 = passed (ltb (length bits) 8) Short _ p1.1 in
    let p3 = passed (ltb (field 0 8 bits) 128) NotSdsTl _ p2.1 in
    let p4 = passed (ltb (length bits) 12) Short _ p3.1 in
    let p5 = passed (ltb 2 (type_of bits)) UnknownType _ p4.1 in
    let p6 = passed (ltb (length bits) 16) Short _ p5.1 in
    record {
      most = ltb-false _ _ p1.0;
      layer = ltb-false _ _ p3.0;
      known = ltb-false _ _ p5.0;
      header = ltb-false _ _ p6.0;
      left = p6.1;
    }

pub passed_on : (bits : List Bool) → Passes bits → fault bits ≡ None
unfolding fault
passed_on bits p =
    rw (
      le-ltb most_bits (length bits) p.most,
      le-ltb (length bits) 8 (omega arith),
      le-ltb (field 0 8 bits) 128 p.layer,
      le-ltb (length bits) 12 (omega arith),
      le-ltb 2 (type_of bits) p.known,
      le-ltb (length bits) 16 p.header,
    )
    p.left

pub layer_of : (bits : List Bool) → fault bits ≡ None → 128 ≤ field 0 8 bits
layer_of bits e = (passes bits e).layer

pub header_of : (bits : List Bool) → fault bits ≡ None → 16 ≤ length bits
header_of bits e = (passes bits e).header

-- the place of the user data is reached
data_room : (bits : List Bool) (begin : ℕ) → data_fault begin bits ≡ None → (flag 15 bits ≡ false) × (begin ≤ length bits)
unfolding data_fault
data_room bits begin e =
    let p1 = passed (flag 15 bits) StorageControl _ e in
    let p2 = passed (ltb (length bits) begin) Short None p1.1 in
    (p1.0, ltb-false _ _ p2.0)

pub transfer_fits : (bits : List Bool) → fault bits ≡ None → type_of bits ≡ 0 → (flag 15 bits ≡ false) × (24 ≤ length bits)
transfer_fits bits e kind = let p = (passes bits e).left in data_room bits 24 (rw kind at p)

pub report_fits : (bits : List Bool) → fault bits ≡ None → type_of bits ≡ 1 → (flag 15 bits ≡ false) × (32 ≤ length bits)
report_fits bits e kind = let p = (passes bits e).left in data_room bits 32 (rw kind at p)

pub transfer_room : (bits : List Bool) → fault bits ≡ None → type_of bits ≡ 0 → 24 ≤ length bits
transfer_room bits e kind = (transfer_fits bits e kind).1

pub report_room : (bits : List Bool) → fault bits ≡ None → type_of bits ≡ 1 → 32 ≤ length bits
report_room bits e kind = (report_fits bits e kind).1

pub ack_room : (bits : List Bool) → fault bits ≡ None → ¬ (type_of bits ≡ 0) → ¬ (type_of bits ≡ 1) → length bits ≡ 32
unfolding ack_fault
ack_room bits e not_transfer not_report =
    let p = (passes bits e).left in
    let q = rw (ne_eqb _ _ not_transfer, ne_eqb _ _ not_report) at p in
    let p1 = passed (ltb (length bits) 32) Short _ q in
    let p2 = passed (ltb 32 (length bits)) Trailing None p1.1 in
    omega (arith, ltb-false (length bits) 32 p1.0, ltb-false 32 (length bits) p2.0)

pub data_passes : (begin : ℕ) (bits : List Bool) → flag 15 bits ≡ false → begin ≤ length bits → data_fault begin bits ≡ None
unfolding data_fault
data_passes begin bits control room = rw (control, le-ltb (length bits) begin room) refl

pub ack_passes : (bits : List Bool) → length bits ≡ 32 → ack_fault bits ≡ None
unfolding ack_fault
ack_passes bits len = rw len refl

pub ruleset head_fits = (header_of, transfer_room, report_room, ack_room)

pub ruleset fields_fit = (layer_of, header_of, transfer_room, report_room, ack_room)

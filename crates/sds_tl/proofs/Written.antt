-- The written form: how long it is, and that it spells the PDU.
use Rattle.std.proofs.Common.{◌≡◌, ℕ, ◌+◌, ◌≤◌, Bool, true, false, cond, ltb, List, [], ◌∷◌, length, replicate, Result, Ok, Err, refl, sym, ap, subst, ◌∙◌, arith, length-append}
use Rattle.std.specs.Prelude.{IfOk, OnOk}
use Rattle.std.proofs.lemmas.Bool.{ltb-false, ltb-true, le-ltb, lt-ltb}
use Rattle.std.proofs.lemmas.List.{length-replicate}
use Rattle.identity.specs.Inside.NumberLaws.{length-num}
use Rattle.sds_tl.specs.declared.fault.SdsFault.{SdsFault}
use Rattle.sds_tl.specs.declared.fault.SdsFault.TheVariants.{TooLong}
use Rattle.sds_tl.specs.declared.pdu.DeliveryReportRequest.{DeliveryReportRequest}
use Rattle.sds_tl.specs.declared.pdu.Sds.{Sds}
use Rattle.sds_tl.specs.declared.pdu.Sds.TheVariants.{Transfer, Report, Ack}
use Rattle.sds_tl.specs.Syntax.{most_bits, text, canon, reserved_width, IsInRange, Spells}
use Rattle.sds_tl.specs.Reading.{writing, Gives}

pub above_after : (k m n : ℕ) → ltb m n ≡ ltb (k + m) (k + n)
above_after k m n = by (ltb m n) refl
  where
    by : (b : Bool) → ltb m n ≡ b → ltb m n ≡ ltb (k + m) (k + n)
    by true e = e ∙ sym (lt-ltb (k + m) (k + n) (omega (arith, ltb-true m n e)))
    by false e = e ∙ sym (le-ltb (k + m) (k + n) (omega (arith, ltb-false m n e)))

ok_is : {x y : List Bool} → ◌≡◌ {A = Result (List Bool) SdsFault} (Ok x) (Ok y) → x ≡ y
ok_is e = cc

err_ok : {f : SdsFault} {x : List Bool} → ◌≡◌ {A = Result (List Bool) SdsFault} (Err f) (Ok x) → ⊥
err_ok e = cc

module _ (A : Type 0) where
  length-transfer : (i : ℕ) (q : DeliveryReportRequest) (s : Bool) (r : ℕ) (d reserved : List Bool) → length (text {A = A} (Transfer i q s r d) reserved) ≡ 24 + length d
  length-transfer i q s r d reserved = simp (length-append, length-num) (omega arith)

  length-report : (i : ℕ) (a : Bool) (s r : ℕ) (d reserved : List Bool) → length (text {A = A} (Report i a s r d) reserved) ≡ length reserved + (30 + length d)
  length-report i a s r d reserved = simp (length-append, length-num) (omega arith)

  length-ack : (i s r : ℕ) (reserved : List Bool) → length (text {A = A} (Ack i s r) reserved) ≡ length reserved + 28
  length-ack i s r reserved = simp (length-append, length-num) (omega arith)

  -- reserved bits that are as many make a text that is as long
  length-text : (sds : Sds A) (a b : List Bool) → length a ≡ length b → length (text sds a) ≡ length (text sds b)
  length-text (Transfer i q s r d) a b e = length-transfer i q s r d a ∙ sym (length-transfer i q s r d b)
  length-text (Report i t s r d) a b e = length-report i t s r d a ∙ ap (λ (n : ℕ). n + (30 + length d)) e ∙ sym (length-report i t s r d b)
  length-text (Ack i s r) a b e = length-ack i s r a ∙ ap (λ (n : ℕ). n + 28) e ∙ sym (length-ack i s r b)

  pub length-canon_transfer : (i : ℕ) (q : DeliveryReportRequest) (s : Bool) (r : ℕ) (d : List Bool) → length (canon {A = A} (Transfer i q s r d)) ≡ 24 + length d
  length-canon_transfer i q s r d = length-transfer i q s r d []

  pub length-canon_report : (i : ℕ) (a : Bool) (s r : ℕ) (d : List Bool) → length (canon {A = A} (Report i a s r d)) ≡ 32 + length d
  length-canon_report i a s r d = omega (arith, length-report i a s r d (false ∷ false ∷ []))

  pub length-canon_ack : (i s r : ℕ) → length (canon {A = A} (Ack i s r)) ≡ 32
  length-canon_ack i s r = length-ack i s r (replicate 4 false)

  pub canon_spells : (sds : Sds A) → IsInRange sds → length (canon sds) ≤ most_bits → Spells sds (canon sds)
  canon_spells sds range room = record { reserved = replicate (reserved_width sds) false; width = length-replicate (reserved_width sds) false; range = range; is = refl; room = room }

  pub canon_room : (sds : Sds A) (bits : List Bool) → Spells sds bits → length (canon sds) ≤ most_bits
  canon_room sds bits spells =
      let same = length-text sds (replicate (reserved_width sds) false) spells.reserved (length-replicate (reserved_width sds) false ∙ sym spells.width) in
      omega (arith, same, ap length spells.is, spells.room)

  -- what is spelt can be written
  pub room_to_write : (sds : Sds A) (bits : List Bool) → Spells sds bits → writing sds ≡ Ok (canon sds)
  room_to_write sds bits spells = rw (le-ltb most_bits (length (canon sds)) (canon_room sds bits spells)) refl

  pub writing_spells : (sds : Sds A) (bits : List Bool) → IsInRange sds → writing sds ≡ Ok bits → Spells sds bits
  writing_spells sds bits range is = by (ltb most_bits (length (canon sds))) refl is
    where
      by : (b : Bool) → ltb most_bits (length (canon sds)) ≡ b → cond b (Err TooLong) (Ok (canon sds)) ≡ Ok bits → Spells sds bits
      by true long is = absurd (err_ok is)
      by false room is = subst (λ (t : List Bool). Spells sds t) (ok_is is) (canon_spells sds range (ltb-false _ _ room))

  pub is_spelt : (sds : Sds A) (r : Result (List Bool) SdsFault) → OnOk r (IsInRange sds) → Gives r (writing sds) → IfOk r (λ bits. Spells sds bits)
  is_spelt sds (Ok bits) range given = writing_spells sds bits range given
  is_spelt sds (Err f) range given = tt

-- The two laws: what is read is spelt so, and what is spelt so is read.
use Rattle.std.proofs.Common.{◌≡◌, ℕ, ◌≤◌, Bool, true, false, cond, eqb, List, [], ◌∷◌, ◌++◌, length, drop, Option, Some, None, Result, Ok, Err, refl}
use Rattle.std.proofs.Common.{sym, ap, subst, ◌∙◌, arith, length-append, append_assoc}
use Rattle.std.specs.Prelude.{IfOk}
use Rattle.std.proofs.lemmas.Bool.{cond_both, eqb-true, eqb-false}
use Rattle.std.proofs.lemmas.List.{append-nil, drop_all, length-drop}
use Rattle.identity.specs.Number.{num}
use Rattle.identity.specs.Inside.NumberLaws.{length-num}
use Rattle.sds_tl.specs.declared.fault.SdsFault.{SdsFault}
use Rattle.sds_tl.specs.declared.pdu.DeliveryReportRequest.{DeliveryReportRequest}
use Rattle.sds_tl.specs.declared.pdu.DeliveryReportRequest.TheVariants as requests
use Rattle.sds_tl.specs.declared.pdu.Sds.{Sds}
use Rattle.sds_tl.specs.declared.pdu.Sds.TheVariants.{Transfer, Report, Ack}
use Rattle.sds_tl.specs.Values.{code_of, request_of}
use Rattle.sds_tl.specs.Syntax.{most_bits, text, Spells, InRange}
use Rattle.sds_tl.specs.Reading.{field, flag, type_of, transfer, report, ack, fault, value, unless, reading, Gives}
use Rattle.sds_tl.proofs.Places.{field_small, split, split_bit, found, found_bit, skipped}
use Rattle.sds_tl.proofs.Fitting.{Passes, passes, passed_on, transfer_fits, report_fits, ack_room, data_passes, ack_passes}

request_text : (a b : Bool) → num 2 (code_of (request_of a b)) ≡ a ∷ b ∷ []
unfolding num
request_text false false = refl
request_text false true = refl
request_text true false = refl
request_text true true = refl

request_back : (q : DeliveryReportRequest) → (a : Bool) × (b : Bool) × (num 2 (code_of q) ≡ a ∷ b ∷ []) × (request_of a b ≡ q)
unfolding num
request_back requests.None = (false, false, refl, refl)
request_back requests.Received = (false, true, refl, refl)
request_back requests.Consumed = (true, false, refl, refl)
request_back requests.Both = (true, true, refl, refl)

-- ---- the parts of a text, one inside the other

nested_transfer : (i t q r user_data : List Bool) (selection control : Bool) → i ++ t ++ q ++ selection ∷ control ∷ r ++ user_data ≡ i ++ (t ++ (q ++ (selection ∷ control ∷ (r ++ user_data))))
nested_transfer i t q r user_data selection control = simp append_assoc

nested_report : (i t reserved s r user_data : List Bool) (acknowledge control : Bool)
    → i ++ t ++ acknowledge ∷ reserved ++ control ∷ s ++ r ++ user_data ≡ i ++ (t ++ (acknowledge ∷ (reserved ++ (control ∷ (s ++ (r ++ user_data))))))
nested_report i t reserved s r user_data acknowledge control = simp append_assoc

nested_ack : (i t reserved s r : List Bool) → i ++ t ++ reserved ++ s ++ r ≡ i ++ (t ++ (reserved ++ (s ++ (r ++ []))))
nested_ack i t reserved s r = simp (append_assoc, append-nil)

-- ---- what is read is spelt so

put_after : (prefix : List Bool) {a b : List Bool} → a ≡ b → prefix ++ a ≡ prefix ++ b
put_after prefix e = ap (λ (t : List Bool). prefix ++ t) e

module _ (A : Type 0) where
  ok_is : {x y : Sds A} → ◌≡◌ {A = Result (Sds A) SdsFault} (Ok x) (Ok y) → x ≡ y
  ok_is e = cc

  err_ok : {f : SdsFault} {x : Sds A} → ◌≡◌ {A = Result (Sds A) SdsFault} (Err f) (Ok x) → ⊥
  err_ok e = cc

  transfer_text : (bits : List Bool) → type_of bits ≡ 0 → flag 15 bits ≡ false → 24 ≤ length bits → bits ≡ text {A = A} (transfer bits) []
  transfer_text bits kind control room =
      let f0 = split 0 8 bits (omega arith) in
      let f8 = split 8 4 bits (omega arith) in
      let f12 = split_bit 12 bits (omega arith) in
      let f13 = split_bit 13 bits (omega arith) in
      let f14 = split_bit 14 bits (omega arith) in
      let f15 = split_bit 15 bits (omega arith) in
      let f16 = split 16 8 bits (omega arith) in
      let request = request_of (flag 12 bits) (flag 13 bits) in
      let asked : drop 12 bits ≡ num 2 (code_of request) ++ drop 14 bits = f12 ∙ put_after (flag 12 bits ∷ []) f13 ∙
      ap (λ (t : List Bool). t ++ drop 14 bits) (sym (request_text (flag 12 bits) (flag 13 bits))) in
      f0
      ∙ put_after (num 8 (field 0 8 bits)) (f8 ∙ ap (λ (n : ℕ). num 4 n ++ drop 12 bits) kind)
      ∙ put_after (num 8 (field 0 8 bits)) (put_after (num 4 0) asked)
      ∙ put_after (num 8 (field 0 8 bits))
      (put_after (num 4 0) (put_after (num 2 (code_of request))
      (f14 ∙ put_after (flag 14 bits ∷ []) (f15 ∙ ap (λ (b : Bool). b ∷ drop 16 bits) control ∙ put_after (false ∷ []) f16))))
      ∙ sym (nested_transfer (num 8 (field 0 8 bits)) (num 4 0) (num 2 (code_of request)) (num 8 (field 16 8 bits)) (drop 24 bits) (flag 14 bits) false)

  report_text : (bits : List Bool) → type_of bits ≡ 1 → flag 15 bits ≡ false → 32 ≤ length bits → bits ≡ text {A = A} (report bits) (num 2 (field 13 2 bits))
  report_text bits kind control room =
      let f0 = split 0 8 bits (omega arith) in
      let f8 = split 8 4 bits (omega arith) in
      let f12 = split_bit 12 bits (omega arith) in
      let f13 = split 13 2 bits (omega arith) in
      let f15 = split_bit 15 bits (omega arith) in
      let f16 = split 16 8 bits (omega arith) in
      let f24 = split 24 8 bits (omega arith) in
      f0
      ∙ put_after (num 8 (field 0 8 bits)) (f8 ∙ ap (λ (n : ℕ). num 4 n ++ drop 12 bits) kind)
      ∙ put_after (num 8 (field 0 8 bits))
      (put_after (num 4 1) (f12 ∙
      put_after (flag 12 bits ∷ [])
      (f13 ∙ put_after (num 2 (field 13 2 bits)) (f15 ∙ ap (λ (b : Bool). b ∷ drop 16 bits) control ∙
      put_after (false ∷ []) (f16 ∙ put_after (num 8 (field 16 8 bits)) f24)))))
      ∙ sym (nested_report (num 8 (field 0 8 bits)) (num 4 1) (num 2 (field 13 2 bits)) (num 8 (field 16 8 bits)) (num 8 (field 24 8 bits)) (drop 32 bits) (flag 12 bits) false)

  ack_text : (bits : List Bool) → type_of bits ≡ 2 → length bits ≡ 32 → bits ≡ text {A = A} (ack bits) (num 4 (field 12 4 bits))
  ack_text bits kind room =
      let f0 = split 0 8 bits (omega arith) in
      let f8 = split 8 4 bits (omega arith) in
      let f12 = split 12 4 bits (omega arith) in
      let f16 = split 16 8 bits (omega arith) in
      let f24 = split 24 8 bits (omega arith) in
      let nothing : drop 32 bits ≡ [] = drop_all 32 bits (omega arith) in
      f0
      ∙ put_after (num 8 (field 0 8 bits)) (f8 ∙ ap (λ (n : ℕ). num 4 n ++ drop 12 bits) kind)
      ∙ put_after (num 8 (field 0 8 bits))
      (put_after (num 4 2) (f12 ∙
      put_after (num 4 (field 12 4 bits)) (f16 ∙ put_after (num 8 (field 16 8 bits)) (f24 ∙ put_after (num 8 (field 24 8 bits)) nothing))))
      ∙ sym (nested_ack (num 8 (field 0 8 bits)) (num 4 2) (num 4 (field 12 4 bits)) (num 8 (field 16 8 bits)) (num 8 (field 24 8 bits)))

  transfer_takes : (bits : List Bool) → fault bits ≡ None → type_of bits ≡ 0 → Spells {A = A} (transfer bits) bits
  transfer_takes bits none kind =
      let p = passes bits none in
      let d = transfer_fits bits none kind in
      record {
        reserved = [];
        width = refl;
        range = record { layer = p.layer; identifier_fits = field_small 0 8 bits (omega arith); status_fits = omega arith; reference_fits = field_small 16 8 bits (omega arith) };
        is = transfer_text bits kind d.0 d.1;
        room = p.most;
      }

  report_takes : (bits : List Bool) → fault bits ≡ None → type_of bits ≡ 1 → Spells {A = A} (report bits) bits
  report_takes bits none kind =
      let p = passes bits none in
      let d = report_fits bits none kind in
      record {
        reserved = num 2 (field 13 2 bits);
        width = length-num 2 (field 13 2 bits);
        range = record {
          layer = p.layer;
          identifier_fits = field_small 0 8 bits (omega arith);
          status_fits = field_small 16 8 bits (omega arith);
          reference_fits = field_small 24 8 bits (omega arith);
        };
        is = report_text bits kind d.0 d.1;
        room = p.most;
      }

  ack_takes : (bits : List Bool) → fault bits ≡ None → ¬ (type_of bits ≡ 0) → ¬ (type_of bits ≡ 1) → Spells {A = A} (ack bits) bits
  ack_takes bits none not_transfer not_report =
      let p = passes bits none in
      let len = ack_room bits none not_transfer not_report in
      let kind : type_of bits ≡ 2 = omega arith in
      record {
        reserved = num 4 (field 12 4 bits);
        width = length-num 4 (field 12 4 bits);
        range = record {
          layer = p.layer;
          identifier_fits = field_small 0 8 bits (omega arith);
          status_fits = field_small 16 8 bits (omega arith);
          reference_fits = field_small 24 8 bits (omega arith);
        };
        is = ack_text bits kind len;
        room = p.most;
      }

  pub value_takes : (bits : List Bool) → fault bits ≡ None → Spells {A = A} (value bits) bits
  unfolding value
  value_takes bits none =
      cond_both
      (eqb (type_of bits) 0)
      (transfer bits)
      (cond (eqb (type_of bits) 1) (report bits) (ack bits))
      (λ (sds : Sds A). Spells sds bits)
      (λ e. transfer_takes bits none (eqb-true _ _ e))
      (λ e.
      cond_both
      (eqb (type_of bits) 1)
      (report bits)
      (ack bits)
      (λ (sds : Sds A). Spells sds bits)
      (λ d. report_takes bits none (eqb-true _ _ d))
      (λ d. ack_takes bits none (eqb-false _ _ e) (eqb-false _ _ d)))

  pub reading_takes : (bits : List Bool) (sds : Sds A) → reading bits ≡ Ok sds → Spells sds bits
  reading_takes bits sds is = by (fault bits) refl is
    where
      by : (f : Option SdsFault) → fault bits ≡ f → unless f (value bits) ≡ Ok sds → Spells sds bits
      by None none is = subst (λ (p : Sds A). Spells p bits) (ok_is is) (value_takes bits none)
      by (Some f) some is = absurd (err_ok is)

  -- ---- what is spelt so is read

  -- the message type of a PDU
  abbrev pub type_number : Sds A → ℕ
  type_number (Transfer identifier request selection reference user_data) = 0
  type_number (Report identifier acknowledge status reference user_data) = 1
  type_number (Ack identifier status reference) = 2

  Reads : List Bool → Sds A → Type 0
  Reads bits sds = (fault bits ≡ None) × (value bits ≡ sds) × (type_of bits ≡ type_number sds)

  transfer_again : (identifier : ℕ) (request : DeliveryReportRequest) (selection : Bool) (reference : ℕ) (user_data reserved bits : List Bool) →
      InRange identifier 0 reference → length bits ≤ most_bits
      → bits ≡ text {A = A} (Transfer identifier request selection reference user_data) reserved → Reads bits (Transfer identifier request selection reference user_data)
  unfolding value Reads
  transfer_again i q s r d reserved bits range most is =
      let q-is = request_back q in
      let f0 = found 0 8 i bits (num 4 0 ++ (num 2 (code_of q) ++ (s ∷ false ∷ (num 8 r ++ d)))) range.identifier_fits
      (is ∙ nested_transfer (num 8 i) (num 4 0) (num 2 (code_of q)) (num 8 r) d s false) in
      let f8 = found 8 4 0 bits (num 2 (code_of q) ++ (s ∷ false ∷ (num 8 r ++ d))) (omega arith) f0.1 in
      let f12 = found_bit 12 q-is.0 bits (q-is.1 ∷ s ∷ false ∷ (num 8 r ++ d)) (f8.1 ∙ ap (λ (t : List Bool). t ++ (s ∷ false ∷ (num 8 r ++ d))) q-is.2) in
      let f13 = found_bit 13 q-is.1 bits (s ∷ false ∷ (num 8 r ++ d)) f12.1 in
      let f14 = found_bit 14 s bits (false ∷ (num 8 r ++ d)) f13.1 in
      let f15 = found_bit 15 false bits (num 8 r ++ d) f14.1 in
      let f16 = found 16 8 r bits d range.reference_fits f15.1 in
      let room : 24 ≤ length bits = omega (arith, length-drop 16 bits, ap length f15.1, length-append (num 8 r) d, length-num 8 r) in
      let kind : type_of bits ≡ 0 = f8.0 in
      let request : request_of (flag 12 bits) (flag 13 bits) ≡ q = ap (λ (a : Bool). request_of a (flag 13 bits)) f12.0 ∙ ap (request_of q-is.0) f13.0 ∙ q-is.3 in
      let layer : 128 ≤ field 0 8 bits = rw f0.0 range.layer in
      let fits : Passes bits = record { most = most; layer = layer; known = omega arith; header = omega arith; left = rw kind (data_passes 24 bits f15.0 room) } in
      (passed_on bits fits, rw kind (cc (f0.0, request, f14.0, f16.0, f16.1)), kind)

  report_again : (identifier : ℕ) (acknowledge : Bool) (status reference : ℕ) (user_data reserved bits : List Bool) →
      InRange identifier status reference → length reserved ≡ 2 → length bits ≤ most_bits
      → bits ≡ text {A = A} (Report identifier acknowledge status reference user_data) reserved → Reads bits (Report identifier acknowledge status reference user_data)
  unfolding value Reads
  report_again i a s r d reserved bits range width most is =
      let f0 = found 0 8 i bits (num 4 1 ++ (a ∷ (reserved ++ (false ∷ (num 8 s ++ (num 8 r ++ d)))))) range.identifier_fits
      (is ∙ nested_report (num 8 i) (num 4 1) reserved (num 8 s) (num 8 r) d a false) in
      let f8 = found 8 4 1 bits (a ∷ (reserved ++ (false ∷ (num 8 s ++ (num 8 r ++ d))))) (omega arith) f0.1 in
      let f12 = found_bit 12 a bits (reserved ++ (false ∷ (num 8 s ++ (num 8 r ++ d)))) f8.1 in
      let f13 = skipped 13 2 reserved bits (false ∷ (num 8 s ++ (num 8 r ++ d))) width f12.1 in
      let f15 = found_bit 15 false bits (num 8 s ++ (num 8 r ++ d)) f13 in
      let f16 = found 16 8 s bits (num 8 r ++ d) range.status_fits f15.1 in
      let f24 = found 24 8 r bits d range.reference_fits f16.1 in
      let room : 32 ≤ length bits = omega (arith, length-drop 24 bits, ap length f16.1, length-append (num 8 r) d, length-num 8 r) in
      let kind : type_of bits ≡ 1 = f8.0 in
      let layer : 128 ≤ field 0 8 bits = rw f0.0 range.layer in
      let fits : Passes bits = record { most = most; layer = layer; known = omega arith; header = omega arith; left = rw kind (data_passes 32 bits f15.0 room) } in
      (passed_on bits fits, rw kind (cc (f0.0, f12.0, f16.0, f24.0, f24.1)), kind)

  ack_again : (identifier status reference : ℕ) (reserved bits : List Bool) → InRange identifier status reference → length reserved ≡ 4 → length bits ≤ most_bits
      → bits ≡ text {A = A} (Ack identifier status reference) reserved → Reads bits (Ack identifier status reference)
  unfolding value Reads
  ack_again i s r reserved bits range width most is =
      let f0 = found 0 8 i bits (num 4 2 ++ (reserved ++ (num 8 s ++ (num 8 r ++ [])))) range.identifier_fits (is ∙ nested_ack (num 8 i) (num 4 2) reserved (num 8 s) (num 8 r)) in
      let f8 = found 8 4 2 bits (reserved ++ (num 8 s ++ (num 8 r ++ []))) (omega arith) f0.1 in
      let f12 = skipped 12 4 reserved bits (num 8 s ++ (num 8 r ++ [])) width f8.1 in
      let f16 = found 16 8 s bits (num 8 r ++ []) range.status_fits f12 in
      let f24 = found 24 8 r bits [] range.reference_fits f16.1 in
      let room : length bits ≡ 32 = omega (arith, length-drop 24 bits, ap length f16.1, length-append (num 8 r) [], length-num 8 r) in
      let kind : type_of bits ≡ 2 = f8.0 in
      let layer : 128 ≤ field 0 8 bits = rw f0.0 range.layer in
      let fits : Passes bits = record { most = most; layer = layer; known = omega arith; header = omega arith; left = rw kind (ack_passes bits room) } in
      (passed_on bits fits, rw kind (cc (f0.0, f16.0, f24.0)), kind)

  spelt_is_read : (sds : Sds A) (bits : List Bool) → Spells sds bits → Reads bits sds
  spelt_is_read (Transfer i q s r d) bits spells = transfer_again i q s r d spells.reserved bits spells.range spells.room spells.is
  spelt_is_read (Report i a s r d) bits spells = report_again i a s r d spells.reserved bits spells.range spells.width spells.room spells.is
  spelt_is_read (Ack i s r) bits spells = ack_again i s r spells.reserved bits spells.range spells.width spells.room spells.is

  pub no_fault : (sds : Sds A) (bits : List Bool) → Spells sds bits → fault bits ≡ None
  unfolding Reads
  no_fault sds bits spells = (spelt_is_read sds bits spells).0

  pub type_is : (sds : Sds A) (bits : List Bool) → Spells sds bits → type_of bits ≡ type_number sds
  unfolding Reads
  type_is sds bits spells = (spelt_is_read sds bits spells).2

  pub reading_again : (sds : Sds A) (bits : List Bool) → Spells sds bits → reading bits ≡ Ok sds
  unfolding Reads
  reading_again sds bits spells = let r = spelt_is_read sds bits spells in rw (r.0, r.1) refl

  pub one_value : (p q : Sds A) (bits : List Bool) → Spells p bits → Spells q bits → p ≡ q
  unfolding Reads
  one_value p q bits a b = sym (spelt_is_read p bits a).1 ∙ (spelt_is_read q bits b).1

  pub is_found : (bits : List Bool) (r : Result (Sds A) SdsFault) → Gives r (reading bits) → IfOk r (λ sds. Spells sds bits)
  is_found bits (Ok sds) given = reading_takes bits sds given
  is_found bits (Err f) given = tt

-- What states some bits that they are a message's PDU or a report's.
use Rattle.std.proofs.Common.{◌≡◌, ℕ, zero, suc, ◌-◌, ◌*◌, ◌/◌, ◌%◌, ◌<◌, ◌≤◌, ◌^◌, Bool, true, false, cond, eqb, leb, List, length, take, drop, None, Result, Ok, Err, refl, sym, ap, ◌∙◌, arith}
use Rattle.std.specs.Prelude.{◌&&◌, not}
use Rattle.std.proofs.lemmas.Bool.{eqb-true, leb-true, le-leb, eq-eqb}
use Rattle.std.proofs.lemmas.List.{drop-drop, drop-take, take-take}
use Rattle.base.proofs.Bools.{not_true as not_false, same_truth, both_true, and_is_true}
use Rattle.identity.specs.Number.{num, number}
use Rattle.identity.specs.Inside.NumberLaws.{number-num, take-num, drop-num, number-num_mod}
use Rattle.sds_tl.specs.declared.fault.SdsFault.{SdsFault}
use Rattle.sds_tl.specs.declared.pdu.DeliveryReportRequest.{DeliveryReportRequest}
use Rattle.sds_tl.specs.declared.pdu.Head.{Head}
use Rattle.sds_tl.specs.declared.pdu.Head.TheVariants as heads
use Rattle.sds_tl.specs.Reading.{field, flag, type_of, fault, head_value, heading, cleared}
use Rattle.sds_tl.proofs.Cleared.{cleared-message}
use Rattle.sds_tl.proofs.Fitting.{passes, passed_on, transfer_fits, report_fits, data_passes}
use Rattle.mailbox.specs.declared.key.Kind.TheVariants.{Message, Report}
use Rattle.mailbox.specs.Sound.{is_head_of}
use Rattle.image_rows.specs.Inside.PduTest.{is_of_type}
use Rattle.image_rows.proofs.Settled.{faultless}

-- ---- fields in octets

-- an octet of the bits
pub octet_field : (pdu : List Bool) (k octet : ℕ) → octet < 2 ^ 8 → take 8 (drop (8 * k) pdu) ≡ num 8 octet → field (8 * k) 8 pdu ≡ octet
octet_field pdu k octet small is = ap number is ∙ number-num 8 octet small

-- the message type is the first half of the second octet
pub octet_type : (pdu : List Bool) (octet : ℕ) → octet < 2 ^ 8 → take 8 (drop 8 pdu) ≡ num 8 octet → type_of pdu ≡ octet / 16
octet_type pdu octet small is =
    let half : take 4 (drop 8 pdu) ≡ num 4 (octet / 16) = sym (take-take 4 8 (drop 8 pdu) (omega arith)) ∙ ap (take 4) is ∙ take-num 4 8 octet (omega arith) in
    ap number half ∙ number-num 4 (octet / 16) (omega (arith, small))

-- the storage control is its last bit
pub octet_flag : (pdu : List Bool) (octet : ℕ) → take 8 (drop 8 pdu) ≡ num 8 octet → flag 15 pdu ≡ eqb (octet % 2) 1
octet_flag pdu octet is =
    let last : take 1 (drop 15 pdu) ≡ num 1 octet = ap (take 1) (sym (drop-drop 7 8 pdu)) ∙ sym (drop-take 7 1 (drop 8 pdu)) ∙ ap (drop 7) is ∙ drop-num 7 8 octet (omega arith) in
    ap (λ (n : ℕ). eqb n 1) (ap number last ∙ number-num_mod 1 octet)

even : (n : ℕ) → eqb (n % 2) 0 ≡ not (eqb (n % 2) 1)
even n = by (n % 2) (omega arith)
  where
    by : (r : ℕ) → r < 2 → eqb r 0 ≡ not (eqb r 1)
    by zero lt = refl
    by (suc zero) lt = refl
    by (suc (suc r)) lt = absurd (omega arith)

-- ---- the tests

false_not : (b : Bool) → b ≡ false → not b ≡ true
false_not true e = absurd cc
false_not false e = refl

-- what the six tests say
pub record IsOfType (pdu : List Bool) (kind octets reference : ℕ) : Type 0 where
  pub room : 8 * octets ≤ length pdu
  pub most : length pdu ≤ 2047
  pub layer : 128 ≤ field 0 8 pdu
  pub is_kind : type_of pdu ≡ kind
  pub control : flag 15 pdu ≡ false
  pub is_reference : field (8 * (octets - 1)) 8 pdu ≡ reference

tests_say : (pdu : List Bool) (kind octets reference : ℕ) → is_of_type pdu kind octets reference ≡ true → IsOfType pdu kind octets reference
unfolding is_of_type
tests_say pdu kind octets reference e =
    let a = both_true _ _ e in
    let b = both_true _ _ a.0 in
    let c = both_true _ _ b.0 in
    let d = both_true _ _ c.0 in
    let f = both_true _ _ d.0 in
    record {
      room = leb-true _ _ f.0;
      most = leb-true _ _ f.1;
      layer = leb-true _ _ d.1;
      is_kind = eqb-true _ _ c.1;
      control = not_false _ b.1;
      is_reference = eqb-true _ _ a.1;
    }

tests_hold : (pdu : List Bool) (kind octets reference : ℕ) → IsOfType pdu kind octets reference → is_of_type pdu kind octets reference ≡ true
unfolding is_of_type
tests_hold pdu kind octets reference is =
    and_is_true _ _ (and_is_true _ _
    (and_is_true _ _ (and_is_true _ _ (and_is_true _ _ (le-leb _ _ is.room) (le-leb _ _ is.most)) (le-leb _ _ is.layer)) (eq-eqb _ _ is.is_kind))
    (false_not _ is.control)) (eq-eqb _ _ is.is_reference)

not_true : (b : Bool) → (b ≡ true → ⊥) → false ≡ b
not_true true never = absurd (never refl)
not_true false never = refl

pub too_short : (pdu : List Bool) (kind octets reference : ℕ) → length pdu < 8 * octets → false ≡ is_of_type pdu kind octets reference
too_short pdu kind octets reference short = not_true (is_of_type pdu kind octets reference) (λ e. omega (arith, short, (tests_say pdu kind octets reference e).room))

pub too_long : (pdu : List Bool) (kind octets reference : ℕ) → 2047 < length pdu → false ≡ is_of_type pdu kind octets reference
too_long pdu kind octets reference long = not_true (is_of_type pdu kind octets reference) (λ e. omega (arith, long, (tests_say pdu kind octets reference e).most))

-- without fault the head states the type
message_by : (a b : Bool) (n : ℕ) (q : DeliveryReportRequest) (r : ℕ) (k : Bool) (s t u v : ℕ) →
    is_head_of Message n (Ok (cond a (heads.Transfer q r) (cond b (heads.Report k s t) (heads.Ack u v)))) ≡ true → (a ≡ true) × (r ≡ n)
message_by true b n q r k s t u v e = (refl, eqb-true _ _ e)
message_by false true n q r k s t u v e = absurd cc
message_by false false n q r k s t u v e = absurd cc

report_by : (a b : Bool) (n : ℕ) (q : DeliveryReportRequest) (r : ℕ) (k : Bool) (s t u v : ℕ) →
    is_head_of Report n (Ok (cond a (heads.Transfer q r) (cond b (heads.Report k s t) (heads.Ack u v)))) ≡ true → (b ≡ true) × (t ≡ n)
report_by true b n q r k s t u v e = absurd cc
report_by false true n q r k s t u v e = (refl, eqb-true _ _ e)
report_by false false n q r k s t u v e = absurd cc

message_is : (pdu : List Bool) (n : ℕ) → is_head_of Message n (Ok (head_value pdu)) ≡ true → (type_of pdu ≡ 0) × (field 16 8 pdu ≡ n)
unfolding head_value
message_is pdu n e = let h = message_by (eqb (type_of pdu) 0) (eqb (type_of pdu) 1) n _ (field 16 8 pdu) _ _ _ _ _ e in (eqb-true _ _ h.0, h.1)

report_is : (pdu : List Bool) (n : ℕ) → is_head_of Report n (Ok (head_value pdu)) ≡ true → (type_of pdu ≡ 1) × (field 24 8 pdu ≡ n)
unfolding head_value
report_is pdu n e = let h = report_by (eqb (type_of pdu) 0) (eqb (type_of pdu) 1) n _ _ _ _ (field 24 8 pdu) _ _ e in (eqb-true _ _ h.0, h.1)

message_head : (pdu : List Bool) (n : ℕ) → type_of pdu ≡ 0 → field 16 8 pdu ≡ n → is_head_of Message n (Ok (head_value pdu)) ≡ true
unfolding head_value
message_head pdu n kind reference = rw kind (eq-eqb _ _ reference)

report_head : (pdu : List Bool) (n : ℕ) → type_of pdu ≡ 1 → field 24 8 pdu ≡ n → is_head_of Report n (Ok (head_value pdu)) ≡ true
unfolding head_value
report_head pdu n kind reference = rw kind (eq-eqb _ _ reference)

pub message_test : (pdu : List Bool) (n : ℕ) → is_of_type pdu 0 3 n ≡ is_head_of Message n (heading pdu)
message_test pdu n = same_truth (is_of_type pdu 0 3 n) (is_head_of Message n (heading pdu)) on back
  where
    on : is_of_type pdu 0 3 n ≡ true → is_head_of Message n (heading pdu) ≡ true
    on e =
        let is = tests_say pdu 0 3 n e in
        let room = is.room in
        let none : fault pdu ≡ None =
        passed_on pdu (record {
          most = is.most;
          layer = is.layer;
          known = omega (arith, is.is_kind);
          header = omega (arith, room);
          left =
              rw is.is_kind (data_passes 24 pdu is.control room);
        }) in
        rw none (message_head pdu n is.is_kind is.is_reference)

    back : is_head_of Message n (heading pdu) ≡ true → is_of_type pdu 0 3 n ≡ true
    back e =
        let none : fault pdu ≡ None = faultless Message n (fault pdu) (head_value pdu) e in
        let head = message_is pdu n (rw none at e) in
        let p = passes pdu none in
        let fits = transfer_fits pdu none head.0 in
        tests_hold pdu 0 3 n (record { room = fits.1; most = p.most; layer = p.layer; is_kind = head.0; control = fits.0; is_reference = head.1 })

pub report_test : (pdu : List Bool) (n : ℕ) → is_of_type pdu 1 4 n ≡ is_head_of Report n (heading pdu)
report_test pdu n = same_truth (is_of_type pdu 1 4 n) (is_head_of Report n (heading pdu)) on back
  where
    on : is_of_type pdu 1 4 n ≡ true → is_head_of Report n (heading pdu) ≡ true
    on e =
        let is = tests_say pdu 1 4 n e in
        let room = is.room in
        let none : fault pdu ≡ None =
        passed_on pdu (record {
          most = is.most;
          layer = is.layer;
          known = omega (arith, is.is_kind);
          header = omega (arith, room);
          left =
              rw is.is_kind (data_passes 32 pdu is.control room);
        }) in
        rw none (report_head pdu n is.is_kind is.is_reference)

    back : is_head_of Report n (heading pdu) ≡ true → is_of_type pdu 1 4 n ≡ true
    back e =
        let none : fault pdu ≡ None = faultless Report n (fault pdu) (head_value pdu) e in
        let head = report_is pdu n (rw none at e) in
        let p = passes pdu none in
        let fits = report_fits pdu none head.0 in
        tests_hold pdu 1 4 n (record { room = fits.1; most = p.most; layer = p.layer; is_kind = head.0; control = fits.0; is_reference = head.1 })

-- the six tests, made on the octets
pub octets_state : (pdu : List Bool) (kind octets reference first second last : ℕ) → first < 2 ^ 8 → second < 2 ^ 8 → last < 2 ^ 8 → 8 * octets ≤ length pdu → length pdu ≤ 2047
    → take 8 (drop (8 * 0) pdu) ≡ num 8 first → take 8 (drop (8 * 1) pdu) ≡ num 8 second → take 8 (drop (8 * (octets - 1)) pdu) ≡ num 8 last
    → (leb 128 first && eqb (second / 16) kind && eqb (second % 2) 0 && eqb last reference) ≡ is_of_type pdu kind octets reference
unfolding is_of_type
octets_state pdu kind octets reference first second last small mid high room most is_first is_second is_last =
    rw (
      le-leb _ _ room,
      le-leb _ _ most,
      octet_field pdu 0 first small is_first,
      octet_type pdu second mid is_second,
      octet_flag pdu second is_second,
      octet_field pdu (octets - 1) last high is_last,
      ← even second,
    )
    refl

-- a message has no reserved bits
pub message_cleared : (bits : List Bool) (n : ℕ) → is_head_of Message n (heading bits) ≡ true → cleared bits ≡ bits
message_cleared bits n e = by (heading bits) refl e
  where
    by : (h : Result Head SdsFault) → heading bits ≡ h → is_head_of Message n h ≡ true → cleared bits ≡ bits
    by (Ok (heads.Transfer request reference)) is e = cleared-message bits request reference is
    by (Ok (heads.Report acknowledge status reference)) is e = absurd cc
    by (Ok (heads.Ack status reference)) is e = absurd cc
    by (Err f) is e = absurd cc

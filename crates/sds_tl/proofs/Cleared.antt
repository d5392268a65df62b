-- The bits of a PDU with the reserved ones 0 are its written form.
use Rattle.std.proofs.Common.{◌≡◌, ℕ, ◌+◌, Bool, true, false, cond, eqb, List, [], ◌∷◌, ◌++◌, length, take, drop, replicate, Option, Some, None}
use Rattle.std.proofs.Common.{Result, Ok, Err, refl, sym, ap, subst, ◌∙◌, length-append, append_assoc}
use Rattle.std.specs.Result.{result_map_both}
use Rattle.std.proofs.lemmas.List.{take_at, drop_at}
use Rattle.identity.specs.Number.{num}
use Rattle.identity.specs.Inside.NumberLaws.{length-num}
use Rattle.sds_tl.specs.declared.fault.SdsFault.{SdsFault}
use Rattle.sds_tl.specs.declared.pdu.DeliveryReportRequest.{DeliveryReportRequest}
use Rattle.sds_tl.specs.declared.pdu.Head.{Head}
use Rattle.sds_tl.specs.declared.pdu.Head.TheVariants as heads
use Rattle.sds_tl.specs.declared.pdu.Sds.{Sds}
use Rattle.sds_tl.specs.declared.pdu.Sds.TheVariants.{Transfer, Report, Ack}
use Rattle.sds_tl.specs.Syntax.{canon, Spells}
use Rattle.sds_tl.specs.Reading.{type_of, fault, value, unless, head_value, head_of, heading, cleared}
use Rattle.sds_tl.proofs.Places.{skipped}
use Rattle.sds_tl.proofs.Spelling.{type_is, value_takes, reading_again}
use Rattle.sds_tl.proofs.Written.{canon_room, canon_spells}
use Rattle.sds_tl.proofs.Heads.{heads_agree}

-- a part in the middle makes way for another
changed : (prefix part following bits other : List Bool) (at w : ℕ) → length prefix ≡ at → length part ≡ w → bits ≡ prefix ++ (part ++ following) →
    take at bits ++ other ++ drop (at + w) bits ≡ prefix ++ (other ++ following)
changed prefix part following bits other at w len width is =
    let before : take at bits ≡ prefix = ap (take at) is ∙ take_at prefix (part ++ following) at len in
    let after : drop (at + w) bits ≡ following = skipped at w part bits following width (ap (drop at) is ∙ drop_at prefix (part ++ following) at len) in
    rw (before, after) (append_assoc prefix other following)

report_prefix : (i t reserved s r user_data : List Bool) (acknowledge control : Bool)
    → i ++ t ++ acknowledge ∷ reserved ++ control ∷ s ++ r ++ user_data ≡ (i ++ (t ++ (acknowledge ∷ []))) ++ (reserved ++ (control ∷ (s ++ (r ++ user_data))))
report_prefix i t reserved s r user_data acknowledge control = simp append_assoc

ack_prefix : (i t reserved s r : List Bool) → i ++ t ++ reserved ++ s ++ r ≡ (i ++ t) ++ (reserved ++ (s ++ r))
ack_prefix i t reserved s r = simp append_assoc

module _ (A : Type 0) where
  pub cleared_is_canon : (sds : Sds A) (bits : List Bool) → Spells sds bits → cleared bits ≡ canon sds
  unfolding cleared
  cleared_is_canon (Transfer i q s r d) bits spells = rw (type_is A (Transfer i q s r d) bits spells) spells.is
  cleared_is_canon (Report i a s r d) bits spells =
      rw (type_is A (Report i a s r d) bits spells)
      (changed (num 8 i ++ (num 4 1 ++ (a ∷ []))) spells.reserved (false ∷ (num 8 s ++ (num 8 r ++ d))) bits (false ∷ false ∷ []) 13 2
      (simp (length-append, length-num) refl) spells.width
      (spells.is ∙ report_prefix (num 8 i) (num 4 1) spells.reserved (num 8 s) (num 8 r) d a false)
      ∙ sym (report_prefix (num 8 i) (num 4 1) (false ∷ false ∷ []) (num 8 s) (num 8 r) d a false))
  cleared_is_canon (Ack i s r) bits spells =
      rw (type_is A (Ack i s r) bits spells)
      (changed (num 8 i ++ num 4 2) spells.reserved (num 8 s ++ num 8 r) bits (replicate 4 false) 12 4 (simp (length-append, length-num) refl)
      spells.width (spells.is ∙ ack_prefix (num 8 i) (num 4 2) spells.reserved (num 8 s) (num 8 r))
      ∙ sym (ack_prefix (num 8 i) (num 4 2) (replicate 4 false) (num 8 s) (num 8 r)))

  pub cleared_spells : (sds : Sds A) (bits : List Bool) → Spells sds bits → Spells sds (cleared bits)
  cleared_spells sds bits spells = subst (λ (t : List Bool). Spells sds t) (sym (cleared_is_canon sds bits spells)) (canon_spells A sds spells.range (canon_room A sds bits spells))

  pub heading-cleared : (bits : List Bool) → fault bits ≡ None → heading (cleared bits) ≡ heading bits
  heading-cleared bits none =
      let spells = value_takes A bits none in
      let before = reading_again A (value bits) bits spells in
      let after = reading_again A (value bits) (cleared bits) (cleared_spells (value bits) bits spells) in
      heads_agree A (cleared bits)
      ∙ ap (λ (r : Result (Sds A) SdsFault). result_map_both head_of (λ (f : SdsFault). f) r) (after ∙ sym before)
      ∙ sym (heads_agree A bits)

pub cleared-message : (bits : List Bool) (request : DeliveryReportRequest) (reference : ℕ) → heading bits ≡ Ok (heads.Transfer request reference) → cleared bits ≡ bits
unfolding cleared head_value
cleared-message bits request reference is = by (fault bits) is
  where
    by_type : (b d : Bool) (q : DeliveryReportRequest) (r s t : ℕ) (a : Bool) (x : List Bool)
        → ◌≡◌ {A = Result Head SdsFault} (Ok (cond b (heads.Transfer q r) (cond d (heads.Report a s t) (heads.Ack s t)))) (Ok (heads.Transfer request reference)) → cond b bits x ≡ bits
    by_type true d q r s t a x is = refl
    by_type false true q r s t a x is = absurd (other is)
      where
        other : ◌≡◌ {A = Result Head SdsFault} (Ok (heads.Report a s t)) (Ok (heads.Transfer request reference)) → ⊥
        other e = cc
    by_type false false q r s t a x is = absurd (other is)
      where
        other : ◌≡◌ {A = Result Head SdsFault} (Ok (heads.Ack s t)) (Ok (heads.Transfer request reference)) → ⊥
        other e = cc

    by : (f : Option SdsFault) → unless f (head_value bits) ≡ Ok (heads.Transfer request reference) → cleared bits ≡ bits
    by None is = by_type (eqb (type_of bits) 0) (eqb (type_of bits) 1) _ _ _ _ _ _ is
    by (Some f) is = absurd (refused is)
      where
        refused : ◌≡◌ {A = Result Head SdsFault} (Err f) (Ok (heads.Transfer request reference)) → ⊥
        refused e = cc

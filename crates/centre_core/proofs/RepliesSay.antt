-- What a command's reply says of the state after it.
use Rattle.std.proofs.Common.{◌≡◌, ◌≢◌, ◌⊎◌, inl, inr, ℕ, zero, suc, ◌+◌, ◌-◌, ◌<◌, Bool, true, false, List, [], ◌∷◌, refl, ap, sym, ◌∙◌, Option, Some, None, Result, Ok, Err, arith, get_or, set}
use Rattle.std.specs.Prelude.{◌==◌, ◌&&◌, nat_lt, nat_le, slice_set, if◌then◌else◌}
use Rattle.std.proofs.lemmas.Bool.Decides.{nat_tests}
use Rattle.mm_pdus.specs.declared.fault.MmFault.{MmFault}
use Rattle.mm_pdus.specs.declared.uplink.MmUp.{MmUp}
use Rattle.mm_pdus.specs.declared.uplink.MmUp.TheVariants as up
use Rattle.mm_pdus.specs.UplinkReading.{reading_up}
use Rattle.sds_tl.specs.declared.fault.SdsFault.{SdsFault}
use Rattle.sds_tl.specs.declared.pdu.Head.{Head}
use Rattle.sds_tl.specs.declared.pdu.Head.TheVariants as heads
use Rattle.sds_tl.specs.Reading.{heading}
use Rattle.sds_tl.specs.Transfers.{transfer_reference}
use Rattle.centre_core.specs.declared.command.Command.{Command}
use Rattle.centre_core.specs.declared.command.Body.{Body}
use Rattle.centre_core.specs.declared.command.Body.TheVariants.{RuleSet, RuleClear, Mm, Sds, GroupSds, Sent, Expire, Delete}
use Rattle.centre_core.specs.declared.reply.Reply.{Reply}
use Rattle.centre_core.specs.declared.reply.Reply.TheVariants.{Accepted, Kept, Refused}
use Rattle.centre_core.specs.declared.reply.Refusal.{Refusal}
use Rattle.centre_core.specs.State.{State, LastAccepted, last_number}
use Rattle.centre_core.specs.Step.{step, step_new, step_after, step_body, step_made, step_mm, step_sds, step_group_sds, last_at, is_station}
use Rattle.centre_core.proofs.StationLaws.{last_at_is}
use Rattle.centre_core.proofs.StepLaws.{Advanced, Outcome, says}
use Rattle.centre_core.specs.InTurn.{Replied, RepliesSay, last_of}

-- a reply that repeats
abbrev IsRepeat : (B : Type 0) → State × Reply B → ℕ → Option (List Bool) → Type 0
IsRepeat B r n p = r.1 ≡ Kept n p

-- a reply that is no refusal
abbrev IsNotRefused : (B : Type 0) → State × Reply B → Type 0
IsNotRefused B r = (refusal : Refusal B) → r.1 ≢ Refused refusal

above : (n m : ℕ) → (nat_lt 0 n && nat_le n m) ≡ true → 0 < n
above n m h = grind (arith, nat_tests)

either : {B : Type 0} (b : Bool) (x y : State × Reply B) (n : ℕ) (p : Option (List Bool)) → IsRepeat B (if b then x else y) n p → ((b ≡ true) × IsRepeat B x n p) ⊎ ((b ≡ false) × IsRepeat B y n p)
either true x y n p e = inl (refl, e)
either false x y n p e = inr (refl, e)

module _ {A B : Type 0} where
  made_not : (s new : State) (c : Command A) (pdu : Option (List Bool)) (f : Option (Refusal B)) (n : ℕ) (p : Option (List Bool)) → IsRepeat B (step_made s c new pdu f) n p → ⊥
  made_not s new c pdu (Some r) n p e = cc
  made_not s new c pdu None n p e = cc

  mm_not : (s : State) (c : Command A) (itsi area : ℕ) (read : Result (MmUp B) MmFault) (n : ℕ) (p : Option (List Bool)) → IsRepeat B (step_mm s c itsi area read) n p → ⊥
  mm_not s c itsi area (Err fault) n p e = cc
  mm_not s c itsi area (Ok (up.Demand update)) n p e = made_not s _ c _ _ n p e
  mm_not s c itsi area (Ok up.Detach) n p e = made_not s _ c _ _ n p e
  mm_not s c itsi area (Ok (up.Groups mode items)) n p e = made_not s _ c _ _ n p e

  sds_not : (s : State) (c : Command A) (source destination : ℕ) (pdu : List Bool) (head : Result Head SdsFault) (n : ℕ) (p : Option (List Bool)) →
      IsRepeat B (step_sds s c source destination pdu head) n p → ⊥
  sds_not s c source destination pdu (Err fault) n p e = cc
  sds_not s c source destination pdu (Ok (heads.Transfer request reference)) n p e = made_not s _ c _ _ n p e
  sds_not s c source destination pdu (Ok (heads.Report acknowledge status reference)) n p e = made_not s _ c _ _ n p e
  sds_not s c source destination pdu (Ok (heads.Ack status reference)) n p e = made_not s _ c _ _ n p e

  group_not : (s : State) (c : Command A) (source group : ℕ) (pdu : List Bool) (read : Result ℕ SdsFault) (n : ℕ) (p : Option (List Bool)) →
      IsRepeat B (step_group_sds s c source group pdu read) n p → ⊥
  group_not s c source group pdu (Err fault) n p e = cc
  group_not s c source group pdu (Ok reference) n p e = made_not s _ c _ _ n p e

  body_not : (s : State) (c : Command A) (b : Body A) (n : ℕ) (p : Option (List Bool)) → IsRepeat B (step_body s c b) n p → ⊥
  body_not s c (RuleSet prefix rule) n p e = made_not s _ c _ _ n p e
  body_not s c (RuleClear prefix) n p e = cc
  body_not s c (Mm itsi area pdu) n p e = mm_not s c itsi area (reading_up pdu) n p e
  body_not s c (Sds source destination pdu) n p e = sds_not s c source destination pdu (heading pdu) n p e
  body_not s c (GroupSds source group pdu) n p e = group_not s c source group pdu (transfer_reference (heading pdu)) n p e
  body_not s c (Sent key) n p e = made_not s _ c _ _ n p e
  body_not s c Expire n p e = cc
  body_not s c (Delete key) n p e = made_not s _ c _ _ n p e

  new_not : (s : State) (c : Command A) (n : ℕ) (p : Option (List Bool)) → IsRepeat B (step_new s c) n p → ⊥
  new_not s c n p e = elim (either {B = B} (nat_lt s.count last_number) _ _ n p e) [ inl h ↦ body_not s c c.body n p h.1 | inr h ↦ let never : ⊥ = cc in never ]

  same_entry : (c : Command A) (last : LastAccepted) (n : ℕ) (p : Option (List Bool)) → c.sequence ≡ last.sequence → ◌≡◌ {A = Reply B} (Kept last.number last.pdu) (Kept n p) → last ≡ last_of c n p
  same_entry c last n p same e =
      let number : last.number ≡ n = cc in
      let pdu : last.pdu ≡ p = cc in
      rw (same, sym number, sym pdu) refl

  after_kept : (s : State) (c : Command A) (o : Option LastAccepted) (n : ℕ) (p : Option (List Bool)) → IsRepeat B (step_after s c o) n p → o ≡ Some (last_of c n p)
  after_kept s c None n p e = absurd (new_not s c n p e)
  after_kept s c (Some last) n p e =
      elim (either {B = B} (nat_lt c.sequence last.sequence) _ _ n p e) [
        | inl h ↦ let never : ⊥ = cc in absurd never
        | inr h ↦ elim (either {B = B} (c.sequence == last.sequence) _ _ n p h.1) [
          | inl k ↦ let same : c.sequence ≡ last.sequence = let t = k.0 in grind (arith, nat_tests) in ap Some (same_entry c last n p same k.1)
          | inr k ↦ absurd (new_not s c n p k.1)
        ]
      ]

  of_station : (s : State) (c : Command A) → IsNotRefused B (step s c) → 0 < c.station
  unfolding step
  of_station s c unrefused = of_if (is_station s c.station) _ _ _ (λ h. above _ _ h) refl unrefused
    where
      of_if : (b : Bool) (x y : State × Reply B) (refusal : Refusal B) → (b ≡ true → 0 < c.station) → y.1 ≡ Refused refusal → IsNotRefused B (if b then x else y) → 0 < c.station
      of_if true x y refusal h e unrefused = h refl
      of_if false x y refusal h e unrefused = absurd (unrefused refusal e)

  kept_entry : (s : State) (c : Command A) (n : ℕ) (p : Option (List Bool)) → IsRepeat B (step s c) n p → last_at s c.station ≡ Some (last_of c n p)
  unfolding step
  kept_entry s c n p e = elim (either {B = B} (is_station s c.station) _ _ n p e) [ inl h ↦ after_kept s c (last_at s c.station) n p h.1 | inr h ↦ let never : ⊥ = cc in absurd never ]

kept_put : (xs : List (Option LastAccepted)) (i j : ℕ) (new e : LastAccepted) → get_or (set xs i (Some new)) j None ≡ Some e → ((j ≡ i) × (e ≡ new)) ⊎ (get_or xs j None ≡ Some e)
kept_put [] i j new e h = inr h
kept_put (x ∷ xs) zero zero new e h = inl (refl, cc)
kept_put (x ∷ xs) zero (suc j) new e h = inr h
kept_put (x ∷ xs) (suc i) zero new e h = inr h
kept_put (x ∷ xs) (suc i) (suc j) new e h = elim (kept_put xs i j new e h) [ inl q ↦ inl (ap (λ n. suc n) q.0, q.1) | inr q ↦ inr q ]

module _ {A : Type 0} (B : Type 0) where
  advanced : (s t : State) (c : Command A) (n : ℕ) (p : Option (List Bool)) (a : Advanced s t c) → n ≡ s.count + 1 → p ≡ a.pdu → 0 < c.station → Replied {B = B} s c t (Accepted n p)
  advanced s t c n p a number pdu station =
      let last : LastAccepted = record { sequence = c.sequence; number = a.made.count + 1; pdu = a.pdu } in
      let is : last ≡ last_of c n p = rw (a.change.count, sym number, sym pdu) refl in (
        station,
        number,
        ap (λ u. u.count) a.is ∙ ap (λ m. m + 1) a.change.count,
        λ k e pos h.
            let put : get_or (set s.served (c.station - 1) (Some last)) (k - 1) None ≡ Some e =
            sym (ap (λ u. get_or u.served (k - 1) None) a.is ∙
            ap (λ l. get_or (slice_set l (c.station - 1) (Some last)) (k - 1) None) a.change.served) ∙ (sym (last_at_is t k pos) ∙ h) in
            elim (kept_put s.served (c.station - 1) (k - 1) last e put) [
              | inl q ↦ inl (let i : k - 1 ≡ c.station - 1 = q.0 in omega arith, q.1 ∙ is)
              | inr q ↦ inr (last_at_is s k pos ∙ q)
            ],
      )

  replied_by : (s t : State) (c : Command A) (reply : Reply B) → Outcome s c t reply →
      (((refusal : Refusal B) → reply ≢ Refused refusal) → 0 < c.station) →
      ((n : ℕ) (p : Option (List Bool)) → reply ≡ Kept n p → last_at s c.station ≡ Some (last_of c n p)) → Replied s c t reply
  replied_by s t c (Accepted n p) h station kept = advanced s t c n p h.0 h.1 h.2 (station (λ r e. cc))
  replied_by s t c (Kept n p) h station kept = (h, station (λ r e. cc), kept n p refl)
  replied_by s t c (Refused refusal) h station kept = h

pub replies_say : {A : Type 0} (B : Type 0) → RepliesSay A B
replies_say B s c = replied_by B s (step s c).0 c (step s c).1 (says B s c) (of_station s c) (kept_entry s c)

-- The PDU of each reply of a register is short.
use Rattle.std.proofs.Common.{◌≡◌, ℕ, zero, suc, ◌+◌, ◌≤◌, Bool, true, false, List, [], ◌∷◌, ◌++◌, length, refl, ap, sym, ◌∙◌, subst, arith, Option, Some, None, Result, Ok, Err}
use Rattle.std.specs.Prelude.{◌==◌, nat_lt, if◌then◌else◌, slice_index_or, IfSome}
use Rattle.std.specs.Option.{option_map}
use Rattle.std.specs.List.{All}
use Rattle.std.proofs.lemmas.List.{length-append}
use Rattle.std.proofs.lemmas.List.Elements.{All-head, All-tail}
use Rattle.identity.specs.Number.{num}
use Rattle.identity.specs.Inside.NumberLaws.{length-num}
use Rattle.mm_pdus.specs.declared.fault.MmFault.{MmFault}
use Rattle.mm_pdus.specs.declared.update.LocationUpdateType.{LocationUpdateType}
use Rattle.mm_pdus.specs.declared.uplink.MmUp.{MmUp}
use Rattle.mm_pdus.specs.declared.uplink.MmUp.TheVariants as up
use Rattle.mm_pdus.specs.Values.{accept_of, most_groups, update_number}
use Rattle.mm_pdus.specs.UplinkReading.{reading_up}
use Rattle.registration.specs.declared.fault.RegFault.{RegFault}
use Rattle.registration.specs.Registered.{set_refusal, locate_refusal, detach_refusal}
use Rattle.group_attach.specs.Applied.{answer, answers, apply_refusal}
use Rattle.group_attach.specs.declared.fault.GroupFault.{GroupFault}
use Rattle.sds_tl.specs.declared.fault.SdsFault.{SdsFault}
use Rattle.sds_tl.specs.declared.pdu.Head.{Head}
use Rattle.sds_tl.specs.declared.pdu.Head.TheVariants as heads
use Rattle.sds_tl.specs.Reading.{heading}
use Rattle.sds_tl.specs.Transfers.{transfer_reference}
use Rattle.mailbox.specs.declared.fault.MailFault.{MailFault}
use Rattle.centre_core.specs.declared.command.Command.{Command}
use Rattle.centre_core.specs.declared.command.Body.{Body}
use Rattle.centre_core.specs.declared.command.Body.TheVariants.{RuleSet, RuleClear, Mm, Sds, GroupSds, Sent, Expire, Delete}
use Rattle.centre_core.specs.declared.reply.Reply.{Reply}
use Rattle.centre_core.specs.declared.reply.Refusal.{Refusal}
use Rattle.centre_core.specs.declared.reply.Refusal.TheVariants.{Registration, Groups, Mail}
use Rattle.centre_core.specs.Ranges.{IsShort}
use Rattle.centre_core.specs.State.{State, LastAccepted, last_number}
use Rattle.centre_core.specs.StateRanges.{IsReply, LastAcceptedInRange, StateInRange}
use Rattle.centre_core.specs.Step.{step, step_new, step_after, step_body, step_made, step_mm, step_mail, step_sds, step_group_sds, last_at, is_station, cause_of, rejected, location_refusal}
use Rattle.centre_core.proofs.PduRanges.{accept_fits, acknowledge_fits, groups_read, no_more}
use Rattle.desk.specs.Replies.{HasShortPdu, HasShortReject}

-- a PDU that may be kept is short
short_reply : (pdu : Option (List Bool)) → IsReply pdu → IsShort pdu
short_reply None is = tt
short_reply (Some bits) is = is.1

-- what is kept of a station
kept_at : (served : List (Option LastAccepted)) (i : ℕ) → All (λ last. IfSome last LastAcceptedInRange) served → IfSome (slice_index_or served i None) LastAcceptedInRange
kept_at [] i all = tt
kept_at (last ∷ served) zero all = All-head (λ last. IfSome last LastAcceptedInRange) last served all
kept_at (last ∷ served) (suc i) all = kept_at served i (All-tail (λ last. IfSome last LastAcceptedInRange) last served all)

kept_of_station : (s : State) (station : ℕ) → StateInRange s → IfSome (last_at s station) LastAcceptedInRange
kept_of_station s zero is = tt
kept_of_station s (suc before) is = kept_at s.served before is.served

module _ (B : Type 0) where
  -- the reply of a step
  abbrev RepliesShort : State × Reply B → Type 0
  RepliesShort made = HasShortPdu made.1

  -- a D-LOCATION UPDATE REJECT has 14 bits
  reject_short : (update : LocationUpdateType) (fault : RegFault) (cause : Option ℕ) → HasShortReject {B = B} (rejected update fault cause)
  reject_short update fault None = tt
  reject_short update fault (Some cause) =
      let n = update_number update in
      let prefix = length-append (num 4 7) (num 3 n) in
      let causes = length-append (num 4 7 ++ num 3 n) (num 5 cause) in
      let all = length-append (num 4 7 ++ num 3 n ++ num 5 cause) (false ∷ false ∷ []) in
      omega (arith, prefix, causes, all, length-num 4 7, length-num 3 n, length-num 5 cause)

  by_test : (b : Bool) (x y : State × Reply B) → RepliesShort x → RepliesShort y → RepliesShort (if b then x else y)
  by_test true x y h k = h
  by_test false x y h k = k

  module _ {A : Type 0} (s : State) (c : Command A) where
    made : {F : Type 0} (new : State) (pdu : Option (List Bool)) (name : F → Refusal B) (refusal : Option F) → IsReply pdu →
        ((fault : F) → HasShortReject (name fault)) → RepliesShort (step_made s c new pdu (option_map name refusal))
    made new pdu name None reply short = short_reply pdu reply
    made new pdu name (Some fault) reply short = short fault

    mm_short : (itsi area : ℕ) (pdu : List Bool) (read : Result (MmUp B) MmFault) → reading_up pdu ≡ read → RepliesShort (step_mm s c itsi area read)
    mm_short itsi area pdu (Err fault) is = tt
    mm_short itsi area pdu (Ok (up.Demand update)) is = made _ _ (location_refusal update) (locate_refusal s.registered itsi area update)
        (accept_fits (accept_of update)) (λ fault. reject_short update fault (cause_of fault))
    mm_short itsi area pdu (Ok up.Detach) is = made _ None Registration (detach_refusal s.registered itsi) tt (λ fault. tt)
    mm_short itsi area pdu (Ok (up.Groups mode items)) is =
        let groups = groups_read {A = B} pdu mode items is in
        let few : length (answers s.registered itsi items) ≤ most_groups = omega (arith, groups.0, no_more (answer s.registered itsi) items) in
        made _ _ Groups (apply_refusal s.registered s.groups itsi mode items) (acknowledge_fits (answers s.registered itsi items) few) (λ fault. tt)

    mail_short : (new : State) (refusal : Option MailFault) → RepliesShort (step_made s c new None (option_map Mail refusal))
    mail_short new refusal = made new None Mail refusal tt (λ fault. tt)

    sds_short : (source destination : ℕ) (pdu : List Bool) (head : Result Head SdsFault) → RepliesShort (step_sds s c source destination pdu head)
    sds_short source destination pdu (Err fault) = tt
    sds_short source destination pdu (Ok (heads.Transfer request reference)) = mail_short _ _
    sds_short source destination pdu (Ok (heads.Report acknowledge status reference)) = mail_short _ _
    sds_short source destination pdu (Ok (heads.Ack status reference)) = mail_short _ _

    group_sds_short : (source group : ℕ) (pdu : List Bool) (read : Result ℕ SdsFault) → RepliesShort (step_group_sds s c source group pdu read)
    group_sds_short source group pdu (Err fault) = tt
    group_sds_short source group pdu (Ok reference) = mail_short _ _

    body_short : (b : Body A) → RepliesShort (step_body s c b)
    body_short (RuleSet prefix rule) = made _ None Registration (set_refusal s.registered prefix) tt (λ fault. tt)
    body_short (RuleClear prefix) = tt
    body_short (Mm itsi area pdu) = mm_short itsi area pdu (reading_up pdu) refl
    body_short (Sds source destination pdu) = sds_short source destination pdu (heading pdu)
    body_short (GroupSds source group pdu) = group_sds_short source group pdu (transfer_reference (heading pdu))
    body_short (Sent key) = mail_short _ _
    body_short Expire = tt
    body_short (Delete key) = mail_short _ _

    new_short : RepliesShort (step_new s c)
    new_short = by_test (nat_lt s.count last_number) _ _ (body_short c.body) tt

    after_short : (kept : Option LastAccepted) → IfSome kept LastAcceptedInRange → RepliesShort (step_after s c kept)
    after_short None is = new_short
    after_short (Some last) is = by_test (nat_lt c.sequence last.sequence) _ _ tt (by_test (c.sequence == last.sequence) _ _ (short_reply last.pdu is.pdu) new_short)

    step_short : StateInRange s → RepliesShort (step s c)
    unfolding step
    step_short is = by_test (is_station s c.station) _ _ (after_short (last_at s c.station) (kept_of_station s c.station is)) tt

    -- so of what is answered where a register does the command
    pub replied_short : (t : State) (reply : Reply B) → (t, reply) ≡ step s c → StateInRange s → HasShortPdu reply
    replied_short t reply is range = subst HasShortPdu (sym (ap (λ (r : State × Reply B). r.1) is)) (step_short range)

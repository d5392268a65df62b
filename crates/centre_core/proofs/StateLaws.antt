-- The step keeps what holds of every state, and does not depend on where replies are kept.
use Rattle.std.proofs.Common.{◌≡◌, ◌<◌, ℕ, ◌+◌, ◌-◌, Bool, true, false, List, [], ◌∷◌, length, refl, sym, subst, ap, ◌∙◌, arith, Option, Some, None, Result, Ok, Err}
use Rattle.std.specs.Prelude.{◌==◌, nat_lt, replicate, slice_set, if◌then◌else◌}
use Rattle.std.specs.Option.{option_map}
use Rattle.std.proofs.Math.ListN.{length-set}
use Rattle.std.proofs.lemmas.List.{length-replicate}
use Rattle.std.specs.List.{All}
use Rattle.std.proofs.lemmas.List.Elements.{All-weaker, All-set, All-replicate}
use Rattle.mm_pdus.specs.declared.fault.MmFault.{MmFault}
use Rattle.mm_pdus.specs.declared.uplink.MmUp.{MmUp}
use Rattle.mm_pdus.specs.declared.uplink.MmUp.TheVariants as up
use Rattle.mm_pdus.specs.UplinkReading.{reading_up}
use Rattle.registration.specs.declared.limits.Limits.{Limits}
use Rattle.registration.specs.Registered.{Registered, empty_registered, set_refusal, locate_refusal, detach_refusal}
use Rattle.group_attach.specs.Attached.{Attached, no_groups}
use Rattle.group_attach.specs.Applied.{apply_refusal}
use Rattle.group_attach.proofs.AllowedLaws.{no_groups_fit, no_groups_known}
use Rattle.sds_tl.specs.declared.fault.SdsFault.{SdsFault}
use Rattle.sds_tl.specs.declared.pdu.Head.{Head}
use Rattle.sds_tl.specs.declared.pdu.Head.TheVariants as heads
use Rattle.sds_tl.specs.Reading.{heading}
use Rattle.sds_tl.specs.Transfers.{transfer_reference}
use Rattle.mailbox.specs.Values.{Item, Mailed, empty_mailed}
use Rattle.mailbox.specs.Refusals.{post_refusal, report_refusal, ack_refusal, sent_refusal, delete_refusal}
use Rattle.mailbox.specs.declared.key.Kind.TheVariants.{Message, Report}
use Rattle.mailbox.specs.declared.key.Envelope.{Envelope}
use Rattle.mailbox.specs.declared.key.GroupEnvelope.{GroupEnvelope}
use Rattle.mailbox.specs.Item.{is_reported}
use Rattle.mailbox.specs.Mail.{posted, reported}
use Rattle.mailbox.specs.GroupPost.{group_posted, group_refusal}
use Rattle.mailbox.specs.Sound.{IsMail, is_head_of}
use Rattle.mailbox.proofs.Sound.{empty_is_mail}
use Rattle.centre_core.specs.declared.command.Command.{Command}
use Rattle.centre_core.specs.declared.command.Body.{Body}
use Rattle.centre_core.specs.declared.command.Body.TheVariants.{RuleSet, RuleClear, Mm, Sds, GroupSds, Sent, Expire, Delete}
use Rattle.centre_core.specs.declared.reply.Reply.{Reply}
use Rattle.centre_core.specs.declared.reply.Reply.TheVariants.{Accepted, Kept, Refused}
use Rattle.centre_core.specs.declared.reply.Refusal.{Refusal}
use Rattle.centre_core.specs.State.{State, LastAccepted, last_number, IsState, IsOfAccepted}
use Rattle.centre_core.specs.Step.{step, step_new, step_after, step_body, step_made, step_mm, step_sds, step_group_sds, accepted, last_at, is_station}
use Rattle.centre_core.specs.Step.{envelope, mail_changed, message_of, report_of, group_envelope, copies_of}
use Rattle.centre_core.specs.History.{is_acceptance, accepts, next, names, made}
use Rattle.centre_core.specs.Laws.{EmptyIsState, NextIsState, StepIsNext}
use Rattle.centre_core.proofs.ReadingLaws.{moved, reading_moved}
use Rattle.centre_core.proofs.MailEffects.{IsEffect, message_effect, copies_effect, report_effect}
use Rattle.centre_core.proofs.RegisteredLaws.{empty_within}
use Rattle.centre_core.proofs.StepLaws.{Advanced, Outcome, says}

one_more : (n : ℕ) (kept : Option LastAccepted) → IsOfAccepted n kept → IsOfAccepted (n + 1) kept
one_more n None h = h
one_more n (Some last) h = (h.0, omega (arith, h.1))

module _ {A : Type 0} where
  pub accepted_state : (s new : State) (c : Command A) (pdu : Option (List Bool)) (ends : Item → Bool) (makes : List Item) → s.count < last_number →
      IsEffect s new ends makes → IsState s → IsState (accepted new c pdu)
  accepted_state s new c pdu ends makes left change h =
      let still = change.made h in
      let entries : All (IsOfAccepted (new.count + 1)) new.served =
      subst (λ served. All (IsOfAccepted (new.count + 1)) served) (sym change.served)
      (subst (λ n. All (IsOfAccepted (n + 1)) s.served) (sym change.count)
      (All-weaker (IsOfAccepted s.count) (IsOfAccepted (s.count + 1)) (one_more s.count) s.served h.last)) in record {
        within = still.0;
        attachments = still.1;
        mail = record { in_order = subst (λ n. IsMail (n + 1) new.mail) (sym change.count) still.2.in_order; room = still.2.room };
        stations = length-set new.served (c.station - 1) _ ∙ ap length change.served ∙ h.stations ∙ ap (λ l. l.stations) (sym change.limits);
        count = omega (arith, left, change.count);
        last = All-set (IsOfAccepted (new.count + 1)) new.served (c.station - 1) _ (omega arith, omega arith) entries;
      }

  advanced_state : (s t : State) (c : Command A) → Advanced s t c → IsState s → IsState t
  advanced_state s t c a h = subst IsState (sym a.is) (accepted_state s a.made c a.pdu (names c) (made s c) a.numbers_left a.change h)

  state_by : (s t : State) (c : Command A) (reply : Reply A) → Outcome s c t reply → IsState s → IsState t
  state_by s t c (Accepted number pdu) a h = advanced_state s t c a.0 h
  state_by s t c (Kept number pdu) e h = subst IsState (sym e) h
  state_by s t c (Refused refusal) e h = subst IsState (sym e) h

pub next_is_state : {A : Type 0} → NextIsState A
next_is_state {A} s c h = state_by s (next s c) c (step {B = A} s c).1 (says A s c) h

pub empty_is_state : EmptyIsState
empty_is_state limits = record {
  within = empty_within limits;
  attachments = (no_groups_fit, no_groups_known (empty_registered limits));
  mail = record { in_order = empty_is_mail limits 0; room = refl };
  stations = length-replicate limits.stations None;
  count = omega arith;
  last = All-replicate (IsOfAccepted 0) limits.stations None tt;
}

-- a register that was just made
pub new_state : (limits : Limits) (r : Registered) (groups : Attached) (mail : Mailed) (served : List (Option LastAccepted)) →
    r ≡ empty_registered limits → groups ≡ no_groups → mail ≡ empty_mailed limits → served ≡ replicate limits.stations None
    → IsState (record { registered = r; groups = groups; mail = mail; served = served; count = 0 })
new_state limits r groups mail served e f g k = rw (e, f, g, k) (empty_is_state limits)

-- the same of a register whose fields are the accepted state's
module _ {A : Type 0} where
  counted_state : (s new : State) (c : Command A) (ends : Item → Bool) (makes : List Item) (mail : Mailed) (served : List (Option LastAccepted))
      (count : ℕ) → IsEffect s new ends makes → new ≡ mail_changed s mail → s.count < last_number
      → served ≡ slice_set s.served (c.station - 1) (Some (record { sequence = c.sequence; number = s.count + 1; pdu = None })) →
      count ≡ s.count + 1 → IsState s →
      IsState (record { registered = s.registered; groups = s.groups; mail = mail; served = served; count = count })
  counted_state s new c ends makes mail served count change is left last_accepted_is count_is h =
      rw (last_accepted_is, count_is) (accepted_state s (mail_changed s mail) c None ends makes left (subst (λ t. IsEffect s t ends makes) is change) h)

  pub posted_state : (s : State) (c : Command A) (e : Envelope) (pdu : List Bool) (w : Item) (mail : Mailed) (served : List (Option LastAccepted))
      (count : ℕ) → is_head_of Message e.reference (heading pdu) ≡ true → s.count < last_number
      → w ≡ message_of s c.moment e pdu → (post_refusal s.registered s.mail w ≡ None) × (mail ≡ posted s.mail w)
      → served ≡ slice_set s.served (c.station - 1) (Some (record { sequence = c.sequence; number = s.count + 1; pdu = None })) →
      count ≡ s.count + 1 → IsState s →
      IsState (record { registered = s.registered; groups = s.groups; mail = mail; served = served; count = count })
  posted_state s c e pdu w mail served count is left w_is done last_accepted_is count_is h =
      let m : Item = message_of s c.moment e pdu in
      counted_state s (mail_changed s (posted s.mail m)) c (λ _. false) (m ∷ []) mail served count (message_effect s c.moment e pdu is (ap (post_refusal s.registered s.mail) (sym w_is) ∙ done.0))
      (ap (mail_changed s) (sym (done.1 ∙ ap (posted s.mail) w_is))) left last_accepted_is count_is h

  pub copies_state : (s : State) (c : Command A) (e : GroupEnvelope) (pdu : List Bool) (ws : List Item) (mail : Mailed)
      (served : List (Option LastAccepted)) (count : ℕ) → is_head_of Message e.reference (heading pdu) ≡ true → s.count < last_number
      → ws ≡ copies_of s c.moment e pdu → (group_refusal s.registered s.mail e ws ≡ None) × (mail ≡ group_posted s.mail ws)
      → served ≡ slice_set s.served (c.station - 1) (Some (record { sequence = c.sequence; number = s.count + 1; pdu = None })) →
      count ≡ s.count + 1 → IsState s →
      IsState (record { registered = s.registered; groups = s.groups; mail = mail; served = served; count = count })
  copies_state s c e pdu ws mail served count is left ws_are done last_accepted_is count_is h =
      let copies : List Item = copies_of s c.moment e pdu in
      counted_state s (mail_changed s (group_posted s.mail copies)) c (λ _. false) copies mail served count
      (copies_effect s c.moment e pdu is (ap (group_refusal s.registered s.mail e) (sym ws_are) ∙ done.0))
      (ap (mail_changed s) (sym (done.1 ∙ ap (group_posted s.mail) ws_are))) left last_accepted_is count_is h

  pub reported_state : (s : State) (c : Command A) (e : Envelope) (status : ℕ) (pdu : List Bool) (w : Item) (mail : Mailed)
      (served : List (Option LastAccepted)) (count : ℕ) → is_head_of Report e.reference (heading pdu) ≡ true → s.count < last_number
      → w ≡ report_of s c.moment e pdu → (report_refusal s.registered s.mail e status w ≡ None) × (mail ≡ reported s.mail e status w)
      → served ≡ slice_set s.served (c.station - 1) (Some (record { sequence = c.sequence; number = s.count + 1; pdu = None })) →
      count ≡ s.count + 1 → IsState s →
      IsState (record { registered = s.registered; groups = s.groups; mail = mail; served = served; count = count })
  reported_state s c e status pdu w mail served count is left w_is done last_accepted_is count_is h =
      let m : Item = report_of s c.moment e pdu in
      counted_state s (mail_changed s (reported s.mail e status m)) c (is_reported e status) [] mail served count
      (report_effect s c.moment e status pdu is (ap (report_refusal s.registered s.mail e status) (sym w_is) ∙ done.0))
      (ap (mail_changed s) (sym (done.1 ∙ ap (reported s.mail e status) w_is))) left last_accepted_is count_is h

-- what a step says wherever its reply is kept: the state, and whether it accepts
abbrev seen : {B : Type 0} → State × Reply B → State × Bool
seen r = (r.0, is_acceptance r.1)

-- two results of a step that differ in the bits of the reply alone
module _ {B C : Type 0} where
  abbrev Same : State × Reply B → State × Reply C → Type 0
  Same x y = seen x ≡ seen y

  same_if : (b : Bool) (x y : State × Reply B) (v w : State × Reply C) → Same x v → Same y w → Same (if b then x else y) (if b then v else w)
  same_if true x y v w h k = h
  same_if false x y v w h k = k

module _ {A : Type 0} (B C : Type 0) where
  same_made : {F : Type 0} (s : State) (c : Command A) (made : State) (pdu : Option (List Bool)) (b : F → Refusal B) (d : F → Refusal C)
      (f : Option F) → Same (step_made s c made pdu (option_map b f)) (step_made s c made pdu (option_map d f))
  same_made s c made pdu b d (Some fault) = refl
  same_made s c made pdu b d None = refl

  same_mm : (s : State) (c : Command A) (itsi area : ℕ) (read : Result (MmUp B) MmFault) → Same (step_mm s c itsi area read) (step_mm s c itsi area (moved B C read))
  same_mm s c itsi area (Err fault) = refl
  same_mm s c itsi area (Ok (up.Demand update)) = same_made s c _ _ _ _ (locate_refusal s.registered itsi area update)
  same_mm s c itsi area (Ok up.Detach) = same_made s c _ _ _ _ (detach_refusal s.registered itsi)
  same_mm s c itsi area (Ok (up.Groups mode items)) = same_made s c _ _ _ _ (apply_refusal s.registered s.groups itsi mode items)

  same_sds : (s : State) (c : Command A) (source destination : ℕ) (pdu : List Bool) (head : Result Head SdsFault) →
      Same {B = B} {C = C} (step_sds s c source destination pdu head) (step_sds s c source destination pdu head)
  same_sds s c source destination pdu (Err fault) = refl
  same_sds s c source destination pdu (Ok (heads.Transfer request reference)) =
      same_made s c _ _ _ _ (post_refusal s.registered s.mail (message_of s c.moment (envelope source destination reference) pdu))
  same_sds s c source destination pdu (Ok (heads.Report acknowledge status reference)) =
      let e = envelope source destination reference in same_made s c _ _ _ _ (report_refusal s.registered s.mail e status (report_of s c.moment e pdu))
  same_sds s c source destination pdu (Ok (heads.Ack status reference)) = same_made s c _ _ _ _ (ack_refusal s.registered s.mail (envelope source destination reference))

  same_group : (s : State) (c : Command A) (source group : ℕ) (pdu : List Bool) (read : Result ℕ SdsFault) →
      Same {B = B} {C = C} (step_group_sds s c source group pdu read) (step_group_sds s c source group pdu read)
  same_group s c source group pdu (Err fault) = refl
  same_group s c source group pdu (Ok reference) =
      let e = group_envelope source group reference in same_made s c _ _ _ _ (group_refusal s.registered s.mail e (copies_of s c.moment e pdu))

  same_body : (s : State) (c : Command A) (b : Body A) → Same {B = B} {C = C} (step_body s c b) (step_body s c b)
  same_body s c (RuleSet prefix rule) = same_made s c _ _ _ _ (set_refusal s.registered prefix)
  same_body s c (RuleClear prefix) = refl
  same_body s c (Mm itsi area pdu) = same_mm s c itsi area (reading_up pdu) ∙ ap (λ read. seen (step_mm {B = C} s c itsi area read)) (sym (reading_moved B C pdu))
  same_body s c (Sds source destination pdu) = same_sds s c source destination pdu (heading pdu)
  same_body s c (GroupSds source group pdu) = same_group s c source group pdu (transfer_reference (heading pdu))
  same_body s c (Sent key) = same_made s c _ _ _ _ (sent_refusal s.registered s.mail key)
  same_body s c Expire = refl
  same_body s c (Delete key) = same_made s c _ _ _ _ (delete_refusal s.mail key)

  same_new : (s : State) (c : Command A) → Same {B = B} {C = C} (step_new s c) (step_new s c)
  same_new s c = same_if (nat_lt s.count last_number) _ _ _ _ (same_body s c c.body) refl

  same_after : (s : State) (c : Command A) (kept : Option LastAccepted) → Same {B = B} {C = C} (step_after s c kept) (step_after s c kept)
  same_after s c None = same_new s c
  same_after s c (Some last) = same_if (nat_lt c.sequence last.sequence) _ _ _ _ refl (same_if (c.sequence == last.sequence) _ _ _ _ refl (same_new s c))

  same_step : (s : State) (c : Command A) → Same {B = B} {C = C} (step s c) (step s c)
  unfolding step
  same_step s c = same_if (is_station s c.station) _ _ _ _ (same_after s c (last_at s c.station)) refl

pub step_is_next : {A : Type 0} (B : Type 0) → StepIsNext A B
step_is_next {A} B s c = ap (λ r. r.0) (same_step B A s c)

-- whether the same command is accepted, under another allocator
pub accepts_is_same : {A : Type 0} (B : Type 0) (s : State) (d : Command B) (c : Command A) → (step {B = B} s d).1 ≡ (step {B = B} s c).1 → accepts s d ≡ accepts s c
accepts_is_same {A} B s d c e = ap is_acceptance e ∙ ap (λ r. r.1) (same_step B A s c)

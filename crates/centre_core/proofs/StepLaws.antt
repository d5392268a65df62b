-- What one command makes of a state.
use Rattle.std.proofs.Common.{◌≡◌, ℕ, ◌+◌, ◌<◌, ◌≤◌, ◌∙◌, IfSome, nat_eq, IsTrue, Bool, true, false, List, [], refl, Option, Some, None, Result, Ok, Err, arith}
use Rattle.std.specs.Prelude.{◌==◌, nat_lt, if◌then◌else◌}
use Rattle.std.specs.Option.{option_map}
use Rattle.std.proofs.lemmas.Bool.Decides.{nat_tests}
use Rattle.mm_pdus.specs.declared.fault.MmFault.{MmFault}
use Rattle.mm_pdus.specs.declared.uplink.MmUp.{MmUp}
use Rattle.mm_pdus.specs.declared.uplink.MmUp.TheVariants as up
use Rattle.mm_pdus.specs.UplinkReading.{reading_up}
use Rattle.registration.specs.declared.fault.RegFault.{RegFault}
use Rattle.registration.specs.Registered.{set_refusal, locate_refusal, detach_refusal}
use Rattle.registration.proofs.Refusals.{third_of_three}
use Rattle.group_attach.specs.Applied.{apply_refusal}
use Rattle.sds_tl.specs.declared.fault.SdsFault.{SdsFault}
use Rattle.sds_tl.specs.declared.pdu.Head.{Head}
use Rattle.sds_tl.specs.declared.pdu.Head.TheVariants as heads
use Rattle.sds_tl.specs.Reading.{heading}
use Rattle.sds_tl.specs.Transfers.{transfer_reference}
use Rattle.mailbox.specs.declared.fault.MailFault.{MailFault}
use Rattle.mailbox.specs.Values.{Item}
use Rattle.mailbox.specs.Item.{is_at, is_confirmed, is_expired}
use Rattle.mailbox.specs.Refusals.{post_refusal, report_refusal, ack_refusal, sent_refusal, delete_refusal}
use Rattle.mailbox.specs.GroupPost.{group_refusal}
use Rattle.centre_core.specs.declared.command.Command.{Command}
use Rattle.centre_core.specs.declared.command.Body.{Body}
use Rattle.centre_core.specs.declared.command.Body.TheVariants.{RuleSet, RuleClear, Mm, Sds, GroupSds, Sent, Expire, Delete}
use Rattle.centre_core.specs.declared.reply.Reply.{Reply}
use Rattle.centre_core.specs.declared.reply.Reply.TheVariants.{Accepted, Kept, Refused}
use Rattle.centre_core.specs.declared.reply.Refusal.{Refusal}
use Rattle.centre_core.specs.declared.reply.Refusal.TheVariants.{Registration, Mail}
use Rattle.centre_core.specs.State.{State, LastAccepted, last_number}
use Rattle.centre_core.specs.Step.{step, step_new, step_after, step_body, step_made, step_mm, step_sds, step_group_sds, accepted, last_at, is_station}
use Rattle.centre_core.specs.Step.{envelope, message_of, report_of, group_envelope, copies_of}
use Rattle.centre_core.specs.Step.{IsOfStation, IsNew}
use Rattle.centre_core.specs.Memory.{needs_after, needs_new, needs_memory}
use Rattle.centre_core.specs.History.{is_acceptance, names_by_head, names_in, names, made_by_head, made_by_reference, made_in, made}
use Rattle.centre_core.proofs.EffectLaws.{rule_set_change, rule_cleared_change, radio_located_change, radio_detached_change, groups_changed_change}
use Rattle.centre_core.proofs.SpeltLaws.{message_headed, report_headed, transfer_headed}
use Rattle.centre_core.proofs.MailEffects.{IsEffect, mail_left, message_effect, copies_effect, report_effect, acknowledge_effect, removal_effect}

below : (n : ℕ) → nat_lt n last_number ≡ true → n < last_number
below n e = grind (arith, nat_tests)

module _ {A : Type 0} (s : State) (c : Command A) where
  at_station : IsOfStation s c → is_station s c.station ≡ true
  at_station of = grind (arith, nat_tests, of)

  -- a command that is new to its station is no older than its last one, nor that one again
  after_last : {T : Type 0} (last : LastAccepted) (old again : T) (new : T) → last.sequence < c.sequence
      → (if nat_lt c.sequence last.sequence then old else if c.sequence == last.sequence then again else new) ≡ new
  after_last last old again new later =
      let first : nat_lt c.sequence last.sequence ≡ false = grind (arith, nat_tests, later) in
      let second : nat_eq c.sequence last.sequence ≡ false = grind (arith, nat_tests, later) in
      rw (first, second) refl

  new_after : {B : Type 0} (last : Option LastAccepted) → IfSome last (λ it. it.sequence < c.sequence) → step_after {B = B} s c last ≡ step_new s c
  new_after None new = refl
  new_after (Some last) new = after_last last _ _ _ new

  pub new_step : {B : Type 0} → IsNew s c → step {B = B} s c ≡ step_new s c
  unfolding step
  new_step new = rw (at_station new.0) (new_after (last_at s c.station) new.1)

  pub again_step : {B : Type 0} (last : LastAccepted) (reply : Reply B) → IsOfStation s c → last_at s c.station ≡ Some last → c.sequence ≡ last.sequence
      → reply ≡ Kept last.number last.pdu → (s, reply) ≡ step s c
  unfolding step
  again_step last reply of at same is =
      let first : nat_lt c.sequence last.sequence ≡ false = grind (arith, nat_tests, same) in
      let second : nat_eq c.sequence last.sequence ≡ true = grind (arith, nat_tests, same) in
      rw (is, at_station of, at, first, second) refl

  needs_after_new : (last : Option LastAccepted) → IfSome last (λ it. it.sequence < c.sequence) → needs_after s c last ≡ needs_new s c
  needs_after_new None new = refl
  needs_after_new (Some last) new = after_last last _ _ _ new

  pub new_memory : IsNew s c → needs_memory s c ≡ needs_new s c
  unfolding needs_memory
  new_memory new = rw (at_station new.0) (needs_after_new (last_at s c.station) new.1)

module _ {A : Type 0} where
  -- t is the state after the command was accepted in s, where it ends the messages that pass `ends` and makes those in `makes`
  pub record AdvancedBy (s t : State) (c : Command A) (ends : Item → Bool) (makes : List Item) : Type 0 where
    pub made : State
    pub pdu : Option (List Bool)
    pub is : t ≡ accepted made c pdu
    pub change : IsEffect s made ends makes
    pub numbers_left : s.count < last_number

  abbrev pub Advanced : State → State → Command A → Type 0
  Advanced s t c = AdvancedBy s t c (names c) (made s c)

module _ {A B : Type 0} where
  -- it is accepted, and the reply has the number and the PDU that are kept, or nothing changes
  abbrev pub OutcomeBy : State → Command A → (Item → Bool) → List Item → State → Reply B → Type 0
  OutcomeBy s c ends makes t (Accepted number pdu) = (a : AdvancedBy s t c ends makes) × (number ≡ s.count + 1) × (pdu ≡ a.pdu)
  OutcomeBy s c ends makes t (Kept number pdu) = t ≡ s
  OutcomeBy s c ends makes t (Refused refusal) = t ≡ s

  abbrev pub Outcome : State → Command A → State → Reply B → Type 0
  Outcome s c t reply = OutcomeBy s c (names c) (made s c) t reply

module _ {A : Type 0} (B : Type 0) where
  abbrev pub Says : State → Command A → (Item → Bool) → List Item → State × Reply B → Type 0
  Says s c ends makes r = OutcomeBy s c ends makes r.0 r.1

  says_made : {F : Type 0} (s : State) (c : Command A) (ends : Item → Bool) (makes : List Item) (new : State) (pdu : Option (List Bool))
      (name : F → Refusal B) (f : Option F) → s.count < last_number → (f ≡ None → IsEffect s new ends makes) →
      Says s c ends makes (step_made s c new pdu (option_map name f))
  says_made s c ends makes new pdu name (Some fault) left change = refl
  says_made s c ends makes new pdu name None left change = (record { made = new; pdu = pdu; is = refl; change = change refl; numbers_left = left }, refl, refl)

  says_mm : (s : State) (c : Command A) (itsi area : ℕ) (read : Result (MmUp B) MmFault) → s.count < last_number → Says s c (λ _. false) [] (step_mm s c itsi area read)
  says_mm s c itsi area (Err fault) left = refl
  says_mm s c itsi area (Ok (up.Demand update)) left = says_made s c _ _ _ _ _ (locate_refusal s.registered itsi area update) left
      (λ none. mail_left s _ refl (radio_located_change s itsi c.station area update (third_of_three _ _ _ none)))
  says_mm s c itsi area (Ok up.Detach) left = says_made s c _ _ _ _ _ (detach_refusal s.registered itsi) left (λ none. mail_left s _ refl (radio_detached_change s itsi))
  says_mm s c itsi area (Ok (up.Groups mode items)) left = says_made s c _ _ _ _ _ (apply_refusal s.registered s.groups itsi mode items) left
      (λ none. mail_left s _ refl (groups_changed_change s itsi mode items none))

  says_sds : (s : State) (c : Command A) (source destination : ℕ) (pdu : List Bool) (head : Result Head SdsFault) → heading pdu ≡ head → s.count < last_number
      → Says s c (names_by_head source destination head) (made_by_head s c.moment source destination pdu head) (step_sds s c source destination pdu head)
  says_sds s c source destination pdu (Err fault) is left = refl
  says_sds s c source destination pdu (Ok (heads.Transfer request reference)) is left =
      let e = envelope source destination reference in
      says_made s c _ _ _ _ _ (post_refusal s.registered s.mail (message_of s c.moment e pdu)) left (message_effect s c.moment e pdu (message_headed pdu request reference is))
  says_sds s c source destination pdu (Ok (heads.Report acknowledge status reference)) is left =
      let e = envelope source destination reference in
      says_made s c _ _ _ _ _ (report_refusal s.registered s.mail e status (report_of s c.moment e pdu)) left
      (report_effect s c.moment e status pdu (report_headed pdu acknowledge status reference is))
  says_sds s c source destination pdu (Ok (heads.Ack status reference)) is left =
      let e = envelope source destination reference in
      says_made s c _ _ _ _ _ (ack_refusal s.registered s.mail e) left (λ none. acknowledge_effect s e)

  says_group : (s : State) (c : Command A) (source group : ℕ) (pdu : List Bool) (read : Result ℕ SdsFault) → transfer_reference (heading pdu) ≡ read → s.count < last_number
      → Says s c (λ _. false) (made_by_reference s c.moment source group pdu read) (step_group_sds s c source group pdu read)
  says_group s c source group pdu (Err fault) is left = refl
  says_group s c source group pdu (Ok reference) is left =
      let e = group_envelope source group reference in
      says_made s c _ _ _ _ _ (group_refusal s.registered s.mail e (copies_of s c.moment e pdu)) left (copies_effect s c.moment e pdu (transfer_headed pdu reference is))

  says_body : (s : State) (c : Command A) (b : Body A) → s.count < last_number → Says s c (names_in c.moment b) (made_in s c.moment b) (step_body s c b)
  says_body s c (RuleSet prefix rule) left = says_made s c _ _ _ _ _ (set_refusal s.registered prefix) left (λ none. mail_left s _ refl (rule_set_change s prefix rule none))
  says_body s c (RuleClear prefix) left = says_made {F = RegFault} s c _ _ _ _ Registration None left (λ none. mail_left s _ refl (rule_cleared_change s prefix))
  says_body s c (Mm itsi area pdu) left = says_mm s c itsi area (reading_up pdu) left
  says_body s c (Sds source destination pdu) left = says_sds s c source destination pdu (heading pdu) refl left
  says_body s c (GroupSds source group pdu) left = says_group s c source group pdu (transfer_reference (heading pdu)) refl left
  says_body s c (Sent key) left = says_made s c _ _ _ _ _ (sent_refusal s.registered s.mail key) left (λ none. removal_effect s (is_confirmed key) (is_confirmed key) (λ m message. refl))
  says_body s c Expire left = says_made {F = MailFault} s c _ _ _ _ Mail None left (λ none. removal_effect s (is_expired c.moment) (is_expired c.moment) (λ m message. refl))
  says_body s c (Delete key) left = says_made s c _ _ _ _ _ (delete_refusal s.mail key) left (λ none. removal_effect s (is_at key) (is_at key) (λ m message. refl))

  says_if : (s : State) (c : Command A) (b : Bool) (x y : State × Reply B) → (b ≡ true → Says s c (names c) (made s c) x) →
      (b ≡ false → Says s c (names c) (made s c) y) → Says s c (names c) (made s c) (if b then x else y)
  says_if s c true x y h k = h refl
  says_if s c false x y h k = k refl

  says_new : (s : State) (c : Command A) → Says s c (names c) (made s c) (step_new s c)
  says_new s c = says_if s c (nat_lt s.count last_number) _ _ (λ e. says_body s c c.body (below s.count e)) (λ _. refl)

  says_after : (s : State) (c : Command A) (kept : Option LastAccepted) → Says s c (names c) (made s c) (step_after s c kept)
  says_after s c None = says_new s c
  says_after s c (Some last) = says_if s c (nat_lt c.sequence last.sequence) _ _ (λ _. refl) (λ _. says_if s c (c.sequence == last.sequence) _ _ (λ _. refl) (λ _. says_new s c))

  -- a command is accepted, and then this is the state, or it changes nothing
  pub says : (s : State) (c : Command A) → Says s c (names c) (made s c) (step s c)
  unfolding step
  says s c = says_if s c (is_station s c.station) _ _ (λ _. says_after s c (last_at s c.station)) (λ _. refl)

  idle_by : (s : State) (c : Command A) (t : State) (reply : Reply B) → Outcome s c t reply → is_acceptance reply ≡ false → t ≡ s
  idle_by s c t (Accepted number pdu) h e = cc
  idle_by s c t (Kept number pdu) h e = h
  idle_by s c t (Refused refusal) h e = h

  pub only_accepted_change : (s : State) (c : Command A) → is_acceptance (step {B = B} s c).1 ≡ false → (step {B = B} s c).0 ≡ s
  only_accepted_change s c e = idle_by s c (step s c).0 (step s c).1 (says s c) e

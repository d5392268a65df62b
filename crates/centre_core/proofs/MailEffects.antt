-- What a command makes of the mail: the messages that it ends, and those that it makes.
use Rattle.std.proofs.Common.{◌∙◌, ◌≡◌, ℕ, ◌+◌, ◌<◌, Bool, true, false, List, [], ◌∷◌, refl, sym, subst, arith, None}
use Rattle.std.specs.List.{All, filter}
use Rattle.std.proofs.lemmas.List.Elements.{All-map, All-weaker}
use Rattle.base.proofs.Bools.{or_none}
use Rattle.sds_tl.specs.Reading.{heading}
use Rattle.mailbox.specs.declared.key.Kind.TheVariants.{Message, Report}
use Rattle.mailbox.specs.declared.key.Envelope.{Envelope}
use Rattle.mailbox.specs.declared.key.GroupEnvelope.{GroupEnvelope}
use Rattle.mailbox.specs.declared.key.Stamp.{Stamp}
use Rattle.mailbox.specs.Values.{Item, Mailed}
use Rattle.mailbox.specs.Item.{key_of, answered, is_message, is_at, is_reported, is_ended_by}
use Rattle.mailbox.specs.Mail.{without, posted, reported, acknowledged}
use Rattle.mailbox.specs.Refusals.{post_refusal, report_refusal}
use Rattle.mailbox.specs.GroupPost.{is_receiver, copy_for, group_posted, group_refusal}
use Rattle.mailbox.specs.Sound.{IsNumbered, IsMail, is_head_of}
use Rattle.mailbox.proofs.Sound.{more_is_mail, removal_is_mail, post_is_mail, report_is_mail}
use Rattle.mailbox.proofs.CopiesSound.{group_post_is_mail}
use Rattle.group_attach.specs.Allowed.{AreAllowed}
use Rattle.centre_core.specs.State.{State, IsState, IsWithin, IsMailOf}
use Rattle.centre_core.specs.Step.{mail_changed, message_of, report_of, members, copies_of}
use Rattle.centre_core.proofs.Changed.{Changed, changed_none, changed_by_filter, changed_by_report, changed_by_message, changed_by_messages, no_report}
use Rattle.centre_core.proofs.EffectLaws.{IsChange}
use Rattle.centre_core.proofs.MembersLaws.{list_rises}
use Rattle.centre_core.proofs.SpeltLaws.{message_written, message_spelt, report_spelt}

-- what a state is once its change is counted
abbrev pub IsMade : ℕ → State → Type 0
IsMade count t = IsWithin t.registered × AreAllowed t.registered t.groups × IsMailOf t.registered count t.mail

-- what an accepted command makes of a state before it is counted: it ends the messages that pass `ends` and makes those in `makes`
pub record IsEffect (s t : State) (ends : Item → Bool) (makes : List Item) : Type 0 where
  pub limits : t.registered.limits ≡ s.registered.limits
  pub served : t.served ≡ s.served
  pub count : t.count ≡ s.count
  pub made : IsState s → IsMade (s.count + 1) t
  pub messages : Changed s.mail.items t.mail.items s.count ends makes

-- a change that leaves the mail alone
pub mail_left : (s t : State) → t.mail ≡ s.mail → IsChange s t → IsEffect s t (λ _. false) []
mail_left s t same h = record {
  limits = h.limits;
  served = h.served;
  count = h.count;
  made = λ state. let new = h.state state in (
    new.within,
    new.attachments,
    record { in_order = more_is_mail t.count (s.count + 1) t.mail (omega (arith, h.count)) new.mail.in_order; room = new.mail.room },
  );
  messages = subst (λ m. Changed s.mail.items m.items s.count (λ _. false) []) (sym same) (changed_none s.mail.items s.count);
}

mail_effect : (s : State) (mail : Mailed) (ends : Item → Bool) (makes : List Item) → mail.room ≡ s.mail.room →
    (IsMail s.count s.mail → IsMail (s.count + 1) mail) → Changed s.mail.items mail.items s.count ends makes →
    IsEffect s (mail_changed s mail) ends makes
mail_effect s mail ends makes room ordered messages = record {
  limits = refl;
  served = refl;
  count = refl;
  made = λ h. (h.within, h.attachments, record { in_order = ordered h.mail.in_order; room = room ∙ h.mail.room });
  messages = messages;
}

pub removal_effect : (s : State) (test ends : Item → Bool) → ((m : Item) → is_message m ≡ true → test m ≡ ends m) → IsEffect s (mail_changed s (without test s.mail)) ends []
removal_effect s test ends agree =
    mail_effect s (without test s.mail) ends [] refl
    (λ h. more_is_mail s.count (s.count + 1) (without test s.mail) (omega arith) (removal_is_mail s.count s.mail test h))
    (changed_by_filter s.mail.items s.count ends test agree)

-- a message is no report, so a test of a report's key drops none
no_report_at : (e : Envelope) (m : Item) → is_message m ≡ true → is_at (key_of e Report) m ≡ false
no_report_at e m is = no_report _ m.key.kind is

no_answer_at : (e : Envelope) (m : Item) → is_message m ≡ true → is_at (answered e Report) m ≡ false
no_answer_at e m is = no_report _ m.key.kind is

pub message_effect : (s : State) (moment : ℕ) (e : Envelope) (pdu : List Bool) → is_head_of Message e.reference (heading pdu) ≡ true →
    post_refusal s.registered s.mail (message_of s moment e pdu) ≡ None
    → IsEffect s (mail_changed s (posted s.mail (message_of s moment e pdu))) (λ _. false) (message_of s moment e pdu ∷ [])
message_effect s moment e pdu is none =
    let w : Item = message_of s moment e pdu in
    mail_effect s (posted s.mail w) (λ _. false) (w ∷ []) refl
    (λ h. post_is_mail s.registered s.count s.mail w h refl (message_spelt s moment e pdu is) none)
    (changed_by_message s.mail.items s.count w refl refl)

-- what waits has a lower number than what a later command makes
pub all_are_older : (count : ℕ) (m : Mailed) (number : ℕ) → IsMail count m → count < number → All (λ o. o.number < number) m.items
all_are_older count m number h later = All-weaker (IsNumbered count) (λ o. o.number < number) (λ o p. omega (arith, p.1, later)) m.items h.numbered

pub copies_effect : (s : State) (moment : ℕ) (e : GroupEnvelope) (pdu : List Bool) → is_head_of Message e.reference (heading pdu) ≡ true →
    group_refusal s.registered s.mail e (copies_of s moment e pdu) ≡ None
    → IsEffect s (mail_changed s (group_posted s.mail (copies_of s moment e pdu))) (λ _. false) (copies_of s moment e pdu)
copies_effect s moment e pdu is none =
    let ws : List Item = copies_of s moment e pdu in
    let stamp : Stamp = record { number = s.count + 1; moment = moment } in
    let copy : ℕ → Item = copy_for s.registered e stamp pdu in
    let receivers : List ℕ = filter (is_receiver s.registered e.source) (members s e.group) in
    mail_effect s (group_posted s.mail ws) (λ _. false) ws refl
    (λ h. group_post_is_mail s.registered s.count s.mail e (members s e.group) stamp pdu h (list_rises s e.group (members s e.group) refl) refl is
    (message_written pdu e.reference (heading pdu) refl is) none)
    (changed_by_messages s.mail.items ws s.count (All-map (λ w. w.number ≡ s.count + 1) copy receivers (λ k d below. refl)) (All-map (λ w. is_message w ≡ true) copy receivers (λ k d below. refl)))

pub report_effect : (s : State) (moment : ℕ) (e : Envelope) (status : ℕ) (pdu : List Bool) → is_head_of Report e.reference (heading pdu) ≡ true →
    report_refusal s.registered s.mail e status (report_of s moment e pdu) ≡ None
    → IsEffect s (mail_changed s (reported s.mail e status (report_of s moment e pdu))) (is_reported e status) []
report_effect s moment e status pdu is none =
    let w : Item = report_of s moment e pdu in
    mail_effect s (reported s.mail e status w) (is_reported e status) [] refl (λ h. report_is_mail s.registered s.count s.mail e status w h refl refl (report_spelt s moment e pdu is) none)
    (changed_by_report s.mail.items (without (is_ended_by e status) s.mail).items s.count (is_reported e status) w refl
    (changed_by_filter s.mail.items s.count (is_reported e status) (is_ended_by e status) (λ m message. or_none (is_reported e status m) _ (no_report_at e m message))))

pub acknowledge_effect : (s : State) (e : Envelope) → IsEffect s (mail_changed s (acknowledged s.mail e)) (λ _. false) []
acknowledge_effect s e = removal_effect s (is_at (answered e Report)) (λ _. false) (no_answer_at e)

-- the mail may lose items between two commands
pub removal_state : (s : State) (test : Item → Bool) (mail : Mailed) → mail ≡ without test s.mail → IsState s → IsState (record s { mail = mail })
removal_state s test mail is h =
    subst (λ m. IsState (record s { mail = m })) (sym is)
    (record {
      within = h.within;
      attachments = h.attachments;
      mail =
          record { in_order = removal_is_mail s.count s.mail test h.mail.in_order; room = h.mail.room };
      stations = h.stations;
      count = h.count;
      last =
          h.last;
    })

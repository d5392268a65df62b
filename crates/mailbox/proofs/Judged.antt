-- What is judged among the items of one destination is what the definitions say.
use Rattle.std.proofs.Common.{◌≡◌, ◌+◌, ℕ, Bool, true, false, List, length, ap, sym, ◌∙◌, Option, Some, None}
use Rattle.std.specs.Prelude.{count_by, if◌then◌else◌}
use Rattle.std.specs.List.{list_any}
use Rattle.std.specs.Option.{option_or}
use Rattle.registration.specs.Registered.{Registered, rule_of}
use Rattle.mailbox.specs.declared.fault.MailFault.{MailFault}
use Rattle.mailbox.specs.declared.fault.MailFault.TheVariants.{NoSuchMessage}
use Rattle.mailbox.specs.declared.key.Kind.TheVariants.{Message, Report}
use Rattle.mailbox.specs.declared.key.Key.{Key}
use Rattle.mailbox.specs.declared.key.Envelope.{Envelope}
use Rattle.mailbox.specs.declared.key.Stamp.{Stamp}
use Rattle.mailbox.specs.Values.{Item, Mailed}
use Rattle.mailbox.specs.Item.{key_of, answered, is_to, is_at, is_ended_by}
use Rattle.mailbox.specs.Mail.{without, posted, reported, waiting, item_for}
use Rattle.mailbox.specs.Refusals.{unknown_refusal, absent_refusal, busy_refusal, crowd_refusal, full_refusal, post_refusal, report_refusal}
use Rattle.mailbox.proofs.Effects.{holds_waiting, one_more_waits}

-- where a rule serves the destination and the source is present
module _ (s : Registered) (m : Mailed) (e : Envelope) (known : unknown_refusal (rule_of s e.destination) ≡ None) (present : absent_refusal s e.source ≡ None) where
  pub post_as_judged : (k : Key) → k ≡ key_of e Message → (r : Option MailFault) →
      r ≡ option_or (busy_refusal m k) (crowd_refusal m.room (count_by (is_to k.destination) m.items + 1) (length m.items + 1)) →
      (stamp : Stamp) (pdu : List Bool) → r ≡ post_refusal s m (item_for s (key_of e Message) stamp pdu)
  post_as_judged k at r is stamp pdu =
      let w : Item = item_for s (key_of e Message) stamp pdu in
      is ∙ ap (λ (j : Key). option_or (busy_refusal m j) (crowd_refusal m.room (count_by (is_to j.destination) m.items + 1) (length m.items + 1))) at
      ∙ ap (option_or (busy_refusal m (key_of e Message))) (one_more_waits m w)
      ∙ (λ i. option_or (sym known i) (option_or (sym present i) (option_or (busy_refusal m (key_of e Message)) (full_refusal (posted m w) e.destination))))

  module _ (status : ℕ) (stamp : Stamp) (pdu : List Bool) where
    abbrev report : Item
    report = item_for s (key_of e Report) stamp pdu

    abbrev why : Bool → Option MailFault
    why held = option_or (if held then None else Some NoSuchMessage) (full_refusal (reported m e status report) e.destination)

    judged : (held : Bool) → list_any (is_at (answered e Message)) (waiting m e.source) ≡ held → why held ≡ report_refusal s m e status report
    judged held is = λ i. option_or (sym known i) (option_or (sym present i) (why ((sym is ∙ holds_waiting m (answered e Message)) i)))

    pub report_missing : list_any (is_at (answered e Message)) (waiting m e.source) ≡ false → Some NoSuchMessage ≡ report_refusal s m e status report
    report_missing none = judged false none

    pub report_as_judged : list_any (is_at (answered e Message)) (waiting m e.source) ≡ true → (r : Option MailFault) →
        r ≡ (let left = without (is_ended_by e status) m in
        crowd_refusal m.room (count_by (is_to e.destination) left.items + 1) (length left.items + 1)) → r ≡ report_refusal s m e status report
    report_as_judged held r is = is ∙ one_more_waits (without (is_ended_by e status) m) report ∙ judged true held

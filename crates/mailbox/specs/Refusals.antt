-- Why a call is refused: the first that applies.
use Rattle.std.specs.Prelude.{ℕ, nat_lt, length, count_by, Option, Some, None, if◌then◌else◌, [], ◌∷◌}
use Rattle.identity.specs.Numbers.{Itsi}
use Rattle.registration.specs.declared.rule.Rule.{Rule}
use Rattle.registration.specs.Refusals.{first_of, refused_if}
use Rattle.registration.specs.Registered.{Registered, rule_of, radio_of, is_present}
use Rattle.sds_tl.specs.Numbers.{Status}
use Rattle.mailbox.specs.declared.fault.MailFault.{MailFault}
use Rattle.mailbox.specs.declared.fault.MailFault.TheVariants.{UnknownDestination, NotAttached, ReferenceBusy, MailboxFull, CentreFull, NoSuchMessage}
use Rattle.mailbox.specs.declared.key.Kind.TheVariants.{Message, Report}
use Rattle.mailbox.specs.declared.key.Key.{Key}
use Rattle.mailbox.specs.declared.key.Envelope.{Envelope}
use Rattle.mailbox.specs.Values.{Item, Mailed}
use Rattle.mailbox.specs.Item.{answered, is_to}
use Rattle.mailbox.specs.Mail.{holds, with_item, reported}

-- no rule serves the destination
abbrev pub unknown_refusal : Option Rule → Option MailFault
unknown_refusal None = Some UnknownDestination
unknown_refusal (Some rule) = None

-- the radio is not present
abbrev pub absent_refusal : Registered → Itsi → Option MailFault
absent_refusal s itsi = if is_present (radio_of s itsi) then None else Some NotAttached

-- the key is taken
abbrev pub busy_refusal : Mailed → Key → Option MailFault
busy_refusal m k = refused_if (holds m k) ReferenceBusy

-- nothing waits at the key
abbrev pub missing_refusal : Mailed → Key → Option MailFault
missing_refusal m k = if holds m k then None else Some NoSuchMessage

-- The most items for one destination.
abbrev pub most_for_one : ℕ
most_for_one = 128

-- so many items for one destination, or so many in all, are too many
abbrev pub crowd_refusal : ℕ → ℕ → ℕ → Option MailFault
crowd_refusal room for_one in_all =
    first_of
    (refused_if (nat_lt most_for_one for_one) MailboxFull
    ∷ refused_if (nat_lt room in_all) CentreFull
    ∷ [])

-- the mail, as a call with a new item for this destination would leave it, has too many items
abbrev pub full_refusal : Mailed → Itsi → Option MailFault
full_refusal m destination = crowd_refusal m.room (count_by (is_to destination) m.items) (length m.items)

-- why an item is not restored: its key is taken, or there is no room for it
abbrev pub restore_refusal : Mailed → Item → Option MailFault
restore_refusal m w =
    first_of
    (busy_refusal m w.key
    ∷ full_refusal (with_item m w) w.key.destination
    ∷ [])

-- why a message is refused: no rule serves its destination, its sender is not present, its key is taken, or there is no room for it
abbrev pub post_refusal : Registered → Mailed → Item → Option MailFault
post_refusal s m w =
    first_of
    (unknown_refusal (rule_of s w.key.destination)
    ∷ absent_refusal s w.key.source
    ∷ restore_refusal m w
    ∷ [])

-- why a report is refused: no rule serves its destination, its sender is not present, the message that it is on does not wait, or there is no room for it
abbrev pub report_refusal : Registered → Mailed → Envelope → Status → Item → Option MailFault
report_refusal s m e status w =
    first_of
    (unknown_refusal (rule_of s e.destination)
    ∷ absent_refusal s e.source
    ∷ missing_refusal m (answered e Message)
    ∷ full_refusal (reported m e status w) e.destination
    ∷ [])

-- why an acknowledgement is refused: no rule serves its destination, its sender is not present, or the report that it answers does not wait
abbrev pub ack_refusal : Registered → Mailed → Envelope → Option MailFault
ack_refusal s m e =
    first_of
    (unknown_refusal (rule_of s e.destination)
    ∷ absent_refusal s e.source
    ∷ missing_refusal m (answered e Report)
    ∷ [])

-- why it is refused that an item was sent: the destination is not present, or nothing waits at the key
abbrev pub sent_refusal : Registered → Mailed → Key → Option MailFault
sent_refusal s m k =
    first_of
    (absent_refusal s k.destination
    ∷ missing_refusal m k
    ∷ [])

-- why a deletion is refused: nothing waits at the key
abbrev pub delete_refusal : Mailed → Key → Option MailFault
delete_refusal m k = missing_refusal m k

-- A message to a group: either a copy waits for each member that is present, but not for the sender, or nothing changes.
use Rattle.std.specs.Prelude.{ℕ, ◌==◌, nat_lt, Bool, not, ◌&&◌, List, [], ◌∷◌, ◌++◌, length, map, take, count_by, Option, Some}
use Rattle.std.specs.List.{filter, list_any}
use Rattle.identity.specs.Numbers.{Itsi}
use Rattle.registration.specs.Refusals.{first_of, refused_if}
use Rattle.registration.specs.Registered.{Registered, rule_of, radio_of, is_present}
use Rattle.mailbox.specs.declared.fault.MailFault.{MailFault}
use Rattle.mailbox.specs.declared.fault.MailFault.TheVariants.{ReferenceBusy, MailboxFull, CentreFull, NoMembers}
use Rattle.mailbox.specs.declared.key.Kind.TheVariants.{Message}
use Rattle.mailbox.specs.declared.key.Key.{Key}
use Rattle.mailbox.specs.declared.key.GroupEnvelope.{GroupEnvelope}
use Rattle.mailbox.specs.declared.key.Stamp.{Stamp}
use Rattle.mailbox.specs.Values.{Item, Mailed}
use Rattle.mailbox.specs.Item.{is_to}
use Rattle.mailbox.specs.Mail.{holds, deadline_by}
use Rattle.mailbox.specs.Refusals.{unknown_refusal, absent_refusal, most_for_one}

-- the key of the copy for a member
abbrev pub copy_key : GroupEnvelope → Itsi → Key
copy_key e member = record { destination = member; source = e.source; reference = e.reference; kind = Message }

-- a member that gets a copy: it is present, and not the sender
abbrev pub is_receiver : Registered → Itsi → Itsi → Bool
is_receiver s source member = is_present (radio_of s member) && not (member == source)

-- the copy for a member: it ends after the keep of the group's rule, and names the group
abbrev pub copy_for : Registered → GroupEnvelope → Stamp → List Bool → Itsi → Item
copy_for s e stamp pdu member = record {
  key = copy_key e member;
  number = stamp.number;
  deadline = deadline_by (rule_of s e.group) stamp.moment;
  pdu = pdu;
  group = Some e.group;
}

-- the copies for these members, in their order, all under one number
abbrev pub copies : Registered → GroupEnvelope → List Itsi → Stamp → List Bool → List Item
copies s e members stamp pdu = map (copy_for s e stamp pdu) (filter (is_receiver s e.source) members)

-- the mail with these copies at the end
abbrev pub group_posted : Mailed → List Item → Mailed
group_posted m ws = record { room = m.room; items = m.items ++ ws }

-- the first that applies: nobody gets a copy, a copy's key is taken, too many items for a member, too many in all
abbrev pub first_of_copies : Bool → Bool → Bool → Bool → Option MailFault
first_of_copies none busy full crowded =
    first_of
    (refused_if none NoMembers
    ∷ refused_if busy ReferenceBusy
    ∷ refused_if full MailboxFull
    ∷ refused_if crowded CentreFull
    ∷ [])

-- something waits at the key of one of them
abbrev pub any_taken : Mailed → List Item → Bool
any_taken m ws = list_any (λ w. holds m w.key) ws

-- too many items wait for the destination of one of them
abbrev pub any_crowded : Mailed → List Item → Bool
any_crowded m ws = list_any (λ w. nat_lt most_for_one (count_by (is_to w.key.destination) m.items)) ws

-- why the copies are refused; the last two are judged on the mail with the copies
abbrev pub copies_refusal : Mailed → List Item → Option MailFault
copies_refusal m ws =
    let new = group_posted m ws in
    first_of_copies (length ws == 0) (any_taken m ws) (any_crowded new ws) (nat_lt new.room (length new.items))

-- why the copies of a message to a group are refused: the first that applies
abbrev pub group_refusal : Registered → Mailed → GroupEnvelope → List Item → Option MailFault
group_refusal s m e ws =
    first_of
    (unknown_refusal (rule_of s e.group)
    ∷ absent_refusal s e.source
    ∷ copies_refusal m ws
    ∷ [])

-- an item with another destination
abbrev pub addressed : Item → Itsi → Item
addressed w destination = record w { key = record w.key { destination = destination } }

-- the mail with its first so many items
abbrev pub shortened : Mailed → ℕ → Mailed
shortened m n = record { room = m.room; items = take n m.items }

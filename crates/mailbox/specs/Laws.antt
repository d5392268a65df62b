-- Each effect keeps what holds of the mail. (The laws on public calls name these statements.)
use Rattle.std.specs.Prelude.{◌≡◌, ◌+◌, ◌<◌, ◌≤◌, Bool, true, List, None}
use Rattle.std.specs.List.{AllPairs}
use Rattle.identity.specs.Numbers.{Itsi}
use Rattle.registration.specs.declared.limits.Limits.{Limits}
use Rattle.registration.specs.Registered.{Registered}
use Rattle.sds_tl.specs.Numbers.{Status}
use Rattle.sds_tl.specs.Syntax.{Spells, canon}
use Rattle.sds_tl.specs.Reading.{value, heading, cleared}
use Rattle.mailbox.specs.Numbers.{Number, Count}
use Rattle.mailbox.specs.declared.key.Kind.TheVariants.{Message, Report}
use Rattle.mailbox.specs.declared.key.Key.{Key}
use Rattle.mailbox.specs.declared.key.Envelope.{Envelope}
use Rattle.mailbox.specs.declared.key.GroupEnvelope.{GroupEnvelope}
use Rattle.mailbox.specs.declared.key.Stamp.{Stamp}
use Rattle.mailbox.specs.Values.{Item, Mailed, empty_mailed}
use Rattle.mailbox.specs.Item.{key_of}
use Rattle.mailbox.specs.Order.{ComesLast}
use Rattle.mailbox.specs.Mail.{without, posted, reported}
use Rattle.mailbox.specs.Refusals.{post_refusal, report_refusal}
use Rattle.mailbox.specs.GroupPost.{copies, group_posted, group_refusal}
use Rattle.mailbox.specs.Sound.{is_head_of, IsSpelt, IsMail}

-- what holds of the mail holds of an empty one, after any number of accepted commands
abbrev pub EmptyIsMail : Type 0
EmptyIsMail = (limits : Limits) (count : Count) → IsMail count (empty_mailed limits)

-- a greater number of accepted commands changes nothing
abbrev pub MoreIsMail : Type 0
MoreIsMail = (count more : Count) (m : Mailed) → count ≤ more → IsMail count m → IsMail more m

-- what holds of the mail still holds without the items that pass a test
abbrev pub RemovalIsMail : Type 0
RemovalIsMail = (count : Count) (m : Mailed) (test : Item → Bool) → IsMail count m → IsMail count (without test m)

-- it holds with a message of the next accepted command, where the message is in its written form and not refused
abbrev pub PostIsMail : Type 0
PostIsMail =
    (s : Registered) (count : Count) (m : Mailed) (w : Item)
    → IsMail count m
    → w.number ≡ count + 1
    → IsSpelt w
    → post_refusal s m w ≡ None
    → IsMail (count + 1) (posted m w)

-- it holds with a report of the next accepted command, and without what that report ends
abbrev pub ReportIsMail : Type 0
ReportIsMail =
    (s : Registered) (count : Count) (m : Mailed) (e : Envelope) (status : Status) (w : Item)
    → IsMail count m
    → w.number ≡ count + 1
    → w.key ≡ key_of e Report
    → IsSpelt w
    → report_refusal s m e status w ≡ None
    → IsMail (count + 1) (reported m e status w)

-- it holds with the copies of a message to a group, for members in order of number
abbrev pub GroupPostIsMail : Type 0
GroupPostIsMail =
    (s : Registered) (count : Count) (m : Mailed) (e : GroupEnvelope) (members : List Itsi) (stamp : Stamp) (pdu : List Bool)
    → IsMail count m
    → AllPairs (λ a b. a < b) members
    → stamp.number ≡ count + 1
    → is_head_of Message e.reference (heading pdu) ≡ true
    → cleared pdu ≡ pdu
    → group_refusal s m e (copies s e members stamp pdu) ≡ None
    → IsMail (count + 1) (group_posted m (copies s e members stamp pdu))

-- what a later command makes comes after all that waits
abbrev pub NewComesLast : Type 0
NewComesLast = (count : Count) (m : Mailed) (number : Number) (k : Key) → IsMail count m → count < number → ComesLast m number k

-- an item's PDU spells its value, and is the written text of that value
abbrev pub ItemsAreTexts : Type 0 → Type 0
ItemsAreTexts A = (w : Item) → IsSpelt w → Spells {A = A} (value w.pdu) w.pdu × (w.pdu ≡ canon {A = A} (value w.pdu))

-- The ranges of a state.
use Rattle.std.specs.Prelude.{◌<◌, ◌≤◌, ◌^◌, ℕ, Bool, List, length, Option, Some, None, IfSome, ◌≡◌}
use Rattle.std.specs.List.{All}
use Rattle.std.specs.declared.cmp.Ordering.{Ordering}
use Rattle.std.specs.FinMap as map
use Rattle.identity.specs.Path.{Path}
use Rattle.registration.specs.Limits.{AreLimits}
use Rattle.registration.specs.declared.rule.Rule.{Rule}
use Rattle.registration.specs.declared.radio.Radio.{Radio}
use Rattle.group_attach.specs.Attached.{Pair, Usage}
use Rattle.sds_tl.specs.Syntax.{most_bits}
use Rattle.mailbox.specs.Values.{Item, KeyInRange, latest_deadline}
use Rattle.identity.specs.BitsText.{most_bits as most_of_pdu}
use Rattle.centre_core.specs.Ranges.{RuleInRange}
use Rattle.centre_core.specs.State.{State, LastAccepted}

-- P holds of each entry of a map
abbrev pub AllEntries : {K X : Type 0} {R : K → K → Ordering} → (K → X → Type 0) → map.FinMap R X → Type 0
AllEntries P m = All (λ e. P e.0 e.1) (map.entries m)

-- a prefix of at most 48 bits, and a rule in its range
abbrev pub RuleEntryInRange : Path → Rule → Type 0
RuleEntryInRange prefix rule = (length prefix ≤ 48) × RuleInRange rule

-- the 48 bits of an identity, a station from 1 to the number of stations, and a location area of 14 bits
abbrev pub RadioInRange : ℕ → Path → Radio → Type 0
RadioInRange stations path radio = (length path ≡ 48) × (0 < radio.station) × (radio.station ≤ stations) × (radio.area < 2 ^ 14)

-- a radio and a group of 48 bits, and a class of usage of 3 bits
abbrev pub AttachmentInRange : Pair → Usage → Type 0
AttachmentInRange pair usage = (pair.0 < 2 ^ 48) × (pair.1 < 2 ^ 48) × (usage.0 < 2 ^ 3)

-- an item: its key, a deadline of at most the greatest moment and the greatest keep, at most 2,047 bits, and a group of 48
pub record ItemInRange (w : Item) : Type 0 where
  pub key : KeyInRange w.key
  pub deadline : w.deadline ≤ latest_deadline
  pub pdu : length w.pdu ≤ most_bits
  pub group : IfSome w.group (λ gtsi. gtsi < 2 ^ 48)

-- the PDU of a reply, if it has one: 1 to 2,048 bits
abbrev pub IsReply : Option (List Bool) → Type 0
IsReply None = Unit {0}
IsReply (Some bits) = (0 < length bits) × (length bits ≤ most_of_pdu)

-- a station's entry: a sequence from 1, of 32 bits, and the PDU of the reply
pub record LastAcceptedInRange (last : LastAccepted) : Type 0 where
  pub above : 0 < last.sequence
  pub sequence : last.sequence < 2 ^ 32
  pub pdu : IsReply last.pdu

-- each part of a state is in its range; IsState gives the range of the numbers
pub record StateInRange (s : State) : Type 0 where
  pub limits : AreLimits s.registered.limits.rules s.registered.limits.radios s.registered.limits.mail s.registered.limits.stations
  pub rules : AllEntries RuleEntryInRange s.registered.rules
  pub radios : AllEntries (RadioInRange s.registered.limits.stations) s.registered.radios
  pub attachments : AllEntries AttachmentInRange s.groups
  pub mail : All ItemInRange s.mail.items
  pub served : All (λ last. IfSome last LastAcceptedInRange) s.served

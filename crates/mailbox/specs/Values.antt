-- What waits in the mail, as values.
use Rattle.std.specs.Prelude.{ℕ, ◌<◌, ◌^◌, Bool, List, [], Option, refl}
use Rattle.std.specs.Coded.{Coded, code_by, coded×, coded_ℕ, coded_bool, coded_list, coded_option}
use Rattle.identity.specs.Numbers.{Gtsi}
use Rattle.registration.specs.declared.limits.Limits.{Limits}
use Rattle.mailbox.specs.Numbers.{Number, Moment}
use Rattle.mailbox.specs.declared.key.Key.{Key}
use Rattle.mailbox.specs.contracts.key.Key as key

-- a key's ranges: two identities of 48 bits and a reference of 8
abbrev pub KeyInRange : Key → Type 0
KeyInRange key = (key.destination < 2 ^ 48) × (key.source < 2 ^ 48) × (key.reference < 2 ^ 8)

-- the latest moment at which an item ends: the greatest moment and the greatest keep, in seconds, each of 32 bits
abbrev pub latest_deadline : Moment
latest_deadline = 8589934590

-- an item: its key, the number of the command that made it, the moment at which it ends, its PDU, and the group that it was
-- sent to, if it is a copy of a message to a group
pub record Item : Type 0 where
  pub key : Key
  pub number : Number
  pub deadline : Moment
  pub pdu : List Bool
  pub group : Option Gtsi

-- the mail: how many items it takes, and the items, the oldest first
pub record Mailed : Type 0 where
  pub room : ℕ
  pub items : List Item

-- the coding of an item, for proofs
abbrev pub coded_item : Coded Item
coded_item =
    code_by (Key × (ℕ × (ℕ × (List Bool × Option ℕ))))
    (coded× (key.the_row).coded (coded× coded_ℕ (coded× coded_ℕ (coded× (coded_list coded_bool) (coded_option coded_ℕ)))))
    (λ w. (w.key, (w.number, (w.deadline, (w.pdu, w.group)))))
    (λ p. record { key = p.0; number = p.1.0; deadline = p.1.1.0; pdu = p.1.1.1.0; group = p.1.1.1.1 }) (λ _. refl)

-- the coding of the mail: its room, and its items one after another
abbrev pub coded_mailed : Coded Mailed
coded_mailed =
    code_by (ℕ × List Item) (coded× coded_ℕ (coded_list coded_item))
    (λ m. (m.room, m.items)) (λ p. record { room = p.0; items = p.1 }) (λ _. refl)

-- nothing waits
abbrev pub empty_mailed : Limits → Mailed
empty_mailed limits = record { room = limits.mail; items = [] }

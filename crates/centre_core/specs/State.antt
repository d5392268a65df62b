-- The register as a machine: its state.
use Rattle.std.specs.Prelude.{◌≡◌, ◌<◌, ◌≤◌, ℕ, Bool, List, length, replicate, Option, Some, None, refl}
use Rattle.std.specs.Coded.{Coded, code_by, coded×, coded_ℕ, coded_bool, coded_list, coded_option}
use Rattle.std.specs.FinMap as map
use Rattle.std.specs.List.{All}
use Rattle.registration.specs.declared.limits.Limits.{Limits}
use Rattle.registration.specs.Registered.{Registered, coded_registered, empty_registered}
use Rattle.group_attach.specs.Attached.{Attached, coded_attached, no_groups}
use Rattle.group_attach.specs.Allowed.{AreAllowed}
use Rattle.mailbox.specs.Numbers.{Number, Count}
use Rattle.mailbox.specs.Values.{Mailed, coded_mailed, empty_mailed}
use Rattle.mailbox.specs.Sound.{IsMail}
use Rattle.centre_core.specs.Numbers.{Sequence}

-- the entry of a station's last accepted command: its sequence, its number and the PDU of its reply
pub record LastAccepted : Type 0 where
  pub sequence : Sequence
  pub number : Number
  pub pdu : Option (List Bool)

-- how it is stored: its three fields, one after another
abbrev pub coded_last_accepted : Coded LastAccepted
coded_last_accepted =
    code_by (ℕ × (ℕ × Option (List Bool))) (coded× coded_ℕ (coded× coded_ℕ (coded_option (coded_list coded_bool))))
    (λ k. (k.sequence, (k.number, k.pdu))) (λ p. record { sequence = p.0; number = p.1.0; pdu = p.1.1 }) (λ _. refl)

-- the limits, rules and radios; how each radio is attached to its groups; the mail; the entry of each station's last accepted
-- command, that of station 1 first; and how many commands were accepted
pub record State : Type 0 where
  pub registered : Registered
  pub groups : Attached
  pub mail : Mailed
  pub served : List (Option LastAccepted)
  pub count : Count

-- how a state is stored: its parts, one after another
abbrev pub coded_state : Coded State
coded_state =
    code_by (Registered × (Attached × (Mailed × (List (Option LastAccepted) × ℕ))))
    (coded× coded_registered (coded× coded_attached (coded× coded_mailed (coded× (coded_list (coded_option coded_last_accepted)) coded_ℕ))))
    (λ s. (s.registered, (s.groups, (s.mail, (s.served, s.count)))))
    (λ p. record { registered = p.0; groups = p.1.0; mail = p.1.1.0; served = p.1.1.1.0; count = p.1.1.1.1 }) (λ _. refl)

-- a station's entry, if it has one, has the number of one of the commands that were accepted
abbrev pub IsOfAccepted : Count → Option LastAccepted → Type 0
IsOfAccepted count None = Unit {0}
IsOfAccepted count (Some last) = (0 < last.number) × (last.number ≤ count)

-- there are no more rules and radios than the limits allow
pub record IsWithin (r : Registered) : Type 0 where
  pub rules : map.len r.rules ≤ r.limits.rules
  pub radios : map.len r.radios ≤ r.limits.radios

-- the mail is in order, and has the room that the limits give it
pub record IsMailOf (r : Registered) (count : Count) (m : Mailed) : Type 0 where
  pub in_order : IsMail count m
  pub room : m.room ≡ r.limits.mail

-- the greatest number of an accepted command, 2 to the 62nd
abbrev pub last_number : Number
last_number = 4611686018427387904

-- what holds of every state: the limits are kept, the attachments are allowed, the mail is in order, each station has an
-- entry, and the entries are of commands that were accepted
pub record IsState (s : State) : Type 0 where
  pub within : IsWithin s.registered
  pub attachments : AreAllowed s.registered s.groups
  pub mail : IsMailOf s.registered s.count s.mail
  pub stations : length s.served ≡ s.registered.limits.stations
  pub count : s.count ≤ last_number
  pub last : All (IsOfAccepted s.count) s.served

-- no rule, no radio, no attachment, no waiting item, and no accepted command of any station
abbrev pub empty : Limits → State
empty limits = record {
  registered = empty_registered limits;
  groups = no_groups;
  mail = empty_mailed limits;
  served = replicate limits.stations None;
  count = 0;
}

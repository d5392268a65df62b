-- What a loader holds: the loading that the rows so far make.
use Rattle.std.specs.Prelude.{◌≡◌, ◌<◌, ◌≤◌, Bool, true, false, ◌&&◌, List, length, Option, Some, None, if◌then◌else◌, nat_le, unwrap_or}
use Rattle.std.specs.List.{All}
use Rattle.identity.specs.Numbers.{Itsi, Byte}
use Rattle.std.specs.Option.{is_some}
use Rattle.std.specs.Ordering.{nat_cmp}
use Rattle.std.specs.FinMap as map
use Rattle.registration.specs.declared.limits.Limits.{Limits}
use Rattle.registration.specs.declared.radio.Radio.{Radio}
use Rattle.registration.specs.Registered.{radio_of}
use Rattle.group_attach.specs.Applied.{most_of_radio}
use Rattle.group_attach.specs.Allowed.{AreKnown}
use Rattle.centre_core.specs.State.{State}
use Rattle.image_rows.specs.Rows.{Row, HeaderRow, RuleRow, RadioRow, MailRow, ServedRow, Header, Group, RowInRange}
use Rattle.image_rows.specs.RowReading.{row_in}
use Rattle.image_rows.specs.Loading.{◌>>=◌, Loading, begun, row_taken, all_taken, taken_radio}

-- the header, once it came, and the state so far
abbrev pub loading : Option Header → State → Loading
loading header s = record { header = header; state = s }

-- the loading with the row that the bytes spell, if that row may come next
abbrev pub taken_from : Loading → List Byte → Option Loading
taken_from l bytes = row_in bytes >>= row_taken l

-- the loading is what rows in their ranges make, taken one after another
pub record IsLoaded (l : Loading) : Type 0 where
  pub limits : Limits
  pub rows : List Row
  pub in_range : All RowInRange rows
  pub taken : all_taken (begun limits) rows ≡ Some l

-- what holds between two rows: there is room for all rows that the header states, and each attachment has its radio
pub record IsHeld (h : Header) (s : State) : Type 0 where
  pub rules : h.rules ≤ s.registered.limits.rules
  pub radios : h.radios ≤ s.registered.limits.radios
  pub mail : h.mail ≤ s.mail.room
  pub known : AreKnown s.registered s.groups

-- the radio is not there yet, and there is room for it
pub record IsPlace (s : State) (itsi : Itsi) : Type 0 where
  pub new : radio_of s.registered itsi ≡ None
  pub room : map.len s.registered.radios < s.registered.limits.radios
  pub known : AreKnown s.registered s.groups

-- the state with a radio and its groups, if the groups are in order and not too many
abbrev pub with_groups : State → Itsi → Radio → List Group → Option State
with_groups s itsi radio groups = if nat_le (length groups) most_of_radio && map.is_sorted nat_cmp groups then Some (taken_radio s itsi radio groups) else None

-- the outcome of a row: whether it was taken, and the new value, which is the old one if it was not
abbrev pub IsOutcome : {X : Type 0} → Option X → X → Bool → X → Type 0
IsOutcome next old taken new = (taken ≡ is_some next) × (new ≡ unwrap_or next old)

-- whether a row needs memory: a header does not, nor does a reply without a PDU
abbrev pub needs_memory : Row → Bool
needs_memory (HeaderRow h) = false
needs_memory (RuleRow prefix rule) = true
needs_memory (RadioRow itsi radio groups) = true
needs_memory (MailRow w) = true
needs_memory (ServedRow station last) = is_some last.pdu

-- The state that rows make, taken one after another.
use Rattle.std.specs.Prelude.{◌-◌, ◌==◌, Bool, ◌&&◌, not, nat_le, nat_lt, if◌then◌else◌, Option, Some, None}
use Rattle.std.specs.Prelude.{List, [], ◌∷◌, length, map as each, count_by, drop, slice_set}
use Rattle.std.specs.List.{list_all}
use Rattle.std.specs.Option.{is_some}
use Rattle.std.specs.Ordering.{nat_cmp, is_lt}
use Rattle.std.specs.declared.cmp.Ordering.{Ordering}
use Rattle.std.specs.FinMap as map
use Rattle.identity.specs.Numbers.{Itsi}
use Rattle.identity.specs.Path.{Path, id_path}
use Rattle.registration.specs.Numbers.{Station}
use Rattle.registration.specs.declared.limits.Limits.{Limits}
use Rattle.registration.specs.declared.rule.Rule.{Rule}
use Rattle.registration.specs.declared.radio.Radio.{Radio}
use Rattle.registration.specs.Registered.{with_rule}
use Rattle.group_attach.specs.declared.attachment.Attachment.{Attachment}
use Rattle.group_attach.specs.Applied.{most_of_radio}
use Rattle.group_attach.specs.Attached.{Attached, all_attached}
use Rattle.mailbox.specs.Numbers.{Number, Count}
use Rattle.mailbox.specs.Values.{Item}
use Rattle.mailbox.specs.Sound.{is_as_named}
use Rattle.mailbox.specs.Mail.{holds, with_item}
use Rattle.mailbox.specs.Order.{named, named_cmp}
use Rattle.mailbox.specs.Refusals.{most_for_one}
use Rattle.mailbox.specs.Item.{is_to}
use Rattle.centre_core.specs.State.{State, LastAccepted, empty, last_number}
use Rattle.image_rows.specs.Numbers.{Epoch}
use Rattle.image_rows.specs.Rows.{Row, HeaderRow, RuleRow, RadioRow, MailRow, ServedRow, Header, Group, how_many}

infixl 10 ◌>>=◌
-- a step and then the next one; nothing if either gives nothing
abbrev pub ◌>>=◌ : {A B : Type 0} → Option A → (A → Option B) → Option B
(Some x) >>= f = f x
None >>= f = None

-- the header, once it came, and the state of the rows so far
pub record Loading : Type 0 where
  pub header : Option Header
  pub state : State

-- before the first row: an empty register with these limits
abbrev pub begun : Limits → Loading
begun limits = record { header = None; state = empty limits }

-- k comes after all keys of the map
unfoldable pub is_next : {K X : Type 0} {R : K → K → Ordering} → map.FinMap R X → K → Bool
is_next {K} {X} {R} m k = list_all (λ e. is_lt (R e.0 k)) (map.entries m)

-- ---- each kind of row: whether it may come now, and the state with it

-- the header states no more rows than the limits allow, and no more commands than there are numbers
abbrev pub header_may : Limits → Header → Bool
header_may limits h =
    nat_le h.count last_number && nat_le h.rules limits.rules && nat_le h.radios limits.radios
    && nat_le h.mail limits.mail && nat_le h.served limits.stations

-- all rules that the header states have come
abbrev pub rules_done : Header → State → Bool
rules_done h s = map.len s.registered.rules == h.rules

-- all rules and radios have come
abbrev pub radios_done : Header → State → Bool
radios_done h s = rules_done h s && (map.len s.registered.radios == h.radios)

-- all rules, radios and items have come
abbrev pub mail_done : Header → State → Bool
mail_done h s = radios_done h s && (length s.mail.items == h.mail)

-- all rows that the header states have come
abbrev pub all_done : Header → State → Bool
all_done h s = mail_done h s && (how_many s.served == h.served)

-- the number is that of an accepted command
abbrev pub is_numbered : Count → Number → Bool
is_numbered count number = nat_lt 0 number && nat_le number count

-- one more rule is to come, and its prefix comes after those of the others
abbrev pub rule_may : Header → State → Path → Bool
rule_may h s prefix = nat_lt (map.len s.registered.rules) h.rules && is_next s.registered.rules prefix

-- the state with the rule
abbrev pub taken_rule : State → Path → Rule → State
taken_rule s prefix rule = record s { registered = with_rule s.registered prefix rule }

-- one more radio is to come, and its number comes after those of the others
abbrev pub radio_due : Header → State → Itsi → Bool
radio_due h s itsi = rules_done h s && nat_lt (map.len s.registered.radios) h.radios && is_next s.registered.radios (id_path itsi)

-- the radio is due, and its station exists
abbrev pub place_may : Header → State → Itsi → Radio → Bool
place_may h s itsi radio = radio_due h s itsi && nat_lt 0 radio.station && nat_le radio.station s.registered.limits.stations

-- the radio is due, its station exists, and its groups are in order and not too many
abbrev pub radio_may : Header → State → Itsi → Radio → List Group → Bool
radio_may h s itsi radio groups = place_may h s itsi radio && nat_le (length groups) most_of_radio && map.is_sorted nat_cmp groups

-- a row's group as an attachment of its radio
abbrev pub attachment_in : Itsi → Group → Attachment
attachment_in itsi g = record { itsi = itsi; gtsi = g.0; class = g.1.0; lifetime = g.1.1 }

-- the attachments with those of a row's radio
abbrev pub with_attachments : Attached → Itsi → List Group → Attached
with_attachments m itsi groups = all_attached m (each (attachment_in itsi) groups)

-- the state with the radio and its groups
abbrev pub taken_radio : State → Itsi → Radio → List Group → State
taken_radio s itsi radio groups = record s {
  registered = record s.registered { radios = map.insert s.registered.radios (id_path itsi) radio };
  groups = with_attachments s.groups itsi groups;
}

-- the item comes after all of these
abbrev pub comes_last : List Item → Item → Bool
comes_last items w = list_all (λ o. is_lt (named_cmp (named o) (named w))) items

-- one more item is to come, its number is that of an accepted command, and it comes after all waiting items
abbrev pub before_place : Header → State → Item → Bool
before_place h s w = radios_done h s && nat_lt (length s.mail.items) h.mail && is_numbered s.count w.number && comes_last s.mail.items w

-- the destination has fewer of these items than it may have
abbrev pub has_room_for : List Item → Itsi → Bool
has_room_for items destination = nat_lt (count_by (is_to destination) items) most_for_one

-- the item comes after all waiting items, its key is new, there is room for it, and its PDU fits its key
abbrev pub mail_may : Header → State → Item → Bool
mail_may h s w =
    before_place h s w && not (holds s.mail w.key) && has_room_for s.mail.items w.key.destination
    && is_as_named w

-- the state with the item, as the last
abbrev pub taken_mail : State → Item → State
taken_mail s w = record s { mail = with_item s.mail w }

-- none of these stations has an accepted command
abbrev pub are_free : List (Option LastAccepted) → Bool
are_free served = list_all (λ last. not (is_some last)) served

-- one more station is to come, it exists, and it comes after those that have an accepted command
abbrev pub station_due : Header → State → Station → Bool
station_due h s station =
    mail_done h s && nat_lt (how_many s.served) h.served && nat_lt 0 station && nat_le station (length s.served)
    && are_free (drop (station - 1) s.served)

-- the station is due, and its last accepted command has a number that was given
abbrev pub served_may : Header → State → Station → LastAccepted → Bool
served_may h s station last = station_due h s station && is_numbered s.count last.number

-- the state with the station's last accepted command
abbrev pub taken_served : State → Station → LastAccepted → State
taken_served s station last = record s { served = slice_set s.served (station - 1) (Some last) }

-- ---- one row, and all of them

-- the state with a row after the header, if that row may come
abbrev pub put : Header → State → Row → Option State
put h s (HeaderRow again) = None
put h s (RuleRow prefix rule) = if rule_may h s prefix then Some (taken_rule s prefix rule) else None
put h s (RadioRow itsi radio groups) = if radio_may h s itsi radio groups then Some (taken_radio s itsi radio groups) else None
put h s (MailRow w) = if mail_may h s w then Some (taken_mail s w) else None
put h s (ServedRow station last) = if served_may h s station last then Some (taken_served s station last) else None

-- the loading with the first row, if that is a header that may come
abbrev pub begin : State → Row → Option Loading
begin s (HeaderRow h) = if header_may s.registered.limits h then Some (record { header = Some h; state = record s { count = h.count } }) else None
begin s (RuleRow prefix rule) = None
begin s (RadioRow itsi radio groups) = None
begin s (MailRow w) = None
begin s (ServedRow station last) = None

-- the header as the first row, and any other row after it
abbrev pub take_by : Option Header → State → Row → Option Loading
take_by None s row = begin s row
take_by (Some h) s row = put h s row >>= λ n. Some (record { header = Some h; state = n })

-- the loading with one more row, if that row may come next
unfoldable pub row_taken : Loading → Row → Option Loading
row_taken l row = take_by l.header l.state row

-- the loading with these rows, taken one after another
abbrev pub all_taken : Loading → List Row → Option Loading
all_taken l [] = Some l
all_taken l (row ∷ rows) = row_taken l row >>= λ n. all_taken n rows

-- the epoch and the state, once all rows that the header states have come
abbrev pub finished_by : Option Header → State → Option (Epoch × State)
finished_by None s = None
finished_by (Some h) s = if all_done h s then Some (h.epoch, s) else None

-- the epoch and the state of a loading, once all its rows have come
unfoldable pub finished : Loading → Option (Epoch × State)
finished l = finished_by l.header l.state

-- the epoch and the state that rows make
abbrev pub state_of_rows : Limits → List Row → Option (Epoch × State)
state_of_rows limits rows = all_taken (begun limits) rows >>= finished

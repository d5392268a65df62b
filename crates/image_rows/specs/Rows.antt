-- The rows of an image, as values: a state is stored as these, in this order.
use Rattle.std.specs.Prelude.{ℕ, ◌+◌, ◌<◌, ◌≤◌, ◌^◌, ◌≡◌, List, [], ◌∷◌, ◌++◌, length, map as each, count_by, Option, Some, None}
use Rattle.std.specs.List.{All}
use Rattle.std.specs.Option.{is_some}
use Rattle.std.specs.FinMap as map
use Rattle.identity.specs.Numbers.{Itsi, Gtsi}
use Rattle.identity.specs.Number.{number}
use Rattle.identity.specs.Path.{Path}
use Rattle.registration.specs.Numbers.{Station}
use Rattle.registration.specs.declared.rule.Rule.{Rule}
use Rattle.registration.specs.declared.radio.Radio.{Radio}
use Rattle.sds_tl.specs.Reading.{cleared}
use Rattle.group_attach.specs.Attached.{Attached, Pair, Usage, of_radio}
use Rattle.mailbox.specs.Numbers.{Count}
use Rattle.mailbox.specs.Values.{Item}
use Rattle.centre_core.specs.State.{State, LastAccepted}
use Rattle.centre_core.specs.StateRanges.{RuleEntryInRange, ItemInRange, LastAcceptedInRange}
use Rattle.image_rows.specs.Numbers.{Epoch}

-- the first row: the image's epoch, how many commands were accepted, and how many rows of each kind follow
pub record Header : Type 0 where
  pub epoch : Epoch
  pub count : Count
  pub rules : ℕ
  pub radios : ℕ
  pub mail : ℕ
  pub served : ℕ

-- how many rows the header states, itself among them
abbrev pub row_count : Header → ℕ
row_count h = 1 + h.rules + h.radios + h.mail + h.served

-- a group's number, and how the row's radio is attached to it
abbrev pub Group : Type 0
Group = Gtsi × Usage

-- a rule under its prefix; a radio's number, where it is, and its groups; a waiting item; a station's last accepted command
pub data Row : Type 0 where
  HeaderRow : Header → Row
  RuleRow : Path → Rule → Row
  RadioRow : Itsi → Radio → List Group → Row
  MailRow : Item → Row
  ServedRow : Station → LastAccepted → Row

-- ---- what a row can hold

-- the last epoch, 2 to the 62nd
abbrev pub last_epoch : Epoch
last_epoch = 4611686018427387904

-- epochs count from 1; the count has 64 bits, each number of rows 32
pub record HeaderInRange (h : Header) : Type 0 where
  pub some : 0 < h.epoch
  pub most : h.epoch ≤ last_epoch
  pub count : h.count < 2 ^ 64
  pub rules : h.rules < 2 ^ 32
  pub radios : h.radios < 2 ^ 32
  pub mail : h.mail < 2 ^ 32
  pub served : h.served < 2 ^ 32

-- a group of 48 bits, and a class of usage of 3
abbrev pub GroupInRange : Group → Type 0
GroupInRange g = (g.0 < 2 ^ 48) × (g.1.0 < 2 ^ 3)

-- an identity of 48 bits, a station of 16, a location area of 14, and as many groups as a byte counts
pub record RadioRowInRange (itsi : Itsi) (radio : Radio) (groups : List Group) : Type 0 where
  pub number : itsi < 2 ^ 48
  pub station : radio.station < 2 ^ 16
  pub area : radio.area < 2 ^ 14
  pub count : length groups < 2 ^ 8
  pub each_group : All GroupInRange groups

-- an item whose number has 64 bits, its PDU in the written form
pub record MailRowInRange (w : Item) : Type 0 where
  pub item : ItemInRange w
  pub number : w.number < 2 ^ 64
  pub written : cleared w.pdu ≡ w.pdu

-- a station of 16 bits, and a number of 64
pub record ServedRowInRange (station : Station) (last : LastAccepted) : Type 0 where
  pub place : station < 2 ^ 16
  pub kept : LastAcceptedInRange last
  pub number : last.number < 2 ^ 64

-- the fields of a row are in their ranges
abbrev pub RowInRange : Row → Type 0
RowInRange (HeaderRow h) = HeaderInRange h
RowInRange (RuleRow prefix rule) = RuleEntryInRange prefix rule
RowInRange (RadioRow itsi radio groups) = RadioRowInRange itsi radio groups
RowInRange (MailRow w) = MailRowInRange w
RowInRange (ServedRow station last) = ServedRowInRange station last

-- ---- the rows of a state

-- how many stations had a command accepted
abbrev pub how_many : List (Option LastAccepted) → ℕ
how_many served = count_by is_some served

-- the header of a state's image with this epoch
abbrev pub header_of : Epoch → State → Header
header_of epoch s = record {
  epoch = epoch;
  count = s.count;
  rules = map.len s.registered.rules;
  radios = map.len s.registered.radios;
  mail = length s.mail.items;
  served = how_many s.served;
}

-- the row of a rule under its prefix
abbrev pub rule_row : Path × Rule → Row
rule_row e = RuleRow e.0 e.1

-- a group of a radio, and how the radio is attached to it
abbrev pub group_of : Pair × Usage → Group
group_of e = (e.0.1, e.1)

-- a radio's groups by number, each with how the radio is attached to it
abbrev pub groups_of : Attached → Itsi → List Group
groups_of m itsi = each group_of (map.entries (of_radio m itsi))

-- the row of a radio, whose path is the bits of its number
abbrev pub radio_row : Attached → Path × Radio → Row
radio_row groups e = RadioRow (number e.0) e.1 (groups_of groups (number e.0))

-- the rows of the stations from this one on that have an accepted command
abbrev pub served_rows : Station → List (Option LastAccepted) → List Row
served_rows station [] = []
served_rows station (None ∷ served) = served_rows (station + 1) served
served_rows station (Some last ∷ served) = ServedRow station last ∷ served_rows (station + 1) served

-- the rows of a state: the header; the rules by prefix; the radios by number, each with its groups by number; the waiting
-- items, oldest first; and the stations that have an accepted command
abbrev pub rows_of : Epoch → State → List Row
rows_of epoch s =
    HeaderRow (header_of epoch s)
    ∷ (each rule_row (map.entries s.registered.rules)
    ++ (each (radio_row s.groups) (map.entries s.registered.radios)
    ++ (each MailRow s.mail.items
    ++ served_rows 1 s.served)))

-- What a line asks. A is the allocator of its bits; nothing depends on it.
use Rattle.std.specs.Prelude.{◌≡◌, All, false, ℕ, zero, suc, Bool, true, List, [], ◌∷◌, length, Option, Some, None, IsTrue}
use Rattle.std.specs.Prelude.{nat_lt, nat_le, ◌==◌, if◌then◌else◌, codes}
use Rattle.std.specs.List.{slice_split}
use Rattle.std.specs.Option.{option_and_then, option_map}
use Rattle.std.specs.Result.{result_ok}
use Rattle.std.specs.Str.{bytes_eq}
use Rattle.identity.specs.Numbers.{Itsi, Gtsi, Byte}
use Rattle.identity.specs.Path.{Path}
use Rattle.identity.specs.NumberText.{reading_number}
use Rattle.identity.specs.IdentityText.{reading_identity, reading_prefix}
use Rattle.identity.specs.BitsText.{reading_bits}
use Rattle.mm_pdus.specs.declared.lifetime.Lifetime.{Lifetime}
use Rattle.mm_pdus.specs.Values.{lifetime_of}
use Rattle.registration.specs.Numbers.{Area, Station, Seconds}
use Rattle.registration.specs.Rule.{Rule}
use Rattle.sds_tl.specs.Numbers.{Reference}
use Rattle.mailbox.specs.Numbers.{Moment}
use Rattle.mailbox.specs.declared.key.Key.{Key}
use Rattle.mailbox.specs.declared.key.Kind.{Kind}
use Rattle.mailbox.specs.declared.key.Kind.TheVariants.{Message, Report}
use Rattle.centre_core.specs.Numbers.{Sequence}
use Rattle.centre_core.specs.Ranges.{pdu_of}
use Rattle.centre_core.specs.Memory.{is_long}
use Rattle.centre_core.specs.declared.command.Command.{Command}
use Rattle.centre_core.specs.declared.command.Body.{Body}
use Rattle.centre_core.specs.declared.command.Body.TheVariants.{RuleSet, RuleClear, Mm, Sds, GroupSds, Sent, Expire, Delete}
use Rattle.centre_core.specs.declared.query.Query.{Query}
use Rattle.centre_core.specs.declared.query.Query.TheVariants.{Whereabouts, Look, GroupsOf, MembersOf, Waiting, Total}
use Rattle.listings.specs.declared.listing.Listing.{Listing}
use Rattle.listings.specs.declared.listing.Listing.TheVariants.{Entries, Last, Room, Dump}
use Rattle.listings.specs.declared.listing.Table.TheVariants.{Rules, Radios, Items, Due, WaitingAt}
use Rattle.console.specs.declared.body.Head.{Head}
use Rattle.console.specs.declared.form.Form.{Form}
use Rattle.console.specs.declared.form.Form.TheVariants as form
use Rattle.console.specs.declared.form.BodyForm.{BodyForm}
use Rattle.console.specs.declared.form.BodyForm.TheVariants as body_form
use Rattle.console.specs.declared.form.QueryForm.{QueryForm}
use Rattle.console.specs.declared.form.QueryForm.TheVariants as query_form
use Rattle.console.specs.declared.form.ListingForm.{ListingForm}
use Rattle.console.specs.declared.form.ListingForm.TheVariants as listing_form
use Rattle.console.specs.declared.line.LineFault.TheVariants.{Syntax, Value, TooLong}
use Rattle.console.specs.declared.line.Line.{Line}
use Rattle.console.specs.declared.line.Line.TheVariants.{Silent, Bad, Apply, Ask, Print, Mark, OwnStation, Service, Forbidden}
use Rattle.console.specs.Forms.{word, form_of_words}
use Rattle.console.specs.Mark.{mark_in}

-- no byte of the text is this one, such as a space or a line feed
abbrev pub Lacks : Byte → List Byte → Type 0
Lacks mark text = All (λ b. (b == mark) ≡ false) text

-- the words of a line: the bytes between its spaces
abbrev pub words : List Byte → List (List Byte)
words line = slice_split (λ b. b == 32) line

-- the words of the rest of a line after its first space; none if there is no space
abbrev pub words_after : Option (List Byte) → List (List Byte)
words_after None = []
words_after (Some rest) = words rest

-- an identity, of 48 bits
abbrev pub identity_in : List ℕ → Option ℕ
identity_in word = result_ok (reading_identity word)

-- a moment, or a keep time in seconds: 0 to 4,294,967,295
abbrev pub seconds_in : List Byte → Option Seconds
seconds_in word = result_ok (reading_number 4294967295 word)

-- a number that is not 0
abbrev pub not_zero : ℕ → Option ℕ
not_zero zero = None
not_zero (suc n) = Some (suc n)

-- a sequence: 1 to 4,294,967,295
abbrev pub sequence_in : List Byte → Option Sequence
sequence_in word = option_and_then not_zero (seconds_in word)

-- a sequence and a moment, if both are in range
abbrev pub head_of : Option Sequence → Option Moment → Option Head
head_of (Some sequence) (Some moment) = Some (record { sequence = sequence; moment = moment })
head_of sequence moment = None

-- SEQ MOMENT, which come before the body of a command
abbrev pub head_in : List Byte → List Byte → Option Head
head_in sequence moment = head_of (sequence_in sequence) (seconds_in moment)

-- a location area: 0 to 16,383
abbrev pub area_in : List Byte → Option Area
area_in word = result_ok (reading_number 16383 word)

-- a lifetime: 0 to 3
abbrev pub lifetime_in : List Byte → Option Lifetime
lifetime_in word = option_and_then lifetime_of (result_ok (reading_number 3 word))

-- a rule, if each of its values is in range and the low area is not above the high one
abbrev pub rule_of : Option Area → Option Area → Option Lifetime → Option Seconds → Option Rule
rule_of (Some low) (Some high) (Some lifetime) (Some keep) = if nat_le low high
    then Some (record { low = low; high = high; lifetime = lifetime; keep = keep }) else None
rule_of low high lifetime keep = None

-- LOW HIGH LIFE KEEP
abbrev pub rule_in : List Byte → List Byte → List Byte → List Byte → Option Rule
rule_in low high lifetime keep = rule_of (area_in low) (area_in high) (lifetime_in lifetime) (seconds_in keep)

-- a prefix, of at most 48 bits
abbrev pub prefix_in : List ℕ → Option Path
prefix_in word = result_ok (reading_prefix word)

-- a PDU, of at most 2,048 bits
abbrev pub pdu_in : List ℕ → Option (List Bool)
pdu_in word = result_ok (reading_bits word)

-- a message reference: 0 to 255
abbrev pub reference_in : List Byte → Option Reference
reference_in word = result_ok (reading_number 255 word)

-- a message or a report
abbrev pub kind_in : List Byte → Option Kind
kind_in word = if bytes_eq word (codes "m") then Some Message else if bytes_eq word (codes "r") then Some Report else None

-- a key, if each of its parts is in range
abbrev pub key_of : Option Itsi → Option Itsi → Option Reference → Option Kind → Option Key
key_of (Some destination) (Some source) (Some reference) (Some kind) =
    Some (record { destination = destination; source = source; reference = reference; kind = kind })
key_of destination source reference kind = None

-- DEST SOURCE REF KIND
abbrev pub key_in : List Byte → List Byte → List Byte → List Byte → Option Key
key_in destination source reference kind = key_of (identity_in destination) (identity_in source) (reference_in reference) (kind_in kind)

-- a station: 0 to 65,535
abbrev pub station_in : List Byte → Option Station
station_in word = result_ok (reading_number 65535 word)

-- the radios under a prefix
abbrev pub radios_under : Path → Listing
radios_under prefix = Entries (Radios (Some prefix))

-- the items that are due at a moment
abbrev pub due_at : Moment → Listing
due_at moment = Entries (Due moment)

-- the items that wait at a station
abbrev pub waiting_at : Station → Listing
waiting_at station = Entries (WaitingAt station)

-- the query that words of this form ask, if each is in range
abbrev pub query_in : QueryForm → List (List Byte) → Option Query
query_in query_form.Whereabouts words = option_map Whereabouts (identity_in (word 1 words))
query_in query_form.Look words = option_map Look (identity_in (word 1 words))
query_in query_form.GroupsOf words = option_map GroupsOf (identity_in (word 1 words))
query_in query_form.MembersOf words = option_map MembersOf (identity_in (word 1 words))
query_in query_form.Waiting words = option_map Waiting (identity_in (word 1 words))
query_in query_form.Total words = Some Total

-- the listing that words of this form ask for, if each is in range
abbrev pub listing_in : ListingForm → List (List Byte) → Option Listing
listing_in listing_form.Rules words = Some (Entries Rules)
listing_in listing_form.Radios words = Some (Entries (Radios None))
listing_in listing_form.RadiosUnder words = option_map radios_under (prefix_in (word 1 words))
listing_in listing_form.Items words = Some (Entries Items)
listing_in listing_form.Due words = option_map due_at (seconds_in (word 1 words))
listing_in listing_form.WaitingAt words = option_map waiting_at (station_in (word 1 words))
listing_in listing_form.Last words = option_map Last (station_in (word 1 words))
listing_in listing_form.Room words = Some Room
listing_in listing_form.Dump words = Some Dump

module _ {A : Type 0} where
  -- PREFIX LOW HIGH LIFE KEEP, after `rule`
  abbrev pub rule_body : Option Path → Option Rule → Option (Body A)
  rule_body (Some prefix) (Some rule) = Some (RuleSet prefix rule)
  rule_body prefix rule = None

  -- ITSI LA PDU, after `mm`
  abbrev pub mm_body : Option Itsi → Option Area → Option (List Bool) → Option (Body A)
  mm_body (Some itsi) (Some area) (Some pdu) = Some (Mm itsi area pdu)
  mm_body itsi area pdu = None

  -- SOURCE DEST PDU, after `sds`
  abbrev pub sds_body : Option Itsi → Option Itsi → Option (List Bool) → Option (Body A)
  sds_body (Some source) (Some destination) (Some pdu) = Some (Sds source destination pdu)
  sds_body source destination pdu = None

  -- SOURCE GTSI PDU, after `gsds`
  abbrev pub group_sds_body : Option Itsi → Option Gtsi → Option (List Bool) → Option (Body A)
  group_sds_body (Some source) (Some group) (Some pdu) = Some (GroupSds source group pdu)
  group_sds_body source group pdu = None

  -- the body that words of this form say, if each is in range
  abbrev pub body_in : BodyForm → List (List Byte) → Option (Body A)
  body_in body_form.RuleSet words = rule_body (prefix_in (word 3 words)) (rule_in (word 4 words) (word 5 words) (word 6 words) (word 7 words))
  body_in body_form.RuleClear words = option_map RuleClear (prefix_in (word 3 words))
  body_in body_form.Mm words = mm_body (identity_in (word 3 words)) (area_in (word 4 words)) (pdu_in (word 5 words))
  body_in body_form.Sds words = sds_body (identity_in (word 3 words)) (identity_in (word 4 words)) (pdu_in (word 5 words))
  body_in body_form.GroupSds words = group_sds_body (identity_in (word 3 words)) (identity_in (word 4 words)) (pdu_in (word 5 words))
  body_in body_form.Sent words = option_map Sent (key_in (word 3 words) (word 4 words) (word 5 words) (word 6 words))
  body_in body_form.Expire words = Some Expire
  body_in body_form.Delete words = option_map Delete (key_in (word 3 words) (word 4 words) (word 5 words) (word 6 words))

  -- a command of this station, by its head and its body
  abbrev pub command_of : Station → Option Head → Option (Body A) → Option (Command A)
  command_of station (Some head) (Some body) = Some (record { station = station; sequence = head.sequence; moment = head.moment; body = body })
  command_of station head body = None

  -- the line that `says` makes of a value; a bad line, if there is no value
  abbrev pub line_of : {V : Type 0} → (V → Line A) → Option V → Line A
  line_of says (Some value) = says value
  line_of says None = Bad Value

  -- what the words of a command say
  abbrev pub command_line : Station → BodyForm → List (List Byte) → Line A
  command_line station form words = line_of Apply (command_of station (head_in (word 0 words) (word 1 words)) (body_in form words))

  -- what words of this form say
  abbrev pub of_form : Station → Form → List (List Byte) → Line A
  of_form station (form.Apply body) words = command_line station body words
  of_form station (form.Ask query) words = line_of Ask (query_in query words)
  of_form station (form.Print listing) words = line_of Print (listing_in listing words)
  of_form station form.Mark words = line_of Mark (mark_in (word 1 words))
  of_form station form.OwnStation words = OwnStation station
  of_form station form.Service words = Service

  -- What words of this form say. Words without a form are bad syntax, whatever they are.
  abbrev pub by_form : Station → Option Form → List (List Byte) → Line A
  by_form station None words = Bad Syntax
  by_form station (Some form) words = of_form station form words

  -- what words say
  abbrev pub of_words : Station → List (List Byte) → Line A
  of_words station words = by_form station (form_of_words words) words

-- the most bytes of a line, without its end
abbrev pub longest_line : ℕ
longest_line = 1024

-- whose lines are read: a station, and whether it may give orders
pub record Speaker : Type 0 where
  pub station : Station
  pub orders : Bool

-- empty, or a comment
abbrev pub is_silent : List Byte → Bool
is_silent [] = true
is_silent (b ∷ bs) = b == 35

module _ {A : Type 0} where
  -- what a line of this station says. A line that is too long is bad, even a comment
  abbrev pub reading : Station → List Byte → Line A
  reading station line =
      if nat_lt longest_line (length line) then Bad TooLong
      else if is_silent line then Silent
      else of_words station (words line)

  -- the body is an order: it changes the rules, or ends messages without their radios
  abbrev pub is_order : Body A → Bool
  is_order (RuleSet prefix rule) = true
  is_order (RuleClear prefix) = true
  is_order Expire = true
  is_order (Delete key) = true
  is_order other = false

  -- The line as it is, if the station may give orders (`true`). Else a command that is an order is forbidden.
  abbrev pub permitted : Bool → Line A → Line A
  permitted true line = line
  permitted false (Apply c) = if is_order c.body then Forbidden c.sequence else Apply c
  permitted false other = other

  -- what a line from this speaker asks: what the line says, if the speaker may ask for that
  abbrev pub heard : Speaker → List Byte → Line A
  heard speaker line = permitted speaker.orders (reading speaker.station line)

  -- the body has a PDU of more than 64 bits
  abbrev pub HasLongPdu : Body A → Type 0
  HasLongPdu body = IsTrue (is_long (pdu_of body))

  -- there is a body, and it has such a PDU
  abbrev pub GivesLongPdu : Option (Body A) → Type 0
  GivesLongPdu (Some body) = HasLongPdu body
  GivesLongPdu None = ⊥

  -- the sequence of a command with this body, if its PDU has more than 64 bits
  abbrev pub with_long_pdu : Sequence → Body A → Option Sequence
  with_long_pdu sequence body = if is_long (pdu_of body) then Some sequence else None

  -- the sequence of a line that is a command with such a PDU
  abbrev pub sequence_of : Line A → Option Sequence
  sequence_of (Apply c) = with_long_pdu c.sequence c.body
  sequence_of other = None

-- The lines that spell a command, a query, a listing or a mark.
use Rattle.std.specs.Prelude.{◌≡◌, ◌↔◌, ◌⊎◌, ◌<◌, ◌≤◌, ◌^◌, Bool, true, false, length, List, [], ◌∷◌, ◌++◌, Some, None, codes, decimal}
use Rattle.std.specs.List.{join_with_byte}
use Rattle.std.specs.Option.{is_some}
use Rattle.identity.specs.Numbers.{Byte}
use Rattle.identity.specs.IdentityText.{identity_text, prefix_text}
use Rattle.identity.specs.BitsText.{SpellsBits}
use Rattle.mm_pdus.specs.Values.{lifetime_number}
use Rattle.registration.specs.Numbers.{Station}
use Rattle.mailbox.specs.declared.key.Key.{Key}
use Rattle.centre_core.specs.declared.command.Command.{Command}
use Rattle.centre_core.specs.declared.command.Body.{Body}
use Rattle.centre_core.specs.declared.command.Body.TheVariants.{RuleSet, RuleClear, Mm, Sds, GroupSds, Sent, Expire, Delete}
use Rattle.centre_core.specs.Numbers.{Sequence}
use Rattle.centre_core.specs.Ranges.{InRange}
use Rattle.centre_core.specs.declared.query.Query.{Query}
use Rattle.centre_core.specs.declared.query.Query.TheVariants.{Whereabouts, Look, GroupsOf, MembersOf, Waiting, Total}
use Rattle.listings.specs.Words.{kind_word}
use Rattle.listings.specs.declared.listing.Listing.{Listing}
use Rattle.listings.specs.declared.listing.Listing.TheVariants.{Entries, Last, Room, Dump}
use Rattle.listings.specs.declared.listing.Table.TheVariants.{Rules, Radios, Items, Due, WaitingAt}
use Rattle.console.specs.declared.line.Line.TheVariants.{Bad, Apply, Ask, Print, Mark, OwnStation, Service, Forbidden}
use Rattle.console.specs.declared.line.LineFault.TheVariants.{Syntax, Value, TooLong}
use Rattle.console.specs.Forms.{form_of_words}
use Rattle.console.specs.Mark.{is_mark}
use Rattle.console.specs.Reading.{reading, words, is_silent, longest_line}

-- words with single spaces between them
abbrev pub spaced : List (List Byte) → List Byte
spaced words = join_with_byte 32 words

-- the words that name a message or a report
abbrev pub key_words : Key → List (List Byte)
key_words key = identity_text key.destination ∷ identity_text key.source ∷ decimal key.reference ∷ kind_word key.kind ∷ []

module _ {A : Type 0} where
  -- the words after sequence and moment; a PDU may be written with digits of either case
  abbrev pub SpellsBody : Body A → List (List Byte) → Type 0
  SpellsBody (RuleSet prefix rule) words =
      words ≡ codes "rule" ∷ prefix_text prefix ∷ decimal rule.low ∷ decimal rule.high ∷ decimal (lifetime_number rule.lifetime) ∷ decimal rule.keep ∷ []
  SpellsBody (RuleClear prefix) words = words ≡ codes "unrule" ∷ prefix_text prefix ∷ []
  SpellsBody (Mm itsi area pdu) words =
      (digits : List Byte) × SpellsBits digits pdu × (words ≡ codes "mm" ∷ identity_text itsi ∷ decimal area ∷ digits ∷ [])
  SpellsBody (Sds source destination pdu) words =
      (digits : List Byte) × SpellsBits digits pdu × (words ≡ codes "sds" ∷ identity_text source ∷ identity_text destination ∷ digits ∷ [])
  SpellsBody (GroupSds source group pdu) words =
      (digits : List Byte) × SpellsBits digits pdu × (words ≡ codes "gsds" ∷ identity_text source ∷ identity_text group ∷ digits ∷ [])
  SpellsBody (Sent key) words = words ≡ codes "sent" ∷ key_words key
  SpellsBody Expire words = words ≡ codes "expire" ∷ []
  SpellsBody (Delete key) words = words ≡ codes "delete" ∷ key_words key

  -- a command's line: its sequence, its moment and the words of its body
  abbrev pub SpellsCommand : Command A → List Byte → Type 0
  SpellsCommand c line = (body : List (List Byte)) × SpellsBody c.body body × (line ≡ spaced (decimal c.sequence ∷ decimal c.moment ∷ body))

-- a query's line
abbrev pub query_text : Query → List Byte
query_text (Whereabouts itsi) = spaced (codes "where" ∷ identity_text itsi ∷ [])
query_text (Look itsi) = spaced (codes "look" ∷ identity_text itsi ∷ [])
query_text (GroupsOf itsi) = spaced (codes "groups" ∷ identity_text itsi ∷ [])
query_text (MembersOf gtsi) = spaced (codes "members" ∷ identity_text gtsi ∷ [])
query_text (Waiting itsi) = spaced (codes "mail" ∷ identity_text itsi ∷ [])
query_text Total = codes "count"

-- the identity in a query is in range
abbrev pub Askable : Query → Type 0
Askable (Whereabouts itsi) = itsi < 2 ^ 48
Askable (Look itsi) = itsi < 2 ^ 48
Askable (GroupsOf itsi) = itsi < 2 ^ 48
Askable (MembersOf gtsi) = gtsi < 2 ^ 48
Askable (Waiting itsi) = itsi < 2 ^ 48
Askable Total = Unit {0}

-- a listing's line
abbrev pub listing_line : Listing → List Byte
listing_line (Entries Rules) = codes "rules"
listing_line (Entries (Radios None)) = codes "radios"
listing_line (Entries (Radios (Some prefix))) = spaced (codes "radios" ∷ prefix_text prefix ∷ [])
listing_line (Entries Items) = codes "items"
listing_line (Entries (Due moment)) = spaced (codes "due" ∷ decimal moment ∷ [])
listing_line (Entries (WaitingAt station)) = spaced (codes "waiting" ∷ decimal station ∷ [])
listing_line (Last station) = spaced (codes "last" ∷ decimal station ∷ [])
listing_line Room = codes "room"
listing_line Dump = codes "dump"

-- the prefix, moment or station in a listing is in range
abbrev pub Listable : Listing → Type 0
Listable (Entries Rules) = Unit {0}
Listable (Entries (Radios None)) = Unit {0}
Listable (Entries (Radios (Some prefix))) = length prefix ≤ 48
Listable (Entries Items) = Unit {0}
Listable (Entries (Due moment)) = moment < 2 ^ 32
Listable (Entries (WaitingAt station)) = station < 2 ^ 16
Listable (Last station) = station < 2 ^ 16
Listable Room = Unit {0}
Listable Dump = Unit {0}

-- a mark's line
abbrev pub mark_line : List Byte → List Byte
mark_line word = spaced (codes "mark" ∷ word ∷ [])

-- the line that asks which station this is
abbrev pub station_line : List Byte
station_line = codes "station"

-- the line that asks for the figures of the service
abbrev pub service_line : List Byte
service_line = codes "service"

-- a line from this station gives a command: it spells that command, which is in range and of the station
pub record GivesCommand {A : Type 0} (station : Station) (line : List Byte) (c : Command A) : Type 0 where
  pub of_station : c.station ≡ station
  pub in_range : InRange c
  pub spelt : SpellsCommand c line
  pub short : length line ≤ longest_line

-- a line gives a query: it is that query's line, and the query is in range
pub record GivesQuery (line : List Byte) (q : Query) : Type 0 where
  pub in_range : Askable q
  pub spelt : line ≡ query_text q
  pub short : length line ≤ longest_line

-- a line gives a listing: it is that listing's line, and the listing is in range
pub record GivesListing (line : List Byte) (l : Listing) : Type 0 where
  pub in_range : Listable l
  pub spelt : line ≡ listing_line l
  pub short : length line ≤ longest_line

-- a line gives a mark: it is that mark's line, and the word can be a mark
pub record GivesMark (line word : List Byte) : Type 0 where
  pub in_range : is_mark word ≡ true
  pub spelt : line ≡ mark_line word

-- a line is read as a command only if it gives that command
abbrev pub OnlyCommands : Type 0 → Type 0
OnlyCommands A = (station : Station) (line : List Byte) (c : Command A) → reading station line ≡ Apply c → GivesCommand station line c

-- a line is read as a query only if it gives that query
abbrev pub OnlyQueries : Type 0 → Type 0
OnlyQueries A = (station : Station) (line : List Byte) (q : Query) → reading {A = A} station line ≡ Ask q → GivesQuery line q

-- a line is read as a listing only if it gives that listing
abbrev pub OnlyListings : Type 0 → Type 0
OnlyListings A = (station : Station) (line : List Byte) (l : Listing) → reading {A = A} station line ≡ Print l → GivesListing line l

-- a line is read as a mark only if it gives that mark
abbrev pub OnlyMarks : Type 0 → Type 0
OnlyMarks A = (station : Station) (line word : List Byte) → reading {A = A} station line ≡ Mark word → GivesMark line word

-- only one line asks which station this is, and only the own station is said
abbrev pub OnlyOwnStation : Type 0 → Type 0
OnlyOwnStation A = (station said : Station) (line : List Byte) → reading {A = A} station line ≡ OwnStation said → (said ≡ station) × (line ≡ station_line)

-- only one line asks for the figures of the service
abbrev pub OnlyService : Type 0 → Type 0
OnlyService A = (station : Station) (line : List Byte) → reading {A = A} station line ≡ Service → line ≡ service_line

-- `reading` never returns `Forbidden`: that also depends on the speaker (`heard`)
abbrev pub NothingForbidden : Type 0 → Type 0
NothingForbidden A = (station : Station) (line : List Byte) (sequence : Sequence) → reading {A = A} station line ≡ Forbidden sequence → ⊥

-- each line that spells a command in range is read as that command
abbrev pub AllCommands : Type 0 → Type 0
AllCommands A = (line : List Byte) (c : Command A) → InRange c → SpellsCommand c line → length line ≤ longest_line → reading c.station line ≡ Apply c

-- each line of a query in range is read as that query
abbrev pub AllQueries : Type 0 → Type 0
AllQueries A = (station : Station) (q : Query) → Askable q → length (query_text q) ≤ longest_line → reading {A = A} station (query_text q) ≡ Ask q

-- each line of a listing in range is read as that listing
abbrev pub AllListings : Type 0 → Type 0
AllListings A = (station : Station) (l : Listing) → Listable l → reading {A = A} station (listing_line l) ≡ Print l

-- each line of a mark is read as that mark
abbrev pub AllMarks : Type 0 → Type 0
AllMarks A = (station : Station) (word : List Byte) → is_mark word ≡ true → reading {A = A} station (mark_line word) ≡ Mark word

-- the line `station` is read as the question which station this is
abbrev pub AllOwnStation : Type 0 → Type 0
AllOwnStation A = (station : Station) → reading {A = A} station station_line ≡ OwnStation station

-- the line `service` is read as the question for the figures of the service
abbrev pub AllService : Type 0 → Type 0
AllService A = (station : Station) → reading {A = A} station service_line ≡ Service

-- a line in which `mark` and a space come is read as no command, whatever comes before them: so a mark completes no line that was cut
abbrev pub MarkCompletesNoCommand : Type 0 → Type 0
MarkCompletesNoCommand A = (station : Station) (before word : List Byte) (c : Command A) → reading station (before ++ codes "mark " ++ word) ≡ Apply c → ⊥

-- the words have a form
abbrev pub has_form : List (List Byte) → Bool
has_form words = is_some (form_of_words words)

-- a line spells a command of its station, in range
abbrev pub IsCommandLine : Type 0 → Station → List Byte → Type 0
IsCommandLine A station line = (c : Command A) × (c.station ≡ station) × InRange c × SpellsCommand c line

-- a line spells a query, in range
abbrev pub IsQueryLine : List Byte → Type 0
IsQueryLine line = (q : Query) × Askable q × (line ≡ query_text q)

-- a line spells a listing, in range
abbrev pub IsListingLine : List Byte → Type 0
IsListingLine line = (l : Listing) × Listable l × (line ≡ listing_line l)

-- a line spells a mark
abbrev pub IsMarkLine : List Byte → Type 0
IsMarkLine line = (word : List Byte) × (is_mark word ≡ true) × (line ≡ mark_line word)

-- a line spells a command of its station, a query, a listing or a mark, in range; or it asks which station this is, or for the figures
-- of the service
abbrev pub SpellsSome : Type 0 → Station → List Byte → Type 0
SpellsSome A station line = IsCommandLine A station line ⊎ IsQueryLine line ⊎ IsListingLine line ⊎ IsMarkLine line ⊎ (line ≡ station_line) ⊎ (line ≡ service_line)

-- the line is short enough, and neither empty nor a comment
abbrev pub IsJudged : List Byte → Type 0
IsJudged line = (length line ≤ longest_line) × (is_silent line ≡ false)

-- when a line is bad: it is too long; or its words have no form; or they have one, and spell nothing
pub record IsBadAs (A : Type 0) (station : Station) (line : List Byte) : Type 0 where
  pub too_long : (reading {A = A} station line ≡ Bad TooLong) ↔ (longest_line < length line)
  pub no_form : (reading {A = A} station line ≡ Bad Syntax) ↔ (IsJudged line × (has_form (words line) ≡ false))
  pub no_value : (reading {A = A} station line ≡ Bad Value) ↔ (IsJudged line × (has_form (words line) ≡ true) × (SpellsSome A station line → ⊥))

-- each line is bad for these reasons and for no others
abbrev pub BadLines : Type 0 → Type 0
BadLines A = (station : Station) (line : List Byte) → IsBadAs A station line

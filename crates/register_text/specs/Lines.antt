-- The line of a row: a keyword, then each further word after one space. The line feed at its end is no part of it.
use Rattle.std.specs.Prelude.{◌≡◌, Bool, true, false, List, [], ◌∷◌, ◌++◌, Option, Some, None, codes, decimal}
use Rattle.std.specs.List.{flat_map}
use Rattle.identity.specs.Numbers.{Gtsi, Byte}
use Rattle.identity.specs.IdentityText.{identity_text, prefix_text}
use Rattle.identity.specs.BitsText.{bits_text}
use Rattle.mm_pdus.specs.Values.{lifetime_number}
use Rattle.listings.specs.Words.{pdu_text}
use Rattle.listings.specs.Words.{kind_word}
use Rattle.image_rows.specs.Rows.{Row, HeaderRow, RuleRow, RadioRow, MailRow, ServedRow, Group}
use Rattle.image_rows.specs.RowReading.{IsRow}
use Rattle.image_rows.specs.RowSizes.{HasFewGroups}

-- the first word of a row's line
abbrev pub keyword : Row → List Byte
keyword (HeaderRow h) = codes "count"
keyword (RuleRow prefix rule) = codes "rule"
keyword (RadioRow itsi radio groups) = codes "radio"
keyword (MailRow w) = codes "item"
keyword (ServedRow station last) = codes "last"

-- the word for whether a radio is present
abbrev pub presence_word : Bool → List Byte
presence_word true = codes "present"
presence_word false = codes "absent"

-- a group of a radio: GTSI CLASS LIFE
abbrev pub group_words : Group → List (List Byte)
group_words g = identity_text g.0 ∷ decimal g.1.0 ∷ decimal (lifetime_number g.1.1) ∷ []

-- the word for the group of a copy; no word for an item that is no copy
abbrev pub copied_words : Option Gtsi → List (List Byte)
copied_words None = []
copied_words (Some gtsi) = identity_text gtsi ∷ []

-- the words after the keyword; a header's epoch is not among them
abbrev pub fields : Row → List (List Byte)
fields (HeaderRow h) =
    decimal h.count ∷ codes "rules" ∷ decimal h.rules ∷ codes "radios" ∷ decimal h.radios
    ∷ codes "items" ∷ decimal h.mail ∷ codes "stations" ∷ decimal h.served ∷ []
fields (RuleRow prefix rule) = prefix_text prefix ∷ decimal rule.low ∷ decimal rule.high ∷ decimal (lifetime_number rule.lifetime) ∷ decimal rule.keep ∷ []
fields (RadioRow itsi radio groups) =
    identity_text itsi ∷ codes "station" ∷ decimal radio.station ∷ codes "la" ∷ decimal radio.area ∷ presence_word radio.present ∷ flat_map group_words groups
fields (MailRow w) =
    decimal w.number ∷ identity_text w.key.destination ∷ kind_word w.key.kind ∷ identity_text w.key.source ∷ decimal w.key.reference
    ∷ decimal w.deadline ∷ bits_text w.pdu ∷ copied_words w.group
fields (ServedRow station last) = decimal station ∷ decimal last.sequence ∷ decimal last.number ∷ pdu_text last.pdu ∷ []

-- these words, each after a space
abbrev pub spaced : List (List Byte) → List Byte
spaced words = flat_map (λ w. 32 ∷ w) words

-- the line of a row
abbrev pub row_line : Row → List Byte
row_line row = keyword row ++ spaced (fields row)

-- if the row is a header, its epoch is 1
abbrev pub HasFirstEpoch : Row → Type 0
HasFirstEpoch (HeaderRow h) = h.epoch ≡ 1
HasFirstEpoch (RuleRow prefix rule) = Unit {0}
HasFirstEpoch (RadioRow itsi radio groups) = Unit {0}
HasFirstEpoch (MailRow w) = Unit {0}
HasFirstEpoch (ServedRow station last) = Unit {0}

-- a row that a line can give: its fields are in their ranges, a radio has at most 32 groups, a header has epoch 1
pub record IsLineRow (row : Row) : Type 0 where
  pub is_row : IsRow row
  pub few : HasFewGroups row
  pub first : HasFirstEpoch row

-- a line spells a row
abbrev pub Spells : List Byte → Row → Type 0
Spells line row = IsLineRow row × (line ≡ row_line row)

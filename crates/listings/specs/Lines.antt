-- How entries are written, a line each.
use Rattle.std.specs.Prelude.{ℕ, List, ◌++◌, length, Option, Some, None, codes, decimal}
use Rattle.std.specs.List.{flat_map}
use Rattle.identity.specs.Numbers.{Itsi, Gtsi, Byte}
use Rattle.identity.specs.IdentityText.{identity_text, prefix_text}
use Rattle.identity.specs.BitsText.{bits_text}
use Rattle.identity.specs.Path.{Path}
use Rattle.mm_pdus.specs.Values.{lifetime_number}
use Rattle.registration.specs.declared.radio.Radio.{Radio}
use Rattle.registration.specs.declared.rule.Rule.{Rule}
use Rattle.mailbox.specs.declared.key.Key.{Key}
use Rattle.listings.specs.Words.{kind_word, presence_text}
use Rattle.listings.specs.Entries.{Entry, RuleEntry, RadioEntry, ItemEntry}

-- where a radio is, or was last, and whether it is present
abbrev pub radio_words : Radio → List Byte
radio_words radio = codes "station " ++ decimal radio.station ++ codes " la " ++ decimal radio.area ++ presence_text radio.present

-- a radio and where it is
abbrev pub place_words : Itsi → Radio → List Byte
place_words itsi radio = codes "radio " ++ identity_text itsi ++ codes " " ++ radio_words radio

-- a rule after its prefix
abbrev pub rule_words : Path → Rule → List Byte
rule_words prefix rule = prefix_text prefix ++ codes " " ++ decimal rule.low ++ codes " " ++ decimal rule.high
    ++ codes " " ++ decimal (lifetime_number rule.lifetime) ++ codes " " ++ decimal rule.keep

-- the key of an item without its destination: message or report, its source, and the message reference
abbrev pub key_text : Key → List Byte
key_text key = kind_word key.kind ++ codes " " ++ identity_text key.source ++ codes " " ++ decimal key.reference

-- the end of an item's line, which names the group of a copy
abbrev pub item_end : Option Gtsi → List Byte
item_end None = codes "\n"
item_end (Some group) = codes " " ++ identity_text group ++ codes "\n"

-- the line of an entry
abbrev pub entry_line : Entry → List Byte
entry_line (RuleEntry prefix rule) = codes "rule " ++ rule_words prefix rule ++ codes "\n"
entry_line (RadioEntry itsi radio) = place_words itsi radio ++ codes "\n"
entry_line (ItemEntry w) =
    codes "item " ++ decimal w.number ++ codes " " ++ identity_text w.key.destination ++ codes " " ++ key_text w.key
    ++ codes " " ++ decimal w.deadline ++ codes " " ++ bits_text w.pdu ++ item_end w.group

-- the number of the lines that follow
abbrev pub count_text : ℕ → List Byte
count_text n = decimal n ++ codes "\n"

-- a list: the number of its lines, and these after it
abbrev pub list_text : {T : Type 0} → (T → List Byte) → List T → List Byte
list_text line list = decimal (length list) ++ codes "\n" ++ flat_map line list

-- How an answer is written. B is the allocator of its bits; nothing depends on it.
use Rattle.std.specs.Prelude.{◌≡◌, Bool, true, false, List, [], ◌++◌, Option, Some, None, codes, decimal}
use Rattle.std.specs.List.{flat_map}
use Rattle.identity.specs.Numbers.{Byte}
use Rattle.identity.specs.IdentityText.{identity_text}
use Rattle.identity.specs.BitsText.{bits_text}
use Rattle.identity.specs.Path.{Path}
use Rattle.mm_pdus.specs.Values.{lifetime_number}
use Rattle.group_attach.specs.declared.attachment.Attachment.{Attachment}
use Rattle.mailbox.specs.Values.{Item}
use Rattle.registration.specs.declared.radio.Radio.{Radio}
use Rattle.registration.specs.declared.rule.Rule.{Rule}
use Rattle.centre_core.specs.declared.reply.Reply.{Reply}
use Rattle.centre_core.specs.declared.reply.Reply.TheVariants as reply
use Rattle.centre_core.specs.declared.reply.Refusal.{Refusal}
use Rattle.centre_core.specs.declared.reply.Refusal.TheVariants as refusal
use Rattle.centre_core.specs.declared.query.QueryAnswer.{QueryAnswer}
use Rattle.centre_core.specs.declared.query.QueryAnswer.TheVariants as query_answer
use Rattle.centre_core.specs.Queries.{is_list_query, query_of}
use Rattle.console.specs.declared.answer.Answer.{Answer}
use Rattle.console.specs.declared.answer.Answer.TheVariants as answer
use Rattle.desk.specs.Words.{outage_word}
use Rattle.desk.specs.declared.outage.Outage.TheVariants.{Memory}
use Rattle.desk.specs.Replies.{HasShortPdu}
use Rattle.console.specs.Words.{line_word, mm_word, registration_word, group_word, sds_word, mail_word}
use Rattle.listings.specs.Words.{pdu_text}
use Rattle.listings.specs.Lines.{radio_words, rule_words, key_text, item_end, list_text}

-- where a radio is, or was last, and whether it is present
abbrev pub whereabouts_text : Option Radio → List Byte
whereabouts_text None = codes "unknown"
whereabouts_text (Some radio) = radio_words radio

-- the prefix and the rule that serve an identity, or `none`
abbrev pub rule_text : Option (Path × Rule) → List Byte
rule_text None = codes "none"
rule_text (Some e) = rule_words e.0 e.1

-- the line of a group that a radio is attached to, with its class of usage and lifetime
abbrev pub group_text : Attachment → List Byte
group_text a = codes "group " ++ identity_text a.gtsi ++ codes " " ++ decimal a.class ++ codes " " ++ decimal (lifetime_number a.lifetime) ++ codes "\n"

-- the line of a radio that is attached to a group, with its class of usage
abbrev pub member_text : Attachment → List Byte
member_text a = codes "member " ++ identity_text a.itsi ++ codes " " ++ decimal a.class ++ codes "\n"

-- the line of an item: its number, its key without the destination, its deadline, its PDU, and the group of a copy
abbrev pub item_text : Item → List Byte
item_text i = codes "item " ++ decimal i.number ++ codes " " ++ key_text i.key ++ codes " " ++ decimal i.deadline
    ++ codes " " ++ bits_text i.pdu ++ item_end i.group

module _ {B : Type 0} where
  -- why a command is refused, and the PDU that rejects a location update
  abbrev pub refusal_text : Refusal B → List Byte
  refusal_text refusal.UnknownStation = codes "unknown-station"
  refusal_text (refusal.OldSequence last) = codes "old-sequence " ++ decimal last
  refusal_text refusal.NumbersUsedUp = codes "numbers-used-up"
  refusal_text (refusal.Pdu fault) = mm_word fault
  refusal_text (refusal.Registration fault) = registration_word fault
  refusal_text (refusal.Groups fault) = group_word fault
  refusal_text (refusal.ShortData fault) = sds_word fault
  refusal_text (refusal.Mail fault) = mail_word fault
  refusal_text (refusal.Location fault reject) = registration_word fault ++ codes " " ++ bits_text reject

  -- the reply after the sequence: accepted now or before, with its number and PDU; or refused
  abbrev pub reply_text : Reply B → List Byte
  reply_text (reply.Accepted number pdu) = codes " ok " ++ decimal number ++ codes " " ++ pdu_text pdu
  reply_text (reply.Kept number pdu) = codes " kept " ++ decimal number ++ codes " " ++ pdu_text pdu
  reply_text (reply.Refused refusal) = codes " no " ++ refusal_text refusal

  -- the answer to a query: one line, or a list
  abbrev pub query_answer_text : QueryAnswer B → List Byte
  query_answer_text (query_answer.Whereabouts itsi radio) = codes "where " ++ identity_text itsi ++ codes " " ++ whereabouts_text radio ++ codes "\n"
  query_answer_text (query_answer.Look itsi rule) = codes "look " ++ identity_text itsi ++ codes " " ++ rule_text rule ++ codes "\n"
  query_answer_text (query_answer.Groups itsi groups) = codes "groups " ++ identity_text itsi ++ codes " " ++ list_text group_text groups
  query_answer_text (query_answer.Members gtsi members) = codes "members " ++ identity_text gtsi ++ codes " " ++ list_text member_text members
  query_answer_text (query_answer.Waiting itsi items) = codes "mail " ++ identity_text itsi ++ codes " " ++ list_text item_text items
  query_answer_text (query_answer.Total count) = codes "count " ++ decimal count ++ codes "\n"

  -- the lines that answer, each with its end
  abbrev pub text : Answer B → List Byte
  text answer.Quiet = []
  text (answer.Bad line fault) = codes "line " ++ decimal line ++ codes " bad " ++ line_word fault ++ codes "\n"
  text (answer.Replied sequence reply) = decimal sequence ++ reply_text reply ++ codes "\n"
  text (answer.CommandOutage sequence word) = decimal sequence ++ codes " no " ++ outage_word word ++ codes "\n"
  text (answer.Queried query_answer) = query_answer_text query_answer
  text (answer.Listed lines) = lines
  text (answer.QueryOutage line word) = codes "line " ++ decimal line ++ codes " no " ++ outage_word word ++ codes "\n"
  text (answer.Marked word) = codes "mark " ++ word ++ codes "\n"
  text (answer.OwnStation station) = codes "station " ++ decimal station ++ codes "\n"
  text (answer.Service lines) = lines
  text (answer.ServiceOutage line) = codes "line " ++ decimal line ++ codes " no " ++ outage_word Memory ++ codes "\n"
  text (answer.Forbidden sequence) = decimal sequence ++ codes " no forbidden" ++ codes "\n"

  -- the lines of all answers, one after another
  abbrev pub texts : List (Answer B) → List Byte
  texts answers = flat_map text answers

  -- the answer to a query is a list
  abbrev pub is_list : QueryAnswer B → Bool
  is_list query_answer = is_list_query (query_of query_answer)

  -- the answer to a query is one line
  abbrev pub IsOneLine : QueryAnswer B → Type 0
  IsOneLine query_answer = is_list query_answer ≡ false

  -- the PDU of a reply has at most 2,048 bits; of other answers nothing is said
  abbrev pub HasNoLongPdu : Answer B → Type 0
  HasNoLongPdu (answer.Replied sequence reply) = HasShortPdu reply
  HasNoLongPdu other = Unit {0}

  -- the answer is a list
  abbrev pub is_list_answer : Answer B → Bool
  is_list_answer (answer.Queried query_answer) = is_list query_answer
  is_list_answer other = false

  -- the answer, without the figures of a service
  abbrev pub without_figures : Answer B → Answer B
  without_figures (answer.Service lines) = answer.Service []
  without_figures other = other

  -- no list, no listing and no figures; the PDU of a reply has at most 2,048 bits. The text fits answer_room bytes
  abbrev pub IsLine : Answer B → Type 0
  IsLine (answer.Replied sequence reply) = HasShortPdu reply
  IsLine (answer.Queried query_answer) = IsOneLine query_answer
  IsLine (answer.Listed lines) = ⊥
  IsLine (answer.Service lines) = ⊥
  IsLine other = Unit {0}

  -- an outage word is answered
  abbrev pub is_outage : Answer B → Bool
  is_outage (answer.CommandOutage sequence word) = true
  is_outage (answer.QueryOutage line word) = true
  is_outage (answer.ServiceOutage line) = true
  is_outage other = false

  -- the line is bad, or an outage word is answered
  abbrev pub is_trouble : Answer B → Bool
  is_trouble (answer.Bad line fault) = true
  is_trouble (answer.CommandOutage sequence word) = true
  is_trouble (answer.QueryOutage line word) = true
  is_trouble (answer.ServiceOutage line) = true
  is_trouble other = false

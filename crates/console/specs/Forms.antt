-- The form of a line: by its keyword and the number of its words alone.
use Rattle.std.specs.Prelude.{ℕ, List, [], ◌∷◌, length, get_or, Option, Some, None, ◌==◌, ◌&&◌, nat_lt, if◌then◌else◌, codes}
use Rattle.std.specs.Str.{bytes_eq}
use Rattle.identity.specs.Numbers.{Byte}
use Rattle.console.specs.declared.form.Form.{Form}
use Rattle.console.specs.declared.form.Form.TheVariants.{Apply, Ask, Print, Mark, OwnStation, Service}
use Rattle.console.specs.declared.form.BodyForm.TheVariants.{RuleSet, RuleClear, Mm, Sds, GroupSds, Sent, Expire, Delete}
use Rattle.console.specs.declared.form.QueryForm.TheVariants.{Whereabouts, Look, GroupsOf, MembersOf, Waiting, Total}
use Rattle.console.specs.declared.form.ListingForm.TheVariants.{Rules, Radios, RadiosUnder, Items, Due, WaitingAt, Last, Room, Dump}

-- lines with this keyword and so many words have this form
pub record FormRow : Type 0 where
  pub keyword : List Byte
  pub count : ℕ
  pub form : Form

-- the row of this keyword, so many words and this form
abbrev pub row : List Byte → ℕ → Form → FormRow
row keyword count form = record { keyword = keyword; count = count; form = form }

-- all forms. The words of a command are counted with its sequence and moment
abbrev pub forms : List FormRow
forms =
    row (codes "mm") 6 (Apply Mm)
    ∷ row (codes "sds") 6 (Apply Sds)
    ∷ row (codes "gsds") 6 (Apply GroupSds)
    ∷ row (codes "sent") 7 (Apply Sent)
    ∷ row (codes "delete") 7 (Apply Delete)
    ∷ row (codes "expire") 3 (Apply Expire)
    ∷ row (codes "rule") 8 (Apply RuleSet)
    ∷ row (codes "unrule") 4 (Apply RuleClear)
    ∷ row (codes "where") 2 (Ask Whereabouts)
    ∷ row (codes "look") 2 (Ask Look)
    ∷ row (codes "groups") 2 (Ask GroupsOf)
    ∷ row (codes "members") 2 (Ask MembersOf)
    ∷ row (codes "mail") 2 (Ask Waiting)
    ∷ row (codes "count") 1 (Ask Total)
    ∷ row (codes "rules") 1 (Print Rules)
    ∷ row (codes "radios") 1 (Print Radios)
    ∷ row (codes "radios") 2 (Print RadiosUnder)
    ∷ row (codes "items") 1 (Print Items)
    ∷ row (codes "due") 2 (Print Due)
    ∷ row (codes "waiting") 2 (Print WaitingAt)
    ∷ row (codes "last") 2 (Print Last)
    ∷ row (codes "room") 1 (Print Room)
    ∷ row (codes "dump") 1 (Print Dump)
    ∷ row (codes "mark") 2 Mark
    ∷ row (codes "station") 1 OwnStation
    ∷ row (codes "service") 1 Service
    ∷ []

-- the form of the row with this keyword and so many words
abbrev pub form_in : List FormRow → List Byte → ℕ → Option Form
form_in [] keyword count = None
form_in (row ∷ rows) keyword count = if (row.count == count) && bytes_eq keyword row.keyword then Some row.form else form_in rows keyword count

-- the form that a line of so many words has by its keyword
abbrev pub form_of : List Byte → ℕ → Option Form
form_of keyword count = form_in forms keyword count

-- word n of a line, from 0; empty if there are not so many
abbrev pub word : ℕ → List (List Byte) → List Byte
word n words = get_or words n []

-- the keyword: the first of one or two words; of more the third, after sequence and moment
abbrev pub keyword : List (List Byte) → List Byte
keyword words = if nat_lt 2 (length words) then word 2 words else word 0 words

-- the form of these words, if they have one
abbrev pub form_of_words : List (List Byte) → Option Form
form_of_words words = form_of (keyword words) (length words)

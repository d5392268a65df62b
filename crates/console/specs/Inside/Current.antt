-- The current line as it is kept, and the answer that is given to it.
use Rattle.std.specs.Prelude.{◌≡◌, ◌⊎◌, ℕ, suc, ◌<◌, ◌≤◌, Bool, true, false, List, [], ◌∷◌, ◌++◌, length, Option, Some, None, nat_lt}
use Rattle.std.specs.Str.Lines.{strip_carriage_return}
use Rattle.identity.specs.Numbers.{Byte}
use Rattle.console.specs.declared.answer.Answer.{Answer}
use Rattle.console.specs.declared.answer.Answer.TheVariants.{QueryOutage}
use Rattle.desk.specs.declared.outage.Outage.TheVariants.{Memory}
use Rattle.console.specs.Answer.{is_list_answer}
use Rattle.console.specs.Reading.{Lacks, longest_line}

-- no byte of the text ends a line
abbrev pub HasNoEnd : List Byte → Type 0
HasNoEnd text = Lacks 10 text

-- The bytes of the line so far are kept if there are at most longest_line + 1 of them: the last may be a carriage return. Else the flag
-- is set, and nothing is said of the bytes.
abbrev pub Holds : List Byte → Bool → List Byte → Type 0
Holds bytes true line = suc longest_line < length line
Holds bytes false line = (bytes ≡ line) × (length line ≤ suc longest_line)

-- `line` has the bytes that came before, and `run` the last ones. `run` is kept with those before; if none came before, `run` is not kept
abbrev pub HoldsWith : List Byte → Bool → List Byte → List Byte → Type 0
HoldsWith bytes long [] run = Holds bytes long []
HoldsWith bytes long (b ∷ line) run = Holds bytes long (b ∷ line ++ run)

-- the line, by whether a line feed ended it: if so, a carriage return at its end is dropped
abbrev pub line_at_end : Bool → List Byte → List Byte
line_at_end true line = strip_carriage_return line
line_at_end false line = line

-- the line is kept as this text; `None` is only for a line that is too long
abbrev pub KeepsLine : Option (List Byte) → List Byte → Type 0
KeepsLine None line = nat_lt longest_line (length line) ≡ true
KeepsLine (Some text) line = text ≡ line

-- `given` is what the line of this number gets for `answer`: that answer, or `memory` in place of a list
abbrev pub IsGivenFor : {A : Type 0} → ℕ → Answer A → Answer A → Type 0
IsGivenFor number answer given = (given ≡ answer) ⊎ ((is_list_answer answer ≡ true) × (given ≡ QueryOutage number Memory))

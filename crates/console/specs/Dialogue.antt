-- Which answers may be given to which lines. A is the allocator of the bits of commands and replies; nothing depends on it.
use Rattle.std.specs.Prelude.{◌≡◌, ◌⊎◌, ℕ, ◌+◌, ◌≤◌, Bool, true, false, List, [], ◌∷◌, ◌++◌, length, map, Ok, Err}
use Rattle.std.specs.List.{list_any}
use Rattle.identity.specs.Numbers.{Byte}
use Rattle.centre_core.specs.State.{State}
use Rattle.centre_core.specs.declared.command.Command.{Command}
use Rattle.centre_core.specs.declared.query.Query.{Query}
use Rattle.centre_core.specs.declared.query.QueryAnswer.{QueryAnswer}
use Rattle.desk.specs.declared.outage.Outage.{Outage}
use Rattle.desk.specs.declared.outage.Outage.TheVariants.{Memory}
use Rattle.desk.specs.Rules.{Rules}
use Rattle.desk.specs.OfRegister.{of_register}
use Rattle.listings.specs.Texts.{is_line, listing_text}
use Rattle.listings.specs.declared.listing.Listing.{Listing}
use Rattle.console.specs.declared.line.Line.{Line}
use Rattle.console.specs.declared.line.Line.TheVariants as line
use Rattle.console.specs.declared.answer.Answer.{Answer}
use Rattle.console.specs.declared.answer.Answer.TheVariants as answer
use Rattle.console.specs.Reading.{Speaker, heard, HasLongPdu}
use Rattle.console.specs.Answer.{texts, is_trouble, is_outage, is_list, without_figures}
use Rattle.console.specs.Service.{IsService}

-- The desk answers the query with a list, and memory runs out for the list's text. The answer is then the outage word `memory`.
abbrev pub LacksText : {A W : Type 0} → Rules A W → W → Query → Outage → W → Type 0
LacksText {A = A} rules s q word t =
    (word ≡ Memory) × ((query_answer : QueryAnswer A) × (is_list query_answer ≡ true) × rules.answers s q (Ok query_answer) t)

-- The desk reads the register for the listing, and memory runs out for the listing's text. This can't happen to a listing of one line.
abbrev pub LacksLines : {A W : Type 0} → Rules A W → W → Listing → Outage → W → Type 0
LacksLines rules s l word t = (word ≡ Memory) × (is_line l ≡ false) × ((r : State) × rules.reads s (Ok r) t)

-- The answer to the query `service`: its lines, or out of memory with the number of the query's line. The figures depend on the run, so
-- only the form of these lines is stated (`IsService`).
abbrev pub AnswersService : {A : Type 0} → ℕ → Answer A → Type 0
AnswersService n (answer.Service lines) = IsService lines
AnswersService n (answer.ServiceOutage number) = number ≡ n
AnswersService n other = ⊥

module _ {A W : Type 0} where
  -- Memory runs out for the command's PDU, which has more than 64 bits. The desk does nothing.
  abbrev pub LacksPdu : W → Command A → Outage → W → Type 0
  LacksPdu s c word t = HasLongPdu c.body × (word ≡ Memory) × (t ≡ s)

  -- the answer to a command, with its sequence: the desk's reply, or an outage word
  abbrev pub AnswersCommand : Rules A W → W → Command A → Answer A → W → Type 0
  AnswersCommand rules s c (answer.Replied sequence reply) t = (sequence ≡ c.sequence) × rules.applies s c (Ok reply) t
  AnswersCommand rules s c (answer.CommandOutage sequence word) t = (sequence ≡ c.sequence) × (rules.applies s c (Err word) t ⊎ LacksPdu s c word t)
  AnswersCommand rules s c other t = ⊥

  -- the answer to a query: the desk's, or an outage word with the number of the line
  abbrev pub AnswersQuery : Rules A W → ℕ → W → Query → Answer A → W → Type 0
  AnswersQuery rules n s q (answer.Queried query_answer) t = rules.answers s q (Ok query_answer) t
  AnswersQuery rules n s q (answer.QueryOutage number word) t = (number ≡ n) × (rules.answers s q (Err word) t ⊎ LacksText rules s q word t)
  AnswersQuery rules n s q other t = ⊥

  -- the answer to a listing: its lines of a register that the desk may read, or an outage word with the number of the line
  abbrev pub AnswersListing : Rules A W → ℕ → W → Listing → Answer A → W → Type 0
  AnswersListing rules n s l (answer.Listed lines) t = (r : State) × rules.reads s (Ok r) t × (lines ≡ listing_text r l)
  AnswersListing rules n s l (answer.QueryOutage number word) t = (number ≡ n) × (rules.reads s (Err word) t ⊎ LacksLines rules s l word t)
  AnswersListing rules n s l other t = ⊥

  -- the answer to the line numbered n, by its reading, and the world of the desk after it
  abbrev pub AnswersReading : Rules A W → ℕ → W → Line A → Answer A → W → Type 0
  AnswersReading rules n s line.Silent given t = (given ≡ answer.Quiet) × (t ≡ s)
  AnswersReading rules n s (line.Bad fault) given t = (given ≡ answer.Bad n fault) × (t ≡ s)
  AnswersReading rules n s (line.Apply c) given t = AnswersCommand rules s c given t
  AnswersReading rules n s (line.Ask q) given t = AnswersQuery rules n s q given t
  AnswersReading rules n s (line.Print l) given t = AnswersListing rules n s l given t
  AnswersReading rules n s (line.Mark word) given t = (given ≡ answer.Marked word) × (t ≡ s)
  AnswersReading rules n s (line.OwnStation station) given t = (given ≡ answer.OwnStation station) × (t ≡ s)
  AnswersReading rules n s line.Service given t = AnswersService n given × (t ≡ s)
  AnswersReading rules n s (line.Forbidden sequence) given t = (given ≡ answer.Forbidden sequence) × (t ≡ s)

  -- the answer to the line numbered n, whose text is from this speaker
  abbrev pub Answers : Rules A W → Speaker → ℕ → W → List Byte → Answer A → W → Type 0
  Answers rules speaker n s text given t = AnswersReading rules n s (heard speaker text) given t

  -- one answer for each line, in order; n lines came before
  abbrev pub Dialogue : Rules A W → Speaker → ℕ → W → List (List Byte) → List (Answer A) → W → Type 0
  Dialogue rules speaker n s [] [] t = t ≡ s
  Dialogue rules speaker n s [] (given ∷ answers) t = ⊥
  Dialogue rules speaker n s (text ∷ texts) [] t = ⊥
  Dialogue rules speaker n s (text ∷ texts) (given ∷ answers) t =
      (mid : W) × Answers rules speaker (n + 1) s text given mid × Dialogue rules speaker (n + 1) mid texts answers t

-- the text out is the answers to the lines; troubled is whether there is trouble in them
pub record IsDialogue (A : Type 0) {W : Type 0} (rules : Rules A W) (speaker : Speaker) (s : W)
    (given : List (List Byte)) (out : List Byte) (troubled : Bool) (t : W) : Type 0 where
  pub answers : List (Answer A)
  pub each : Dialogue rules speaker 0 s given answers t
  pub written : out ≡ texts answers
  pub trouble : troubled ≡ list_any is_trouble answers

-- The text out was cut off. The desk answered the lines `done`, and got none of the lines `left`. The answers but the last ones were
-- written whole. Of the last ones, at most 64, the text `part` was written, and the text `missing` was not.
pub record IsCutOff (A : Type 0) {W : Type 0} (rules : Rules A W) (speaker : Speaker) (s : W)
    (given : List (List Byte)) (out : List Byte) (t : W) : Type 0 where
  pub done : List (List Byte)
  pub left : List (List Byte)
  pub answered : List (Answer A)
  pub last : List (Answer A)
  pub part : List Byte
  pub missing : List Byte
  pub all : given ≡ done ++ left
  pub each : Dialogue rules speaker 0 s done (answered ++ last) t
  pub few : length last ≤ 64
  pub prefix : texts last ≡ part ++ missing
  pub written : out ≡ texts answered ++ part

-- the text is a prefix of one that may be written for the lines
pub record IsPrefix (A : Type 0) {W : Type 0} (rules : Rules A W) (speaker : Speaker) (s : W) (given : List (List Byte)) (out : List Byte) : Type 0 where
  pub missing : List Byte
  pub troubled : Bool
  pub after : W
  pub dialogue : IsDialogue A rules speaker s given (out ++ missing) troubled after

-- at desks of this kind, a text that was cut off is a prefix of one that may be written
abbrev pub CutOffIsPrefix : (A : Type 0) {W : Type 0} → Rules A W → Type 0
CutOffIsPrefix A {W = W} rules = (speaker : Speaker) (s t : W) (given : List (List Byte)) (out : List Byte) →
    IsCutOff A rules speaker s given out t → IsPrefix A rules speaker s given out

-- If no answer has an outage word, the lines determine the register after them and all answers, except the figures in those to `service`.
abbrev pub OneText : Type 0 → Type 0
OneText A = (speaker : Speaker) (n : ℕ) (s t u : State) (given : List (List Byte)) (xs ys : List (Answer A)) →
    Dialogue of_register speaker n s given xs t → Dialogue of_register speaker n s given ys u →
    list_any is_outage xs ≡ false → list_any is_outage ys ≡ false → (map without_figures xs ≡ map without_figures ys) × (t ≡ u)

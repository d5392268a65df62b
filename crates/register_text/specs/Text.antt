-- The text of a register: a line with its form, version and limits, and then a line for each row. A line feed ends each line.
use Rattle.std.specs.Prelude.{◌≡◌, ◌⊎◌, ◌+◌, ◌==◌, ℕ, Bool, true, false, List, [], ◌∷◌, ◌++◌, length, map as each, take, drop, Option, Some, None, Result, Ok, Err}
use Rattle.std.specs.Prelude.{if◌then◌else◌, codes, decimal}
use Rattle.std.specs.Str.{bytes_eq}
use Rattle.identity.specs.Numbers.{Byte}
use Rattle.registration.specs.declared.limits.Limits.{Limits}
use Rattle.centre_core.specs.State.{State, IsState}
use Rattle.centre_core.specs.StateRanges.{StateInRange}
use Rattle.console.specs.Reading.{words}
use Rattle.image_rows.specs.Rows.{Row, Header, HeaderRow, row_count, rows_of}
use Rattle.image_rows.specs.Loading.{Loading, begun, finished, row_taken}
use Rattle.register_text.specs.Lines.{row_line, spaced}
use Rattle.register_text.specs.Reading.{line_row, number_in, most_4, most_8}
use Rattle.register_text.specs.declared.cause.Cause.{Cause}
use Rattle.register_text.specs.declared.cause.Cause.TheVariants as cause

-- ---- the first line

-- the form, its version, and the limits of a register: rules, radios, items and stations
abbrev pub head_text : ℕ → ℕ → ℕ → ℕ → List Byte
head_text rules radios mail stations =
    codes "tetra-switch register 1"
    ++ spaced (codes "rules" ∷ decimal rules ∷ codes "radios" ∷ decimal radios ∷ codes "items" ∷ decimal mail ∷ codes "stations" ∷ decimal stations ∷ [])

-- the first line of a register's text
abbrev pub head_line : Limits → List Byte
head_line l = head_text l.rules l.radios l.mail l.stations

-- the first line with these four numbers, if all of them are there
abbrev pub head_of : Option ℕ → Option ℕ → Option ℕ → Option ℕ → Option (List Byte)
head_of (Some rules) (Some radios) (Some mail) (Some stations) = Some (head_text rules radios mail stations)
head_of rules radios mail stations = None

-- The first line with the numbers N of the words `rules N radios N items N stations N`, if each N has at most 32 bits. The names before
-- the numbers are not compared here; `is_head` compares the whole line.
abbrev pub limits_in : List (List Byte) → Option (List Byte)
limits_in (a ∷ rules ∷ b ∷ radios ∷ c ∷ mail ∷ d ∷ stations ∷ []) =
    head_of (number_in most_4 rules) (number_in most_4 radios) (number_in most_4 mail) (number_in most_4 stations)
limits_in words = None

-- The first line as it is written for the numbers in these words. The first three words are the form and its version.
abbrev pub head_in : List (List Byte) → Option (List Byte)
head_in (a ∷ b ∷ c ∷ words) = limits_in words
head_in words = None

-- whether the line is this text
abbrev pub is_same : List Byte → Option (List Byte) → Bool
is_same line None = false
is_same line (Some text) = bytes_eq text line

-- whether a line may come first: it is the first line that is written for its own numbers
unfoldable pub is_head : List Byte → Bool
is_head line = is_same line (head_in (words line))

-- ---- the line before the first

-- the number that `number` spells, if `word` is `dump` with a space after it; it has at most 64 bits
abbrev pub count_of : List Byte → List Byte → Option ℕ
count_of word number = if bytes_eq word (codes "dump ") then number_in most_8 number else None

-- The number of lines that follow, if this line is `dump N`. The answer to the listing `dump` begins with such a line.
abbrev pub count_in : List Byte → Option ℕ
count_in line = count_of (take 5 line) (drop 5 line)

-- the number that a line states, if none before it did
abbrev pub count_after : Option ℕ → List Byte → Option ℕ
count_after None line = count_in line
count_after (Some n) line = None

-- how many lines a text with this header has: the first line, and one for each row; the header itself is the row `count`
abbrev pub line_count : Header → ℕ
line_count h = 1 + row_count h

-- Whether a row agrees with the number of lines that was stated. Only a header can disagree, because it states how many rows there are.
abbrev pub agrees_with : ℕ → Row → Bool
agrees_with n (HeaderRow h) = n == line_count h
agrees_with n row = true

-- whether a row agrees with the line before the first, if there was one
abbrev pub is_as_stated : Option ℕ → Row → Bool
is_as_stated None row = true
is_as_stated (Some n) row = agrees_with n row

-- ---- all lines

-- the lines of a register
abbrev pub register_lines : State → List (List Byte)
register_lines s = head_line s.registered.limits ∷ each row_line (rows_of 1 s)

-- a row's line with its line feed; nothing for no row
abbrev pub row_ended : Option Row → List Byte
row_ended None = []
row_ended (Some row) = row_line row ++ codes "\n"

-- ---- reading

-- what is loaded of a text so far
pub record TextLoading : Type 0 where
  -- the number of lines, if a line `dump N` stated it; none again once the header was taken
  pub stated : Option ℕ
  -- whether the first line was taken
  pub headed : Bool
  -- what the rows so far make
  pub rows : Loading

-- no line is taken yet
abbrev pub text_begun : Limits → TextLoading
text_begun limits = record { stated = None; headed = false; rows = begun limits }

-- the first line was taken, and `l` is what the rows taken so far make
abbrev pub with_rows : Loading → Result TextLoading Cause
with_rows l = Ok (record { stated = None; headed = true; rows = l })

-- the outcome of the first line, by whether the line may come first (`is_head`)
abbrev pub head_taken : Option ℕ → Loading → Bool → Result TextLoading Cause
head_taken stated l true = Ok (record { stated = stated; headed = true; rows = l })
head_taken stated l false = Err cause.Head

-- the outcome of a line before the rows, by the number that it states; if it states none, it must be the first line
abbrev pub count_taken : Option ℕ → Loading → List Byte → Option ℕ → Result TextLoading Cause
count_taken stated l line None = head_taken stated l (is_head line)
count_taken stated l line (Some n) = Ok (record { stated = Some n; headed = false; rows = l })

-- the outcome of a row, by whether it may come next
abbrev pub or_place : Option Loading → Result TextLoading Cause
or_place None = Err cause.Place
or_place (Some l) = with_rows l

-- the loading with one more row, if that agrees with what was stated and may come next
abbrev pub stated_taken : Option ℕ → Loading → Row → Option Loading
stated_taken stated l row = if is_as_stated stated row then row_taken l row else None

-- the outcome of a line after the first, by the row that the line spells
abbrev pub or_spelling : Option ℕ → Loading → Option Row → Result TextLoading Cause
or_spelling stated l None = Err cause.Spelling
or_spelling stated l (Some row) = or_place (stated_taken stated l row)

-- the outcome of the next line, by whether the first one was taken
abbrev pub line_taken_by : Bool → Option ℕ → Loading → List Byte → Result TextLoading Cause
line_taken_by false stated l line = count_taken stated l line (count_after stated line)
line_taken_by true stated l line = or_spelling stated l (line_row line)

-- what is loaded with one more line, or why it can't be taken
unfoldable pub line_taken : TextLoading → List Byte → Result TextLoading Cause
line_taken t line = line_taken_by t.headed t.stated t.rows line

-- what `more` makes of the loading after a line that was taken; if the line was not, the cause
abbrev pub then_lines : Result TextLoading Cause → (TextLoading → Result TextLoading Cause) → Result TextLoading Cause
then_lines (Err cause) more = Err cause
then_lines (Ok t) more = more t

-- what is loaded with these lines, taken one after another
abbrev pub lines_taken : TextLoading → List (List Byte) → Result TextLoading Cause
lines_taken t [] = Ok t
lines_taken t (line ∷ lines) = then_lines (line_taken t line) (λ u. lines_taken u lines)

-- the state without the epoch of its header
abbrev pub state_of : Option (ℕ × State) → Option State
state_of None = None
state_of (Some x) = Some x.1

-- the state, if the lines so far are all
abbrev pub text_finished : TextLoading → Option State
text_finished t = state_of (finished t.rows)

-- the state that a text makes, if each of its lines was taken and none is missing
abbrev pub whole : Result TextLoading Cause → Option State
whole (Err cause) = None
whole (Ok t) = text_finished t

-- the state that the lines of a text make under these limits
abbrev pub state_in : Limits → List (List Byte) → Option State
state_in limits lines = whole (lines_taken (text_begun limits) lines)

-- ---- what a text makes

-- t is a register with these rows under these limits
pub record IsUnder (limits : Limits) (rows : List Row) (t : State) : Type 0 where
  pub are : rows ≡ rows_of 1 t
  pub state : IsState t
  pub ranges : StateInRange t
  pub under : t.registered.limits ≡ limits

-- no line, or the line `dump n`
abbrev pub MayState : ℕ → List (List Byte) → Type 0
MayState n lines = (lines ≡ []) ⊎ (lines ≡ (codes "dump " ++ decimal n) ∷ [])

-- These are the lines of the register, except that the first one may have other limits. A line `dump N` before it may state how many follow.
pub record AreLinesOf (lines : List (List Byte)) (t : State) : Type 0 where
  pub counts : List (List Byte)
  pub first : List Byte
  pub head : is_head first ≡ true
  pub stated : MayState (1 + length (rows_of 1 t)) counts
  pub are : lines ≡ counts ++ (first ∷ each row_line (rows_of 1 t))

-- The bytes of a register's text, and what any bytes are read as. A line feed ends each line.
use Rattle.std.specs.Prelude.{◌≡◌, ℕ, ◌+◌, ◌==◌, Bool, true, false, List, [], ◌∷◌, ◌++◌, length, nat_le, Option, Some, None, Result, Ok, Err, codes}
use Rattle.std.specs.List.{flat_map, slice_split}
use Rattle.identity.specs.Numbers.{Byte}
use Rattle.registration.specs.declared.limits.Limits.{Limits}
use Rattle.centre_core.specs.State.{State}
use Rattle.console.specs.Reading.{Lacks}
use Rattle.register_text.specs.Text.{AreLinesOf, TextLoading, line_taken, register_lines, text_begun, text_finished}
use Rattle.register_text.specs.declared.cause.Cause.{Cause}
use Rattle.register_text.specs.declared.cause.Cause.TheVariants as cause
use Rattle.register_text.specs.declared.load_fault.LoadFault.{LoadFault}
use Rattle.register_text.specs.declared.load_fault.LoadFault.TheVariants as fault

-- ---- writing

-- each line with its line feed
abbrev pub ended : List (List Byte) → List Byte
ended lines = flat_map (λ line. line ++ codes "\n") lines

-- the bytes of a register's text
abbrev pub register_bytes : State → List Byte
register_bytes s = ended (register_lines s)

-- ---- reading

-- no line feed is in it
abbrev pub HasNoFeed : List Byte → Type 0
HasNoFeed line = Lacks 10 line

-- the most bytes of a line that can be taken, without its line feed
abbrev pub longest_dump_line : ℕ
longest_dump_line = 4096

-- why a line longer than that can't be taken, by whether the first line was taken
abbrev pub long_cause : Bool → Cause
long_cause false = cause.Head
long_cause true = cause.Spelling

-- what `more` makes of the loading after line n, or the fault of line n
abbrev pub then_line : ℕ → Result TextLoading Cause → (TextLoading → Result State LoadFault) → Result State LoadFault
then_line n (Err cause) more = Err (fault.Line n cause)
then_line n (Ok t) more = more t

-- the register, if there is one; else the text is cut before line n
abbrev pub or_cut : ℕ → Option State → Result State LoadFault
or_cut n None = Err (fault.Cut n)
or_cut n (Some s) = Ok s

-- The text ends within line n. It is cut there (`true`), or line n is already too long.
abbrev pub cut_or_long : ℕ → TextLoading → Bool → Result State LoadFault
cut_or_long n t true = Err (fault.Cut n)
cut_or_long n t false = Err (fault.Line n (long_cause t.headed))

-- What the end of a text makes. Nothing follows the last line feed, or the first bytes of line n do.
abbrev pub end_read : ℕ → TextLoading → List Byte → Result State LoadFault
end_read n t [] = or_cut n (text_finished t)
end_read n t (b ∷ part) = cut_or_long n t (nat_le (length (b ∷ part)) longest_dump_line)

-- what the parts of a text between its line feeds make, from line n on
abbrev pub parts_read : ℕ → TextLoading → List (List Byte) → Result State LoadFault
parts_read n t [] = end_read n t []
parts_read n t (end ∷ []) = end_read n t end
parts_read n t (line ∷ next ∷ parts) = then_line n (line_taken t line) (λ u. parts_read (n + 1) u (next ∷ parts))

-- what a text makes whose first line is line n
unfoldable pub text_from : ℕ → TextLoading → List Byte → Result State LoadFault
text_from n t text = parts_read n t (slice_split (λ b. b == 10) text)

-- the register that a text makes under these limits, or its first fault
abbrev pub text_read : Limits → List Byte → Result State LoadFault
text_read limits text = text_from 1 (text_begun limits) text

-- a fault names what is wrong with the text; out of memory and a failed read say nothing of it
abbrev pub IsLoadFault : Result State LoadFault → LoadFault → Type 0
IsLoadFault made fault.Memory = Unit {0}
IsLoadFault made fault.Read = Unit {0}
IsLoadFault made (fault.Line n cause) = made ≡ Err (fault.Line n cause)
IsLoadFault made (fault.Cut n) = made ≡ Err (fault.Cut n)

-- the fault is that the row of a line can't come there
abbrev pub IsOfPlace : LoadFault → Type 0
IsOfPlace fault.Memory = ⊥
IsOfPlace fault.Read = ⊥
IsOfPlace (fault.Line n why) = why ≡ cause.Place
IsOfPlace (fault.Cut n) = ⊥

-- the text is all that a reader had left, where that is known
abbrev pub IsAll : Option (List Byte) → List Byte → Type 0
IsAll None text = Unit {0}
IsAll (Some left) text = left ≡ text

-- The bytes are those of the register, except that the first line may have other limits. A line `dump N` before it may state how many follow.
pub record IsTextOf (text : List Byte) (t : State) : Type 0 where
  pub lines : List (List Byte)
  pub are : text ≡ ended lines
  pub of : AreLinesOf lines t

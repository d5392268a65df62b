-- What passes between a text and its reader or writer. Only a call's own clauses show that the call was made.
use Rattle.std.specs.Prelude.{◌≡◌, ◌≤◌, ◌⊎◌, ℕ, zero, suc, List, [], ◌++◌, length, take, Option, Some, None, Result, Ok, Err}
use Rattle.identity.specs.Numbers.{Byte}
use Rattle.centre_core.specs.State.{State}
use Rattle.register_text.specs.declared.dumping.DumpFault.{DumpFault}
use Rattle.register_text.specs.declared.dumping.DumpFault.TheVariants as dump
use Rattle.register_text.specs.declared.load_fault.LoadFault.{LoadFault}
use Rattle.register_text.specs.declared.load_fault.LoadFault.TheVariants as load

-- Passed is a relation between a reader or writer before a call, the bytes that the call passed, and that reader or writer after it
module _ {S : Type 0} (Passed : S → List Byte → S → Type 0) where
  -- so many calls in a row passed this text
  unfoldable pub HavePassed : ℕ → S → List Byte → S → Type 0
  HavePassed zero old text new = (text ≡ []) × (old ≡ new)
  HavePassed (suc calls) old text new = (last : S) × (before : List Byte) × (piece : List Byte) × HavePassed calls old before last × Passed last piece new × (text ≡ before ++ piece)

-- ---- reading

-- no more bytes than there was room for
abbrev pub FitsPiece : Option ℕ → ℕ → Type 0
FitsPiece None room = Unit {0}
FitsPiece (Some n) room = n ≤ room

-- The reader had the bytes `input` left before the call, and `left` after it. It was at its end; or the first n bytes of the buffer
-- are the first n of `input`.
abbrev pub IsPiece : Option ℕ → List Byte → List Byte → Option (List Byte) → Type 0
IsPiece None buffer input left = (input ≡ []) × (left ≡ Some [])
IsPiece (Some n) buffer input left = (rest : List Byte) × (left ≡ Some rest) × (input ≡ take n buffer ++ rest)

-- the most bytes that one call of the reader gives
abbrev pub most_given : ℕ
most_given = 65536

-- the most calls of the reader
abbrev pub most_calls : ℕ
most_calls = 4294967295

-- no line of a text is at fault
abbrev pub HasNoBadLine : Result State LoadFault → Type 0
HasNoBadLine (Ok s) = Unit {0}
HasNoBadLine (Err load.Memory) = Unit {0}
HasNoBadLine (Err load.Read) = Unit {0}
HasNoBadLine (Err (load.Line n cause)) = ⊥
HasNoBadLine (Err (load.Cut n)) = Unit {0}

module _ {S : Type 0} (Gave : S → List Byte → S → Type 0) where
  -- a call gave the first n bytes of the buffer, or the end
  abbrev pub HasCome : (S → S → Type 0) → S → Option ℕ → List Byte → S → Type 0
  HasCome Ended old None buffer new = Ended old new
  HasCome Ended old (Some n) buffer new = Gave old (take n buffer) new

  -- this text is all that the reader gave before its end
  abbrev pub IsWhole : (S → S → Type 0) → S → S → List Byte → Type 0
  IsWhole Ended old new text = (calls : ℕ) × (last : S) × HavePassed Gave calls old text last × Ended last new

  -- the reader gave this text, and then it failed, or had been called as often as it may be
  abbrev pub ReaderHasFailed : (S → S → Type 0) → S → S → List Byte → Type 0
  ReaderHasFailed Failed old new text =
      ((calls : ℕ) × (last : S) × HavePassed Gave calls old text last × Failed last new) ⊎ ((calls : ℕ) × HavePassed Gave calls old text new × (most_calls ≤ calls))

  -- from `last` on the reader gave nothing more, or one call gave the last piece
  abbrev pub GaveAtMostOnce : S → S → Type 0
  GaveAtMostOnce last new = (last ≡ new) ⊎ ((piece : List Byte) × Gave last piece new × (length piece ≤ most_given))

  -- Why a text is not read. `made` is what a text makes.
  -- `Memory`: no line is at fault in what the reader gave before its last call. Memory may run out at any line of the last piece, before
  -- that line is judged. So nothing is said of that piece.
  -- `Read`: the reader failed or gave no end, and no line is at fault in what it gave.
  -- `Line`: the line is at fault in what the reader gave, whatever bytes come next.
  -- `Cut`: the reader gave its end, and all that it gave is cut.
  abbrev pub IsUnread : (S → S → Type 0) → (S → S → Type 0) → (List Byte → Result State LoadFault) → S → S → LoadFault → Type 0
  IsUnread Ended Failed made old new load.Memory =
      (calls : ℕ) × (last : S) × (text : List Byte) × HavePassed Gave calls old text last × GaveAtMostOnce last new × HasNoBadLine (made text)
  IsUnread Ended Failed made old new load.Read = (text : List Byte) × ReaderHasFailed Failed old new text × HasNoBadLine (made text)
  IsUnread Ended Failed made old new (load.Line n cause) =
      (calls : ℕ) × (text : List Byte) × HavePassed Gave calls old text new × ((left : List Byte) → made (text ++ left) ≡ Err (load.Line n cause))
  IsUnread Ended Failed made old new (load.Cut n) = (text : List Byte) × IsWhole Ended old new text × (made text ≡ Err (load.Cut n))

-- ---- writing

module _ {S : Type 0} (Took : S → List Byte → S → Type 0) where
  -- the writer took this text, and was then flushed
  abbrev pub IsWritten : (S → S → Type 0) → List Byte → S → S → Type 0
  IsWritten Flushed text old new = (calls : ℕ) × (last : S) × HavePassed Took calls old text last × Flushed last new

  -- Why a text is not written: the writer took a prefix of it, and then memory ran out, or the writer failed.
  abbrev pub IsUnwritten : (S → S → Type 0) → List Byte → S → S → DumpFault → Type 0
  IsUnwritten Failed text old new dump.Memory =
      (calls : ℕ) × (prefix : List Byte) × (left : List Byte) × HavePassed Took calls old prefix new × (text ≡ prefix ++ left)
  IsUnwritten Failed text old new dump.Write =
      (calls : ℕ) × (last : S) × (prefix : List Byte) × (left : List Byte) × HavePassed Took calls old prefix last × Failed last new × (text ≡ prefix ++ left)

-- What a run over a reader and a writer does. A is the allocator of the bits of commands and replies; nothing depends on
-- it.
use Rattle.std.specs.Prelude.{◌≡◌, ◌++◌, List, length, Option, Some, Result, IfOk, OnErr}
use Rattle.std.specs.Str.Lines.{lines}
use Rattle.identity.specs.Numbers.{Byte}
use Rattle.desk.specs.Rules.{Rules}
use Rattle.console.specs.declared.running.Ran.{Ran}
use Rattle.console.specs.declared.running.RunFault.{RunFault}
use Rattle.console.specs.declared.running.Terms.{Terms}
use Rattle.console.specs.Reading.{Speaker}
use Rattle.console.specs.Dialogue.{IsDialogue, IsCutOff}

-- whose lines are read under these terms
abbrev pub speaker_of : {A : Type 0} → Terms A → Speaker
speaker_of terms = record { station = terms.station; orders = terms.orders }

-- what a run begins with: the speaker of the lines, the world of the desk, the bytes that the reader has left, and those that
-- were written. `None` is for bytes that aren't known
pub record Start (W : Type 0) : Type 0 where
  pub speaker : Speaker
  pub world : W
  pub unread : Option (List Byte)
  pub written : Option (List Byte)

-- what a run ends with: its result, the world of the desk, and the bytes that were written, if they are known
pub record Outcome (W : Type 0) : Type 0 where
  pub result : Result Ran RunFault
  pub world : W
  pub written : Option (List Byte)

module _ (A : Type 0) {W : Type 0} (rules : Rules A W) (start : Start W) (end : Outcome W) where
  -- the text out answers every line of this input
  abbrev pub RunsWell : List Byte → List Byte → Ran → Type 0
  RunsWell input out ran = IsDialogue A rules start.speaker start.world (lines input) out ran.troubled end.world × (ran.lines ≡ length (lines input))

  -- some lines of this input are done, and their answers may be cut off
  abbrev pub RunsShort : List Byte → List Byte → Type 0
  RunsShort input out = IsCutOff A rules start.speaker start.world (lines input) out end.world

  -- the run wrote a text after what was written before: at Ok it answers all of this input, at Err some of it
  abbrev pub HasRun : List Byte → List Byte → Type 0
  HasRun input before = (out : List Byte) × (end.written ≡ Some (before ++ out)) × IfOk end.result (RunsWell input out) × OnErr end.result (RunsShort input out)

  -- what the run wrote answers what it read (`HasRun`), where the bytes of the reader and of the writer are known
  abbrev pub IsRun : Type 0
  IsRun = (input before : List Byte) → start.unread ≡ Some input → start.written ≡ Some before → HasRun input before

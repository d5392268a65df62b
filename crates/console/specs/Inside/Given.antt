-- What is given for a line, before its text is written. A is the allocator of its bits; nothing depends on it.
use Rattle.std.specs.Prelude.{◌≡◌, ℕ, Bool, List}
use Rattle.identity.specs.Numbers.{Byte}
use Rattle.console.specs.declared.answer.Answer.{Answer}
use Rattle.console.specs.declared.answer.Answer.TheVariants as answer
use Rattle.console.specs.declared.progress.Given.{Given}
use Rattle.console.specs.declared.progress.Given.TheVariants as given
use Rattle.console.specs.Answer.{text, is_trouble, HasNoLongPdu}
use Rattle.console.specs.Inside.Current.{IsGivenFor}

module _ {A : Type 0} where
  -- the answer that is given; `bytes` are the lines of a listing or of the figures, which are in the text already
  abbrev pub answer_of : List Byte → Given A → Answer A
  answer_of bytes (given.Answered answer) = answer
  answer_of bytes given.Listed = answer.Listed bytes
  answer_of bytes given.Service = answer.Service bytes

  -- no listing and no figures; the PDU of a reply has at most 2,048 bits
  abbrev pub IsPrintable : Answer A → Type 0
  IsPrintable (answer.Listed lines) = ⊥
  IsPrintable (answer.Service lines) = ⊥
  IsPrintable other = HasNoLongPdu other

  -- if an answer is given, it can be printed
  abbrev pub MayBePrinted : Given A → Type 0
  MayBePrinted (given.Answered answer) = IsPrintable answer
  MayBePrinted given.Listed = Unit {0}
  MayBePrinted given.Service = Unit {0}

  -- `held` is given to line n for this answer (`IsGivenFor`). The bytes are the text of `held`, and troubled is whether `held` is trouble.
  abbrev pub IsTextFor : ℕ → Answer A → List Byte → Bool → Type 0
  IsTextFor n answer bytes troubled = (held : Answer A) × IsGivenFor n answer held × (bytes ≡ text held) × (troubled ≡ is_trouble held)

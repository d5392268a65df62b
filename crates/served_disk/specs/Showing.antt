-- What is shown for a query.
use Rattle.std.specs.Prelude.{◌≡◌, ◌⊎◌, Bool, true, false, List, ◌++◌, MatchBool, MatchResult, Ok, Result, codes, decimal}
use Rattle.std.specs.Str.{bytes_eq}
use Rattle.centre_core.specs.State.{State}
use Rattle.desk.specs.declared.outage.Outage.TheVariants.{Memory}
use Rattle.desk.specs.OfRegister.{of_register}
use Rattle.console.specs.declared.line.Line.{Line}
use Rattle.console.specs.declared.line.Line.TheVariants as line
use Rattle.console.specs.declared.line.LineFault.TheVariants.{Syntax}
use Rattle.console.specs.declared.answer.Answer.{Answer}
use Rattle.console.specs.declared.answer.Answer.TheVariants as answer
use Rattle.console.specs.Answer.{text, is_trouble, IsLine}
use Rattle.listings.specs.declared.listing.Listing.{Listing}
use Rattle.console.specs.Dialogue.{AnswersListing, AnswersQuery}
use Rattle.console.specs.Reading.{reading}
use Rattle.sector_disk.specs.Disk.{View}
use Rattle.sector_disk.specs.Numbers.{Byte}
use Rattle.checkpoint.specs.declared.side.Side.{Side}
use Rattle.checkpoint.specs.declared.side.Side.TheVariants as side
use Rattle.recovery.specs.Opens.{Opening, opens}
use Rattle.recovery.specs.declared.figures.Figures.{Figures}
use Rattle.recovery.specs.Figures.{figures_in}

module _ {A : Type 0} where
  -- The answer to what the only line says. A query or a listing is answered as in line 1 of a station. Any other line that is not silent is a bad
  -- line: a command, a mark, and a question for the station or the service.
  abbrev pub ShowsReading : State → Line A → Answer A → Type 0
  ShowsReading s line.Silent given = given ≡ answer.Quiet
  ShowsReading s (line.Bad fault) given = given ≡ answer.Bad 1 fault
  ShowsReading s (line.Apply c) given = given ≡ answer.Bad 1 Syntax
  ShowsReading s (line.Ask q) given = AnswersQuery of_register 1 s q given s
  ShowsReading s (line.Print l) given = AnswersListing of_register 1 s l given s
  ShowsReading s (line.Mark word) given = given ≡ answer.Bad 1 Syntax
  ShowsReading s (line.OwnStation station) given = given ≡ answer.Bad 1 Syntax
  ShowsReading s line.Service given = given ≡ answer.Bad 1 Syntax
  ShowsReading s (line.Forbidden sequence) given = given ≡ answer.Bad 1 Syntax

  -- the text of an answer, and whether it reports trouble
  pub record IsWhole (given : Answer A) (out : List Byte) (troubled : Bool) : Type 0 where
    pub written : out ≡ text given
    pub trouble : troubled ≡ is_trouble given

  -- out of memory is shown in place of this answer, which is a list; that is trouble
  pub record GivesWay (given : Answer A) (out : List Byte) (troubled : Bool) : Type 0 where
    pub long : IsLine given → ⊥
    pub written : out ≡ text {B = A} (answer.QueryOutage 1 Memory)
    pub trouble : troubled ≡ true

  -- the text of an answer, or out of memory in its place
  abbrev pub IsTextOf : Answer A → List Byte → Bool → Type 0
  IsTextOf given out troubled = IsWhole given out troubled ⊎ GivesWay given out troubled

-- the line asks for no listing; A is the allocator of its bytes
abbrev pub HasNoListing : (A : Type 0) → Line A → Type 0
HasNoListing A (line.Print l) = ⊥
HasNoListing A other = Unit {0}

-- the answer to what the only line says, if it asks for no listing; else the listing that it asks for
abbrev pub ShowsOrLists : {A : Type 0} → State → Line A → Result (Answer A) Listing → Type 0
ShowsOrLists {A = A} s said given = MatchResult given (λ answer. ShowsReading s said answer × HasNoListing A said) (λ listing. said ≡ line.Print listing)

-- the text of the answer to a listing, and whether it reports trouble
pub record IsListingOf (A : Type 0) (s : State) (l : Listing) (out : List Byte) (troubled : Bool) : Type 0 where
  pub given : Answer A
  pub answers : AnswersListing of_register 1 s l given s
  pub written : out ≡ text given
  pub trouble : troubled ≡ is_trouble given

-- the text of the answer to a line, and whether it reports trouble
pub record IsShown (A : Type 0) (s : State) (whole : List Byte) (out : List Byte) (troubled : Bool) : Type 0 where
  pub given : Answer A
  pub answers : ShowsReading s (reading 1 whole) given
  pub written : out ≡ text given
  pub trouble : troubled ≡ is_trouble given

-- ---- a disk

-- the letter of a side
abbrev pub side_text : Side → List Byte
side_text side.A = codes "A"
side_text side.B = codes "B"

-- the beginning of a line of figures: its first word, the layout, the side and the epochs
abbrev pub epochs_text : List Byte → Figures → List Byte
epochs_text word figures = word ++ codes " layout " ++ decimal figures.layout ++ codes " side " ++ side_text figures.side
    ++ codes " epoch " ++ decimal figures.epoch ++ codes " left " ++ decimal figures.epochs_left

-- the rest of the line: the first closed gate of the half, how many sectors the half has from that gate on, and how many commands were accepted
abbrev pub half_text : Figures → List Byte
half_text figures = codes " gate " ++ decimal figures.gate ++ codes " free " ++ decimal figures.free ++ codes " count " ++ decimal figures.count ++ codes "\n"

-- a line of a disk's figures, with its first word
abbrev pub figures_line : List Byte → Figures → List Byte
figures_line word figures = epochs_text word figures ++ half_text figures

-- the line asks for a disk's figures
abbrev pub asks_figures : List Byte → Bool
asks_figures whole = bytes_eq whole (codes "disk")

-- the line of these figures, which is no trouble
pub record AreFigures (figures : Figures) (out : List Byte) (troubled : Bool) : Type 0 where
  pub written : out ≡ figures_line (codes "disk") figures
  pub trouble : troubled ≡ false

-- the text of the answer to a line about a disk: its figures, or its register's answer
abbrev pub IsShownFor : Type 0 → Figures → State → List Byte → List Byte → Bool → Type 0
IsShownFor A figures s whole out troubled = MatchBool (asks_figures whole) (AreFigures figures out troubled) (IsShown A s whole out troubled)

-- the image opens to this state, with these figures
pub record IsShownOf (A : Type 0) (image : List (List Byte)) (figures : Figures) (s : State) : Type 0 where
  pub opened : Opening
  pub opens_to : opens A image ≡ Ok opened
  pub figures_are : figures ≡ figures_in opened image
  pub state : s ≡ opened.state

-- The text of the answer to a line about a disk. If the disk is honest, figures and register are those that its image opens to.
pub record IsShownBy (A : Type 0) (whole out : List Byte) (troubled : Bool) (disk : View) : Type 0 where
  pub figures : Figures
  pub register : State
  pub kept : disk.honest → IsShownOf A disk.reads figures register
  pub shown : IsShownFor A figures register whole out troubled

-- The list of accepted commands: the rule of the word that counts them, and what a step on that word shows.
use Rattle.std.specs.Prelude.{ℕ, ◌≡◌, ◌==◌, true, List, [], ◌∷◌, ◌++◌, length, MatchBool}
use Rattle.std.proofs.Common.{arith}
use Rattle.std.specs.declared.alloc.Global.{Global}
use Rattle.logbook.specs.Pages.{Cell, Step, View, Book, Named}
use Rattle.registration.specs.declared.limits.Limits.{Limits}
use Rattle.centre_core.specs.Asked.{Asked}
use Rattle.centre_core.specs.State.{State, empty}

-- the first word of the book is the length of the list. A book has two words; the second is not used and stays 0
abbrev pub CountsLog : List Cell → List (Asked Global) → Type 0
CountsLog cells log = cells ≡ (length log, true) ∷ (0, true) ∷ []

-- the first word of the book, which counts the commands of the list
abbrev pub word_of : Book → Named
word_of b = record { tracked = true; key = 0; book = b }

-- the command was added to all that had been seen; or the list had another length
abbrev pub Extends : Step (Asked Global) → View (Asked Global) ℕ → ℕ → View (Asked Global) ℕ → Type 0
Extends s v found w = MatchBool (found == s.old) (w.0 ≡ v.0 ++ s.ask ∷ []) (length w.0 ≡ found)

-- the least limits
abbrev pub some_limits : Limits
some_limits = record {
  rules = 1;
  radios = 1;
  mail = 1;
  stations = 1;
  in_range = record {
    some_rules = omega arith;
    most_rules = omega arith;
    some_radios = omega arith;
    most_radios = omega arith;
    some_mail = omega arith;
    most_mail = omega arith;
    some_stations = omega arith;
    most_stations = omega arith;
  };
}

-- a placeholder for the base: each caller that makes a centre names its own
abbrev pub some_base : State
some_base = empty some_limits

-- a placeholder for the book, without names: each caller that makes a centre names its own
abbrev pub some_book : Book
some_book = record { number = 0; log_name = 0; cells_name = 0 }

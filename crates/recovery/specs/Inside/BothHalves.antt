-- A record of the same commands in each of two halves of a disk.
use Rattle.std.specs.Prelude.{◌⊎◌, ◌≤◌, ◌+◌, List, length}
use Rattle.std.specs.Borrow.{Bor}
use Rattle.sector_disk.specs.Numbers.{Sectors}
use Rattle.centre_core.specs.Asked.{Asked}
use Rattle.centre_core.specs.State.{last_number}
use Rattle.gated_journal.specs.declared.place.Place.{Place}
use Rattle.gated_journal.specs.Record.{data_size, most_commands}
use Rattle.gated_journal.specs.Settled.{room_of, text_at}

-- A record of these commands, at least one, fits at both places, in halves apart of a disk with so many sectors.
pub record MayAddToBoth {B : Type 0} (A : Type 0) (sectors : Sectors) (x y : Place) (commands : List (Bor (Asked B))) : Type 0 where
  pub within : (x.end ≤ sectors) × (y.end ≤ sectors)
  pub apart : (x.end ≤ y.first) ⊎ (y.end ≤ x.first)
  pub some : 1 ≤ length commands
  pub few : length commands ≤ most_commands
  pub fits : data_size (text_at A x commands) ≤ room_of x
  pub other_fits : data_size (text_at A y commands) ≤ room_of y
  pub counts : x.count + length commands ≤ last_number
  pub other_counts : y.count + length commands ≤ last_number

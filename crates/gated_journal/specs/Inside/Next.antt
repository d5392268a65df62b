-- The next record of a place.
use Rattle.std.specs.Prelude.{◌≡◌, ◌+◌, ◌<◌, ◌≤◌, ℕ, List, length}
use Rattle.identity.specs.Numbers.{Byte}
use Rattle.centre_core.specs.Asked.{Asked}
use Rattle.centre_core.specs.State.{last_number}
use Rattle.gated_journal.specs.Record.{IsRecord, most_commands, record_text}
use Rattle.gated_journal.specs.declared.place.Place.{Place}

-- The next record of the place may have `count` commands: 1 to `most_commands`. The place's count is below `last_number`, so the
-- first command's number, which is one more, is at most `last_number`.
pub record IsCountOfNext (place : Place) (count : ℕ) : Type 0 where
  pub some : 1 ≤ count
  pub few : count ≤ most_commands
  pub number : place.count < last_number

module _ {A : Type 0} where
  -- The next record of the place may have these commands, and `text` is the record's text then. The place's count is below
  -- `last_number`.
  pub record IsNext (place : Place) (commands : List (Asked A)) (text : List Byte) : Type 0 where
    pub record_is : IsRecord commands
    pub number : place.count < last_number
    pub text_is : text ≡ record_text place.form place.count commands

  -- the place with these commands counted too, and its next gate unchanged
  abbrev pub counting : Place → List (Asked A) → Place
  counting place commands = record place { count = place.count + length commands }

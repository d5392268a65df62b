-- What a ledger is made from.
use Rattle.std.specs.Prelude.{◌≡◌, ◌<◌, ℕ}

-- a blank with this name and number of parts makes the ledger with that name and number of parts
pub record MakesLedger (blank_name blank_parts name parts : ℕ) : Type 0 where
  pub name_is : blank_name ≡ name
  pub parts_are : blank_parts ≡ parts
  pub some : 0 < blank_parts

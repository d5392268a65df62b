-- The image of a register in sectors.
use Rattle.std.specs.Prelude.{◌≡◌, List, ◌++◌, map as each}
use Rattle.std.specs.List.{AllZip}
use Rattle.identity.specs.Numbers.{Byte}
use Rattle.registration.specs.declared.limits.Limits.{Limits}
use Rattle.centre_core.specs.State.{State}
use Rattle.image_rows.specs.Numbers.{Epoch}
use Rattle.image_rows.specs.Rows.{rows_of}
use Rattle.image_rows.specs.RowText.{sector_of}
use Rattle.image_rows.specs.RowReading.{Spells, row_in}
use Rattle.image_rows.specs.Slot.{SlotRead, slot_read}

-- the sectors of a state's image, one for each row
abbrev pub sectors_of : Epoch → State → List (List Byte)
sectors_of epoch s = each sector_of (rows_of epoch s)

-- what the sectors of a slot are read as, by their bytes
abbrev pub slot_of : Limits → List (List Byte) → SlotRead
slot_of limits sectors = slot_read limits (each row_in sectors)

-- the first sectors spell the rows of the state, one after another
pub record IsSpelt (sectors : List (List Byte)) (epoch : Epoch) (s : State) : Type 0 where
  pub prefix : List (List Byte)
  pub following : List (List Byte)
  pub are : sectors ≡ prefix ++ following
  pub spelt : AllZip Spells (rows_of epoch s) prefix

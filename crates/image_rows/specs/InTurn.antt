-- A row as a walk over the image returns it.
use Rattle.std.specs.Prelude.{List}
use Rattle.identity.specs.Numbers.{Byte}
use Rattle.image_rows.specs.declared.place.RowPlace.{RowPlace}
use Rattle.image_rows.specs.Rows.{Row}
use Rattle.image_rows.specs.RowText.{sector_of}
use Rattle.image_rows.specs.Walking.{place_of}

-- the row's place and its bytes
abbrev pub placed_row : Row → RowPlace × List Byte
placed_row row = (place_of row, sector_of row)

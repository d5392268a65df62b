-- The settings in a text: the numbers under five keys of a TOML document's table.
use Rattle.std.specs.Prelude.{◌≡◌, ℕ, ℤ, List, Option, None, Some, pos, codes, nat_le, if◌then◌else◌, option_and_then, IsUtf8}
use Rattle.toml.specs.Data.{Members, get_member, as_integer}
use Rattle.toml.specs.Parse.{parse_document}
use Rattle.settings.specs.Numbers.{Byte}
use Rattle.settings.specs.declared.reading.Settings.{Settings}

-- an integer as a number, if it is from 0 to 4,294,967,295
abbrev pub number_of : ℤ → Option ℕ
number_of (pos n) = if nat_le n 4294967295 then Some n else None
number_of _ = None

-- the integer under a key of the table
abbrev pub integer_at : List Byte → Members → Option ℤ
integer_at key table = option_and_then as_integer (get_member key table)

-- the number under a key of the table, if it is in that range
abbrev pub number_at : List Byte → Members → Option ℕ
number_at key table = option_and_then number_of (integer_at key table)

-- the table has these five numbers
pub record Has (table : Members) (settings : Settings) : Type 0 where
  pub rules : number_at (codes "rules") table ≡ Some settings.rules
  pub radios : number_at (codes "radios") table ≡ Some settings.radios
  pub mail : number_at (codes "mail") table ≡ Some settings.mail
  pub stations : number_at (codes "stations") table ≡ Some settings.stations
  pub journal : number_at (codes "journal") table ≡ Some settings.journal

-- the text is UTF-8 and a TOML document, and its table has these five numbers
abbrev pub Holds : List Byte → Settings → Type 0
Holds text settings = IsUtf8 text × ((table : Members) × (parse_document text ≡ Some table) × Has table settings)

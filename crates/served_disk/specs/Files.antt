-- Why the files of a run's stations are not served.
use Rattle.std.specs.Prelude.{◌≡◌, ◌⊎◌, ◌-◌, ◌&&◌, ◌||◌, Bool, not, codes, filter, find, if◌then◌else◌, map, nat_lt, All, Err, List, [], MatchBool, None, Ok, Option, Result, Some, slice_get, take, ℕ}
use Rattle.std.specs.List.{list_any}
use Rattle.std.specs.Str.{bytes_eq}
use Rattle.std.specs.Borrow.{Bor}
use Rattle.std.specs.IoError.{error_kind}
use Rattle.std.specs.declared.fs.File.{File}
use Rattle.std.specs.declared.io.Error.{Error}
use Rattle.std.specs.declared.io.ErrorKind.{ErrorKind}
use Rattle.sector_disk.specs.Numbers.{Byte}
use Rattle.file_disk.specs.Fault.{is_memory, open_cause}
use Rattle.settings.specs.Naming.{first_twice, texts}
use Rattle.settings.specs.Numbers.{Place}
use Rattle.served_disk.specs.declared.fault.Fault.{Fault}
use Rattle.served_disk.specs.declared.fault.Fault.TheVariants as fault
use Rattle.served_disk.specs.Faults.{Names}

-- the name is the one at this place, counted from 1
abbrev pub IsAt : List (Bor (List Byte)) → Place → Bor (List Byte) → Type 0
IsAt names place name = slice_get names (place - 1) ≡ Some name

-- why files of these names are refused: `Twice` with the first name that came earlier too; `Memory` only if there is none
abbrev pub IsOfNames : List (Bor (List Byte)) → Fault → Type 0
IsOfNames names (fault.Twice name) = (place : Place) × (first_twice (texts names) ≡ Some place) × IsAt names place name
IsOfNames names fault.Memory = first_twice (texts names) ≡ None
IsOfNames names other = ⊥

-- the fault that is reported where opening or reading the file of this name failed with an error of this kind
abbrev pub IsNotRead : ErrorKind → List Byte → Fault → Type 0
IsNotRead kind name is = MatchBool (is_memory kind) (is ≡ fault.Memory) (Names is name (open_cause kind))

-- The fault that is reported for the first of these files that could not be opened. `opened` says what opening the file of a name answers. The files
-- that are named before it were opened.
pub record IsFirstUnopened (opened : List Byte → Result File Error → Type 0) (names : List (Bor (List Byte))) (is : Fault) : Type 0 where
  pub place : Place
  pub name : Bor (List Byte)
  pub error : Error
  pub at : IsAt names place name
  pub before : All (λ (earlier : Bor (List Byte)). (file : File) × opened earlier.now (Ok file)) (take (place - 1) names)
  pub failed : opened name.now (Err error)
  pub reported : IsNotRead (error_kind error) name.now is

-- why the files of these names were not all opened: memory ran out, or the first that was not opened failed (`IsFirstUnopened`)
abbrev pub IsOfFiles : (List Byte → Result File Error → Type 0) → List (Bor (List Byte)) → Fault → Type 0
IsOfFiles opened names is = (is ≡ fault.Memory) ⊎ IsFirstUnopened opened names is

-- the first station named for orders whose number is larger than the number of stations that are served
abbrev pub not_served : ℕ → List ℕ → Option ℕ
not_served served named = find (λ station. nat_lt served station) named

-- ---- pairs of IN and OUT

-- the name is `-`
abbrev pub is_dash : List Byte → Bool
is_dash name = bytes_eq name (codes "-")

-- the station of this IN and OUT is left out: both are `-`
abbrev pub is_left_out : List Byte → List Byte → Bool
is_left_out input output = is_dash input && is_dash output

-- what is known of the bytes that the station's reader has left, and of those that its writer holds: if it is left out, there are none
abbrev pub known_of : List Byte → List Byte → Option (List Byte)
known_of input output = if is_left_out input output then Some [] else None

-- only one of this IN and OUT is `-`
abbrev pub is_half_left_out : List Byte → List Byte → Bool
is_half_left_out input output = (is_dash input || is_dash output) && not (is_left_out input output)

-- some station has `-` for only one of IN and OUT
abbrev pub has_half : List (Bor (List Byte) × Bor (List Byte)) → Bool
has_half named = list_any (λ (pair : Bor (List Byte) × Bor (List Byte)). is_half_left_out pair.0.now pair.1.now) named

-- the names of IN of the stations that are not left out
abbrev pub inputs_in : List (Bor (List Byte) × Bor (List Byte)) → List (List Byte)
inputs_in named = map (λ (pair : Bor (List Byte) × Bor (List Byte)). pair.0.now) (filter (λ (pair : Bor (List Byte) × Bor (List Byte)). not (is_left_out pair.0.now pair.1.now)) named)

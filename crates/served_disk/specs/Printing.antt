-- What the program writes beside the answers.
use Rattle.std.specs.Prelude.{List, ◌++◌, codes, decimal}
use Rattle.std.specs.List.{flat_map}
use Rattle.registration.specs.Numbers.{Station}
use Rattle.sector_disk.specs.Numbers.{Byte, Sectors}
use Rattle.served_disk.specs.declared.printing.LinePart.{LinePart}
use Rattle.served_disk.specs.declared.printing.LinePart.TheVariants as part

-- the bytes of a part
abbrev pub part_text : LinePart → List Byte
part_text (part.Text text) = text.now
part_text (part.Number number) = decimal number

-- the bytes of the parts, one after another
abbrev pub parts_text : List LinePart → List Byte
parts_text parts = flat_map part_text parts

-- what was done, and of how many sectors the disk is
abbrev pub sectors_text : List Byte → Sectors → List Byte
sectors_text done sectors = done ++ decimal sectors ++ codes " sectors\n"

-- a disk of this many sectors was made for an empty register
abbrev pub formatted_text : Sectors → List Byte
formatted_text sectors = sectors_text (codes "formatted ") sectors

-- a disk of this many sectors was made for a register that was loaded
abbrev pub loaded_text : Sectors → List Byte
loaded_text sectors = sectors_text (codes "loaded ") sectors

-- a station, and the name of the file that its lines were in
abbrev pub station_text : Station → List Byte → List Byte
station_text station name = codes "station " ++ decimal station ++ codes " " ++ name ++ codes "\n"

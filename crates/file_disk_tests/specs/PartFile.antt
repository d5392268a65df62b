-- A file over a disk.
use Rattle.std.specs.Prelude.{ℕ}
use Rattle.sector_disk.specs.Disk.{View, IsSound}
use Rattle.file_disk_tests.specs.declared.part_file.PartFile.{PartFile}

-- what it is modelled as: its disk, with the file's own failures
abbrev pub part_view : {D : Type 0} → (D → View) → PartFile D → View
part_view view file = record (view file.disk) { failures = file.failures }

-- it is sound where the disk is
pub part_sound : {D : Type 0} (view : D → View) (file : PartFile D) → IsSound (view file.disk) → IsSound (part_view view file)
part_sound view file is = record { count = is.count; reads_left = is.reads_left; counts_now = is.counts_now; only_now = is.only_now; earlier = is.earlier }

-- how often it was read or written
abbrev pub part_turns : {D : Type 0} → PartFile D → ℕ
part_turns file = file.turns

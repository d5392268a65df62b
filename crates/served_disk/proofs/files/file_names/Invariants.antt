use Rattle.std.proofs.Common.{◌≡◌, length, take}
use Rattle.std.specs.Prelude.{◌≤◌, vec_capacity}
use Rattle.served_disk.specs.Pairs.{names_of_files}
use Rattle.served_disk.proofs.files.file_names.Given as goal

abbrev pub invariant-loop-file : goal.invariant-loop-file
invariant-loop-file l = (length l.names.items ≡ l.file-index) × (length l.files ≤ vec_capacity l.names) × (l.names.items ≡ names_of_files (take l.file-index l.files))

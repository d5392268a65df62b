-- A file in memory that is never honest.
use Rattle.std.specs.Prelude.{ℕ, ◌*◌, false, []}
use Rattle.sector_disk.specs.Disk.{View}
use Rattle.file_disk_tests.specs.declared.step_file.StepFile.{StepFile}

-- what it is modelled as: nothing but its failures is stated of it
abbrev pub step_view : StepFile → View
step_view file = record {
  sectors = 6;
  reads = [];
  pending = λ k. false;
  moment = 0;
  since = λ t image. ⊥;
  calls = [];
  failures = file.failures;
  honest = ⊥;
}

-- how often it was read or written
abbrev pub step_turns : StepFile → ℕ
step_turns file = file.turns

-- A file of the operating system. All that is known of it is how often it was read or written, and how often a call failed.
use Rattle.std.specs.Prelude.{ℕ, false, [], Option}
use Rattle.std.specs.declared.io.ErrorKind.{ErrorKind}
use Rattle.sector_disk.specs.Disk.{View}
use Rattle.file_disk.specs.declared.host.HostFile.{HostFile}
use Rattle.file_disk.specs.Reasons.{Answers}

-- it is never honest
abbrev pub host_view : HostFile → View
host_view file = record {
  sectors = 0;
  reads = [];
  pending = λ k. false;
  moment = 0;
  since = λ t image. ⊥;
  calls = [];
  failures = file.failures;
  honest = ⊥;
}

-- how often it was read or written
abbrev pub host_turns : HostFile → ℕ
host_turns file = file.turns

-- of what kind its last failure was, if the system told
abbrev pub host_last : HostFile → Option ErrorKind
host_last file = file.last

-- What the calls of the operating system answer: nothing is known of it. But the last failure of a file is noted.
abbrev pub host_answers : Answers HostFile
host_answers = record {
  opened = λ is_new name answer. Unit {0};
  locked = λ file answer. Unit {0};
  judged = λ file answer. Unit {0};
  sized = λ file bytes answer. Unit {0};
  entered = λ name answer. Unit {0};
  last = host_last;
}

-- The files of stations: their names, the ports over them, and which are open.
use Rattle.std.specs.Prelude.{◌≡◌, if◌then◌else◌, Bool, true, false, not, Err, IfOk, List, [], None, Ok, Option, Result, Some, Vec, codes, map}
use Rattle.std.specs.List.{enumerate_from}
use Rattle.std.specs.Borrow.{Bor}
use Rattle.std.specs.declared.alloc.Global.{Global}
use Rattle.std.specs.declared.fs.File.{File}
use Rattle.std.specs.declared.io.Error.{Error}
use Rattle.registration.specs.Numbers.{Station}
use Rattle.sector_disk.specs.Numbers.{Byte}
use Rattle.stations.specs.declared.port.Port.{Port}
use Rattle.served_disk.specs.declared.pairs.OpenFiles.{OpenFiles}
use Rattle.served_disk.specs.declared.pairs.Pair.{Pair}
use Rattle.served_disk.specs.declared.pairs.PairReader.{PairReader}
use Rattle.served_disk.specs.declared.pairs.PairWriter.{PairWriter}
use Rattle.served_disk.specs.declared.port_names.PortNames.{PortNames}
use Rattle.served_disk.specs.declared.watched.WatchedReader.{WatchedReader}
use Rattle.served_disk.specs.Files.{is_left_out, known_of}

-- each with its station: the first with station 1, and so on
abbrev pub numbered : {X : Type 0} → List X → List (Station × X)
numbered xs = enumerate_from 1 xs

-- The files of a pair after opening IN and then OUT has given these answers. The pair keeps the files only if both were opened. If IN was opened and
-- OUT was not, the pair notes that it lacks OUT.
abbrev pub opened_by : Result File Error → Result File Error → OpenFiles → OpenFiles
opened_by (Err error) output old = old
opened_by (Ok file) (Err error) old = record { lacks_output = true; input = old.input; output = old.output }
opened_by (Ok file) (Ok out) old = record { lacks_output = old.lacks_output; input = Some file; output = Some out }

-- The files of a pair were opened. Given are what opening the file of a name to read may answer, and what opening one to append
-- may answer. Opening IN answered `of_input`. If IN was opened, opening OUT answered `of_output`; otherwise nothing is stated of OUT.
pub record IsOpening (opened appended : List Byte → Result File Error → Type 0) (pair : Pair) (old new : OpenFiles) : Type 0 where
  pub of_input : Result File Error
  pub of_output : Result File Error
  pub read : opened pair.input.now of_input
  pub written : IfOk of_input (λ file. appended pair.output.now of_output)
  pub files : new ≡ opened_by of_input of_output old

-- the pair has these names, and its station has lines unless it is left out
pub record IsPairOf (named : Bor (List Byte) × Bor (List Byte)) (pair : Pair) : Type 0 where
  pub input : pair.input.now ≡ named.0.now
  pub output : pair.output.now ≡ named.1.now
  pub served : pair.is_served ≡ not (is_left_out named.0.now named.1.now)

-- by its names, the station of this pair is left out
abbrev pub leaves_out : Pair → Bool
leaves_out pair = is_left_out pair.input.now pair.output.now

-- what is known of the bytes that the reader of a pair has left, and of those that its writer holds
abbrev pub known_by : Pair → Option (List Byte)
known_by pair = known_of pair.input.now pair.output.now

-- the standard streams: both names are `-`, and the station has lines
pub record AreStreams (pair : Pair) : Type 0 where
  pub input : pair.input.now ≡ codes "-"
  pub output : pair.output.now ≡ codes "-"
  pub served : pair.is_served ≡ true

-- A fault of writing names OUT. A fault of reading names IN, or OUT if OUT could not be opened.
pub record AreNamesBy (lacks_output : Bool) (pair : Pair) (names : PortNames) : Type 0 where
  pub input : names.input.now ≡ (if lacks_output then pair.output.now else pair.input.now)
  pub output : names.output ≡ Some pair.output

-- the names that faults of a pair have, where OUT could be opened or where it could not
abbrev pub AreNamesOf : Pair → PortNames → Type 0
AreNamesOf pair names = (lacks_output : Bool) × AreNamesBy lacks_output pair names

-- the names of files whose answers wait in memory
abbrev pub names_of_files : List (Bor (List Byte)) → List PortNames
names_of_files files = map (λ file. record { input = file; output = None }) files

module _ {R : Type 0} where
  -- The port reads IN and writes OUT of this pair, which it has not opened. It reports the start of this station if a log is wanted.
  pub record IsPortOf (log : Bool) (station : Station × Pair) (port : Port (PairReader R) (PairWriter R)) : Type 0 where
    pub reads : port.reader.pair.now ≡ station.1
    pub writes : port.writer.pair.now ≡ station.1
    pub number : port.reader.station ≡ station.0
    pub logs : port.reader.log ≡ log
    pub new : port.reader.is_begun ≡ false

  -- The port reads the file that opening this name gave. Its lines are counted for this station, and its answers wait in memory. No line
  -- was read yet, and there is no answer.
  pub record IsFilePortOf (opened : List Byte → Result File Error → Type 0) (station : Station × Bor (List Byte))
      (port : Port (WatchedReader File R) (Vec Byte Global)) : Type 0 where
    pub reads : opened station.1.now (Ok port.reader.reader)
    pub number : port.reader.station ≡ station.0
    pub new : port.reader.lines ≡ 0
    pub empty : port.writer.items ≡ []
